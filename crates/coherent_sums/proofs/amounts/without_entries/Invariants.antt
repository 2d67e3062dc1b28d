-- What is left of the number is what the entries that are left have of it.
use Rattle.std.proofs.Common.{◌≡◌, ◌+◌, sum_by}
use Rattle.coherent_sums.specs.Sums.{name_length}
use Rattle.coherent_sums.proofs.amounts.without_entries.Given as goal

abbrev pub invariant-loop-entry : goal.invariant-loop-entry
invariant-loop-entry l =
    (sum_by name_length l.entry-iterator + l.fn.left ≡ l.left + sum_by name_length l.fn.entries) ×
    (goal.iterator-loop-entry).can_next l.entry-iterator ×
    (goal.iterator-loop-entry).is_finite l.entry-iterator
