-- What was counted, with what is left, is all.
use Rattle.std.proofs.Common.{◌≡◌, ◌+◌, sum_by}
use Rattle.attribute_items.specs.Found.{entry_size, others}
use Rattle.attribute_items.proofs.entries.size_among.Given as goal

abbrev pub invariant-loop-entry : goal.invariant-loop-entry
invariant-loop-entry l =
    (l.size + sum_by entry_size (others l.name l.entry-iterator) ≡ sum_by entry_size (others l.name l.fn.entries)) ×
    (goal.iterator-loop-entry).can_next l.entry-iterator ×
    (goal.iterator-loop-entry).is_finite l.entry-iterator
