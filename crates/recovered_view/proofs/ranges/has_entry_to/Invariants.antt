-- Whether there is one is told by those that are left.
use Rattle.std.proofs.Common.{◌≡◌}
use Rattle.std.specs.List.{list_any}
use Rattle.recovered_view.specs.Kept.{is_entry_to}
use Rattle.recovered_view.proofs.ranges.has_entry_to.Given as goal

abbrev pub invariant-loop-entry : goal.invariant-loop-entry
invariant-loop-entry l =
    (list_any (is_entry_to l.name l.ino) l.entry-iterator ≡ list_any (is_entry_to l.name l.ino) l.fn.entries) ×
    (goal.iterator-loop-entry).can_next l.entry-iterator ×
    (goal.iterator-loop-entry).is_finite l.entry-iterator
