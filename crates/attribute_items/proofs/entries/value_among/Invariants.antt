-- The entries that are left have the value that all have under the name.
use Rattle.std.proofs.Common.{◌≡◌}
use Rattle.attribute_items.specs.Found.{value_of}
use Rattle.attribute_items.proofs.entries.value_among.Given as goal

abbrev pub invariant-loop-entry : goal.invariant-loop-entry
invariant-loop-entry l =
    (value_of l.name l.entry-iterator ≡ value_of l.name l.fn.entries) ×
    (goal.iterator-loop-entry).can_next l.entry-iterator ×
    (goal.iterator-loop-entry).is_finite l.entry-iterator
