-- Each value keeps its limits where each that is left does.
use Rattle.std.proofs.Common.{◌≡◌}
use Rattle.std.specs.List.{list_all}
use Rattle.coherent_items.specs.Entries.{is_right_value}
use Rattle.coherent_items.proofs.entries.all_values.Given as goal

abbrev pub invariant-loop-entry : goal.invariant-loop-entry
invariant-loop-entry l =
    (list_all is_right_value l.entry-iterator ≡ list_all is_right_value l.fn.entries) ×
    (goal.iterator-loop-entry).can_next l.entry-iterator ×
    (goal.iterator-loop-entry).is_finite l.entry-iterator
