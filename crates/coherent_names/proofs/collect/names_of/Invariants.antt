-- What was added, and the names of the items that are left, are all.
use Rattle.std.proofs.Common.{◌≡◌, ◌++◌}
use Rattle.coherent_names.specs.Names.{all_names, flat_names}
use Rattle.tree_range.specs.Shape.{tree_items}
use Rattle.coherent_names.proofs.collect.names_of.Given as goal

abbrev pub invariant-loop-key : goal.invariant-loop-key
invariant-loop-key l =
    (flat_names l.names.items ++ all_names l.key-iterator ≡ all_names (tree_items l.fn.table l.fn.tree)) ×
    (goal.iterator-loop-key).can_next l.key-iterator ×
    (goal.iterator-loop-key).is_finite l.key-iterator
