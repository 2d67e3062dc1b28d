-- The names so far, and those that are left.
use Rattle.std.proofs.Common.{◌≡◌, ◌++◌}
use Rattle.std.specs.List.{flat_map}
use Rattle.tree_range.specs.Shape.{tree_items}
use Rattle.current_view.specs.Told.{indexed_told, indexes_of}
use Rattle.current_view.proofs.told.indexed_names.Given as goal

abbrev pub invariant-loop-key : goal.invariant-loop-key
invariant-loop-key l = record {
  names : l.names.items ++ flat_map indexed_told l.key-iterator ≡ flat_map indexed_told (indexes_of (tree_items l.table l.tree) l.fn.dir.0);
  can_next : (goal.iterator-loop-key).can_next l.key-iterator;
  is_finite : (goal.iterator-loop-key).is_finite l.key-iterator;
}
