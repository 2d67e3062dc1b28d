-- The names so far, and those that are left.
use Rattle.std.proofs.Common.{◌≡◌, ◌≢◌, ◌++◌}
use Rattle.std.specs.Prelude.{All}
use Rattle.std.specs.List.{flat_map}
use Rattle.tree_range.specs.Shape.{tree_items}
use Rattle.current_view.specs.Told.{refs_of, refs_told}
use Rattle.current_view.proofs.told.named_by_refs.Given as goal

abbrev pub invariant-loop-key : goal.invariant-loop-key
invariant-loop-key l = record {
  names : l.names.items ++ flat_map refs_told l.key-iterator ≡ flat_map refs_told (refs_of (tree_items l.table l.tree) l.fn.ino.0);
  inos : All (λ item. item.0.objectid ≢ 256) l.key-iterator;
  can_next : (goal.iterator-loop-key).can_next l.key-iterator;
  is_finite : (goal.iterator-loop-key).is_finite l.key-iterator;
}
