-- The attributes so far, and the items that are left.
use Rattle.std.proofs.Common.{◌≡◌, []}
use Rattle.std.specs.List.{flat_map}
use Rattle.tree_range.specs.Shape.{tree_items}
use Rattle.inode_shown.specs.Attributes.{attributes_between, attributes_told, lent_pairs}
use Rattle.inode_shown.specs.Putting.{all_put}
use Rattle.inode_shown.proofs.attributes.attributes_in.Given as goal

abbrev pub invariant-loop-bytes : goal.invariant-loop-bytes
invariant-loop-bytes l = record {
  put : all_put (lent_pairs l.attributes.entries) (flat_map (λ item. attributes_told item.1) l.bytes-iterator) ≡ all_put [] (attributes_between (tree_items l.table l.tree) l.fn.ino);
  can_next : (goal.iterator-loop-bytes).can_next l.bytes-iterator;
  is_finite : (goal.iterator-loop-bytes).is_finite l.bytes-iterator;
}
