-- The first of the items left that is behind the key is the first of all that are.
use Rattle.std.proofs.Common.{◌≡◌, filter}
use Rattle.blk_base.specs.Keys.{key_below}
use Rattle.blk_base.specs.Trees.{first_key}
use Rattle.tree_range.specs.Shape.{tree_items}
use Rattle.log_items.specs.Copied.{items_behind}
use Rattle.log_items.proofs.copy.first_behind.Given as goal

abbrev pub invariant-loop-key : goal.invariant-loop-key
invariant-loop-key l = record {
  first : first_key (filter (λ item. key_below l.before item.0) l.key-iterator) ≡ first_key (items_behind l.before l.last (tree_items l.table l.tree));
  can_next : (goal.iterator-loop-key).can_next l.key-iterator;
  is_finite : (goal.iterator-loop-key).is_finite l.key-iterator;
}
