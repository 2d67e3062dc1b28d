-- The first entry of the items that are left is the first one of all.
use Rattle.std.proofs.Common.{◌≡◌, filter}
use Rattle.blk_base.specs.Trees.{first_key}
use Rattle.tree_range.specs.Between.{items_from}
use Rattle.tree_range.specs.Shape.{tree_items}
use Rattle.log_items.specs.Forgotten.{is_entry_to}
use Rattle.log_items.proofs.entries.first_entry_to.Given as goal

abbrev pub invariant-loop-key : goal.invariant-loop-key
invariant-loop-key l = record {
  first : first_key (filter (is_entry_to l.ino.0) l.key-iterator) ≡ first_key (filter (is_entry_to l.ino.0) (items_from l.first (tree_items l.table l.tree)));
  can_next : (goal.iterator-loop-key).can_next l.key-iterator;
  is_finite : (goal.iterator-loop-key).is_finite l.key-iterator;
}
