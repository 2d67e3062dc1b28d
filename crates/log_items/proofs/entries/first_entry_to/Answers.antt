use Rattle.std.proofs.Common.{List, ◌∙◌, ap, filter}
use Rattle.blk_base.specs.Leaf.{Item}
use Rattle.blk_base.specs.Trees.{first_key}
use Rattle.tree_range.specs.Shape.{tree_items}
use Rattle.log_items.specs.Forgotten.{is_entry_to}
use Rattle.log_items.proofs.Ranges.{from_to_highest}
use Rattle.log_items.proofs.entries.first_entry_to.Goals as goal

pub loop-key-init : goal.loop-key-init
loop-key-init c = record {
  first = ap (λ (l : List Item). first_key (filter (is_entry_to c.args.ino.0) l))
      (c.into_iter-key-iterator.ensures.into_iter_gives ∙ c.range-key-items.ensures ∙ from_to_highest c.args.first.now (tree_items c.args.table.now c.args.tree.now) c.requires.keys);
  can_next = tt;
  is_finite = tt;
}
