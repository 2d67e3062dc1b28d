use Rattle.std.proofs.Common.{◌∙◌, ap, filter}
use Rattle.blk_base.specs.Keys.{key_below}
use Rattle.blk_base.specs.Leaf.{Item}
use Rattle.blk_base.specs.Trees.{first_key}
use Rattle.tree_range.specs.Shape.{tree_items}
use Rattle.log_items.proofs.Copying.{behind_between, below_itself}
use Rattle.log_items.proofs.copy.first_behind.Goals as goal

pub loop-key-init : goal.loop-key-init
loop-key-init c = record {
  first = ap first_key (ap (filter (λ (item : Item). key_below c.args.before.now item.0)) (c.into_iter-key-iterator.ensures.into_iter_gives ∙ c.range-key-items.ensures) ∙ behind_between c.args.before.now c.args.last.now c.args.before.now (tree_items c.args.table.now c.args.tree.now) (below_itself c.args.before.now));
  can_next = tt;
  is_finite = tt;
}
