use Rattle.std.proofs.Common.{List, subst}
use Rattle.blk_base.specs.Leaf.{Item}
use Rattle.tree_range.specs.Shape.{tree_items}
use Rattle.log_root.specs.Entries.{log_roots}
use Rattle.log_root.proofs.Ranges.{IsReadTo, read_more}
use Rattle.log_root.proofs.read.subs.Goals as goal

pub loop-key-preserved : goal.loop-key-preserved
loop-key-preserved c = record {
  read = read_more (log_roots (tree_items c.args.table.now c.args.root.now)) c.next.new.self (c.in-Some.key, c.in-Some.field-0-1.now) c.loop-key.count c.args.into.now c.loop-key.into (subst (λ (left : List Item). IsReadTo (log_roots (tree_items c.args.table.now c.args.root.now)) left c.loop-key.count c.args.into.now c.loop-key.into) c.in-Some.ensures.steps c.loop-key.invariant.read) c.requires.few c.told-into;
  can_next = tt;
  is_finite = tt;
}
