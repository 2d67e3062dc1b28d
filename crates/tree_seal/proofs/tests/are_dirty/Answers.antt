use Rattle.std.proofs.Common.{subst, arith}
use Rattle.std.specs.Prelude.{All}
use Rattle.tree_blocks.specs.Steps.{node_at}
use Rattle.tree_seal.proofs.Cuts.{take_whole}
use Rattle.tree_seal.proofs.Ready.{PointsToDirty, more_dirty}
use Rattle.tree_seal.proofs.tests.are_dirty.Goals as goal

pub loop-place-preserved : goal.loop-place-preserved
loop-place-preserved c =
    more_dirty c.args.table.now (node_at c.args.table.now c.args.at.0) c.loop-place.place c.node_child.result.0.0 c.node_child.result.1 c.node_child.ensures (c.is_dirty.ensures c.if-not-is_dirty.false) c.loop-place.invariant

pub returns : goal.returns
returns c = λ ok. subst (All (PointsToDirty c.args.table.now)) (take_whole (node_at c.args.table.now c.args.at.0) c.loop-place.place (omega (arith, c.node_len-place-end.ensures.value))) c.loop-place.invariant
