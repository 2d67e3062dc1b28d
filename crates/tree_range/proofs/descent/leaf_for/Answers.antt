use Rattle.tree_range.proofs.Ways.{least_of, start, stepped}
use Rattle.tree_range.proofs.descent.leaf_for.Goals as goal

pub loop-level-init : goal.loop-level-init
loop-level-init c = start c.args.table.now c.args.tree.now c.args.key.now c.requires

pub step_down-way-requires : goal.step_down-way-requires
step_down-way-requires c = least_of c.block.result.now c.of_body.result c.of_body.ensures

pub loop-level-preserved : goal.loop-level-preserved
loop-level-preserved c =
    stepped c.args.table.now c.args.tree.now c.loop-level.level c.args.key.now c.loop-level.way.at.0 c.loop-level.way.next c.step_down-way.result.at.0 c.step_down-way.result.next c.block.result.now c.of_body.result c.requires c.loop-level.invariant c.loop-level-test.true c.block.ensures c.of_body.ensures c.step_down-way.ensures
