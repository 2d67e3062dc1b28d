use Rattle.std.proofs.Common.{◌≤◌, ◌-◌, false, length, arith}
use Rattle.tree_range.specs.Shape.{items_below}
use Rattle.tree_range.proofs.Times.{child_shape}
use Rattle.volume_image.specs.Subvolume.{data_addresses}
use Rattle.tree_check.specs.Blocks.{runs_of}
use Rattle.tree_check.proofs.Places.{on_ok}
use Rattle.tree_check.proofs.RunSteps.{child_added, children_added, children_begin, leaf_added}
use Rattle.tree_check.proofs.runs.+add_below.Goals as goal

pub returns-then-level-eq0 : goal.returns-then-level-eq0
returns-then-level-eq0 t c =
    on_ok c.add_leaf.result (leaf_added (runs_of c.args.runs.now.items) (runs_of c.add_leaf.new.runs.items) c.args.table.now c.args.at.0 c.args.level c.block-block.result.now c.of_body.result (omega (arith, c.if-level-eq0.true)) c.block-block.ensures c.of_body.ensures) c.add_leaf.ensures

pub loop-place-init : goal.loop-place-init
loop-place-init t c =
    children_begin (runs_of c.args.runs.now.items) c.args.table.now c.args.at.0 c.args.level c.block-block.result.now c.of_body-node.result (omega (arith, c.if-level-eq0.false)) c.block-block.ensures c.of_body-node.ensures

pub add_below-requires : goal.add_below-requires
add_below-requires t c =
    (omega (arith, c.if-level-eq0.false), (false, child_shape c.args.level c.args.table.now c.requires.0 c.args.at.0 c.block-block.result.now c.of_body-node.result c.loop-place.place c.child.result.0.0 c.child.result.1 (omega (arith, c.if-level-eq0.false)) c.block-block.ensures c.of_body-node.ensures c.requires.1 c.child.ensures))

pub loop-place-preserved : goal.loop-place-preserved
loop-place-preserved t c =
    child_added (c.args.level - 1) c.args.table.now (runs_of c.args.runs.now.items) (runs_of c.loop-place.runs.items) (runs_of c.add_below.new.runs.items) (data_addresses (items_below c.args.level c.args.table.now c.args.at.0)) c.of_body-node.result c.loop-place.place c.child.result.0.0 c.child.result.1 c.child.ensures c.loop-place.invariant c.in_ok-add_below.ensures

pub returns : goal.returns
returns t c =
    let past : length c.of_body-node.result ≤ c.loop-place.place = let end = c.len-place-end.ensures.value in let test = c.loop-place-test.false in omega arith in
    children_added (c.args.level - 1) c.args.table.now (runs_of c.args.runs.now.items) (runs_of c.loop-place.runs.items) (data_addresses (items_below c.args.level c.args.table.now c.args.at.0)) c.of_body-node.result c.loop-place.place past c.loop-place.invariant
