use Rattle.std.proofs.Common.{◌≤◌, ◌-◌, false, length, arith}
use Rattle.blk_base.specs.Keys.{KeyFits}
use Rattle.tree_range.specs.Shape.{leaf_items}
use Rattle.tree_range.proofs.Times.{child_shape}
use Rattle.tree_check.proofs.Each.{child_more, children_all, leaf_all, none_yet}
use Rattle.tree_check.proofs.Places.{body_is}
use Rattle.recovered_view.proofs.keys.+read_below.Goals as goal

pub returns-then-level-eq0 : goal.returns-then-level-eq0
returns-then-level-eq0 t c =
    let body = body_is c.args.level c.args.table.now c.requires.0 c.args.at.0 c.block-block.result.now (omega (arith, c.if-level-eq0.true)) c.block-block.ensures c.requires.1 in
    leaf_all (λ key bytes. KeyFits key) c.args.table.now c.args.at.0 c.args.level c.block-block.result.now (leaf_items c.args.table.now c.args.at.0) (omega (arith, c.if-level-eq0.true)) c.block-block.ensures body (c.read_leaf.ensures (leaf_items c.args.table.now c.args.at.0) body)

pub loop-place-init : goal.loop-place-init
loop-place-init t c = none_yet (λ key bytes. KeyFits key)

pub read_below-requires : goal.read_below-requires
read_below-requires t c =
    (omega (arith, c.if-level-eq0.false), (false, child_shape c.args.level c.args.table.now c.requires.0 c.args.at.0 c.block-block.result.now c.of_body-node.result c.loop-place.place c.child.result.0.0 c.child.result.1 (omega (arith, c.if-level-eq0.false)) c.block-block.ensures c.of_body-node.ensures c.requires.1 c.child.ensures))

pub loop-place-preserved : goal.loop-place-preserved
loop-place-preserved t c = child_more (λ key bytes. KeyFits key) (c.args.level - 1) c.args.table.now c.of_body-node.result c.loop-place.place c.child.result.0.0 c.child.result.1 c.child.ensures c.loop-place.invariant c.read_below.ensures

pub returns : goal.returns
returns t c =
    let past : length c.of_body-node.result ≤ c.loop-place.place = let end = c.len-place-end.ensures.value in let test = c.loop-place-test.false in omega arith in
    children_all (λ key bytes. KeyFits key) c.args.table.now c.args.at.0 c.args.level c.block-block.result.now c.of_body-node.result c.loop-place.place (omega (arith, c.if-level-eq0.false)) c.block-block.ensures c.of_body-node.ensures past c.loop-place.invariant
