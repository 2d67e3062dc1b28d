use Rattle.std.proofs.Common.{arith, ap, length}
use Rattle.tree_range.proofs.Looked.{leaf_is}
use Rattle.tree_range.proofs.Spots.{here, none_left, there}
use Rattle.tree_range.proofs.spot.item_spot.Goals as goal

pub returns-then-spot-len : goal.returns-then-spot-len
returns-then-spot-len c =
    let same = ap length (leaf_is c.args.table.now c.args.spot.leaf.0 c.block.result.now c.of_body.result c.block.ensures c.of_body.ensures) in
    here c.args.table.now c.args.tree.now c.args.spot c.requires.spot (omega (arith, same, c.len.ensures.value))

pub returns-in_err-next : goal.returns-in_err-next
returns-in_err-next c =
    let same = ap length (leaf_is c.args.table.now c.args.spot.leaf.0 c.block.result.now c.of_body.result c.block.ensures c.of_body.ensures) in
    rw c.from_residual.ensures (none_left c.args.table.now c.args.tree.now c.args.spot c.requires.tree c.requires.spot (omega (arith, same, c.len.ensures.value)) c.in_err-next.was)

pub returns : goal.returns
returns c =
    let same = ap length (leaf_is c.args.table.now c.args.spot.leaf.0 c.block.result.now c.of_body.result c.block.ensures c.of_body.ensures) in
    there c.args.table.now c.args.tree.now c.args.spot c.spot_from.result c.in_ok-next.next c.requires.tree c.requires.spot (omega (arith, same, c.len.ensures.value)) c.in_ok-next.was c.spot_from.ensures.is c.spot_from.ensures.items c.spot_from.ensures.next
