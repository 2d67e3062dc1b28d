use Rattle.std.proofs.Common.{sym}
use Rattle.tree_range.proofs.Looked.{get_absent, get_found, key_inside, read}
use Rattle.tree_range.proofs.search.get.Goals as goal

pub data-requires : goal.data-requires
data-requires c = key_inside c.of_body-leaf.result c.args.key.now c.in-Ok.place c.in-Ok.ensures.found

pub returns-in-Ok : goal.returns-in-Ok
returns-in-Ok c =
    let r = read c.args.table.now c.args.tree.now c.args.key.now c.leaf_for.result.at.0 c.leaf_for.result.next c.block.result.now c.of_body-leaf.result c.requires c.leaf_for.ensures c.block.ensures c.of_body-leaf.ensures in
    sym (get_found c.args.table.now c.args.tree.now c.args.key.now c.leaf_for.result.at.0 c.leaf_for.result.next c.of_body-leaf.result c.in-Ok.place c.data.result.now r c.in-Ok.ensures.found c.data.ensures)

pub returns-in-Err : goal.returns-in-Err
returns-in-Err c =
    let r = read c.args.table.now c.args.tree.now c.args.key.now c.leaf_for.result.at.0 c.leaf_for.result.next c.block.result.now c.of_body-leaf.result c.requires c.leaf_for.ensures c.block.ensures c.of_body-leaf.ensures in
    sym (get_absent c.args.table.now c.args.tree.now c.args.key.now c.leaf_for.result.at.0 c.leaf_for.result.next c.of_body-leaf.result c.in-Err.field-0 r c.in-Err.ensures.absent)
