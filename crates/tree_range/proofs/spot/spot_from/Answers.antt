use Rattle.std.proofs.Common.{List, subst, sym}
use Rattle.blk_base.specs.Leaf.{Item}
use Rattle.tree_range.specs.Path.{IsStart}
use Rattle.tree_range.proofs.Looked.{leaf_is, read, read_rises}
use Rattle.tree_range.proofs.Spots.{begun, next_above}
use Rattle.tree_range.proofs.spot.spot_from.Goals as goal

pub start_in-requires : goal.start_in-requires
start_in-requires c =
    let r = read c.args.table.now c.args.tree.now c.args.key.now c.leaf_for-way.result.at.0 c.leaf_for-way.result.next c.block.result.now c.of_body-leaf.result c.requires c.leaf_for-way.ensures c.block.ensures c.of_body-leaf.ensures in
    read_rises c.args.table.now c.args.tree.now c.args.key.now c.leaf_for-way.result.at.0 c.leaf_for-way.result.next c.of_body-leaf.result r

pub returns-clause-is : goal.returns-clause-is
returns-clause-is c =
    let start = subst (λ (l : List Item). IsStart l c.args.key.now c.start_in.result) (sym (leaf_is c.args.table.now c.leaf_for-way.result.at.0 c.block.result.now c.of_body-leaf.result c.block.ensures c.of_body-leaf.ensures)) c.start_in.ensures in
    (begun c.args.table.now c.args.tree.now c.args.key.now c.leaf_for-way.result.at c.start_in.result c.leaf_for-way.result.next c.requires c.leaf_for-way.ensures start).is

pub returns-clause-items : goal.returns-clause-items
returns-clause-items c =
    let start = subst (λ (l : List Item). IsStart l c.args.key.now c.start_in.result) (sym (leaf_is c.args.table.now c.leaf_for-way.result.at.0 c.block.result.now c.of_body-leaf.result c.block.ensures c.of_body-leaf.ensures)) c.start_in.ensures in
    (begun c.args.table.now c.args.tree.now c.args.key.now c.leaf_for-way.result.at c.start_in.result c.leaf_for-way.result.next c.requires c.leaf_for-way.ensures start).items

pub returns-clause-next : goal.returns-clause-next
returns-clause-next c = λ next is. next_above c.args.table.now c.args.tree.now c.args.key.now c.leaf_for-way.result.at.0 c.leaf_for-way.result.next next c.leaf_for-way.ensures is
