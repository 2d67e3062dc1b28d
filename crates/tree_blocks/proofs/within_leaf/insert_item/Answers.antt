use Rattle.std.proofs.Common.{List, subst}
use Rattle.blk_base.specs.Leaf.{Item}
use Rattle.leaf_view.specs.Search.{keys_of, IsPlace}
use Rattle.leaf_edit.specs.Editor.{items_of}
use Rattle.leaf_edit.proofs.Placing.{order-insert}
use Rattle.tree_blocks.proofs.Listing.{leaf_list-is}
use Rattle.tree_blocks.proofs.within_leaf.insert_item.Goals as goal

pub insert-requires-clause-order : goal.insert-requires-clause-order
insert-requires-clause-order c =
    let P : List Item → Type 0 = λ items. IsPlace (keys_of items) c.args.key c.args.place in
    order-insert (items_of c.edit-leaf.result) c.args.place c.args.key c.args.bytes.now c.edit-leaf.result.packed.rise (subst P (leaf_list-is c.args.block.now (items_of c.edit-leaf.result) c.edit-leaf.ensures.items) c.requires.order)
