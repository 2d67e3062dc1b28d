use Rattle.std.proofs.Common.{List, subst}
use Rattle.blk_base.specs.Leaf.{Pointer}
use Rattle.leaf_view.specs.Search.{pointer_keys, IsPlace}
use Rattle.leaf_edit.proofs.Placing.{pointer_order-insert}
use Rattle.node_edit.specs.Editor.{pointers_of}
use Rattle.tree_blocks.proofs.Listing.{node_list-is}
use Rattle.tree_blocks.proofs.within_node.insert_pointer.Goals as goal

pub insert-requires-clause-order : goal.insert-requires-clause-order
insert-requires-clause-order c =
    let P : List Pointer → Type 0 = λ pointers. IsPlace (pointer_keys pointers) c.args.key c.args.place in
    pointer_order-insert (pointers_of c.edit-node.result) c.args.place (record { key = c.args.key; at = c.args.child.0; generation = c.args.generation }) c.edit-node.result.known.rise (subst P (node_list-is c.args.block.now (pointers_of c.edit-node.result) c.edit-node.ensures.pointers) c.requires.order)
