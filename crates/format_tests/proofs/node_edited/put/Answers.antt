use Rattle.std.proofs.Common.{◌≡◌, List, subst}
use Rattle.blk_base.specs.Leaf.{Pointer}
use Rattle.leaf_view.specs.Search.{pointer_keys, IsPlace}
use Rattle.leaf_edit.proofs.Placing.{pointer_order-insert}
use Rattle.node_edit.specs.Editor.{pointers_of}
use Rattle.format_tests.proofs.node_edited.put.Goals as goal

pub insert-requires-clause-order : goal.insert-requires-clause-order
insert-requires-clause-order c =
    let pointers = pointers_of c.edit-node.result in
    let same : c.of_body-view.result ≡ pointers = cc (c.of_body-view.ensures, c.edit-node.ensures.pointers) in
    let P : List Pointer → Type 0 = λ list. IsPlace (pointer_keys list) c.args.key c.in-Err.place in
    pointer_order-insert pointers c.in-Err.place _ c.edit-node.result.known.rise (subst P same c.in-Err.ensures.absent)
