use Rattle.std.proofs.Common.{◌≡◌, List, subst}
use Rattle.blk_base.specs.Leaf.{Item}
use Rattle.leaf_view.specs.Search.{keys_of, IsPlace}
use Rattle.leaf_edit.specs.Editor.{items_of}
use Rattle.leaf_edit.proofs.Placing.{order-insert}
use Rattle.format_tests.proofs.leaf_edited.put.Goals as goal

pub insert-requires-clause-order : goal.insert-requires-clause-order
insert-requires-clause-order c =
    let items = items_of c.edit-leaf.result in
    let same : c.of_body-view.result ≡ items = cc (c.of_body-view.ensures, c.edit-leaf.ensures.items) in
    let P : List Item → Type 0 = λ list. IsPlace (keys_of list) c.args.key c.in-Err.place in
    order-insert items c.in-Err.place c.args.key c.args.bytes.now c.edit-leaf.result.packed.rise (subst P same c.in-Err.ensures.absent)
