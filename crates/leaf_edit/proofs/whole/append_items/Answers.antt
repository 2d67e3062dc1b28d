use Rattle.std.proofs.Common.{◌≡◌, ℕ, arith, subst, length, true}
use Rattle.std.specs.Prelude.{insert}
use Rattle.blk_base.specs.Keys.{keys_rise}
use Rattle.leaf_view.specs.Listed.{items_in}
use Rattle.leaf_view.specs.Search.{keys_of}
use Rattle.leaf_edit.specs.Packed.{IsPacked}
use Rattle.leaf_edit.proofs.Appending.{room_for, order_for, appended_more, appended_all}
use Rattle.leaf_edit.proofs.whole.append_items.Goals as goal

pub insert_item-requires-clause-room : goal.insert_item-requires-clause-room
insert_item-requires-clause-room c =
    room_for c.args.block.now c.loop-i.block c.args.source.now c.args.from c.loop-i.i c.key.result c.data.result.now c.loop-i.invariant (omega (arith, c.len-i-end.ensures.value)) c.key.ensures c.data.ensures c.requires.packed c.requires.within c.requires.room

pub insert_item-requires-clause-order : goal.insert_item-requires-clause-order
insert_item-requires-clause-order c =
    let order = order_for c.args.block.now c.loop-i.block c.args.source.now c.args.from c.loop-i.i c.key.result c.data.result.now c.loop-i.invariant (omega (arith, c.len-i-end.ensures.value)) c.key.ensures c.data.ensures c.requires.order in
    let P : ℕ → Type 0 = λ n. keys_rise (keys_of (insert (items_in c.loop-i.block) n (c.key.result, c.data.result.now))) ≡ true in
    let place : length (items_in c.loop-i.block) ≡ c.count_of-place.result = omega (arith, c.loop-i.invariant.packed.count, c.count_of-place.ensures) in
    subst P place order

pub loop-i-preserved : goal.loop-i-preserved
loop-i-preserved c =
    let P : ℕ → Type 0 = λ n. IsPacked c.insert_item.new.block (insert (items_in c.loop-i.block) n (c.key.result, c.data.result.now)) in
    let place : c.count_of-place.result ≡ length (items_in c.loop-i.block) = omega (arith, c.loop-i.invariant.packed.count, c.count_of-place.ensures) in
    appended_more c.args.block.now c.loop-i.block c.args.source.now c.args.from c.loop-i.i c.key.result c.data.result.now c.loop-i.invariant (omega (arith, c.len-i-end.ensures.value)) c.key.ensures c.data.ensures c.insert_item.new.block
    (subst P place c.insert_item.ensures)

pub returns : goal.returns
returns c = appended_all c.args.block.now c.loop-i.block c.args.source.now c.args.from c.loop-i.i c.loop-i.invariant (omega (arith, c.len-i-end.ensures.value))
