use Rattle.std.proofs.Common.{◌≡◌, ◌≤◌, ◌<◌, ◌+◌, ◌-◌, ◌*◌, ℕ, List, length, refl, ap, arith, ◌∙◌, subst, drop}
use Rattle.blk_base.specs.Bytes.{with_bytes, number_bytes}
use Rattle.blk_base.specs.Leaf.{Item, data_of, item_of, item_offset, count_of, header_at}
use Rattle.leaf_view.specs.Listed.{items_in}
use Rattle.leaf_edit.specs.Packed.{IsPacked, data_before, place_of}
use Rattle.leaf_edit.specs.Amounts.{data_before_le, data_before_all}
use Rattle.leaf_edit.proofs.Inserting.{inserted}
use Rattle.leaf_edit.specs.Shifts.{header-with_bytes}
use Rattle.leaf_edit.proofs.body.insert_item.Goals as goal

-- the lowest data
low_is : (bytes : List ℕ) (items : List Item) (count low : ℕ) → IsPacked bytes items → count ≡ count_of bytes → low ≡ 3995 - data_before items count → low ≡ 3995 - data_of items
low_is bytes items count low h is value = value ∙ ap (λ n. 3995 - n) (data_before_all items count (let c = h.count in omega arith))

-- the offsets are high enough to be lowered
offset_enough : (b0 b1 : List ℕ) (items : List Item) (start size low : ℕ) (content : List ℕ) (i : ℕ) → IsPacked b0 items → b1 ≡ with_bytes b0 start content → start ≡ 101 + low - size
    → low ≡ 3995 - data_of items → 25 * (length items + 1) + (data_of items + size) ≤ 3995 → i < length items → size ≤ item_offset b1 i
offset_enough b0 b1 items start size low content i h made starts is room within =
    let long = h.size in
    let kept = header-with_bytes b0 b1 start content i made (omega arith) (omega arith) in
    let offsets : item_offset b1 i ≡ place_of items i = ap (λ header. header.offset) (kept ∙ h.headers i (item_of b0 0) within) in
    omega (arith, offsets, data_before_le items (i + 1))

pub make_room-requires-clause-order : goal.make_room-requires-clause-order
make_room-requires-clause-order c =
    let items = items_in c.args.block.now in
    let low = low_is c.args.block.now items c.count_of-count.result c.bound_of-low.result c.requires.packed c.count_of-count.ensures c.bound_of-low.ensures.value in
    omega (arith, c.bound_of-bound.ensures.value, data_before_le items c.args.at)

pub make_room-requires-clause-room : goal.make_room-requires-clause-room
make_room-requires-clause-room c =
    let low = low_is c.args.block.now (items_in c.args.block.now) c.count_of-count.result c.bound_of-low.result c.requires.packed c.count_of-count.ensures c.bound_of-low.ensures.value in
    let room = c.requires.room in
    omega arith

pub lower_headers-requires-clause-enough : goal.lower_headers-requires-clause-enough
lower_headers-requires-clause-enough c i upper within =
    let items = items_in c.args.block.now in
    let low = low_is c.args.block.now items c.count_of-count.result c.bound_of-low.result c.requires.packed c.count_of-count.ensures c.bound_of-low.ensures.value in
    let room = c.requires.room in
    offset_enough c.args.block.now c.make_room.new.block items _ (length c.args.content.now) c.bound_of-low.result _ i c.requires.packed c.make_room.ensures refl low (omega arith) (omega (arith, c.requires.packed.count, c.count_of-count.ensures))

pub overflow_sub-header : goal.overflow_sub-header
overflow_sub-header c =
    let items = items_in c.args.block.now in
    let room = c.requires.room in
    omega (arith, c.bound_of-bound.ensures.value, data_before_le items c.args.at)

pub returns : goal.returns
returns c =
    let items = items_in c.args.block.now in
    let room = c.requires.room in
    let counts : c.count_of-count.result ≡ length items = c.count_of-count.ensures ∙ c.requires.packed.count in
    let low = low_is c.args.block.now items c.count_of-count.result c.bound_of-low.result c.requires.packed c.count_of-count.ensures c.bound_of-low.ensures.value in
    inserted c.args.block.now c.make_room.new.block c.lower_headers.new.block c.write.new.block c.put_u32.new.bytes items c.args.at c.bound_of-low.result c.bound_of-bound.result c.args.key c.args.content.now
    (record {
      packed = c.requires.packed;
      within = c.requires.within;
      room = omega arith;
      order = c.requires.order;
      fits = c.write.ensures.fits.key;
      low_is = low;
      bound_is = c.bound_of-bound.ensures.value;
      made = c.make_room.ensures;
      moved = λ i upper within. c.lower_headers.ensures.moved i upper (omega arith);
      front = c.lower_headers.ensures.front;
      back = let P : ℕ → Type 0 = λ n. drop (header_at (n + 1)) c.lower_headers.new.block ≡ drop (header_at (n + 1)) c.make_room.new.block in subst P counts c.lower_headers.ensures.back;
      long = c.lower_headers.array_long;
      put = c.write.ensures.written;
      counted = let P : ℕ → Type 0 = λ n. c.put_u32.new.bytes ≡ with_bytes c.write.new.block 96 (number_bytes 4 (n + 1)) in subst P counts c.put_u32.ensures;
    })
