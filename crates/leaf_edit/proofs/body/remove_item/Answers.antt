use Rattle.std.proofs.Common.{◌≡◌, ◌≤◌, ◌<◌, ◌+◌, ◌-◌, ◌^◌, ℕ, List, length, drop, refl, ap, arith, ◌∙◌, subst}
use Rattle.blk_base.specs.Bytes.{with_bytes, number_bytes}
use Rattle.blk_base.specs.Leaf.{Item, data_of, item_of, item_offset, count_of, header_at}
use Rattle.leaf_view.specs.Listed.{items_in}
use Rattle.leaf_edit.specs.Packed.{IsPacked, data_before, place_of}
use Rattle.leaf_edit.specs.Amounts.{data_before_le, data_before_all, data_before_more}
use Rattle.leaf_edit.proofs.Removing.{removed}
use Rattle.leaf_edit.specs.Shifts.{header-with_bytes}
use Rattle.leaf_edit.proofs.body.remove_item.Goals as goal

-- the lowest data
low_is : (bytes : List ℕ) (items : List Item) (count low : ℕ) → IsPacked bytes items → count ≡ count_of bytes → low ≡ 3995 - data_before items count → low ≡ 3995 - data_of items
low_is bytes items count low h is value = value ∙ ap (λ n. 3995 - n) (data_before_all items count (let c = h.count in omega arith))

-- the offsets are low enough to be raised
offset_room : (b0 b1 : List ℕ) (items : List Item) (start low by : ℕ) (content : List ℕ) (i : ℕ) → IsPacked b0 items → b1 ≡ with_bytes b0 start content → start ≡ 101 + low + by
    → low ≡ 3995 - data_of items → start ≤ 4096 → by ≤ 3995 → i < length items → item_offset b1 i + by < 2 ^ 32
offset_room b0 b1 items start low by content i h made starts is inside small within =
    let long = h.size in
    let f = h.fits in
    let kept = header-with_bytes b0 b1 start content i made (omega arith) (omega arith) in
    let offsets : item_offset b1 i ≡ place_of items i = ap (λ header. header.offset) (kept ∙ h.headers i (item_of b0 0) within) in
    omega (arith, offsets)

pub overflow_sub-end : goal.overflow_sub-end
overflow_sub-end c =
    let items = items_in c.args.block.now in
    omega (arith, c.bound_of-end.ensures.value, c.bound_of-start.ensures.value, data_before_more items c.args.at (item_of c.args.block.now 0) c.requires.within)

pub close_gap-requires-clause-order : goal.close_gap-requires-clause-order
close_gap-requires-clause-order c =
    let items = items_in c.args.block.now in
    let low = low_is c.args.block.now items c.count_of-count.result c.bound_of-low.result c.requires.packed c.count_of-count.ensures c.bound_of-low.ensures.value in
    omega (arith, c.bound_of-start.ensures.value, data_before_le items (c.args.at + 1))

pub overflow_sub-end-2 : goal.overflow_sub-end-2
overflow_sub-end-2 c =
    let items = items_in c.args.block.now in
    omega (arith, c.bound_of-end.ensures.value, c.bound_of-start.ensures.value, data_before_more items c.args.at (item_of c.args.block.now 0) c.requires.within)

pub raise_headers-requires-clause-enough : goal.raise_headers-requires-clause-enough
raise_headers-requires-clause-enough c i upper within =
    let items = items_in c.args.block.now in
    let low = low_is c.args.block.now items c.count_of-count.result c.bound_of-low.result c.requires.packed c.count_of-count.ensures c.bound_of-low.ensures.value in
    let order : c.bound_of-low.result ≤ c.bound_of-start.result = omega (arith, c.bound_of-start.ensures.value, data_before_le items (c.args.at + 1)) in
    offset_room c.args.block.now c.close_gap.new.block items _ c.bound_of-low.result (c.bound_of-end.result - c.bound_of-start.result) _ i c.requires.packed c.close_gap.ensures refl low (omega (arith, c.bound_of-end.ensures.most)) (omega (arith, c.bound_of-end.ensures.most)) (omega (arith, c.requires.packed.count, c.count_of-count.ensures))

pub returns : goal.returns
returns c =
    let items = items_in c.args.block.now in
    let d = item_of c.args.block.now 0 in
    let counts : c.count_of-count.result ≡ length items = c.count_of-count.ensures ∙ c.requires.packed.count in
    let low = low_is c.args.block.now items c.count_of-count.result c.bound_of-low.result c.requires.packed c.count_of-count.ensures c.bound_of-low.ensures.value in
    let fits = c.requires.packed.fits in
    removed c.args.block.now c.close_gap.new.block c.raise_headers.new.block c.put_u32.new.bytes items c.args.at c.bound_of-low.result c.bound_of-start.result (c.bound_of-end.result - c.bound_of-start.result) d
    (record {
      packed = c.requires.packed;
      within = c.requires.within;
      low_is = low;
      start_is = c.bound_of-start.ensures.value;
      by_is = omega (arith, c.bound_of-end.ensures.value, c.bound_of-start.ensures.value, data_before_more items c.args.at d c.requires.within, data_before_le items (c.args.at + 1));
      made = c.close_gap.ensures;
      moved = λ i upper within. c.raise_headers.ensures.moved i upper (omega arith);
      front = c.raise_headers.ensures.front;
      back = let P : ℕ → Type 0 = λ n. drop (header_at n) c.raise_headers.new.block ≡ drop (header_at n) c.close_gap.new.block in subst P counts c.raise_headers.ensures.back;
      long = c.raise_headers.array_long;
      counted = let P : ℕ → Type 0 = λ n. c.put_u32.new.bytes ≡ with_bytes c.raise_headers.new.block 96 (number_bytes 4 (n - 1)) in subst P counts c.put_u32.ensures;
    })
