-- An item taken out of a packed leaf, step by step.
use Rattle.std.proofs.Common.{◌≡◌, ◌≤◌, ◌<◌, ◌+◌, ◌-◌, ℕ, List, ◌++◌, length, take, drop, get_or, ap, arith, ◌∙◌, sym, inl, inr, length-drop}
use Rattle.std.specs.Prelude.{remove}
use Rattle.std.proofs.lemmas.Bool.{cases_lt}
use Rattle.std.proofs.lemmas.List.{length-take-le, take_at}
use Rattle.std.proofs.lemmas.List.Edits.{length-remove, get_or-remove_below, get_or-remove_above}
use Rattle.blk_base.specs.Bytes.{bytes_at, with_bytes, number_bytes}
use Rattle.blk_base.specs.Leaf.{Item, data_of, count_of, header_at}
use Rattle.leaf_edit.specs.Packed.{IsPacked, header_of, data_before, place_of, packed_header, raised}
use Rattle.leaf_edit.specs.Amounts.{data_before_more, data_before_le, data_before_rises, data_before-remove_below, data_before-remove_above, data_of-remove}
use Rattle.leaf_edit.specs.Fronts.{number_reads_back}
use Rattle.leaf_edit.specs.Parts.{part_within, part_in_back, back_in_back, drop-with_bytes, drop-with_bytes_here, length-with_bytes}
use Rattle.leaf_edit.specs.Rises.{rise-remove}
use Rattle.leaf_edit.specs.Shifts.{header_in_front, header_in_back, header-with_bytes}

-- the steps: the data, the headers behind the place, the count
pub record Steps (b0 b1 b2 b3 : List ℕ) (items : List Item) (at low start by : ℕ) (d : Item) : Type 0 where
  pub packed : IsPacked b0 items
  pub within : at < length items
  pub low_is : low ≡ 3995 - data_of items
  pub start_is : start ≡ 3995 - data_before items (at + 1)
  pub by_is : by ≡ length (get_or items at d).1
  pub made : b1 ≡ with_bytes b0 (101 + low + by) (bytes_at (101 + start - (101 + low)) b0 (101 + low))
  pub moved : (i : ℕ) → at ≤ i → i + 1 < length items → header_of b2 i ≡ raised by (header_of b1 (i + 1))
  pub front : take (header_at at) b2 ≡ take (header_at at) b1
  pub back : drop (header_at (length items)) b2 ≡ drop (header_at (length items)) b1
  pub long : length b2 ≡ 4096
  pub counted : b3 ≡ with_bytes b2 96 (number_bytes 4 (length items - 1))

module _ (b0 b1 b2 b3 : List ℕ) (items : List Item) (at low start by : ℕ) (d : Item) (h : Steps b0 b1 b2 b3 items at low start by d) where
  abbrev moved_part : List ℕ
  moved_part = bytes_at (101 + start - (101 + low)) b0 (101 + low)

  abbrev headers_end : ℕ
  headers_end = header_at (length items)

  bound_is : 3995 - data_before items at ≡ start + by
  bound_is =
      let s = h.start_is in
      let f = h.packed.fits in
      let b = h.by_is in
      omega (arith, data_before_more items at d h.within, data_before_le items (at + 1))

  start_ge : low ≤ start
  start_ge = let a = h.low_is in let b = h.start_is in omega (arith, data_before_le items (at + 1))

  end_le : start + by ≤ 3995
  end_le = let b = bound_is in omega arith

  low_room : headers_end ≤ 101 + low
  low_room = let f = h.packed.fits in let a = h.low_is in omega arith

  long_moved : length moved_part ≡ start - low
  long_moved =
      let long = h.packed.size in
      let top = end_le in
      let up = start_ge in
      length-take-le (101 + start - (101 + low)) (drop (101 + low) b0) (omega (arith, length-drop (101 + low) b0)) ∙ omega arith

  to_le : 101 + low + by ≤ length b0
  to_le = let long = h.packed.size in omega (arith, end_le, start_ge)

  long3 : length b3 ≡ 4096
  long3 = let long = h.long in rw h.counted (length-with_bytes b2 96 (number_bytes 4 (length items - 1)) (omega arith) ∙ long)

  behind_headers : drop headers_end b3 ≡ drop headers_end b1
  behind_headers =
      ap (drop headers_end) h.counted ∙ drop-with_bytes b2 96 (number_bytes 4 (length items - 1)) headers_end (omega arith) (let long = h.long in omega arith) ∙ h.back

  count_is : count_of b3 ≡ length items - 1
  count_is =
      let made : drop 96 b3 ≡ number_bytes 4 (length items - 1) ++ drop (96 + 4) b2 = ap (drop 96) h.counted ∙ drop-with_bytes_here b2 96 (number_bytes 4 (length items - 1)) (let long = h.long in omega arith) in
      number_reads_back 4 b3 96 (length items - 1) (drop (96 + 4) b2) made (let f = h.packed.fits in omega arith)

  -- the headers
  last_headers : (i : ℕ) → header_of b3 i ≡ header_of b2 i
  last_headers i = header_in_back b3 b2 100 i (ap (drop 100) h.counted ∙ drop-with_bytes b2 96 (number_bytes 4 (length items - 1)) 100 (omega arith) (let long = h.long in omega arith)) (omega arith)

  first_headers : (i : ℕ) → i < length items → header_of b1 i ≡ header_of b0 i
  first_headers i within = header-with_bytes b0 b1 (101 + low + by) moved_part i h.made (omega (arith, low_room)) to_le

  header_below : (i : ℕ) → i < at → header_of b3 i ≡ header_of b0 i
  header_below i lower = last_headers i ∙ header_in_front b2 b1 (header_at at) i h.front (omega arith) ∙ first_headers i (let w = h.within in omega arith)

  header_above : (i : ℕ) → at ≤ i → i + 1 < length items → header_of b3 i ≡ raised by (header_of b0 (i + 1))
  header_above i upper within = last_headers i ∙ h.moved i upper within ∙ ap (raised by) (first_headers (i + 1) within)

  -- the data
  data_below : (from n : ℕ) → start + by ≤ from → bytes_at n b3 (101 + from) ≡ bytes_at n b0 (101 + from)
  data_below from n lower =
      part_in_back b3 b1 headers_end (101 + from) n behind_headers (omega (arith, low_room, start_ge))
      ∙ ap (λ b. bytes_at n b (101 + from)) h.made
      ∙ ap (take n) (drop-with_bytes b0 (101 + low + by) moved_part (101 + from) (omega (arith, long_moved, start_ge)) to_le)

  data_above : (from n : ℕ) → low ≤ from → from + n ≤ start → bytes_at n b3 (101 + (from + by)) ≡ bytes_at n b0 (101 + from)
  data_above from n upper within =
      let rest = drop (101 + low + by + length moved_part) b0 in
      let whole : drop (101 + low + by) b3 ≡ moved_part ++ rest =
      back_in_back b3 b1 headers_end (101 + low + by) behind_headers (omega (arith, low_room)) ∙ ap (drop (101 + low + by)) h.made ∙ drop-with_bytes_here b0 (101 + low + by) moved_part to_le in
      let same : bytes_at (start - low) b3 (101 + low + by) ≡ bytes_at (start - low) b0 (101 + low) =
      ap (take (start - low)) whole ∙ take_at moved_part rest (start - low) long_moved ∙ ap (λ n. bytes_at n b0 (101 + low)) (omega arith) in
      let first : 101 + low + by + (from - low) ≡ 101 + (from + by) = omega arith in
      let second : 101 + low + (from - low) ≡ 101 + from = omega arith in
      ap (λ a. bytes_at n b3 a) (sym first) ∙ part_within b3 b0 (101 + low + by) (101 + low) (start - low) (from - low) n same (omega (arith, start_ge)) ∙ ap (λ a. bytes_at n b0 a) second

  -- the list without the item
  abbrev after : List Item
  after = remove items at

  item_below : (i : ℕ) (e : Item) → i < at → get_or after i e ≡ get_or items i e
  item_below i e lower = get_or-remove_below items at e i lower h.within

  amount_below : (i : ℕ) → i ≤ at → data_before after i ≡ data_before items i
  amount_below i lower = data_before-remove_below items at i lower h.within

  item_above : (i : ℕ) (e : Item) → at ≤ i → get_or after i e ≡ get_or items (i + 1) e
  item_above i e upper = get_or-remove_above items at e i upper h.within

  place_above : (i : ℕ) → at ≤ i → i + 1 < length items → 3995 - data_before after (i + 1) ≡ place_of items (i + 1) + by
  place_above i upper within =
      let f = h.packed.fits in
      let b = h.by_is in
      omega (arith, data_before-remove_above items at (i + 1) d (omega arith) h.within, data_before_le items (i + 1 + 1))

  header_in_after : (i : ℕ) (e : Item) → i + 1 < length items → header_of b3 i ≡ packed_header after i (get_or after i e)
  header_in_after i e within =
      elim (cases_lt i at) [
        | inl lower ↦ rw (item_below i e lower, amount_below (i + 1) (omega arith)) (header_below i lower ∙ h.packed.headers i e (omega arith))
        | inr upper ↦ rw (item_above i e upper, place_above i upper within) (header_above i upper within ∙ ap (raised by) (h.packed.headers (i + 1) e within))
      ]

  content_in_after : (i : ℕ) (e : Item) → i + 1 < length items → bytes_at (length (get_or after i e).1) b3 (101 + place_of after i) ≡ (get_or after i e).1
  content_in_after i e within =
      elim (cases_lt i at) [
        | inl lower ↦
            let higher : start + by ≤ place_of items i = let b = bound_is in omega (arith, data_before_rises items (i + 1) at (omega arith)) in
            rw (item_below i e lower, amount_below (i + 1) (omega arith)) (data_below (place_of items i) (length (get_or items i e).1) higher ∙ h.packed.contents i e (omega arith))
        | inr upper ↦
            let more = data_before_more items (i + 1) e within in
            let not_below : low ≤ place_of items (i + 1) = let a = h.low_is in omega (arith, data_before_le items (i + 1 + 1)) in
            let not_above : place_of items (i + 1) + length (get_or items (i + 1) e).1 ≤ start =
            let s = h.start_is in
            let f = h.packed.fits in
            omega (arith, data_before_rises items (at + 1) (i + 1) (omega arith), data_before_le items (i + 1 + 1)) in
            rw (item_above i e upper, place_above i upper within) (data_above (place_of items (i + 1)) (length (get_or items (i + 1) e).1) not_below not_above ∙ h.packed.contents (i + 1) e within)
      ]

  pub removed : IsPacked b3 after
  removed =
      let shorter = length-remove items at h.within in
      record {
        size = long3;
        count = count_is ∙ omega arith;
        fits = let f = h.packed.fits in omega (arith, data_of-remove items at d h.within);
        rise = rise-remove items at h.packed.rise;
        headers = λ i e within. header_in_after i e (omega arith);
        contents = λ i e within. content_in_after i e (omega arith);
      }
