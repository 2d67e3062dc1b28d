-- An item put into a packed leaf, step by step.
use Rattle.std.proofs.Common.{◌≡◌, ◌≤◌, ◌<◌, ◌+◌, ◌-◌, ◌*◌, ℕ, List, ◌++◌, length, take, drop, get_or, true, refl, ap, arith, ◌∙◌, sym, inl, inr, length-append, length-drop, append_assoc}
use Rattle.std.specs.Prelude.{insert}
use Rattle.std.proofs.lemmas.Bool.{cases_order}
use Rattle.std.proofs.lemmas.List.{length-take-le, take_at}
use Rattle.std.proofs.lemmas.List.Edits.{length-insert, get_or-insert_below, get_or-insert_at, get_or-insert_above}
use Rattle.blk_base.specs.declared.key.Key.{Key}
use Rattle.blk_base.specs.Bytes.{bytes_at, with_bytes, number_bytes}
use Rattle.blk_base.specs.Keys.{KeyFits, keys_rise}
use Rattle.blk_base.specs.Leaf.{Item, data_of, count_of, header_at}
use Rattle.leaf_view.specs.Search.{keys_of}
use Rattle.leaf_edit.specs.declared.header.Header.{Header}
use Rattle.leaf_edit.specs.Packed.{IsPacked, HeaderFits, header_of, header_bytes, data_before, place_of, packed_header, lowered}
use Rattle.leaf_edit.specs.Amounts.{data_before_more, data_before_le, data_before_rises, data_before-insert_below, data_before-insert_above, data_of-insert}
use Rattle.leaf_edit.specs.Fronts.{header_reads_back, length-header_bytes, number_reads_back, behind}
use Rattle.leaf_edit.specs.Parts.{part_within, part_in_back, back_in_back, take-with_bytes, drop-with_bytes, drop-with_bytes_here, length-with_bytes}
use Rattle.leaf_edit.specs.Shifts.{header_in_front, header_in_back, header-with_header_below, header-with_header_above}

-- the steps: the data, the headers behind the place, the new header, the count
pub record Steps (b0 b1 b2 b3 b4 : List ℕ) (items : List Item) (at low bound : ℕ) (key : Key) (content : List ℕ) : Type 0 where
  pub packed : IsPacked b0 items
  pub within : at ≤ length items
  pub room : 25 * (length items + 1) + (data_of items + length content) ≤ 3995
  pub order : keys_rise (keys_of (insert items at (key, content))) ≡ true
  pub fits : KeyFits key
  pub low_is : low ≡ 3995 - data_of items
  pub bound_is : bound ≡ 3995 - data_before items at
  pub made : b1 ≡ with_bytes b0 (101 + low - length content) (bytes_at (101 + bound - (101 + low)) b0 (101 + low) ++ content)
  pub moved : (i : ℕ) → at ≤ i → i < length items → header_of b2 (i + 1) ≡ lowered (length content) (header_of b1 i)
  pub front : take (header_at at) b2 ≡ take (header_at at) b1
  pub back : drop (header_at (length items + 1)) b2 ≡ drop (header_at (length items + 1)) b1
  pub long : length b2 ≡ 4096
  pub put : b3 ≡ with_bytes b2 (header_at at) (header_bytes (record { key = key; offset = bound - length content; size = length content }))
  pub counted : b4 ≡ with_bytes b3 96 (number_bytes 4 (length items + 1))

module _ (b0 b1 b2 b3 b4 : List ℕ) (items : List Item) (at low bound : ℕ) (key : Key) (content : List ℕ) (h : Steps b0 b1 b2 b3 b4 items at low bound key content) where
  abbrev header : Header
  header = record { key = key; offset = bound - length content; size = length content }

  abbrev moved_part : List ℕ
  moved_part = bytes_at (101 + bound - (101 + low)) b0 (101 + low)

  -- where the headers end, and where the moved data begin
  abbrev headers_end : ℕ
  headers_end = header_at (length items + 1)

  abbrev start : ℕ
  start = 101 + low - length content

  bound_ge : low ≤ bound
  bound_ge = let a = h.low_is in let b = h.bound_is in omega (arith, data_before_le items at)

  bound_le : bound ≤ 3995
  bound_le = let b = h.bound_is in omega arith

  long_moved : length moved_part ≡ bound - low
  long_moved =
      let long = h.packed.size in
      let top = bound_le in
      let up = bound_ge in
      length-take-le (101 + bound - (101 + low)) (drop (101 + low) b0) (omega (arith, length-drop (101 + low) b0)) ∙ omega arith

  whole : length (moved_part ++ content) ≡ bound - low + length content
  whole = length-append moved_part content ∙ ap (λ n. n + length content) long_moved

  low_room : headers_end + length content ≤ 101 + low
  low_room = let r = h.room in let a = h.low_is in omega arith

  start_le : start ≤ length b0
  start_le = let long = h.packed.size in omega (arith, bound_le, bound_ge)

  long1 : length b1 ≡ 4096
  long1 =
      let long = h.packed.size in
      rw h.made (length-with_bytes b0 start (moved_part ++ content) (omega (arith, whole, low_room, bound_le, bound_ge)) ∙ long)

  at_room : header_at (at + 1) ≤ headers_end
  at_room = let w = h.within in omega arith

  headers_fit : headers_end ≤ 4096
  headers_fit = let r = h.room in omega arith

  long3 : length b3 ≡ 4096
  long3 = let long = h.long in rw h.put (length-with_bytes b2 (header_at at) (header_bytes header) (omega (arith, length-header_bytes header, at_room, headers_fit)) ∙ long)

  long4 : length b4 ≡ 4096
  long4 = rw h.counted (length-with_bytes b3 96 (number_bytes 4 (length items + 1)) (omega (arith, long3)) ∙ long3)

  -- behind the headers the bytes are as after the first step
  behind_headers : drop headers_end b4 ≡ drop headers_end b1
  behind_headers =
      ap (drop headers_end) h.counted ∙ drop-with_bytes b3 96 (number_bytes 4 (length items + 1)) headers_end (omega arith) (omega (arith, long3))
      ∙ ap (drop headers_end) h.put ∙ drop-with_bytes b2 (header_at at) (header_bytes header) headers_end (omega (arith, length-header_bytes header, at_room)) (let long = h.long in omega (arith, at_room, headers_fit))
      ∙ h.back

  count_is : count_of b4 ≡ length items + 1
  count_is =
      let made : drop 96 b4 ≡ number_bytes 4 (length items + 1) ++ drop (96 + 4) b3 = ap (drop 96) h.counted ∙ drop-with_bytes_here b3 96 (number_bytes 4 (length items + 1)) (omega (arith, long3)) in
      number_reads_back 4 b4 96 (length items + 1) (drop (96 + 4) b3) made (let r = h.room in omega arith)

  header_fits : HeaderFits header
  header_fits = record { key = h.fits; offset = omega (arith, bound_le); size = let r = h.room in omega arith }

  -- the headers
  last_headers : (i : ℕ) → header_of b4 i ≡ header_of b3 i
  last_headers i = header_in_back b4 b3 100 i (ap (drop 100) h.counted ∙ drop-with_bytes b3 96 (number_bytes 4 (length items + 1)) 100 (omega arith) (omega (arith, long3))) (omega arith)

  header_here : header_of b4 at ≡ header
  header_here = last_headers at ∙ ap (λ b. header_of b at) h.put ∙ header_reads_back b2 at header header_fits (let long = h.long in omega (arith, at_room, headers_fit))

  -- the headers before the first step
  first_headers : (i : ℕ) → i < length items → header_of b1 i ≡ header_of b0 i
  first_headers i within =
      header_in_front b1 b0 start i (ap (take start) h.made ∙ take-with_bytes b0 start (moved_part ++ content) start (omega arith) start_le) (omega (arith, low_room))

  header_below : (i : ℕ) → i < at → header_of b4 i ≡ header_of b0 i
  header_below i lower =
      let w = h.within in
      last_headers i ∙ ap (λ b. header_of b i) h.put ∙ header-with_header_below b2 at i header lower (let long = h.long in omega (arith, at_room, headers_fit))
      ∙ header_in_front b2 b1 (header_at at) i h.front (omega arith) ∙ first_headers i (omega arith)

  header_above : (i : ℕ) → at ≤ i → i < length items → header_of b4 (i + 1) ≡ lowered (length content) (header_of b0 i)
  header_above i upper within =
      last_headers (i + 1) ∙ ap (λ b. header_of b (i + 1)) h.put ∙ header-with_header_above b2 at (i + 1) header (omega arith) (let long = h.long in omega (arith, at_room, headers_fit))
      ∙ h.moved i upper within ∙ ap (lowered (length content)) (first_headers i within)

  -- the data
  data_whole : drop start b4 ≡ (moved_part ++ content) ++ drop (start + length (moved_part ++ content)) b0
  data_whole =
      back_in_back b4 b1 headers_end start behind_headers (omega (arith, low_room)) ∙ ap (drop start) h.made ∙ drop-with_bytes_here b0 start (moved_part ++ content) start_le

  data_here : bytes_at (length content) b4 (101 + (bound - length content)) ≡ content
  data_here =
      let rest = drop (start + length (moved_part ++ content)) b0 in
      let split : drop start b4 ≡ moved_part ++ (content ++ rest) = data_whole ∙ append_assoc moved_part content rest in
      let there : start + length moved_part ≡ 101 + (bound - length content) = omega (arith, long_moved, low_room, bound_ge) in
      ap (take (length content)) (behind b4 start (101 + (bound - length content)) moved_part (content ++ rest) split there) ∙ take_at content rest (length content) refl

  data_below : (from n : ℕ) → bound ≤ from → bytes_at n b4 (101 + from) ≡ bytes_at n b0 (101 + from)
  data_below from n lower =
      part_in_back b4 b1 headers_end (101 + from) n behind_headers (omega (arith, low_room, bound_ge))
      ∙ ap (λ b. bytes_at n b (101 + from)) h.made
      ∙ ap (take n) (drop-with_bytes b0 start (moved_part ++ content) (101 + from) (omega (arith, whole, low_room, bound_ge)) start_le)

  data_above : (from n : ℕ) → low ≤ from → from + n ≤ bound → bytes_at n b4 (101 + (from - length content)) ≡ bytes_at n b0 (101 + from)
  data_above from n upper within =
      let rest = drop (start + length (moved_part ++ content)) b0 in
      let split : drop start b4 ≡ moved_part ++ (content ++ rest) = data_whole ∙ append_assoc moved_part content rest in
      let same : bytes_at (bound - low) b4 start ≡ bytes_at (bound - low) b0 (101 + low) =
      ap (take (bound - low)) split ∙ take_at moved_part (content ++ rest) (bound - low) long_moved ∙ ap (λ n. bytes_at n b0 (101 + low)) (omega arith) in
      let first : start + (from - low) ≡ 101 + (from - length content) = omega (arith, low_room) in
      let second : 101 + low + (from - low) ≡ 101 + from = omega arith in
      ap (λ a. bytes_at n b4 a) (sym first) ∙ part_within b4 b0 start (101 + low) (bound - low) (from - low) n same (omega (arith, bound_ge)) ∙ ap (λ a. bytes_at n b0 a) second

  -- the list with the item
  abbrev after : List Item
  after = insert items at (key, content)

  item_below : (i : ℕ) (d : Item) → i < at → get_or after i d ≡ get_or items i d
  item_below i d lower = get_or-insert_below items at (key, content) d i lower h.within

  amount_below : (i : ℕ) → i ≤ at → data_before after i ≡ data_before items i
  amount_below i lower = data_before-insert_below items at (key, content) i lower h.within

  item_here : (d : Item) → get_or after at d ≡ (key, content)
  item_here d = get_or-insert_at items at (key, content) d h.within

  item_above : (i : ℕ) (d : Item) → at ≤ i → get_or after (i + 1) d ≡ get_or items i d
  item_above i d upper = get_or-insert_above items at (key, content) d i upper h.within

  amount_above : (i : ℕ) → at ≤ i → data_before after (i + 1) ≡ data_before items i + length content
  amount_above i upper = data_before-insert_above items at (key, content) i upper h.within

  place_here : 3995 - (data_before items at + length content) ≡ bound - length content
  place_here = let b = h.bound_is in omega arith

  place_above : (i : ℕ) → 3995 - (data_before items (i + 1) + length content) ≡ place_of items i - length content
  place_above i = omega arith

  header_in_after : (i : ℕ) (d : Item) → i < length items + 1 → header_of b4 i ≡ packed_header after i (get_or after i d)
  header_in_after i d within =
      elim (cases_order i at) [
        | inl e ↦ rw (e, item_here d, amount_above at (omega arith), place_here) header_here
        | inr other ↦ elim other [
          | inl lower ↦ rw (item_below i d lower, amount_below (i + 1) (omega arith)) (header_below i lower ∙ h.packed.headers i d (let w = h.within in omega arith))
          | inr upper ↦
              let j = i - 1 in
              let is : i ≡ j + 1 = omega arith in
              rw (is, item_above j d (omega arith), amount_above (j + 1) (omega arith), place_above j)
              (header_above j (omega arith) (omega arith) ∙ ap (lowered (length content)) (h.packed.headers j d (omega arith)))
        ]
      ]

  content_in_after : (i : ℕ) (d : Item) → i < length items + 1 → bytes_at (length (get_or after i d).1) b4 (101 + place_of after i) ≡ (get_or after i d).1
  content_in_after i d within =
      elim (cases_order i at) [
        | inl e ↦ rw (e, item_here d, amount_above at (omega arith), place_here) data_here
        | inr other ↦ elim other [
          | inl lower ↦
              let inside : i < length items = let w = h.within in omega arith in
              let higher : bound ≤ place_of items i = let b = h.bound_is in omega (arith, data_before_rises items (i + 1) at (omega arith)) in
              rw (item_below i d lower, amount_below (i + 1) (omega arith)) (data_below (place_of items i) (length (get_or items i d).1) higher ∙ h.packed.contents i d inside)
          | inr upper ↦
              let j = i - 1 in
              let is : i ≡ j + 1 = omega arith in
              let inside : j < length items = omega arith in
              let more = data_before_more items j d inside in
              let not_below : low ≤ place_of items j = let a = h.low_is in omega (arith, data_before_le items (j + 1)) in
              let not_above : place_of items j + length (get_or items j d).1 ≤ bound =
              let b = h.bound_is in
              let f = h.packed.fits in
              omega (arith, data_before_rises items at j (omega arith), data_before_le items (j + 1)) in
              rw (is, item_above j d (omega arith), amount_above (j + 1) (omega arith), place_above j) (data_above (place_of items j) (length (get_or items j d).1) not_below not_above ∙ h.packed.contents j d inside)
        ]
      ]

  pub inserted : IsPacked b4 after
  inserted =
      let longer = length-insert items at (key, content) h.within in
      record {
        size = long4;
        count = count_is ∙ sym longer;
        fits = let r = h.room in omega (arith, longer, data_of-insert items at (key, content) h.within);
        rise = h.order;
        headers = λ i d within. header_in_after i d (omega arith);
        contents = λ i d within. content_in_after i d (omega arith);
      }
