-- Data that are written in place leave a packed leaf packed.
use Rattle.std.proofs.Common.{◌≡◌, ◌≤◌, ◌<◌, ◌+◌, ◌-◌, ℕ, suc, zero, List, [], ◌∷◌, ◌++◌, length, take, drop, get_or, refl, ap, arith, ◌∙◌, sym, inl, inr, length-drop, length-append, append_assoc}
use Rattle.std.proofs.lemmas.Bool.{cases_lt, cases_eq}
use Rattle.std.proofs.lemmas.List.{length-take-le, take_at, take-append-drop, take-take, drop-drop, drop-take}
use Rattle.blk_base.specs.Bytes.{bytes_at, with_bytes}
use Rattle.blk_base.specs.Keys.{keys_rise}
use Rattle.blk_base.specs.Leaf.{Item, data_of, count_of, header_at}
use Rattle.leaf_view.specs.Search.{keys_of}
use Rattle.leaf_edit.specs.Packed.{IsPacked, data_before, place_of, header_of, packed_header}
use Rattle.leaf_view.specs.Listed.{items_in}
use Rattle.leaf_edit.specs.Passing.{packed_itself, packed_items}
use Rattle.leaf_edit.specs.Written.{data_at, with_data, with_part, with_data_bytes}
use Rattle.leaf_edit.specs.Amounts.{data_before_more, data_before_le, data_before_rises, data_before-is}
use Rattle.leaf_edit.specs.Parts.{part_in_front, field_part, drop-with_bytes, take-with_bytes, part-with_bytes, length-with_bytes, three_writes}
use Rattle.leaf_edit.specs.Shifts.{header-with_bytes}

-- the list: as many items, with the same keys and as many bytes each
pub length-with_data : (items : List Item) (at : ℕ) (content : List ℕ) → length (with_data items at content) ≡ length items
length-with_data [] at content = refl
length-with_data (item ∷ items) zero content = refl
length-with_data (item ∷ items) (suc at) content = ap suc (length-with_data items at content)

keys_of-with_data : (items : List Item) (at : ℕ) (content : List ℕ) → keys_of (with_data items at content) ≡ keys_of items
keys_of-with_data [] at content = refl
keys_of-with_data (item ∷ items) zero content = refl
keys_of-with_data (item ∷ items) (suc at) content = ap (λ keys. item.0 ∷ keys) (keys_of-with_data items at content)

data_of-take : (items : List Item) (at i : ℕ) (content : List ℕ) → length content ≡ length (data_at items at) → data_of (take i (with_data items at content)) ≡ data_of (take i items)
data_of-take [] at i content long = refl
data_of-take (item ∷ items) zero zero content long = refl
data_of-take (item ∷ items) zero (suc i) content long = ap (λ n. n + data_of (take i items)) long
data_of-take (item ∷ items) (suc at) zero content long = refl
data_of-take (item ∷ items) (suc at) (suc i) content long = ap (λ n. length item.1 + n) (data_of-take items at i content long)

data_of-with_data : (items : List Item) (at : ℕ) (content : List ℕ) → length content ≡ length (data_at items at) → data_of (with_data items at content) ≡ data_of items
data_of-with_data [] at content long = refl
data_of-with_data (item ∷ items) zero content long = ap (λ n. n + data_of items) long
data_of-with_data (item ∷ items) (suc at) content long = ap (λ n. length item.1 + n) (data_of-with_data items at content long)

before-with_data : (items : List Item) (at i : ℕ) (content : List ℕ) → length content ≡ length (data_at items at) → data_before (with_data items at content) i ≡ data_before items i
before-with_data items at i content long = data_before-is (with_data items at content) i ∙ data_of-take items at i content long ∙ sym (data_before-is items i)

same_item : (items : List Item) (at : ℕ) (content : List ℕ) (d : Item) → at < length items → get_or (with_data items at content) at d ≡ ((get_or items at d).0, content)
same_item [] at content d within = absurd (omega arith)
same_item (item ∷ items) zero content d within = refl
same_item (item ∷ items) (suc at) content d within = same_item items at content d (omega arith)

other_item : (items : List Item) (at i : ℕ) (content : List ℕ) (d : Item) → (i ≡ at → ⊥) → get_or (with_data items at content) i d ≡ get_or items i d
other_item [] at i content d other = refl
other_item (item ∷ items) zero zero content d other = absurd (other refl)
other_item (item ∷ items) zero (suc i) content d other = refl
other_item (item ∷ items) (suc at) zero content d other = refl
other_item (item ∷ items) (suc at) (suc i) content d other = other_item items at i content d (λ e. other (ap suc e))

pub data_at-get_or : (items : List Item) (at : ℕ) (d : Item) → at < length items → data_at items at ≡ (get_or items at d).1
data_at-get_or [] at d within = absurd (omega arith)
data_at-get_or (item ∷ items) zero d within = refl
data_at-get_or (item ∷ items) (suc at) d within = data_at-get_or items at d (omega arith)

module _ (bytes : List ℕ) (items : List Item) (at : ℕ) (content : List ℕ) (h : IsPacked bytes items) (within : at < length items) (long : length content ≡ length (data_at items at)) where
  abbrev old : List ℕ
  old = data_at items at

  abbrev start : ℕ
  start = 101 + place_of items at

  abbrev new : List ℕ
  new = with_bytes bytes start content

  abbrev after : List Item
  after = with_data items at content

  old_is : (d : Item) → old ≡ (get_or items at d).1
  old_is d = data_at-get_or items at d within

  pub stored : (d : Item) → bytes_at (length old) bytes start ≡ old
  stored d = ap (λ n. bytes_at n bytes start) (ap length (old_is d)) ∙ h.contents at d within ∙ sym (old_is d)

  pub end_is : (d : Item) → place_of items at + length old ≡ 3995 - data_before items at
  end_is d =
      let f = h.fits in
      omega (arith, ap length (old_is d), data_before_more items at d within, data_before_le items (at + 1))

  pub inside : (d : Item) → start + length content ≤ length bytes
  inside d = let s = h.size in omega (arith, long, end_is d)

  headers_end : header_at (length items) ≤ start
  headers_end = let f = h.fits in omega (arith, data_before_le items (at + 1))

  place_same : (i : ℕ) → place_of after i ≡ place_of items i
  place_same i = ap (λ n. 3995 - n) (before-with_data items at (i + 1) content long)

  length_same : (i : ℕ) (e : Item) → i < length items → length (get_or after i e).1 ≡ length (get_or items i e).1
  length_same i e low =
      elim (cases_eq i at) [
        | inl same ↦ rw same (ap (λ item. length item.1) (same_item items at content e within) ∙ long ∙ ap length (old_is e))
        | inr other ↦ ap (λ item. length item.1) (other_item items at i content e (λ q. absurd (omega (arith, other, q))))
      ]

  key_same : (i : ℕ) (e : Item) → i < length items → (get_or after i e).0 ≡ (get_or items i e).0
  key_same i e low =
      elim (cases_eq i at) [
        | inl same ↦ rw same (ap (λ item. item.0) (same_item items at content e within))
        | inr other ↦ ap (λ item. item.0) (other_item items at i content e (λ q. absurd (omega (arith, other, q))))
      ]

  count_same : (d : Item) → count_of new ≡ count_of bytes
  count_same d = field_part 4 new bytes 96 96 (part_in_front new bytes start 96 4 (take-with_bytes bytes start content start (omega arith) (let i = inside d in omega arith)) (omega arith))

  header_after : (i : ℕ) (e : Item) → i < length items → header_of new i ≡ packed_header after i (get_or after i e)
  header_after i e low =
      rw (key_same i e low, place_same i, length_same i e low) (header-with_bytes bytes new start content i refl (let s = headers_end in omega arith) (let p = inside e in omega arith) ∙ h.headers i e low)

  content_after : (i : ℕ) (e : Item) → i < length items → bytes_at (length (get_or after i e).1) new (101 + place_of after i) ≡ (get_or after i e).1
  content_after i e low =
      let room = inside e in
      elim (cases_eq i at) [
        | inl same ↦
            rw same (rw (place_same at, length_same at e within) (
            ap (λ n. bytes_at n new start) (sym (ap length (old_is e)) ∙ sym long) ∙ part-with_bytes bytes start content (omega arith)
            ∙ sym (ap (λ item. item.1) (same_item items at content e within))))
        | inr other ↦
            let item = other_item items at i content e (λ q. absurd (omega (arith, other, q))) in
            rw (item, place_same i) (
            elim (cases_lt i at) [
              | inl lower ↦
                  let behind : start + length content ≤ 101 + place_of items i =
                  omega (arith, long, end_is e, data_before_rises items (i + 1) at (omega arith)) in
                  ap (take (length (get_or items i e).1)) (drop-with_bytes bytes start content (101 + place_of items i) behind (omega arith))
              | inr upper ↦
                  let f = h.fits in
                  let before : 101 + place_of items i + length (get_or items i e).1 ≤ start =
                  omega (arith, data_before_more items i e low, data_before_rises items (at + 1) i (omega (arith, other)), data_before_le items (i + 1)) in
                  part_in_front new bytes start (101 + place_of items i) (length (get_or items i e).1) (take-with_bytes bytes start content start (omega arith) (omega arith)) before
            ] ∙ h.contents i e low)
      ]

  pub written : (d : Item) → IsPacked new after
  written d =
      let same = length-with_data items at content in
      record {
        size = length-with_bytes bytes start content (inside d) ∙ h.size;
        count = count_same d ∙ h.count ∙ sym same;
        fits = let f = h.fits in omega (arith, same, data_of-with_data items at content long);
        rise = ap keys_rise (keys_of-with_data items at content) ∙ h.rise;
        headers = λ i e low. header_after i e (omega (arith, same));
        contents = λ i e low. content_after i e (omega (arith, same));
      }

-- bytes written over themselves
same_write : (bytes : List ℕ) (at n : ℕ) → at + n ≤ length bytes → with_bytes bytes at (bytes_at n bytes at) ≡ bytes
unfolding with_bytes
same_write bytes at n within =
    let long : length (bytes_at n bytes at) ≡ n = length-take-le n (drop at bytes) (omega (arith, length-drop at bytes)) in
    ap (λ m. (take at bytes ++ bytes_at n bytes at) ++ drop (at + m) bytes) long
    ∙ append_assoc (take at bytes) (bytes_at n bytes at) (drop (at + n) bytes)
    ∙ ap (λ tail. take at bytes ++ (bytes_at n bytes at ++ tail)) (sym (drop-drop n at bytes))
    ∙ ap (λ tail. take at bytes ++ tail) (take-append-drop n (drop at bytes)) ∙ take-append-drop at bytes

-- a write within a part is a write of the part with it
pub write_within : (bytes : List ℕ) (at n from : ℕ) (content : List ℕ) → at + n ≤ length bytes → from + length content ≤ n
    → with_bytes bytes (at + from) content ≡ with_bytes bytes at (with_bytes (bytes_at n bytes at) from content)
unfolding with_bytes
write_within bytes at n from content within inside =
    let end = from + length content in
    let new = with_bytes bytes (at + from) content in
    let first = bytes_at from bytes at in
    let last = bytes_at (n - end) bytes (at + end) in
    let long_first : length first ≡ from = length-take-le from (drop at bytes) (omega (arith, length-drop at bytes)) in
    let long_last : length last ≡ n - end = length-take-le (n - end) (drop (at + end) bytes) (omega (arith, length-drop (at + end) bytes)) in
    let one : bytes ≡ with_bytes bytes at first = sym (same_write bytes at from (omega arith)) in
    let long_new : length new ≡ length bytes = length-with_bytes bytes (at + from) content (omega arith) in
    let kept : bytes_at (n - end) new (at + end) ≡ last = ap (take (n - end)) (drop-with_bytes bytes (at + from) content (at + end) (omega arith) (omega arith)) in
    let three : new ≡ with_bytes new (at + end) last = sym (same_write new (at + end) (n - end) (omega (arith, long_new))) ∙ ap (λ part. with_bytes new (at + end) part) kept in
    let all : new ≡ with_bytes bytes at (first ++ content ++ last) =
    three_writes bytes bytes new new at (at + from) (at + end) first content last one refl three (omega (arith, long_first)) (omega (arith, long_first)) (omega (arith, long_first, long_last)) in
    let front : take from (bytes_at n bytes at) ≡ first = take-take from n (drop at bytes) (omega arith) in
    let split : end + (n - end) ≡ n = omega arith in
    let back : drop end (bytes_at n bytes at) ≡ last =
    ap (λ m. drop end (take m (drop at bytes))) (sym split) ∙ drop-take end (n - end) (drop at bytes) ∙ ap (take (n - end)) (drop-drop end at bytes) in
    all ∙ ap (λ part. with_bytes bytes at (part ++ content ++ last)) (sym front) ∙ ap (λ part. with_bytes bytes at (take from (bytes_at n bytes at) ++ content ++ part)) (sym back)

-- bytes written over a part of an item's data
pub written_within : (bytes new : List ℕ) (items : List Item) (at from low : ℕ) (content : List ℕ) (d : Item) → IsPacked bytes items → at < length items
    → from + length content ≤ length (data_at items at) → low ≡ place_of items at → new ≡ with_bytes bytes (101 + low + from) content
    → IsPacked new (with_data items at (with_bytes (data_at items at) from content))
written_within bytes new items at from low content d h within room is made =
    let old = data_at items at in
    let full = with_bytes old from content in
    let long : length full ≡ length old = length-with_bytes old from content room in
    let top = inside bytes items at full h within long d in
    let put : new ≡ with_bytes bytes (101 + place_of items at) full =
    made ∙ ap (λ n. with_bytes bytes (101 + n + from) content) is
    ∙ write_within bytes (101 + place_of items at) (length old) from content (omega (arith, long)) room
    ∙ ap (λ part. with_bytes bytes (101 + place_of items at) (with_bytes part from content)) (stored bytes items at full h within long d) in
    rw put (written bytes items at full h within long d)

-- the data of an item end within the block
pub data_inside : (bytes : List ℕ) (items : List Item) (at : ℕ) (d : Item) → IsPacked bytes items → at < length items → 101 + place_of items at + length (data_at items at) ≤ 4096
data_inside bytes items at d h within =
    let s = h.size in
    let top = inside bytes items at (data_at items at) h within refl d in
    omega arith

data_at-past : (items : List Item) (at : ℕ) → length items ≤ at → data_at items at ≡ []
data_at-past [] at past = refl
data_at-past (item ∷ items) zero past = absurd (omega arith)
data_at-past (item ∷ items) (suc at) past = data_at-past items at (omega arith)

some_item : (items : List Item) (at : ℕ) → at < length items → Item
some_item [] at within = absurd (omega arith)
some_item (item ∷ items) at within = item

-- a part that is written over is a write of as many bytes
part_written : (bytes : List ℕ) (from n : ℕ) (ws : List ℕ) → from + n ≤ length bytes → with_part bytes from n ws ≡ with_bytes bytes from (take n (ws ++ drop (from + length ws) bytes))
unfolding with_part with_bytes
part_written bytes from n ws within =
    let content = take n (ws ++ drop (from + length ws) bytes) in
    let long : length content ≡ n = length-take-le n (ws ++ drop (from + length ws) bytes) (omega (arith, length-append ws (drop (from + length ws) bytes), length-drop (from + length ws) bytes)) in
    ap (λ tail. take from bytes ++ (content ++ tail)) (drop-drop n from bytes ∙ ap (λ m. drop (from + m) bytes) (sym long)) ∙ sym (append_assoc (take from bytes) content (drop (from + length content) bytes))

part_none : (bytes : List ℕ) (from : ℕ) (ws : List ℕ) → with_part bytes from 0 ws ≡ bytes
unfolding with_part
part_none bytes from ws = take-append-drop from bytes

-- a packed leaf stays one, whatever is written over an item's data
pub packed_written : (bytes : List ℕ) (at : ℕ) (ws : List ℕ) → IsPacked bytes (items_in bytes) → IsPacked (with_data_bytes bytes at ws) (items_in (with_data_bytes bytes at ws))
packed_written bytes at ws h =
    let items = items_in bytes in
    let n = length (data_at items at) in
    let from = 101 + place_of items at in
    elim (cases_lt at (length items)) [
      | inl within ↦
          let d = some_item items at within in
          let end = data_inside bytes items at d h within in
          let size = h.size in
          let content = take n (ws ++ drop (from + length ws) bytes) in
          let long : length content ≡ n = length-take-le n (ws ++ drop (from + length ws) bytes) (omega (arith, length-append ws (drop (from + length ws) bytes), length-drop (from + length ws) bytes)) in
          rw (part_written bytes from n ws (omega arith)) (packed_itself _ _ (written bytes items at content h within long d))
      | inr past ↦
          let none : n ≡ 0 = ap length (data_at-past items at past) in
          rw (none, part_none bytes from ws) h
    ]

-- as many bytes as there were take their place
pub items_written : (bytes : List ℕ) (at : ℕ) (ws : List ℕ) → IsPacked bytes (items_in bytes) → at < length (items_in bytes) → length ws ≡ length (data_at (items_in bytes) at)
    → items_in (with_data_bytes bytes at ws) ≡ with_data (items_in bytes) at ws
items_written bytes at ws h within long =
    let items = items_in bytes in
    let d = some_item items at within in
    let end = data_inside bytes items at d h within in
    let size = h.size in
    let from = 101 + place_of items at in
    let n = length (data_at items at) in
    let same : with_data_bytes bytes at ws ≡ with_bytes bytes from ws = part_written bytes from n ws (omega arith) ∙ ap (λ part. with_bytes bytes from part) (take_at ws (drop (from + length ws) bytes) n long) in
    ap items_in same ∙ packed_items _ _ (written bytes items at ws h within long d)
