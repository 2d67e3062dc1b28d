-- A leaf that is seen to be packed.
use Rattle.std.proofs.Common.{◌≡◌, ◌≤◌, ◌<◌, ◌+◌, ◌-◌, ◌*◌, ℕ, suc, zero, List, [], ◌∷◌, ◌++◌, length, drop, get_or, map, true, refl, ap, arith, ◌∙◌, sym, inl, inr, Result, Ok, Err, IsOk, length-drop}
use Rattle.std.proofs.lemmas.Bool.{cases_eq}
use Rattle.std.proofs.lemmas.List.{length-take-le}
use Rattle.std.specs.List.{range_with_len}
use Rattle.blk_base.specs.declared.fault.BlockFault.{BlockFault}
use Rattle.blk_base.specs.Bytes.{bytes_at}
use Rattle.blk_base.specs.Keys.{keys_rise}
use Rattle.blk_base.specs.Leaf.{Item, IsLeafBody, leaf_body_of, data_of, room_of, count_of, item_of, item_key, item_offset, item_size}
use Rattle.leaf_view.specs.Listed.{items_in}
use Rattle.leaf_view.specs.Search.{keys_of}
use Rattle.leaf_view.proofs.LeafLaws.{body_passes, leaf_body_means, leaf_body_listed}
use Rattle.leaf_edit.specs.Packed.{IsPacked, header_of, data_before, place_of, packed_header}
use Rattle.leaf_edit.specs.Amounts.{data_before_more, data_before_none}
use Rattle.leaf_edit.proofs.Crowd.{body_fits, item_at}
use Rattle.leaf_edit.specs.Fronts.{same_header}
use Rattle.leaf_edit.specs.Passing.{packed_items}

-- the items so far stand where they stand in a packed leaf
pub record PackedSoFar (bytes : List ℕ) (items : List Item) (i bound : ℕ) : Type 0 where
  pub bound_is : bound ≡ 3995 - data_before items i
  pub offsets : (j : ℕ) → j < i → item_offset bytes j ≡ place_of items j

given : (bytes : List ℕ) (r : Result (List Item) BlockFault) → leaf_body_of bytes ≡ r → IsOk r → leaf_body_of bytes ≡ Ok (items_in bytes)
given bytes (Ok items) is ok = is ∙ ap (λ list. Ok list) (leaf_body_listed bytes items is)
given bytes (Err fault) is ok = cc

pub ok_listed : (bytes : List ℕ) → IsOk (leaf_body_of bytes) → leaf_body_of bytes ≡ Ok (items_in bytes)
ok_listed bytes ok = given bytes (leaf_body_of bytes) refl ok

pub ok_body : (bytes : List ℕ) → IsOk (leaf_body_of bytes) → IsLeafBody bytes (items_in bytes)
ok_body bytes ok = leaf_body_means bytes (items_in bytes) (ok_listed bytes ok)

keys_by_places : (bytes : List ℕ) (a n : ℕ) → keys_of (map (item_of bytes) (range_with_len a n)) ≡ map (item_key bytes) (range_with_len a n)
keys_by_places bytes a zero = refl
keys_by_places bytes a (suc n) = ap (λ keys. item_key bytes a ∷ keys) (keys_by_places bytes (a + 1) n)

pub ok_rise : (bytes : List ℕ) → IsOk (leaf_body_of bytes) → keys_rise (keys_of (items_in bytes)) ≡ true
ok_rise bytes ok = ap keys_rise (keys_by_places bytes 0 (count_of bytes)) ∙ (body_passes bytes (items_in bytes) (ok_listed bytes ok)).0.order

size_is : (bytes : List ℕ) (i : ℕ) → length bytes ≡ 4096 → IsLeafBody bytes (items_in bytes) → i < length (items_in bytes) → length (get_or (items_in bytes) i (item_of bytes i)).1 ≡ item_size bytes i
size_is bytes i long h within =
    ap (λ item. length item.1) (item_at bytes (items_in bytes) i (item_of bytes i) h within)
    ∙ length-take-le (item_size bytes i) (drop (101 + item_offset bytes i) bytes) (omega (arith, length-drop (101 + item_offset bytes i) bytes, h.inside i within))

pub packed_more : (bytes : List ℕ) (i bound : ℕ) → length bytes ≡ 4096 → IsLeafBody bytes (items_in bytes) → i < length (items_in bytes) → PackedSoFar bytes (items_in bytes) i bound → item_offset bytes i + item_size bytes i ≡ bound
    → PackedSoFar bytes (items_in bytes) (i + 1) (item_offset bytes i)
packed_more bytes i bound long body within h ends =
    let items = items_in bytes in
    let here : item_offset bytes i ≡ place_of items i =
    let b = h.bound_is in
    omega (arith, size_is bytes i long body within, data_before_more items i (item_of bytes i) within) in record {
      bound_is = here;
      offsets = λ j lower. elim (cases_eq j i) [ inl e ↦ rw e here | inr other ↦ h.offsets j (omega arith) ];
    }

pub packed_none : (bytes : List ℕ) → PackedSoFar bytes (items_in bytes) 0 3995
packed_none bytes = record { bound_is = omega (arith, data_before_none (items_in bytes)); offsets = λ j lower. absurd (omega arith) }

pub packed_all : (bytes : List ℕ) (i bound : ℕ) → length bytes ≡ 4096 → IsOk (leaf_body_of bytes) → length (items_in bytes) ≤ i → PackedSoFar bytes (items_in bytes) i bound → IsPacked bytes (items_in bytes)
packed_all bytes i bound long ok all h =
    let items = items_in bytes in
    let body = ok_body bytes ok in record {
      size = long;
      count = body.count;
      fits = body_fits bytes items long body;
      rise = ok_rise bytes ok;
      headers = λ j d within.
          let item = item_at bytes items j d body within in
          let size : length (item_of bytes j).1 ≡ item_size bytes j = length-take-le (item_size bytes j) (drop (101 + item_offset bytes j) bytes) (omega (arith, length-drop (101 + item_offset bytes j) bytes, body.inside j within)) in
          rw item (same_header (header_of bytes j) (packed_header items j (item_of bytes j)) refl (h.offsets j (omega arith)) (sym size));
      contents = λ j d within.
          let item = item_at bytes items j d body within in
          let size : length (item_of bytes j).1 ≡ item_size bytes j = length-take-le (item_size bytes j) (drop (101 + item_offset bytes j) bytes) (omega (arith, length-drop (101 + item_offset bytes j) bytes, body.inside j within)) in
          rw item (ap (λ n. bytes_at n bytes (101 + place_of items j)) size ∙ ap (λ p. bytes_at (item_size bytes j) bytes (101 + p)) (sym (h.offsets j (omega arith))));
    }

-- a leaf that is packed anew: its items fit an empty leaf, in their order
listed_as : (bytes : List ℕ) (items : List Item) → leaf_body_of bytes ≡ Ok items → items_in bytes ≡ items
listed_as bytes items is = sym (leaf_body_listed bytes items is)

pub room_to_pack : (bytes first : List ℕ) (items : List Item) → length bytes ≡ 4096 → leaf_body_of bytes ≡ Ok items → IsPacked first [] → 25 * (length items - 0) + data_of items ≤ room_of (items_in first)
room_to_pack bytes first items long is empty =
    let fits = body_fits bytes items long (leaf_body_means bytes items is) in
    rw (packed_items first [] empty) (omega arith)

pub order_to_pack : (bytes first : List ℕ) (items : List Item) → IsOk (leaf_body_of bytes) → leaf_body_of bytes ≡ Ok items → IsPacked first [] → keys_rise (keys_of (items_in first ++ items)) ≡ true
order_to_pack bytes first items ok is empty = rw (packed_items first [] empty, sym (listed_as bytes items is)) (ok_rise bytes ok)

pub packed_anew : (bytes first new : List ℕ) (items : List Item) → leaf_body_of bytes ≡ Ok items → IsPacked first [] → IsPacked new (items_in first ++ items) → IsPacked new (items_in bytes)
packed_anew bytes first new items is empty packed =
    let all : items_in first ++ items ≡ items_in bytes = ap (λ list. list ++ items) (packed_items first [] empty) ∙ sym (listed_as bytes items is) in
    rw (sym all) packed
