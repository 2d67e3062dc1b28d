-- What an editor of a leaf shows before and after an edit.
use Rattle.std.proofs.Common.{◌≡◌, ◌≤◌, ◌+◌, ◌-◌, ◌*◌, ℕ, true, List, [], ◌++◌, length, take, drop, refl, ap, arith, ◌∙◌, sym, Ok, IsOk, Result}
use Rattle.std.proofs.lemmas.Bool.{eq-eqb}
use Rattle.std.proofs.lemmas.Slice.Eq.{bytes_eq-Decides}
use Rattle.std.proofs.lemmas.List.{take-append-drop, drop-map}
use Rattle.blk_base.specs.declared.key.Want.{Want}
use Rattle.blk_base.specs.declared.fault.BlockFault.{BlockFault}
use Rattle.blk_base.specs.Crc.{block_sum}
use Rattle.blk_base.specs.Bytes.{bytes_at, field}
use Rattle.blk_base.specs.Keys.{keys_rise}
use Rattle.blk_base.specs.Leaf.{Item, leaf_body_of, after_header, data_of, room_of, count_of, HeaderFits}
use Rattle.leaf_view.specs.Listed.{items_in}
use Rattle.leaf_view.specs.Search.{keys_of}
use Rattle.leaf_view.proofs.LeafLaws.{leaf_body_listed}
use Rattle.leaf_edit.specs.Packed.{IsPacked, place_of}
use Rattle.leaf_edit.specs.Amounts.{data_of-append}
use Rattle.leaf_edit.specs.Parts.{part_in_back}
use Rattle.leaf_edit.specs.Passing.{packed_passes, packed_items, packed_itself}
use Rattle.leaf_edit.specs.Rises.{rise-drop}
use Rattle.leaf_edit.specs.Shifts.{header_in_back}

pub passes_itself : (bytes : List ℕ) (items : List Item) → IsPacked bytes items → leaf_body_of bytes ≡ Ok (items_in bytes)
passes_itself bytes items h = packed_passes bytes (items_in bytes) (packed_itself bytes items h)

pub is_ok : (bytes : List ℕ) (items : List Item) → IsPacked bytes items → IsOk (leaf_body_of bytes)
is_ok bytes items h = rw (packed_passes bytes items h) refl

pub viewed : (bytes : List ℕ) (view : List Item) → leaf_body_of bytes ≡ Ok view → view ≡ items_in bytes
viewed bytes view is = leaf_body_listed bytes view is

-- the items from a place on fit an empty leaf, in their order
pub split_room : (bytes : List ℕ) (items view others : List Item) (at : ℕ) → IsPacked bytes items → view ≡ items → others ≡ [] → 25 * (length view - at) + data_of (drop at view) ≤ room_of others
split_room bytes items view others at h same empty =
    let fits = h.fits in
    let parts : data_of (take at items) + data_of (drop at items) ≡ data_of items = sym (data_of-append (take at items) (drop at items)) ∙ ap data_of (take-append-drop at items) in
    rw (same, empty) (omega (arith, parts))

pub split_order : (bytes : List ℕ) (items view others : List Item) (at : ℕ) → IsPacked bytes items → view ≡ items → others ≡ [] → keys_rise (keys_of (others ++ drop at view)) ≡ true
split_order bytes items view others at h same empty =
    rw (same, empty) (ap keys_rise (sym (drop-map (λ item. item.0) at items)) ∙ rise-drop (keys_of items) at h.rise)

pub split_back : (new : List ℕ) (items view others : List Item) (at : ℕ) → view ≡ items → others ≡ [] → IsPacked new (others ++ drop at view) → items_in new ≡ drop at items
split_back new items view others at same empty h = packed_items new (others ++ drop at view) h ∙ ap (λ list. list ++ drop at view) empty ∙ ap (drop at) same

pub join_room : (view items others : List Item) → view ≡ others → 25 * length others + data_of others ≤ room_of items → 25 * (length view - 0) + data_of view ≤ room_of items
join_room view items others same room = rw same (omega arith)

pub join_order : (view items others : List Item) → view ≡ others → keys_rise (keys_of (items ++ others)) ≡ true → keys_rise (keys_of (items ++ view)) ≡ true
join_order view items others same order = rw same order

pub joined : (new : List ℕ) (view items others : List Item) → view ≡ others → IsPacked new (items ++ view) → items_in new ≡ items ++ others
joined new view items others same h = packed_items new (items ++ view) h ∙ ap (λ list. items ++ list) same

-- a seal leaves a packed leaf as it was
pub sealed_packed : (old new : List ℕ) (items : List Item) → length new ≡ 4096 → count_of new ≡ count_of old → drop 101 new ≡ drop 101 old → IsPacked old items → IsPacked new items
sealed_packed old new items long same_count same_body h = record {
  size = long;
  count = same_count ∙ h.count;
  fits = h.fits;
  rise = h.rise;
  headers = λ i d within. header_in_back new old 101 i same_body (omega arith) ∙ h.headers i d within;
  contents = λ i d within. part_in_back new old 101 (101 + place_of items i) _ same_body (omega arith) ∙ h.contents i d within;
}

-- a header that fits what is wanted passes the checks
pub header_passes : {A : Type 0} (want : Want) (bytes : List ℕ) (body : Result A BlockFault) → HeaderFits want bytes → after_header want bytes body ≡ body
header_passes want bytes body h =
    rw (
      eq-eqb (field 4 bytes 0) (block_sum bytes) h.sum,
      (bytes_eq-Decides (bytes_at 16 bytes 32) want.fsid).1 h.fsid,
      eq-eqb (field 8 bytes 48) want.at.0 h.address,
      eq-eqb (field 8 bytes 80) want.generation h.generation,
      eq-eqb (field 8 bytes 88) want.owner h.owner,
      eq-eqb (field 1 bytes 100) want.level h.level,
    ) refl
