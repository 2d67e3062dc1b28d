-- A packed leaf is a leaf's body.
use Rattle.std.proofs.Common.{◌≡◌, ◌<◌, ◌+◌, ◌-◌, ℕ, suc, zero, List, [], ◌∷◌, length, get_or, true, ap, arith, ◌∙◌, sym, subst, Some, Ok}
use Rattle.std.proofs.lemmas.Option.{slice_get-get_or}
use Rattle.blk_base.specs.declared.key.Key.{Key}
use Rattle.blk_base.specs.Bytes.{bytes_at}
use Rattle.blk_base.specs.Keys.{KeyBelow, keys_rise}
use Rattle.blk_base.specs.Leaf.{Item, IsLeafBody, leaf_body_of, item_of, item_key, item_offset, item_size, item_end}
use Rattle.leaf_view.specs.Listed.{items_in}
use Rattle.leaf_view.specs.Search.{keys_of}
use Rattle.leaf_view.proofs.LeafLaws.{leaf_body_from, leaf_body_listed}
use Rattle.leaf_edit.specs.Packed.{IsPacked, data_before, place_of}
use Rattle.leaf_edit.specs.Amounts.{data_before_more, data_before_le, data_before_rises}
use Rattle.leaf_edit.specs.Rises.{rise_head, rise_tail}

-- each key is below the next
rise_at : (items : List Item) (i : ℕ) (d : Item) → keys_rise (keys_of items) ≡ true → suc i < length items → KeyBelow (get_or items i d).0 (get_or items (suc i) d).0
rise_at [] i d h within = absurd (omega arith)
rise_at (a ∷ []) i d h within = absurd (omega arith)
rise_at (a ∷ b ∷ items) zero d h within = rise_head a.0 b.0 (keys_of items) h
rise_at (a ∷ b ∷ items) (suc i) d h within = rise_at (b ∷ items) i d (rise_tail a.0 (keys_of (b ∷ items)) h) (omega arith)

-- the items by the headers
item_is : (bytes : List ℕ) (items : List Item) (i : ℕ) (d : Item) → IsPacked bytes items → i < length items → get_or items i d ≡ item_of bytes i
item_is bytes items i d h within =
    let header = h.headers i d within in
    let stored : (get_or items i d).1 ≡ bytes_at (item_size bytes i) bytes (101 + item_offset bytes i) =
    sym (h.contents i d within) ∙ ap (λ p. bytes_at (length (get_or items i d).1) bytes (101 + p)) (sym (ap (λ x. x.offset) header)) ∙ ap (λ n. bytes_at n bytes (101 + item_offset bytes i)) (sym (ap (λ x. x.size) header)) in
    let key : (get_or items i d).0 ≡ item_key bytes i = sym (ap (λ x. x.key) header) in
    ap (λ k. (k, (get_or items i d).1)) key ∙ ap (λ c. (item_key bytes i, c)) stored

offset_is : (bytes : List ℕ) (items : List Item) (i : ℕ) → IsPacked bytes items → i < length items → item_offset bytes i ≡ place_of items i
offset_is bytes items i h within = ap (λ x. x.offset) (h.headers i (item_of bytes i) within)

end_is : (bytes : List ℕ) (items : List Item) (i : ℕ) → IsPacked bytes items → i < length items → item_end bytes i ≡ 3995 - data_before items i
end_is bytes items i h within =
    let size = ap (λ x. x.size) (h.headers i (item_of bytes i) within) in
    let f = h.fits in
    omega (arith, size, offset_is bytes items i h within, data_before_more items i (item_of bytes i) within, data_before_le items (i + 1))

below_both : (a b x y : Key) → a ≡ x → b ≡ y → KeyBelow a b → KeyBelow x y
below_both a b x y p q h = subst (λ (k : Key). KeyBelow x k) q (subst (λ (k : Key). KeyBelow k b) p h)

pub packed_body : (bytes : List ℕ) (items : List Item) → IsPacked bytes items → IsLeafBody bytes items
packed_body bytes items h =
    let f = h.fits in record {
      count = h.count;
      most = omega arith;
      each = λ i within. slice_get-get_or items i (item_of bytes i) within ∙ ap (λ item. Some item) (item_is bytes items i (item_of bytes i) h within);
      order = λ i within.
          let d = item_of bytes i in
          let one : (get_or items i d).0 ≡ item_key bytes i = ap (λ item. item.0) (item_is bytes items i d h (omega arith)) in
          let two : (get_or items (i + 1) d).0 ≡ item_key bytes (i + 1) = ap (λ item. item.0) (item_is bytes items (i + 1) d h within) in
          let next : suc i ≡ i + 1 = omega arith in
          below_both _ _ _ _ one (ap (λ n. (get_or items n d).0) next ∙ two) (rise_at items i d h.rise (omega arith));
      behind_headers = λ i within. omega (arith, offset_is bytes items i h within, data_before_le items (i + 1));
      inside = λ i within. omega (arith, end_is bytes items i h within);
      apart = λ i j at lower within one other.
          let from = one.from in
          let below = other.below in
          omega (arith, offset_is bytes items i h (omega arith), end_is bytes items j h within, data_before_rises items (i + 1) j (omega arith));
    }

-- what the checks give of a packed leaf
pub packed_passes : (bytes : List ℕ) (items : List Item) → IsPacked bytes items → leaf_body_of bytes ≡ Ok items
packed_passes bytes items h = leaf_body_from bytes items (packed_body bytes items h)

pub packed_items : (bytes : List ℕ) (items : List Item) → IsPacked bytes items → items_in bytes ≡ items
packed_items bytes items h = sym (leaf_body_listed bytes items (packed_passes bytes items h))

pub packed_itself : (bytes : List ℕ) (items : List Item) → IsPacked bytes items → IsPacked bytes (items_in bytes)
packed_itself bytes items h = rw (packed_items bytes items h) h
