-- A loan of an item's data: where they lie, and what the editor ends as.
use Rattle.std.proofs.Common.{◌≡◌, ◌<◌, ◌+◌, ◌-◌, ℕ, List, length, refl, ap, arith, ◌∙◌, subst, sym, MutBor}
use Rattle.blk_base.specs.Bytes.{bytes_at}
use Rattle.blk_base.specs.Leaf.{item_of}
use Rattle.leaf_view.specs.Listed.{items_in}
use Rattle.leaf_edit.specs.declared.leaf_mut.LeafMut.{LeafMut}
use Rattle.leaf_edit.specs.Amounts.{data_before_more, data_before_le}
use Rattle.leaf_edit.specs.Packed.{IsPacked, data_before, place_of}
use Rattle.leaf_edit.specs.Rewriting.{data_at-get_or, stored, packed_written}
use Rattle.leaf_edit.specs.Written.{data_at, with_part, with_data_bytes}
use denote.Struct.Props.{props}
use mathlib.Core.HLevel.{is_prop→PathP}

-- two proofs that a leaf is packed are equal
packed_prop : (bytes : List ℕ) → IsProp (IsPacked bytes (items_in bytes))
packed_prop bytes = hlevel props

pub same_leaf : (block : MutBor (List ℕ)) (one other : List ℕ) (e : one ≡ other) (p : IsPacked one (items_in one)) (q : IsPacked other (items_in other))
    → ◌≡◌ {A = LeafMut} (record { block = record block { now = one }; packed = p }) (record { block = record block { now = other }; packed = q })
same_leaf block one other e p q = λ i. record {
  block = record block { now = e i };
  packed = is_prop→PathP (λ j. IsPacked (e j) (items_in (e j))) (λ j. packed_prop (e j)) p q i;
}

module _ (bytes : List ℕ) (at bound low : ℕ) (h : IsPacked bytes (items_in bytes)) (within : at < length (items_in bytes)) (bound_is : bound ≡ 3995 - data_before (items_in bytes) at) (low_is : low ≡ place_of (items_in bytes) at) where
  pub size_is : bound - low ≡ length (data_at (items_in bytes) at)
  size_is =
      let f = h.fits in
      let items = items_in bytes in
      let d = item_of bytes 0 in
      omega (arith, bound_is, low_is, ap length (data_at-get_or items at d within), data_before_more items at d within, data_before_le items (at + 1))

  pub bytes_are : (w : List ℕ) → with_part bytes (101 + low) (bound - low) w ≡ with_data_bytes bytes at w
  bytes_are w = ap (λ n. with_part bytes (101 + n) (bound - low) w) low_is ∙ ap (λ n. with_part bytes (101 + place_of (items_in bytes) at) n w) size_is

  pub stays_packed : (w : List ℕ) → IsPacked (with_part bytes (101 + low) (bound - low) w) (items_in (with_part bytes (101 + low) (bound - low) w))
  stays_packed w = subst (λ (b : List ℕ). IsPacked b (items_in b)) (sym (bytes_are w)) (packed_written bytes at w h)

  pub data_are : bytes_at (bound - low) bytes (101 + low) ≡ data_at (items_in bytes) at
  data_are =
      let items = items_in bytes in
      ap (λ n. bytes_at (bound - low) bytes (101 + n)) low_is ∙ ap (λ n. bytes_at n bytes (101 + place_of items at)) size_is
      ∙ stored bytes items at (data_at items at) h within refl (item_of bytes 0)
