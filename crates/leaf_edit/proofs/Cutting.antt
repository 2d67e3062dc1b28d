-- The first items of a packed leaf, and none.
use Rattle.std.proofs.Common.{◌≡◌, ◌≤◌, ◌<◌, ◌+◌, ◌^◌, ℕ, List, [], ◌++◌, length, take, drop, get_or, refl, ap, arith, ◌∙◌, sym}
use Rattle.std.proofs.lemmas.List.{length-take-le, take-take, get_or-take, take-map}
use Rattle.blk_base.specs.Bytes.{with_bytes, number_bytes}
use Rattle.blk_base.specs.Leaf.{Item, data_of, count_of}
use Rattle.leaf_view.specs.Search.{keys_of}
use Rattle.leaf_edit.specs.Packed.{IsPacked, data_before, place_of}
use Rattle.leaf_edit.specs.Amounts.{data_before_le, data_before-is}
use Rattle.leaf_edit.specs.Fronts.{number_reads_back}
use Rattle.leaf_edit.specs.Parts.{part_in_back, drop-with_bytes, drop-with_bytes_here, length-with_bytes}
use Rattle.leaf_edit.specs.Rises.{rise-take}
use Rattle.leaf_edit.specs.Shifts.{header_in_back}

count_written : (b0 b1 : List ℕ) (n : ℕ) → length b0 ≡ 4096 → b1 ≡ with_bytes b0 96 (number_bytes 4 n) → n < 256 ^ 4 → count_of b1 ≡ n
count_written b0 b1 n long made small =
    let whole : drop 96 b1 ≡ number_bytes 4 n ++ drop (96 + 4) b0 = ap (drop 96) made ∙ drop-with_bytes_here b0 96 (number_bytes 4 n) (omega arith) in
    number_reads_back 4 b1 96 n (drop (96 + 4) b0) whole small

amount_in_front : (items : List Item) (at i : ℕ) → i ≤ at → data_before (take at items) i ≡ data_before items i
amount_in_front items at i within = data_before-is (take at items) i ∙ ap data_of (take-take i at items within) ∙ sym (data_before-is items i)

pub cut : (b0 b1 : List ℕ) (items : List Item) (at : ℕ) → IsPacked b0 items → at ≤ length items → b1 ≡ with_bytes b0 96 (number_bytes 4 at) → IsPacked b1 (take at items)
cut b0 b1 items at h within made =
    let long = h.size in
    let f = h.fits in
    let shorter = length-take-le at items within in
    let behind : drop 100 b1 ≡ drop 100 b0 = ap (drop 100) made ∙ drop-with_bytes b0 96 (number_bytes 4 at) 100 (omega arith) (omega arith) in record {
      size = rw made (length-with_bytes b0 96 (number_bytes 4 at) (omega arith) ∙ long);
      count = count_written b0 b1 at long made (omega arith) ∙ sym shorter;
      fits = omega (arith, shorter, sym (data_before-is items at), data_before_le items at);
      rise = rw (sym (take-map (λ item. item.0) at items)) (rise-take (keys_of items) at h.rise);
      headers = λ i d inside.
          let item : get_or (take at items) i d ≡ get_or items i d = get_or-take at items i d (omega arith) in
          rw (item, amount_in_front items at (i + 1) (omega arith)) (header_in_back b1 b0 100 i behind (omega arith) ∙ h.headers i d (omega arith));
      contents = λ i d inside.
          let item : get_or (take at items) i d ≡ get_or items i d = get_or-take at items i d (omega arith) in
          rw (item, amount_in_front items at (i + 1) (omega arith)) (part_in_back b1 b0 100 (101 + place_of items i) (length (get_or items i d).1) behind (omega arith) ∙ h.contents i d (omega arith));
    }

pub cut_all : (b0 b1 : List ℕ) → length b0 ≡ 4096 → b1 ≡ with_bytes b0 96 (number_bytes 4 0) → IsPacked b1 []
cut_all b0 b1 long made = record {
  size = rw made (length-with_bytes b0 96 (number_bytes 4 0) (omega arith) ∙ long);
  count = count_written b0 b1 0 long made (omega arith);
  fits = omega arith;
  rise = refl;
  headers = λ i d inside. absurd (omega arith);
  contents = λ i d inside. absurd (omega arith);
}
