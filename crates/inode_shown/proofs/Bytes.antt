-- The sum of a file's bytes, block by block.
use Rattle.std.proofs.Common.{◌≡◌, ℕ, ◌<◌, ◌≤◌, ◌+◌, ◌-◌, ◌*◌, ◌/◌, ◌%◌, min, zero, suc, List, [], ◌∷◌, ◌++◌, Option, map, drop, take, length, replicate, slice_index, unwrap_or, refl, sym, ap, ◌∙◌, arith, add-zero, zero-add}
use Rattle.std.specs.List.{range_with_len}
use Rattle.std.specs.FinMap.{get}
use Rattle.std.proofs.lemmas.List.{map-append}
use Rattle.blk_base.specs.Crc.{register_after}
use Rattle.blk_base.proofs.CrcLemmas.{register_after-append}
use Rattle.flat_model.specs.Contents.{byte_at, bytes_read}
use Rattle.flat_model.specs.Records.{Blocks, FileRecord}

range_both : (a n m : ℕ) → range_with_len a (n + m) ≡ range_with_len a n ++ range_with_len (a + n) m
range_both a zero m = λ i. range_with_len (sym (add-zero a) i) (zero-add m i)
range_both a (suc n) m =
    let long : suc n + m ≡ suc (n + m) = omega arith in
    let start : (a + 1) + n ≡ a + suc n = omega arith in
    ap (range_with_len a) long ∙ ap (λ xs. a ∷ xs) (range_both (a + 1) n m ∙ ap (λ k. range_with_len (a + 1) n ++ range_with_len k m) start)

-- the first elements by their places
pub front_by_places : (xs : List ℕ) (count : ℕ) → count ≤ length xs → take count xs ≡ map (slice_index xs) (range_with_len 0 count)
front_by_places xs count few = go 0 count (omega (arith, few))
  where
    next : (ys : List ℕ) (at : ℕ) → at < length ys → drop at ys ≡ slice_index ys at ∷ drop (suc at) ys
    next [] at below = absurd (omega arith)
    next (y ∷ ys) zero below = refl
    next (y ∷ ys) (suc at) below = next ys at (omega (arith, below))

    go : (at n : ℕ) → at + n ≤ length xs → take n (drop at xs) ≡ map (slice_index xs) (range_with_len at n)
    go at zero fits = refl
    go at (suc n) fits =
        let one : suc at ≡ at + 1 = omega arith in
        ap (take (suc n)) (next xs at (omega (arith, fits)))
        ∙ ap (λ (ys : List ℕ). slice_index xs at ∷ ys) (ap (λ (k : ℕ). take n (drop k xs)) one ∙ go (at + 1) n (omega (arith, fits)))

-- the bytes of one block of a file
part_of_block : (blocks : Blocks) (number : ℕ) (block : Option (List ℕ)) → block ≡ get blocks number → (from count : ℕ) → from + count ≤ 4096
    → map (slice_index (unwrap_or block (replicate 4096 0))) (range_with_len from count) ≡ map (byte_at blocks) (range_with_len (4096 * number + from) count)
part_of_block blocks number block is from zero fits = refl
part_of_block blocks number block is from (suc count) fits =
    let offset = 4096 * number + from in
    let at : offset / 4096 ≡ number = omega (arith, fits) in
    let place : offset % 4096 ≡ from = omega (arith, fits) in
    let next : 4096 * number + (from + 1) ≡ offset + 1 = omega arith in
    let one : slice_index (unwrap_or block (replicate 4096 0)) from ≡ byte_at blocks offset =
    ap (slice_index (unwrap_or block (replicate 4096 0))) (sym place) ∙ ap (λ o. slice_index (unwrap_or o (replicate 4096 0)) (offset % 4096)) (is ∙ ap (get blocks) (sym at)) in
    (λ i. one i ∷ (part_of_block blocks number block is (from + 1) count (omega (arith, fits)) ∙ ap (λ (k : ℕ). map (byte_at blocks) (range_with_len k count)) next) i)

-- the register behind the first bytes of one block more
pub register_more : (blocks : Blocks) (start register number count : ℕ) (block : Option (List ℕ)) → block ≡ get blocks number → count ≤ 4096 → register ≡ register_after start (map (byte_at blocks) (range_with_len 0 (4096 * number)))
    → register_after register (map (slice_index (unwrap_or block (replicate 4096 0))) (range_with_len 0 count)) ≡ register_after start (map (byte_at blocks) (range_with_len 0 (4096 * number + count)))
register_more blocks start register number count block is few before =
    let none : 4096 * number + 0 ≡ 0 + 4096 * number = omega arith in
    (λ i. register_after (before i) (part_of_block blocks number block is 0 count (omega (arith, few)) i))
    ∙ sym (register_after-append start (map (byte_at blocks) (range_with_len 0 (4096 * number))) (map (byte_at blocks) (range_with_len (4096 * number + 0) count)))
    ∙ ap (register_after start) (ap (λ (k : ℕ). map (byte_at blocks) (range_with_len 0 (4096 * number)) ++ map (byte_at blocks) (range_with_len k count)) none
    ∙ sym (map-append (byte_at blocks) (range_with_len 0 (4096 * number)) (range_with_len (0 + 4096 * number) count)) ∙ ap (map (byte_at blocks)) (sym (range_both 0 (4096 * number) count)))

-- all bytes of a file
pub whole_read : (file : FileRecord) (count : ℕ) → file.size ≡ count → map (byte_at file.blocks) (range_with_len 0 count) ≡ bytes_read file 0 file.size
unfolding bytes_read
whole_read file count is =
    let same : count ≡ min file.size (0 + file.size) - 0 = omega (arith, is) in
    ap (λ (n : ℕ). map (byte_at file.blocks) (range_with_len 0 n)) same
