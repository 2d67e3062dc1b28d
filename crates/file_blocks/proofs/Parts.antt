-- Bytes of a file by the numbers of its blocks.
use Rattle.std.proofs.Common.{◌≡◌, ℕ, ◌≤◌, ◌+◌, ◌-◌, ◌/◌, ◌%◌, zero, suc, List, [], ◌∷◌, ◌++◌, Option, map, replicate, slice_index, unwrap_or, refl, sym, ap, ◌∙◌, arith, add-zero, zero-add}
use Rattle.std.specs.List.{range_with_len}
use Rattle.std.specs.FinMap.{get}
use Rattle.std.proofs.lemmas.List.{append_assoc, map-append}
use Rattle.std.proofs.lemmas.List.FromFn.{map-range_with_len_more}
use Rattle.flat_model.specs.Contents.{byte_at}
use Rattle.flat_model.specs.Records.{Blocks}

pub byte_of_file : (blocks : Blocks) (number offset : ℕ) (block : Option (List ℕ)) → block ≡ get blocks number → offset / 4096 ≡ number → slice_index (unwrap_or block (replicate 4096 0)) (offset % 4096) ≡ byte_at blocks offset
byte_of_file blocks number offset block is at = ap (λ o. slice_index (unwrap_or o (replicate 4096 0)) (offset % 4096)) (is ∙ ap (get blocks) (sym at))

range_both : (a n m : ℕ) → range_with_len a (n + m) ≡ range_with_len a n ++ range_with_len (a + n) m
range_both a zero m = λ i. range_with_len (sym (add-zero a) i) (zero-add m i)
range_both a (suc n) m =
    let long : suc n + m ≡ suc (n + m) = omega arith in
    let start : (a + 1) + n ≡ a + suc n = omega arith in
    ap (range_with_len a) long ∙ ap (λ xs. a ∷ xs) (range_both (a + 1) n m ∙ ap (λ k. range_with_len (a + 1) n ++ range_with_len k m) start)

-- one byte more
pub push_more : {X : Type 0} (f : ℕ → X) (a j : ℕ) (before items : List X) (x : X) → a ≤ j → items ≡ before ++ map f (range_with_len a (j - a)) → x ≡ f j → items ++ x ∷ [] ≡ before ++ map f (range_with_len a (j + 1 - a))
push_more f a j before items x low is last =
    let here : a + (j - a) ≡ j = omega (arith, low) in
    let long : j - a + 1 ≡ j + 1 - a = omega (arith, low) in
    (λ i. is i ++ last i ∷ []) ∙ append_assoc before (map f (range_with_len a (j - a))) (f j ∷ [])
    ∙ ap (λ xs. before ++ xs) (sym (map-range_with_len_more f a (j - a) j here) ∙ ap (λ n. map f (range_with_len a n)) long)

-- the bytes of one part behind those of another
pub read_more : (f : ℕ → ℕ) (a j k : ℕ) → a ≤ j → j ≤ k → map f (range_with_len a (j - a)) ++ map f (range_with_len j (k - j)) ≡ map f (range_with_len a (k - a))
read_more f a j k low high =
    let here : a + (j - a) ≡ j = omega (arith, low) in
    let long : j - a + (k - j) ≡ k - a = omega (arith, low, high) in
    sym (map-append f (range_with_len a (j - a)) (range_with_len j (k - j)))
    ∙ ap (map f) (ap (λ s. range_with_len a (j - a) ++ range_with_len s (k - j)) (sym here) ∙ sym (range_both a (j - a) (k - j)) ∙ ap (range_with_len a) long)

-- a hole reads as zeros
pub zero_byte : (n place : ℕ) → slice_index (replicate n 0) place ≡ 0
zero_byte zero place = refl
zero_byte (suc n) zero = refl
zero_byte (suc n) (suc place) = zero_byte n place
