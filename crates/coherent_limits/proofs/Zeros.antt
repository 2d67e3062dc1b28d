-- Bytes of a block that are all zeros.
use Rattle.std.proofs.Common.{◌≡◌, ◌↔◌, ◌≤◌, ◌<◌, ◌+◌, ◌-◌, ℕ, Bool, IsTrue, nat_eq, List, length, drop, replicate, get_or, sym, take, ap, ◌∙◌, arith}
use Rattle.std.proofs.lemmas.List.{get_or-drop, get_or-replicate, get_or_default, length-drop, length-replicate, same_lists, take_all}
use Rattle.std.specs.Cmp.Lexicographic.{bytes_decides, pointwise}
use Rattle.std.specs.Prelude.{slice_index}

abbrev zeros : List ℕ
zeros = replicate 4096 0

-- what the ends of two blocks being the same says of each byte
zeros_there : (block : List ℕ) (from : ℕ) → drop from block ≡ drop from zeros → (at : ℕ) → from ≤ at → at < 4096 → get_or block at 0 ≡ 0
zeros_there block from same at past low =
    let place : from + (at - from) ≡ at = omega (arith, past) in
    sym (ap (λ (n : ℕ). get_or block n 0) place) ∙ sym (get_or-drop from block (at - from) 0)
    ∙ ap (λ (bytes : List ℕ). get_or bytes (at - from) 0) same ∙ get_or-drop from zeros (at - from) 0
    ∙ ap (λ (n : ℕ). get_or zeros n 0) place ∙ get_or-replicate 4096 at 0 0 low

-- the end of a block is that of one of zeros alone where each of its bytes is 0
ends_alike : (block : List ℕ) (from : ℕ) → length block ≡ 4096 → from < 4096 → ((at : ℕ) → from ≤ at → at < 4096 → get_or block at 0 ≡ 0) → drop from block ≡ drop from zeros
ends_alike block from long below each = same_lists (drop from block) (drop from zeros) lengths bytes
  where
    left : length (drop from block) ≡ 4096 - from
    left = length-drop from block ∙ ap (λ (n : ℕ). n - from) long

    whole : length zeros ≡ 4096
    whole = length-replicate {A = ℕ} 4096 0

    lengths : length (drop from block) ≡ length (drop from zeros)
    lengths = left ∙ sym (length-drop from zeros ∙ ap (λ (n : ℕ). n - from) whole)

    bytes : (at d : ℕ) → at < length (drop from block) → get_or (drop from block) at d ≡ get_or (drop from zeros) at d
    bytes at d low =
        let inside : from + at < 4096 = omega (arith, low, left) in
        let past : from ≤ from + at = omega arith in
        let in_block : from + at < length block = omega (arith, inside, long) in
        get_or-drop from block at d ∙ get_or_default block (from + at) d 0 in_block ∙ each (from + at) past inside
        ∙ sym (get_or-drop from zeros at d ∙ get_or-replicate 4096 (from + at) 0 d inside)

-- the end of a block as a slice has it
abbrev end_of : ℕ → List ℕ → List ℕ
end_of from bytes = take (4096 - from) (drop from bytes)

pub are_zeros_is : (block : List ℕ) (from : ℕ) (answer : Bool) → length block ≡ 4096 → from < 4096 → answer ≡ pointwise nat_eq (end_of from block) (end_of from zeros)
    → IsTrue answer ↔ ((at : ℕ) → from ≤ at → at < 4096 → slice_index block at ≡ 0)
are_zeros_is block from answer long below is = (
  λ pass. zeros_there block from (sym (whole block long) ∙ (bytes_decides (end_of from block) (end_of from zeros)).0 (sym is ∙ pass) ∙ whole zeros zeros_long),
  λ each. is ∙ (bytes_decides (end_of from block) (end_of from zeros)).1 (whole block long ∙ ends_alike block from long below each ∙ sym (whole zeros zeros_long)),
)
  where
    zeros_long : length zeros ≡ 4096
    zeros_long = length-replicate {A = ℕ} 4096 0

    whole : (bytes : List ℕ) → length bytes ≡ 4096 → end_of from bytes ≡ drop from bytes
    whole bytes full = take_all (4096 - from) (drop from bytes) (omega (arith, length-drop from bytes, full))
