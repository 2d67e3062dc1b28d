-- The word of the command, and what the sink was given.
use Rattle.std.proofs.Common.{◌≡◌, ◌≤◌, ◌<◌, ◌↔◌, ◌∷◌, [], ℕ, Bool, IsTrue, nat_eq, List, String, length, string_bytes, slice_index_or, ap, sym, ◌∙◌, arith}
use Rattle.std.specs.Cmp.Lexicographic.{bytes_decides, pointwise}
use Rattle.foreign_read.specs.Commands.{bytes_of}

-- the word of a list of one
pub one_word : {A : Type 0} (words : List (String A)) (word : String A) (text : List ℕ) → 1 ≤ length words → length words < 2 → word ≡ slice_index_or words 0 word → text ≡ string_bytes word → bytes_of words ≡ text ∷ []
one_word [] word text least most first is = absurd (omega (arith, least))
one_word (a ∷ []) word text least most first is = ap (λ (it : List ℕ). it ∷ []) (sym (is ∙ ap string_bytes first))
one_word (a ∷ b ∷ words) word text least most first is = absurd (omega (arith, most))

-- whether the one word is this
pub is_word : (words : List (List ℕ)) (text word : List ℕ) (test : Bool) → words ≡ text ∷ [] → test ≡ pointwise nat_eq text word → IsTrue test ↔ (words ≡ word ∷ [])
is_word words text word test one is = (
  λ pass. one ∙ ap (λ (it : List ℕ). it ∷ []) ((bytes_decides text word).0 (sym is ∙ pass)),
  λ same. is ∙ (bytes_decides text word).1 (ap (λ (all : List (List ℕ)). slice_index_or all 0 []) (sym one ∙ same)),
)
