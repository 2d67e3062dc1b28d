-- Fields written one behind the other, from the front on.
use Rattle.std.proofs.Common.{◌≡◌, ℕ, ◌<◌, List, [], ◌∷◌, ◌++◌, length, drop, refl, ap, sym, ◌∙◌, arith, length-append}
use Rattle.std.proofs.lemmas.List.{drop-drop, drop_all, append-nil}
use Rattle.std.proofs.Math.Seq.{take-append_seam, drop-append-add}
use Rattle.std.proofs.Math.Nat.{mod-eq_of_lt}
use Rattle.blk_base.specs.Bytes.{number_bytes, with_bytes}

-- the bytes are the old ones with others written over their front
pub record IsWritten (old now front : List ℕ) : Type 0 where
  pub is : now ≡ front ++ drop (length front) old

-- nothing is written yet
pub written_none : (old : List ℕ) → IsWritten old old []
written_none old = record { is = refl }

written_step : (old front content : List ℕ) → with_bytes (front ++ drop (length front) old) (length front) content ≡ (front ++ content) ++ drop (length (front ++ content)) old
unfolding with_bytes
written_step old front content =
    let first = take-append_seam front (drop (length front) old) in
    let last = drop-append-add front (drop (length front) old) (length content) ∙ drop-drop (length content) (length front) old in
    let size = length-append front content in
    rw (first, last, size) refl

-- one field more
pub written_more : {old now next front : List ℕ} (content : List ℕ) (at : ℕ)
    → IsWritten old now front → next ≡ with_bytes now at content → length front ≡ at → IsWritten old next (front ++ content)
written_more {old} {now} {next} {front} content at w n e =
    record { is = n ∙ ap (λ (b : List ℕ). with_bytes b at content) w.is ∙ ap (λ (k : ℕ). with_bytes (front ++ drop (length front) old) k content) (sym e) ∙ written_step old front content }

-- all of them are written
pub written_all : {old now front : List ℕ} → IsWritten old now front → length old ≡ length front → now ≡ front
written_all {old} {now} {front} w e =
    let rest : drop (length front) old ≡ [] = drop_all (length front) old (omega arith) in
    w.is ∙ ap (λ (b : List ℕ). front ++ b) rest ∙ append-nil front

-- a byte is its own spelling
pub byte_spelling : (n : ℕ) → n < 256 → n ∷ [] ≡ number_bytes 1 n
byte_spelling n h = ap (λ (x : ℕ). x ∷ []) (sym (mod-eq_of_lt h))
