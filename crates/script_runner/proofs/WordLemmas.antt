-- Lemmas on the words of a command.
use Rattle.std.proofs.Common.{◌≡◌, ◌≤◌, ◌<◌, ◌+◌, ◌-◌, ◌*◌, ◌⊎◌, ℕ, zero, suc, List, [], ◌∷◌, length, drop, slice_index, All, drop-cons, ap, sym, refl, ◌∙◌, arith}
use Rattle.script_runner.specs.Words.{IsDigit, IsNumber, number_behind}

-- more digits spell no smaller number
pub number_behind-grows : (front : ℕ) (digits : List ℕ) → front ≤ number_behind front digits
number_behind-grows front [] = omega arith
number_behind-grows front (digit ∷ digits) = omega (arith, number_behind-grows (10 * front + (digit - 48)) digits)

-- the digit at a place, and then those behind it
pub number_behind-drop : (word : List ℕ) (front place : ℕ) → place < length word
    → number_behind front (drop place word) ≡ number_behind (10 * front + (slice_index word place - 48)) (drop (suc place) word)
number_behind-drop word front place within = ap (number_behind front) (drop-cons word place 0 within)

-- a front that is too large makes the number so
pub number_is_above : (word : List ℕ) (most front place value : ℕ) → place < length word → number_behind front (drop place word) ≡ number_behind 0 word
    → most < 10 * front + (slice_index word place - 48) → IsNumber word value → most < value
number_is_above word most front place value within spells above is =
    omega (arith, number_behind-grows (10 * front + (slice_index word place - 48)) (drop (suc place) word), number_behind-drop word front place within, is.spells)

-- what holds of the byte at each place holds of all
pub All-from_index : (P : ℕ → Type 0) (word : List ℕ) → ((k : ℕ) → k < length word → P (slice_index word k)) → All P word
All-from_index P [] each k d within = absurd (omega (arith, within))
All-from_index P (byte ∷ word) each zero d within = each zero within
All-from_index P (byte ∷ word) each (suc k) d within =
    All-from_index P word (λ j inside. each (suc j) (omega (arith, inside))) k d (omega (arith, within))

drop-past : (place : ℕ) (word : List ℕ) → length word ≤ place → drop place word ≡ []
drop-past zero [] past = refl
drop-past zero (byte ∷ word) past = absurd (omega (arith, past))
drop-past (suc place) [] past = refl
drop-past (suc place) (byte ∷ word) past = drop-past place word (omega (arith, past))

-- a word that was read to its end
pub number_is_read : (word : List ℕ) (place value : ℕ) → length word ≤ place → 1 ≤ length word → (length word ≡ 1) ⊎ (48 < slice_index word 0)
    → ((k : ℕ) → k < place → IsDigit (slice_index word k)) → number_behind value (drop place word) ≡ number_behind 0 word → IsNumber word value
number_is_read word place value past some shortest digits spells = record {
  some = some;
  digits = All-from_index IsDigit word (λ k within. digits k (omega arith));
  shortest = shortest;
  spells = sym spells ∙ ap (number_behind value) (drop-past place word past);
}
