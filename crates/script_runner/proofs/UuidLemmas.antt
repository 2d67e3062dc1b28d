-- The text of a uuid is what its reader reads.
use Rattle.std.proofs.Common.{◌≡◌, ◌≢◌, ◌<◌, ℕ, zero, suc, List, [], ◌∷◌, length, Bool, true, false, ◌&&◌, ◌==◌, Option, Some, None, slice_index, slice_index_or, All, refl, sym, ◌∙◌, ap, arith, if◌then◌else◌}
use Rattle.std.specs.List.{list_all}
use Rattle.std.proofs.lemmas.List.Sums.{AllPass-from_list_all, list_all-from_AllPass}
use Rattle.std.proofs.lemmas.Bool.Decides.{nat_tests}
use Rattle.uuid.specs.Text.{parsed, parsed_hyphenated, parsed_simple, has_hyphens, digits_of, hyphen_place, digit_place, is_hex_digit, byte_of_digits, by_index}
use Rattle.uuid.proofs.TextLemmas.{by_index_at, by_index_length, hyphens_pass}
use Rattle.script_runner.specs.Words.{IsHexDigit, IsUuidText}

is_hex : (byte : ℕ) → IsHexDigit byte → is_hex_digit byte ≡ true
is_hex byte digit = grind (arith, nat_tests)

from_hex : (byte : ℕ) → is_hex_digit byte ≡ true → IsHexDigit byte
from_hex byte test = grind (arith, nat_tests)

-- where the digits stand
record StandsApart (place : ℕ) : Type 0 where
  pub within : place < 36
  pub first : place ≢ 8
  pub second : place ≢ 13
  pub third : place ≢ 18
  pub fourth : place ≢ 23

stands_apart : (k : ℕ) → k < 32 → StandsApart (hyphen_place k)
stands_apart k within = record {
  within = grind (arith, nat_tests);
  first = grind (arith, nat_tests);
  second = grind (arith, nat_tests);
  third = grind (arith, nat_tests);
  fourth = grind (arith, nat_tests);
}

digit_within : (place : ℕ) → StandsApart place → digit_place place < 32
digit_within place apart = grind (arith, nat_tests)

place_of_digit : (place : ℕ) → StandsApart place → hyphen_place (digit_place place) ≡ place
place_of_digit place apart = grind (arith, nat_tests)

if_some : {A : Type 0} (test : Bool) (answer : Option A) (value : A) → (if test then answer else None) ≡ Some value → (test ≡ true) × (answer ≡ Some value)
if_some true answer value is = (refl, is)
if_some false answer value is = cc

both : (one two : Bool) → (one && two) ≡ true → (one ≡ true) × (two ≡ true)
both true two is = (refl, is)
both false two is = cc

is_hyphen : (byte : ℕ) → (byte == 45) ≡ true → byte ≡ 45
is_hyphen byte test = grind (arith, nat_tests)

hyphen_is : (byte : ℕ) → byte ≡ 45 → (byte == 45) ≡ true
hyphen_is byte is = grind (arith, nat_tests)

parsed_at_36 : (word : List ℕ) → length word ≡ 36 → parsed word ≡ parsed_hyphenated word
parsed_at_36 word size = rw size refl

has_hyphens_at : (word : List ℕ) → has_hyphens word ≡ true → All (λ place. slice_index word place ≡ 45) (8 ∷ 13 ∷ 18 ∷ 23 ∷ [])
has_hyphens_at word has zero d within = is_hyphen (slice_index word 8) (both _ _ (both _ _ (both _ _ has).0).0).0
has_hyphens_at word has (suc zero) d within = is_hyphen (slice_index word 13) (both _ _ (both _ _ (both _ _ has).0).0).1
has_hyphens_at word has (suc (suc zero)) d within = is_hyphen (slice_index word 18) (both _ _ (both _ _ has).0).1
has_hyphens_at word has (suc (suc (suc zero))) d within = is_hyphen (slice_index word 23) (both _ _ has).1
has_hyphens_at word has (suc (suc (suc (suc k)))) d within = absurd (omega (arith, within))

-- a text that is read as a uuid, and has 36 bytes, is the text of a uuid
pub text_from_parsed : (word bytes : List ℕ) → length word ≡ 36 → parsed word ≡ Some bytes → IsUuidText word
text_from_parsed word bytes size is =
    let hyphenated = if_some ((length word == 36) && has_hyphens word) (parsed_simple (digits_of word)) bytes (sym (parsed_at_36 word size) ∙ is) in
    let simple = if_some ((length (digits_of word) == 32) && list_all is_hex_digit (digits_of word)) (Some (by_index 16 (byte_of_digits (digits_of word)))) bytes hyphenated.1 in
    let all = AllPass-from_list_all is_hex_digit (digits_of word) (both _ _ simple.0).1 in record {
      size = size;
      hyphens = has_hyphens_at word (both _ _ hyphenated.0).1;
      digits = λ place within first second third fourth.
          let apart : StandsApart place = record { within = within; first = first; second = second; third = third; fourth = fourth } in
          let inside : digit_place place < length (digits_of word) = rw (by_index_length 32 (λ i. slice_index word (hyphen_place i))) (digit_within place apart) in
          let there : slice_index (digits_of word) (digit_place place) ≡ slice_index word (hyphen_place (digit_place place)) = by_index_at 32 (λ i. slice_index word (hyphen_place i)) (digit_place place) 0 (digit_within place apart) in
          let same : slice_index (digits_of word) (digit_place place) ≡ slice_index word place = there ∙ ap (slice_index word) (place_of_digit place apart) in
          from_hex (slice_index word place) (sym (ap is_hex_digit same) ∙ all (digit_place place) 0 inside);
    }

-- the text of a uuid is read as one
pub parsed_from_text : (word : List ℕ) → IsUuidText word → parsed word ≡ Some (by_index 16 (byte_of_digits (digits_of word)))
parsed_from_text word text =
    let hyphens : has_hyphens word ≡ true = rw (hyphen_is (slice_index word 8) (text.hyphens 0 0 (omega arith)), hyphen_is (slice_index word 13) (text.hyphens 1 0 (omega arith)), hyphen_is (slice_index word 18) (text.hyphens 2 0 (omega arith)), hyphen_is (slice_index word 23) (text.hyphens 3 0 (omega arith))) refl in
    let count : length (digits_of word) ≡ 32 = by_index_length 32 (λ i. slice_index word (hyphen_place i)) in
    let all : list_all is_hex_digit (digits_of word) ≡ true = list_all-from_AllPass is_hex_digit (digits_of word) (λ k d within.
    let inside : k < 32 = omega (arith, within, count) in
    let apart = stands_apart k inside in
    let there : slice_index_or (digits_of word) k d ≡ slice_index word (hyphen_place k) = by_index_at 32 (λ i. slice_index word (hyphen_place i)) k d inside in
    ap is_hex_digit there ∙ is_hex (slice_index word (hyphen_place k)) (text.digits (hyphen_place k) apart.within apart.first apart.second apart.third apart.fourth)) in
    parsed_at_36 word text.size ∙ sym (hyphens_pass word text.size hyphens) ∙ rw (count, all) refl
