-- Lists of parts: a part at a place, and the parts of a script.
use Rattle.std.proofs.Common.{◌≡◌, ◌≢◌, ◌≤◌, ◌<◌, ◌+◌, ◌-◌, inl, inr, ℕ, zero, suc, Bool, true, false, cond, eqb, ◌||◌, List, [], ◌∷◌, ◌++◌, length, drop, take, get_or, slice_index, ap, sym, refl, ◌∙◌, append_assoc, add-one, arith}
use denote.Ref.{Bor}
use Rattle.std.specs.List.{slice_split, before_first, after_first, position_or_len, list_any}
use Rattle.std.proofs.lemmas.Bool.{cases_lt}
use Rattle.std.proofs.lemmas.Bool.Decides.{nat_tests}
use Rattle.std.proofs.lemmas.List.{map_push, length-drop}
use Rattle.std.proofs.lemmas.List.Sums.{fails_before_first, position_or_len_is}
use Rattle.std.proofs.lemmas.List.Splits.{slice_split_first, slice_split_none, length-slice_split}
use Rattle.script_text.specs.Parts.{bytes_of}
use Rattle.script_text.specs.Words.{parts_at}
use Rattle.script_text.specs.Script.{is_empty_word, lines_of, without_empty_end}
use Rattle.script_text.proofs.WordLemmas.{drop-past}

-- all stands in front of the end
pub take-past : (place : ℕ) (word : List ℕ) → length word ≤ place → take place word ≡ word
take-past zero [] past = refl
take-past zero (byte ∷ word) past = absurd (omega (arith, past))
take-past (suc place) [] past = refl
take-past (suc place) (byte ∷ word) past = ap (λ (rest : List ℕ). byte ∷ rest) (take-past place word (omega (arith, past)))

-- the part at a place, and those behind it
pub part_at : (parts : List (Bor (List ℕ))) (place : ℕ) (d : Bor (List ℕ)) → place < length parts → drop place (bytes_of parts) ≡ (get_or parts place d).now ∷ drop (place + 1) (bytes_of parts)
part_at [] place d within = absurd (omega (arith, within))
part_at (first ∷ parts) zero d within = refl
part_at (first ∷ parts) (suc place) d within = rw (add-one (suc place)) (part_at parts place d (omega (arith, within)) ∙ rw (add-one place) refl)

-- nothing is left behind the end
pub parts_past : (parts : List (Bor (List ℕ))) (place : ℕ) → length parts ≤ place → drop place (bytes_of parts) ≡ []
parts_past [] zero past = refl
parts_past [] (suc place) past = refl
parts_past (first ∷ parts) zero past = absurd (omega (arith, past))
parts_past (first ∷ parts) (suc place) past = parts_past parts place (omega (arith, past))

-- a part without a byte
pub empty_found : (parts : List (Bor (List ℕ))) (place : ℕ) (d : Bor (List ℕ)) → place < length parts → is_empty_word (get_or parts place d).now ≡ true → list_any is_empty_word (drop place (bytes_of parts)) ≡ true
empty_found parts place d within empty = ap (list_any is_empty_word) (part_at parts place d within) ∙ ap (λ (b : Bool). b || list_any is_empty_word (drop (place + 1) (bytes_of parts))) empty

-- a part with bytes
pub empty_behind : (parts : List (Bor (List ℕ))) (place : ℕ) (d : Bor (List ℕ)) → place < length parts → is_empty_word (get_or parts place d).now ≡ false
    → list_any is_empty_word (drop place (bytes_of parts)) ≡ list_any is_empty_word (drop (place + 1) (bytes_of parts))
empty_behind parts place d within other = ap (list_any is_empty_word) (part_at parts place d within) ∙ ap (λ (b : Bool). b || list_any is_empty_word (drop (place + 1) (bytes_of parts))) other

-- ---- what stands in front of a byte and behind it

-- the first place of a byte
pub first_place : (bytes : List ℕ) (at place : ℕ) → place < length bytes → ((k : ℕ) → k < place → slice_index bytes k ≢ at) → slice_index bytes place ≡ at → position_or_len (λ byte. eqb byte at) bytes ≡ place
first_place bytes at place within before here = position_or_len_is (λ byte. eqb byte at) bytes place 0 (omega arith) (λ k lt. let other = before k lt in grind (arith, nat_tests)) (λ _. grind (arith, nat_tests))

-- a byte that stands nowhere
pub no_place : (bytes : List ℕ) (at : ℕ) → ((k : ℕ) → k < length bytes → slice_index bytes k ≢ at) → position_or_len (λ byte. eqb byte at) bytes ≡ length bytes
no_place bytes at before = position_or_len_is (λ byte. eqb byte at) bytes (length bytes) 0 (omega arith) (λ k lt. let other = before k lt in grind (arith, nat_tests)) (λ lt. absurd (omega (arith, lt)))

-- bytes of which none passes are the one part
alone : (p : ℕ → Bool) (bytes : List ℕ) → length bytes ≤ position_or_len p bytes → slice_split p bytes ≡ bytes ∷ []
alone p bytes le = slice_split_none p bytes (λ k d lt. fails_before_first p bytes k d (omega (arith, lt)))

-- a part more
pub parts_go_on : (parts : List (Bor (List ℕ))) (part : Bor (List ℕ)) (at end : ℕ) (rest : List ℕ) (total : List (List ℕ)) → end ≡ position_or_len (λ byte. eqb byte at) rest → end < length rest → part.now ≡ take end rest
    → bytes_of parts ++ parts_at at rest ≡ total → bytes_of (parts ++ part ∷ []) ++ parts_at at (take (length rest - (end + 1)) (drop (end + 1) rest)) ≡ total
parts_go_on parts part at end rest total end_is within part_is so_far =
    let p : ℕ → Bool = λ byte. eqb byte at in
    let after : List ℕ = take (length rest - (end + 1)) (drop (end + 1) rest) in
    let front : before_first p rest ≡ part.now = ap (λ (n : ℕ). take n rest) (sym end_is) ∙ sym part_is in
    let back : after_first p rest ≡ after = ap (λ (n : ℕ). drop (n + 1) rest) (sym end_is) ∙ sym (take-past (length rest - (end + 1)) (drop (end + 1) rest) (omega (arith, length-drop (end + 1) rest))) in
    let step : slice_split p rest ≡ part.now ∷ slice_split p after = slice_split_first p rest 0 (omega arith) ∙ ap (λ (f : List ℕ). f ∷ slice_split p (after_first p rest)) front ∙ ap (λ (b : List ℕ). part.now ∷ slice_split p b) back in
    let pushed : bytes_of (parts ++ part ∷ []) ≡ bytes_of parts ++ part.now ∷ [] = map_push _ parts part in
    ap (λ (f : List (List ℕ)). f ++ slice_split p after) pushed ∙ append_assoc (bytes_of parts) (part.now ∷ []) (slice_split p after) ∙ ap (λ (b : List (List ℕ)). bytes_of parts ++ b) (sym step) ∙ so_far

-- the last part
pub parts_end : (parts : List (Bor (List ℕ))) (part : Bor (List ℕ)) (at : ℕ) (total : List (List ℕ)) → length part.now ≤ position_or_len (λ byte. eqb byte at) part.now → bytes_of parts ++ parts_at at part.now ≡ total → bytes_of (parts ++ part ∷ []) ≡ total
parts_end parts part at total last so_far =
    let pushed : bytes_of (parts ++ part ∷ []) ≡ bytes_of parts ++ part.now ∷ [] = map_push _ parts part in
    pushed ∙ ap (λ (back : List (List ℕ)). bytes_of parts ++ back) (sym (alone (λ byte. eqb byte at) part.now last)) ∙ so_far

-- ---- lines

without_empty_end-cons : (line : List ℕ) (lines : List (List ℕ)) → 1 ≤ length lines → without_empty_end (line ∷ lines) ≡ line ∷ without_empty_end lines
without_empty_end-cons line [] some = absurd (omega (arith, some))
without_empty_end-cons line (next ∷ lines) some = refl

kept : (line : List ℕ) → 1 ≤ length line → without_empty_end (line ∷ []) ≡ line ∷ []
kept line some = let e : eqb (length line) 0 ≡ false = grind (arith, nat_tests) in ap (λ (b : Bool). cond b [] (line ∷ [])) e

-- the first line, and those behind it
pub lines_of-cut : (bytes : List ℕ) → 1 ≤ length bytes → lines_of bytes ≡ before_first (λ byte. eqb byte 10) bytes ∷ lines_of (after_first (λ byte. eqb byte 10) bytes)
unfolding lines_of
lines_of-cut bytes some =
    let p : ℕ → Bool = λ byte. eqb byte 10 in
    elim (cases_lt (position_or_len p bytes) (length bytes)) [
      | inl lt ↦ ap without_empty_end (slice_split_first p bytes 0 lt) ∙ without_empty_end-cons (before_first p bytes) (slice_split p (after_first p bytes)) (omega (arith, length-slice_split p (after_first p bytes)))
      | inr le ↦
          let front : before_first p bytes ≡ bytes = take-past (position_or_len p bytes) bytes le in
          let back : after_first p bytes ≡ [] = drop-past (position_or_len p bytes + 1) bytes (omega arith) in
          ap without_empty_end (alone p bytes le) ∙ kept bytes some ∙ ap (λ (line : List ℕ). line ∷ []) (sym front)
          ∙ ap (λ (rest : List ℕ). before_first p bytes ∷ without_empty_end (slice_split p rest)) (sym back)
    ]
