-- Numbers and texts, read byte by byte.
use Rattle.std.proofs.Common.{◌≡◌, ◌≤◌, ◌<◌, ℕ, zero, suc, Bool, true, false, cond, List, [], ◌∷◌, ◌++◌, length, drop, slice_index, Option, Some, None, Ok, Err, ok_or, drop-cons, ap, sym, refl, ◌∙◌, arith}
use Rattle.std.specs.Option.{option_map}
use Rattle.std.proofs.lemmas.List.{append-nil}
use Rattle.std.specs.Str.{IsUtf8, is_utf8}
use Rattle.std.proofs.lemmas.Str.{IsUtf8-from_is_utf8, is_utf8-from_IsUtf8}
use Rattle.blk_base.specs.Name.{IsName, is_name}
use Rattle.blk_base.proofs.NameLemmas.{is_name_decides}
use Rattle.script_text.specs.declared.fault.ScriptKind.{ScriptKind}
use Rattle.script_text.specs.declared.fault.ScriptKind.TheVariants.{Path, Escape}
use Rattle.script_text.specs.Paths.{name_of}
use Rattle.script_text.specs.declared.text.Spot.{Spot}
use Rattle.script_text.specs.declared.text.Spot.TheVariants.{Between, Backslash, Hex, High}
use Rattle.script_text.specs.Words.{next_spot, text_at_end, text_from, text_of}

-- nothing is left behind the end
pub drop-past : {A : Type 0} (place : ℕ) (word : List A) → length word ≤ place → drop place word ≡ []
drop-past {A = A} zero [] past = refl
drop-past {A = A} zero (byte ∷ word) past = absurd (omega (arith, past))
drop-past {A = A} (suc place) [] past = refl
drop-past {A = A} (suc place) (byte ∷ word) past = drop-past place word (omega (arith, past))

-- ---- texts

-- a text behind one that was read before
abbrev pub with_front : List ℕ → Option (List ℕ) → Option (List ℕ)
with_front front text = option_map (λ back. front ++ back) text

-- a byte at which the word is none
pub text_stops : (word front : List ℕ) (spot : Spot) (place : ℕ) → place < length word → next_spot spot (slice_index word place) ≡ None → with_front front (text_from spot (drop place word)) ≡ None
text_stops word front spot place within stops = rw (drop-cons word place 0 within, stops) refl

-- the end of a word
pub text_ends : (word front : List ℕ) (spot : Spot) (place : ℕ) → length word ≤ place → with_front front (text_from spot (drop place word)) ≡ with_front front (text_at_end spot)
text_ends word front spot place past = ap (λ (rest : List ℕ). with_front front (text_from spot rest)) (drop-past place word past)

no_end : (spot : Spot) → (spot ≡ Between → ⊥) → text_at_end spot ≡ None
no_end Between other = absurd (other refl)
no_end Backslash other = refl
no_end Hex other = refl
no_end (High high) other = refl

-- a word with a byte at which it is no text
pub text_escapes : (word front : List ℕ) (spot : Spot) (place : ℕ) → place < length word → next_spot spot (slice_index word place) ≡ None → with_front front (text_from spot (drop place word)) ≡ text_from Between word → text_of word ≡ Err Escape
unfolding text_of
text_escapes word front spot place within stops so_far = ap (λ (text : Option (List ℕ)). ok_or text Escape) (sym so_far ∙ text_stops word front spot place within stops)

-- a word that ends within an escape
pub text_is_cut : (word front : List ℕ) (spot : Spot) (place : ℕ) → length word ≤ place → (spot ≡ Between → ⊥) → with_front front (text_from spot (drop place word)) ≡ text_from Between word → text_of word ≡ Err Escape
unfolding text_of
text_is_cut word front spot place past other so_far =
    ap (λ (text : Option (List ℕ)). ok_or text Escape) (sym so_far ∙ text_ends word front spot place past ∙ ap (with_front front) (no_end spot other))

-- a word that ends behind a whole byte of the text
pub text_is_whole : (word front : List ℕ) (spot : Spot) (place : ℕ) → length word ≤ place → spot ≡ Between → with_front front (text_from spot (drop place word)) ≡ text_from Between word → text_of word ≡ Ok front
unfolding text_of
text_is_whole word front spot place past between so_far =
    ap (λ (text : Option (List ℕ)). ok_or text Escape) (sym so_far ∙ text_ends word front spot place past ∙ ap (λ (at : Spot). with_front front (text_at_end at)) between ∙ ap (λ (text : List ℕ). Some text) (append-nil front))

-- ---- names and UTF-8

-- a test that cannot pass fails
pub false_unless : (b : Bool) → (b ≡ true → ⊥) → b ≡ false
false_unless true refuted = absurd (refuted refl)
false_unless false refuted = refl

test_passes : {A : Type 0} (b : Bool) (value : A) (kind : ScriptKind) → b ≡ true → cond b (Ok value) (Err kind) ≡ Ok value
test_passes b value kind passes = rw passes refl

test_fails : {A : Type 0} (b : Bool) (value : A) (kind : ScriptKind) → b ≡ false → cond b (Ok value) (Err kind) ≡ Err kind
test_fails b value kind fails = rw fails refl

-- a piece that spells a name
pub name_is : (piece name : List ℕ) → text_of piece ≡ Ok name → IsName name → name_of piece ≡ Ok name
unfolding name_of
name_is piece name spells is = rw spells (test_passes (is_name name) name Path ((is_name_decides name).1 is))

-- a piece that spells none
pub name_is_none : (piece bytes : List ℕ) → text_of piece ≡ Ok bytes → (IsName bytes → ⊥) → name_of piece ≡ Err Path
unfolding name_of
name_is_none piece bytes spells none = rw spells (test_fails (is_name bytes) bytes Path (false_unless (is_name bytes) (λ passes. none ((is_name_decides bytes).0 passes))))

-- bytes that are UTF-8
pub utf8_is : (bytes : List ℕ) → IsUtf8 bytes → true ≡ is_utf8 bytes
utf8_is bytes is = sym (is_utf8-from_IsUtf8 bytes is)

-- bytes that aren't
pub utf8_is_none : (bytes : List ℕ) → (IsUtf8 bytes → ⊥) → false ≡ is_utf8 bytes
utf8_is_none bytes none = sym (false_unless (is_utf8 bytes) (λ passes. none (IsUtf8-from_is_utf8 bytes passes)))

-- the same text in another place
pub spells_so : (word text same : List ℕ) → text_of word ≡ Ok text → same ≡ text → text_of word ≡ Ok same
spells_so word text same spells is = spells ∙ ap (λ (t : List ℕ). Ok t) (sym is)
