-- A word is read as a path exactly where it is one.
use Rattle.std.proofs.Common.{◌≡◌, ◌≢◌, ◌≤◌, ◌<◌, ◌+◌, ◌-◌, ◌⊎◌, inl, inr, ℕ, suc, Bool, true, false, cond, eqb, leb, ◌&&◌, List, [], ◌∷◌, ◌++◌, length, take, drop, slice_index, Option, Some, None, Result, Ok, Err, ap, sym, refl, ◌∙◌, subst, drop-cons, arith}
use Rattle.std.specs.List.{AllByRecursion, join_with_byte}
use Rattle.std.proofs.lemmas.Bool.Decides.{nat_tests}
use Rattle.std.proofs.lemmas.Grind.{get_or_default_zero}
use Rattle.std.proofs.lemmas.List.{length-append, take-append-drop, take_at, nil_from_length}
use Rattle.std.proofs.lemmas.List.Elements.{recursion_from_All}
use Rattle.std.proofs.lemmas.List.Splits.{join_with_byte-slice_split}
use Rattle.blk_base.specs.Name.{IsName, is_name}
use Rattle.blk_base.proofs.NameLemmas.{is_name_decides}
use Rattle.flat_model.specs.declared.place.Place.{Place}
use Rattle.script_text.specs.declared.fault.ScriptKind.{ScriptKind}
use Rattle.script_text.specs.declared.fault.ScriptKind.TheVariants.{Path}
use Rattle.script_text.specs.Kinds.{◌>>=◌}
use Rattle.script_text.specs.Words.{parts_at, number_of, text_of}
use Rattle.script_text.specs.Paths.{text_up_to, other_sub, sub_of, name_of, all_names, is_root, names_of, place_from, place_of}
use Rattle.script_text.specs.Grammar.{IsWithout, IsDigit, IsNumber, IsHexDigit, IsUnit, Spells, IsText, IsFront, SpellNames, ArePieces, IsPath}
use Rattle.script_text.proofs.WordLemmas.{drop-past, name_is}
use Rattle.script_text.proofs.NumberLaw.{both, both_from, is_other, is_not, is_it, number_to, number_from}
use Rattle.script_text.proofs.PartsLaw.{bool_is, without_append, parts_join}
use Rattle.script_text.proofs.TextLaw.{text_to, text_back, spells_append, spells_itself, spells_some}

-- the value of a step without a fault
pub bind_ok : {A B : Type 0} (r : Result A ScriptKind) (f : A → Result B ScriptKind) (y : B) → (r >>= f) ≡ Ok y → (x : A) × (r ≡ Ok x) × (f x ≡ Ok y)
bind_ok (Ok x) f y e = (x, refl, e)
bind_ok (Err kind) f y e = absurd cc

-- a test that passed
pub cond_ok : {A : Type 0} (b : Bool) (r : Result A ScriptKind) (kind : ScriptKind) (y : A) → cond b r (Err kind) ≡ Ok y → (b ≡ true) × (r ≡ Ok y)
cond_ok true r kind y e = (refl, e)
cond_ok false r kind y e = absurd cc

abbrev pub done : {A : Type 0} → A → Result A ScriptKind
done x = Ok x

pub ok_is : {A : Type 0} (x y : A) → done x ≡ done y → x ≡ y
ok_is x y e = cc

pub at_most : (n m : ℕ) → leb n m ≡ true → n ≤ m
at_most n m e = grind (arith, nat_tests)

pub at_most_passes : (n m : ℕ) → n ≤ m → leb n m ≡ true
at_most_passes n m le = grind (arith, nat_tests)

-- ---- texts

pub text_in_to : (most : ℕ) (word text : List ℕ) → text_up_to most word ≡ Ok text → IsText most word text
unfolding text_up_to
text_in_to most word text e =
    let p = bind_ok (text_of word) (λ t. cond (leb 1 (length t) && leb (length t) most) (Ok t) (Err Path)) text e in
    let q = cond_ok (leb 1 (length p.0) && leb (length p.0) most) (Ok p.0) Path text p.2 in
    let b = both (leb 1 (length p.0)) (leb (length p.0) most) q.0 in
    subst (λ (t : List ℕ). IsText most word t) (ok_is p.0 text q.1) (record { spelled = text_to word p.0 p.1; least = at_most 1 (length p.0) b.0; at_most = at_most (length p.0) most b.1 })

pub text_in_back : (most : ℕ) (word text : List ℕ) → IsText most word text → text_up_to most word ≡ Ok text
unfolding text_up_to
text_in_back most word text c =
    ap (λ (r : Result (List ℕ) ScriptKind). r >>= λ t. cond (leb 1 (length t) && leb (length t) most) (Ok t) (Err Path)) (text_back word text c.spelled)
    ∙ ap (λ (b : Bool). cond b (Ok text) (Err Path)) (both_from (leb 1 (length text)) (leb (length text) most) (at_most_passes 1 (length text) c.least) (at_most_passes (length text) most c.at_most))

-- ---- names

pub name_to : (piece name : List ℕ) → name_of piece ≡ Ok name → Spells piece name × IsName name
unfolding name_of
name_to piece name e =
    let p = bind_ok (text_of piece) (λ n. cond (is_name n) (Ok n) (Err Path)) name e in
    let q = cond_ok (is_name p.0) (Ok p.0) Path name p.2 in
    subst (λ (n : List ℕ). Spells piece n × IsName n) (ok_is p.0 name q.1) (text_to piece p.0 p.1, (is_name_decides p.0).0 q.0)

names_to : (pieces names : List (List ℕ)) → all_names pieces ≡ Ok names → SpellNames pieces names
unfolding all_names
names_to [] names e = subst (λ (ns : List (List ℕ)). SpellNames [] ns) (ok_is [] names e) tt
names_to (piece ∷ pieces) names e =
    let p = bind_ok (name_of piece) (λ name. all_names pieces >>= λ more. Ok (name ∷ more)) names e in
    let q = bind_ok (all_names pieces) (λ more. Ok (p.0 ∷ more)) names p.2 in
    let n = name_to piece p.0 p.1 in
    subst (λ (ns : List (List ℕ)). SpellNames (piece ∷ pieces) ns) (ok_is (p.0 ∷ q.0) names q.2) (n.0, n.1, names_to pieces q.0 q.1)

names_back : (pieces names : List (List ℕ)) → SpellNames pieces names → all_names pieces ≡ Ok names
unfolding all_names
names_back [] [] s = refl
names_back [] (name ∷ names) s = absurd s
names_back (piece ∷ pieces) [] s = absurd s
names_back (piece ∷ pieces) (name ∷ names) s =
    ap (λ (r : Result (List ℕ) ScriptKind). r >>= λ n. all_names pieces >>= λ more. Ok (n ∷ more)) (name_is piece name (text_back piece name s.0) s.1)
    ∙ ap (λ (r : Result (List (List ℕ)) ScriptKind). r >>= λ more. Ok (name ∷ more)) (names_back pieces names s.2)

spell_length : (pieces names : List (List ℕ)) → SpellNames pieces names → length pieces ≡ length names
spell_length [] [] s = refl
spell_length [] (name ∷ names) s = absurd s
spell_length (piece ∷ pieces) [] s = absurd s
spell_length (piece ∷ pieces) (name ∷ names) s = omega (arith, spell_length pieces names s.2)

root_is : (pieces : List (List ℕ)) → is_root pieces ≡ true → pieces ≡ [] ∷ []
root_is [] e = absurd cc
root_is (piece ∷ []) e = ap (λ (p : List ℕ). p ∷ []) (nil_from_length piece (is_it (length piece) 0 e))
root_is (piece ∷ next ∷ pieces) e = absurd cc

not_root : (pieces names : List (List ℕ)) → SpellNames pieces names → is_root pieces ≡ false
not_root [] names s = refl
not_root (piece ∷ []) [] s = absurd s
not_root (piece ∷ []) (name ∷ names) s =
    let some : 1 ≤ length piece = spells_some piece name s.0 s.1.least in
    is_other (length piece) 0 (omega arith)
not_root (piece ∷ next ∷ pieces) names s = refl

pieces_to : (pieces names : List (List ℕ)) → names_of pieces ≡ Ok names → ArePieces pieces names
unfolding names_of
pieces_to pieces names e =
    let test : Bool = leb 1 (length pieces) && leb (length pieces) 64 in
    elim (bool_is (is_root pieces)) [
      | inl passes ↦ inl (root_is pieces passes, sym (ok_is [] names (sym (ap (λ (b : Bool). cond b (Ok []) (cond test (all_names pieces) (Err Path))) passes) ∙ e)))
      | inr other ↦
          let q = cond_ok test (all_names pieces) Path names (sym (ap (λ (b : Bool). cond b (Ok []) (cond test (all_names pieces) (Err Path))) other) ∙ e) in
          let b = both (leb 1 (length pieces)) (leb (length pieces) 64) q.0 in
          let s = names_to pieces names q.1 in
          let n = spell_length pieces names s in
          let least = at_most 1 (length pieces) b.0 in
          let most = at_most (length pieces) 64 b.1 in
          inr (omega arith, omega arith, s)
    ]

pieces_back : (pieces names : List (List ℕ)) → ArePieces pieces names → names_of pieces ≡ Ok names
unfolding names_of
pieces_back pieces names (inl h) = ap names_of h.0 ∙ ap (λ (ns : List (List ℕ)). Ok ns) (sym h.1)
pieces_back pieces names (inr h) =
    let test : Bool = leb 1 (length pieces) && leb (length pieces) 64 in
    let n = spell_length pieces names h.2 in
    ap (λ (b : Bool). cond b (Ok []) (cond test (all_names pieces) (Err Path))) (not_root pieces names h.2)
    ∙ ap (λ (b : Bool). cond b (all_names pieces) (Err Path)) (both_from (leb 1 (length pieces)) (leb (length pieces) 64) (at_most_passes 1 (length pieces) (omega arith)) (at_most_passes (length pieces) 64 (omega arith)))
    ∙ names_back pieces names h.2

-- ---- what stands in front of the first slash

last_split : (bytes : List ℕ) → 1 ≤ length bytes → bytes ≡ take (length bytes - 1) bytes ++ slice_index bytes (length bytes - 1) ∷ []
last_split bytes some =
    let n : ℕ = length bytes - 1 in
    let back : drop n bytes ≡ slice_index bytes n ∷ drop (suc n) bytes = drop-cons bytes n 0 (omega arith) in
    let none : drop (suc n) bytes ≡ [] = drop-past (suc n) bytes (omega arith) in
    sym (take-append-drop n bytes) ∙ ap (λ (b : List ℕ). take n bytes ++ b) (back ∙ ap (λ (b : List ℕ). slice_index bytes n ∷ b) none)

err_is_not : (kind : ScriptKind) (id : ℕ) → Err kind ≡ done id → ⊥
err_is_not kind id e = cc

other_to : (o : Option ℕ) (id : ℕ) → other_sub o ≡ Ok id → (o ≡ Some id) × (id ≢ 5)
other_to None id e = absurd cc
other_to (Some found) id e =
    elim (bool_is (eqb found 5)) [
      | inl passes ↦ absurd (err_is_not Path id (sym (ap (λ (b : Bool). cond b (Err Path) (done found)) passes) ∙ e))
      | inr other ↦
          let same = ok_is found id (sym (ap (λ (b : Bool). cond b (Err Path) (done found)) other) ∙ e) in
          (ap (λ (n : ℕ). Some n) same, subst (λ (n : ℕ). n ≢ 5) same (is_not found 5 other))
    ]

sub_to : (front : List ℕ) (id : ℕ) → sub_of front ≡ Ok id → IsFront front id
unfolding sub_of
sub_to front id e =
    let colon : Bool = eqb (slice_index front (length front - 1)) 58 in
    let digits : List ℕ = take (length front - 1) front in
    let rest : Result ℕ ScriptKind = cond colon (other_sub (number_of digits)) (Err Path) in
    elim (bool_is (eqb (length front) 0)) [
      | inl none ↦ inl (nil_from_length front (is_it (length front) 0 none), sym (ok_is 5 id (sym (ap (λ (b : Bool). cond b (done 5) rest) none) ∙ e)))
      | inr other ↦
          let p = cond_ok colon (other_sub (number_of digits)) Path id (sym (ap (λ (b : Bool). cond b (done 5) rest) other) ∙ e) in
          let q = other_to (number_of digits) id p.1 in
          let ne = is_not (length front) 0 other in
          inr (digits, last_split front (omega arith) ∙ ap (λ (c : ℕ). digits ++ c ∷ []) (is_it (slice_index front (length front - 1)) 58 p.0), number_to digits id q.0, q.1)
    ]

last_is : (digits : List ℕ) (byte : ℕ) → slice_index (digits ++ byte ∷ []) (length digits) ≡ byte
last_is [] byte = refl
last_is (digit ∷ digits) byte = last_is digits byte

sub_colon : (digits : List ℕ) (id : ℕ) → IsNumber digits id → id ≢ 5 → sub_of (digits ++ 58 ∷ []) ≡ Ok id
unfolding sub_of
sub_colon digits id num other =
    let front : List ℕ = digits ++ 58 ∷ [] in
    let n : length front ≡ length digits + 1 = length-append digits (58 ∷ []) in
    let m : length front - 1 ≡ length digits = omega arith in
    let colon : eqb (slice_index front (length front - 1)) 58 ≡ true = ap (λ (k : ℕ). eqb (slice_index front k) 58) m ∙ ap (λ (c : ℕ). eqb c 58) (last_is digits 58) in
    let number : number_of (take (length front - 1) front) ≡ Some id = ap (λ (k : ℕ). number_of (take k front)) m ∙ ap number_of (take_at digits (58 ∷ []) (length digits) refl) ∙ number_from digits id num in
    ap (λ (b : Bool). cond b (done 5) (cond (eqb (slice_index front (length front - 1)) 58) (other_sub (number_of (take (length front - 1) front))) (Err Path))) (is_other (length front) 0 (omega arith))
    ∙ ap (λ (b : Bool). cond b (other_sub (number_of (take (length front - 1) front))) (Err Path)) colon
    ∙ ap other_sub number ∙ ap (λ (b : Bool). cond b (Err Path) (done id)) (is_other id 5 other)

sub_back : (front : List ℕ) (id : ℕ) → IsFront front id → sub_of front ≡ Ok id
unfolding sub_of
sub_back front id (inl h) = ap sub_of h.0 ∙ ap (λ (n : ℕ). Ok n) (sym h.1)
sub_back front id (inr h) = ap sub_of h.1 ∙ sub_colon h.0 id h.2 h.3

-- ---- paths

place_parts : (word : List ℕ) (parts : List (List ℕ)) (place : Place) → word ≡ join_with_byte 47 parts → place_from parts ≡ Ok place → IsPath word place
unfolding place_from
place_parts word [] place is e = absurd cc
place_parts word (front ∷ pieces) place is e =
    let p = bind_ok (sub_of front) (λ id. names_of pieces >>= λ names. done (record { sub = record { 0 = id }; path = names })) place e in
    let q = bind_ok (names_of pieces) (λ names. done (record { sub = record { 0 = p.0 }; path = names })) place p.2 in
    let made : Place = record { sub = record { 0 = p.0 }; path = q.0 } in
    let path : IsPath word made = record { front = front; pieces = pieces; word_is = is; front_is = sub_to front p.0 p.1; pieces_are = pieces_to pieces q.0 q.1 } in
    subst (λ (at : Place). IsPath word at) (ok_is made place q.2) path

pub place_to : (word : List ℕ) (place : Place) → place_of word ≡ Ok place → IsPath word place
unfolding place_of
place_to word place e =
    let p = bind_ok (text_of word) (λ _. place_from (parts_at 47 word)) place e in
    place_parts word (parts_at 47 word) place (sym (join_with_byte-slice_split 47 word)) p.2

pub digits_without : (at : ℕ) (digits : List ℕ) → ((byte : ℕ) → IsDigit byte → byte ≢ at) → AllByRecursion IsDigit digits → IsWithout at digits
digits_without at [] other ds = tt
digits_without at (digit ∷ digits) other ds = (other digit ds.0, digits_without at digits other ds.1)

far_digit : (at byte : ℕ) → at < 48 ⊎ 58 < at → IsDigit byte → byte ≢ at
far_digit at byte (inl low) d = omega (arith, low, d.0)
far_digit at byte (inr high) d = omega (arith, high, d.1)

far_colon : (at : ℕ) → at < 48 ⊎ 58 < at → 58 ≢ at
far_colon at (inl low) = omega (arith, low)
far_colon at (inr high) = omega (arith, high)

hex_without : (byte value : ℕ) → IsHexDigit byte value → byte ≢ 47
hex_without byte value (inl h) = omega (arith, h.0)
hex_without byte value (inr h) = omega (arith, h.0)

front_without : (at id : ℕ) (front : List ℕ) → at < 48 ⊎ 58 < at → IsFront front id → IsWithout at front
front_without at id front far (inl h) = subst (λ (f : List ℕ). IsWithout at f) (sym h.0) tt
front_without at id front far (inr h) =
    subst (λ (f : List ℕ). IsWithout at f) (sym h.1) (without_append at h.0 (58 ∷ []) (digits_without at h.0 (λ byte d. far_digit at byte far d) h.2.digits) (far_colon at far, tt))

unit_without : (unit : List ℕ) (byte : ℕ) → byte ≢ 47 → IsUnit unit byte → IsWithout 47 unit
unit_without unit byte other (inl h) = subst (λ (u : List ℕ). IsWithout 47 u) (sym h.0) (other, tt)
unit_without unit byte other (inr (inl h)) = subst (λ (u : List ℕ). IsWithout 47 u) (sym h.0) (omega arith, (omega arith, tt))
unit_without unit byte other (inr (inr h)) =
    subst (λ (u : List ℕ). IsWithout 47 u) (sym h.unit_is) (omega arith, (omega arith, (hex_without h.high h.front h.high_is, (hex_without h.low h.back h.low_is, tt))))

spelled_without : (text word : List ℕ) → Spells word text → IsWithout 47 text → IsWithout 47 word
spelled_without [] word s w = subst (λ (u : List ℕ). IsWithout 47 u) (sym s) tt
spelled_without (byte ∷ text) word s w =
    subst (λ (u : List ℕ). IsWithout 47 u) (sym s.2) (without_append 47 s.0 s.1 (unit_without s.0 byte w.0 s.3) (spelled_without text s.1 s.4 w.1))

name_without : (name : List ℕ) → IsName name → IsWithout 47 name
name_without name n = recursion_from_All (λ (byte : ℕ). byte ≢ 47) name (λ k d lt. subst (λ (byte : ℕ). byte ≢ 47) (sym (get_or_default_zero name k d lt)) (n.no_slash k lt))

names_without : (pieces names : List (List ℕ)) → SpellNames pieces names → AllByRecursion (IsWithout 47) pieces
names_without [] names s = tt
names_without (piece ∷ pieces) [] s = absurd s
names_without (piece ∷ pieces) (name ∷ names) s = (spelled_without name piece s.0 (name_without name s.1), names_without pieces names s.2)

pieces_without : (pieces names : List (List ℕ)) → ArePieces pieces names → AllByRecursion (IsWithout 47) pieces
pieces_without pieces names (inl h) = subst (λ (ps : List (List ℕ)). AllByRecursion (IsWithout 47) ps) (sym h.0) (tt, tt)
pieces_without pieces names (inr h) = names_without pieces names h.2

-- the word of a path is decoded as a whole too
abbrev Whole : List ℕ → Type 0
Whole word = (text : List ℕ) × Spells word text

whole_join : (word : List ℕ) (pieces names : List (List ℕ)) → Whole word → SpellNames pieces names → Whole (join_with_byte 47 (word ∷ pieces))
whole_join word [] names w s = w
whole_join word (piece ∷ pieces) [] w s = absurd s
whole_join word (piece ∷ pieces) (name ∷ names) w s =
    let more = whole_join piece pieces names (name, s.0) s.2 in
    (w.0 ++ 47 ∷ more.0, spells_append word w.0 (47 ∷ join_with_byte 47 (piece ∷ pieces)) (47 ∷ more.0) w.1 (47 ∷ [], join_with_byte 47 (piece ∷ pieces), refl, inl (refl, omega arith), more.1))

whole_path : (front : List ℕ) (pieces names : List (List ℕ)) → Whole front → ArePieces pieces names → Whole (join_with_byte 47 (front ∷ pieces))
whole_path front pieces names w (inl h) =
    subst (λ (ps : List (List ℕ)). Whole (join_with_byte 47 (front ∷ ps))) (sym h.0)
    (w.0 ++ 47 ∷ [], spells_append front w.0 (47 ∷ []) (47 ∷ []) w.1 (47 ∷ [], [], refl, inl (refl, omega arith), refl))
whole_path front pieces names w (inr h) = whole_join front pieces names w h.2

pub place_back : (word : List ℕ) (place : Place) → IsPath word place → place_of word ≡ Ok place
unfolding place_of place_from
place_back word place p =
    let front_text : Spells p.front p.front = spells_itself p.front (front_without 92 place.sub.0 p.front (inr (omega arith)) p.front_is) in
    let whole = whole_path p.front p.pieces place.path (p.front, front_text) p.pieces_are in
    let spelled : text_of word ≡ Ok whole.0 = ap text_of p.word_is ∙ text_back (join_with_byte 47 (p.front ∷ p.pieces)) whole.0 whole.1 in
    let cut : parts_at 47 word ≡ p.front ∷ p.pieces = ap (parts_at 47) p.word_is ∙ parts_join 47 p.front p.pieces (front_without 47 place.sub.0 p.front (inl (omega arith)) p.front_is) (pieces_without p.pieces place.path p.pieces_are) in
    ap (λ (r : Result (List ℕ) ScriptKind). r >>= λ _. place_from (parts_at 47 word)) spelled ∙ ap place_from cut
    ∙ ap (λ (r : Result ℕ ScriptKind). r >>= λ id. names_of p.pieces >>= λ names. done (record { sub = record { 0 = id }; path = names })) (sub_back p.front place.sub.0 p.front_is)
    ∙ ap (λ (r : Result (List (List ℕ)) ScriptKind). r >>= λ names. done (record { sub = record { 0 = place.sub.0 }; path = names })) (pieces_back p.pieces place.path p.pieces_are)

join_some : (at : ℕ) (front : List ℕ) (pieces : List (List ℕ)) → 1 ≤ length pieces → 1 ≤ length (join_with_byte at (front ∷ pieces))
join_some at front [] some = absurd (omega (arith, some))
join_some at front (piece ∷ pieces) some = omega (arith, length-append front (at ∷ join_with_byte at (piece ∷ pieces)))

pieces_some : (pieces names : List (List ℕ)) → ArePieces pieces names → 1 ≤ length pieces
pieces_some pieces names (inl h) = subst (λ (ps : List (List ℕ)). 1 ≤ length ps) (sym h.0) (omega arith)
pieces_some pieces names (inr h) = omega (arith, spell_length pieces names h.2, h.0)

-- a path has a byte
pub path_some : (word : List ℕ) (place : Place) → IsPath word place → 1 ≤ length word
path_some word place p = subst (λ (w : List ℕ). 1 ≤ length w) (sym p.word_is) (join_some 47 p.front p.pieces (pieces_some p.pieces place.path p.pieces_are))
