-- A word is read as a text exactly where it spells it.
use Rattle.std.proofs.Common.{◌≡◌, ◌≤◌, ◌<◌, ◌+◌, ◌-◌, ◌*◌, inl, inr, ℕ, zero, suc, Bool, true, false, cond, eqb, leb, ◌&&◌, List, [], ◌∷◌, ◌++◌, length, Option, Some, None, Ok, ok_or, option_to_list, ap, sym, refl, ◌∙◌, subst, append_assoc, arith}
use Rattle.std.specs.Option.{option_and_then, option_map}
use Rattle.std.proofs.lemmas.Bool.Decides.{nat_tests}
use Rattle.std.proofs.lemmas.List.{length-append}
use Rattle.script_text.specs.declared.fault.ScriptKind.TheVariants.{Escape}
use Rattle.script_text.specs.declared.text.Spot.{Spot}
use Rattle.script_text.specs.declared.text.Spot.TheVariants.{Between, Backslash, Hex, High}
use Rattle.script_text.specs.Words.{hex_digit, hex_byte, text_from, text_of}
use Rattle.script_text.specs.Grammar.{IsWithout, IsHexDigit, IsEscaped, IsUnit, Spells}
use Rattle.script_text.proofs.NumberLaw.{both, both_from, is_other, is_not, is_it}
use Rattle.script_text.proofs.PartsLaw.{bool_is}

pub map_some : {A B : Type 0} (f : A → B) (o : Option A) (value : B) → option_map f o ≡ Some value → (x : A) × (o ≡ Some x) × (f x ≡ value)
map_some f None value e = absurd cc
map_some f (Some x) value e = (x, refl, cc)

pub then_some : {A B : Type 0} (f : A → Option B) (o : Option A) (value : B) → option_and_then f o ≡ Some value → (x : A) × (o ≡ Some x) × (f x ≡ Some value)
then_some f None value e = absurd cc
then_some f (Some x) value e = (x, refl, e)

-- ---- hexadecimal digits

hex_go : (byte value : ℕ) (p q : Bool) → (leb 48 byte && leb byte 57) ≡ p → (leb 97 byte && leb byte 102) ≡ q → cond p (Some (byte - 48)) (cond q (Some (byte - 87)) None) ≡ Some value → IsHexDigit byte value
hex_go byte value true q low high e =
    let same : byte - 48 ≡ value = cc in
    let l = both (leb 48 byte) (leb byte 57) low in
    inl (grind (arith, nat_tests), grind (arith, nat_tests))
hex_go byte value false true low high e =
    let same : byte - 87 ≡ value = cc in
    let l = both (leb 97 byte) (leb byte 102) high in
    inr (grind (arith, nat_tests), grind (arith, nat_tests), grind (arith, nat_tests))
hex_go byte value false false low high e = absurd cc

hex_to : (byte value : ℕ) → hex_digit byte ≡ Some value → IsHexDigit byte value
hex_to byte value e = hex_go byte value (leb 48 byte && leb byte 57) (leb 97 byte && leb byte 102) refl refl e

hex_low : (value : ℕ) → value < 10 → hex_digit (48 + value) ≡ Some value
hex_low value lt =
    let test : (leb 48 (48 + value) && leb (48 + value) 57) ≡ true = both_from (leb 48 (48 + value)) (leb (48 + value) 57) (grind (arith, nat_tests)) (grind (arith, nat_tests)) in
    let same : (48 + value) - 48 ≡ value = omega arith in
    ap (λ (b : Bool). cond b (Some ((48 + value) - 48)) (cond (leb 97 (48 + value) && leb (48 + value) 102) (Some ((48 + value) - 87)) None)) test ∙ ap (λ (v : ℕ). Some v) same

above_fails : (n m : ℕ) → m < n → leb n m ≡ false
above_fails n m lt = grind (arith, nat_tests)

and_false : (a b : Bool) → b ≡ false → (a && b) ≡ false
and_false true b e = e
and_false false b e = refl

hex_high : (value : ℕ) → 10 ≤ value → value < 16 → hex_digit (87 + value) ≡ Some value
hex_high value least most =
    let first : (leb 48 (87 + value) && leb (87 + value) 57) ≡ false = and_false (leb 48 (87 + value)) (leb (87 + value) 57) (above_fails (87 + value) 57 (omega arith)) in
    let test : (leb 97 (87 + value) && leb (87 + value) 102) ≡ true = both_from (leb 97 (87 + value)) (leb (87 + value) 102) (grind (arith, nat_tests)) (grind (arith, nat_tests)) in
    let same : (87 + value) - 87 ≡ value = omega arith in
    ap (λ (b : Bool). cond b (Some ((87 + value) - 48)) (cond (leb 97 (87 + value) && leb (87 + value) 102) (Some ((87 + value) - 87)) None)) first
    ∙ ap (λ (b : Bool). cond b (Some ((87 + value) - 87)) None) test ∙ ap (λ (v : ℕ). Some v) same

hex_from : (byte value : ℕ) → IsHexDigit byte value → hex_digit byte ≡ Some value
hex_from byte value (inl h) = ap hex_digit h.0 ∙ hex_low value h.1
hex_from byte value (inr h) = ap hex_digit h.0 ∙ hex_high value h.1 h.2

-- ---- texts

-- what is read behind a byte
abbrev read_on : List ℕ → Option (Spot × Option ℕ) → Option (List ℕ)
read_on word next = option_and_then (λ at. option_map (λ text. option_to_list at.1 ++ text) (text_from at.0 word)) next

-- words of at most so many bytes spell what is read of them
abbrev Follows : ℕ → Type 0
Follows n = (word text : List ℕ) → length word ≤ n → text_from Between word ≡ Some text → Spells word text

spells_behind : (unit word text : List ℕ) (byte : ℕ) (n : ℕ) → Follows n → length word ≤ n → IsUnit unit byte → option_map (λ back. byte ∷ back) (text_from Between word) ≡ Some text → Spells (unit ++ word) text
spells_behind unit word text byte n ih short is e =
    let m = map_some (λ (back : List ℕ). byte ∷ back) (text_from Between word) text e in
    subst (λ (t : List ℕ). Spells (unit ++ word) t) m.2 (unit, word, refl, is, ih word m.0 short m.1)

hex_byte_to : (high low byte : ℕ) → hex_byte high low ≡ Some byte → IsEscaped (92 ∷ 120 ∷ high ∷ low ∷ []) byte
hex_byte_to high low byte e =
    let p = then_some (λ front. option_map (λ back. 16 * front + back) (hex_digit low)) (hex_digit high) byte e in
    let q = map_some (λ back. 16 * p.0 + back) (hex_digit low) byte p.2 in
    record { high = high; low = low; front = p.0; back = q.0; unit_is = refl; high_is = hex_to high p.0 p.1; low_is = hex_to low q.0 q.1; byte_is = sym q.2 }

read_high : (o : Option ℕ) (word text : List ℕ) → read_on word (option_map (λ decoded. (Between, Some decoded)) o) ≡ Some text → (byte : ℕ) × (o ≡ Some byte) × (option_map (λ back. byte ∷ back) (text_from Between word) ≡ Some text)
read_high None word text e = absurd cc
read_high (Some byte) word text e = (byte, refl, e)

after_high : (high n : ℕ) (word text : List ℕ) → Follows n → length word ≤ n → text_from (High high) word ≡ Some text → Spells (92 ∷ 120 ∷ high ∷ word) text
after_high high n [] text ih short e = absurd cc
after_high high n (low ∷ word) text ih short e =
    let p = read_high (hex_byte high low) word text e in
    spells_behind (92 ∷ 120 ∷ high ∷ low ∷ []) word text p.0 n ih (omega arith) (inr (inr (hex_byte_to high low p.0 p.1))) p.2

same_text : (o : Option (List ℕ)) → option_map (λ (text : List ℕ). [] ++ text) o ≡ o
same_text None = refl
same_text (Some text) = refl

after_hex : (n : ℕ) (word text : List ℕ) → Follows n → length word ≤ n → text_from Hex word ≡ Some text → Spells (92 ∷ 120 ∷ word) text
after_hex n [] text ih short e = absurd cc
after_hex n (high ∷ word) text ih short e = after_high high n word text ih (omega arith) (sym (same_text (text_from (High high) word)) ∙ e)

nothing_read : (text : List ℕ) → None ≡ Some text → ⊥
nothing_read text e = cc

some_is : (one other : List ℕ) → Some one ≡ Some other → one ≡ other
some_is one other e = cc

ok_some : (o : Option (List ℕ)) (text : List ℕ) → ok_or o Escape ≡ Ok text → o ≡ Some text
ok_some None text e = absurd cc
ok_some (Some other) text e = cc

cons_is_not : (same word unit : List ℕ) → unit ≡ same → 1 ≤ length same → [] ≡ unit ++ word → ⊥
cons_is_not same word unit is some e =
    let n : length unit + length word ≡ 0 = sym (length-append unit word) ∙ sym (ap length e) in
    let m : length unit ≡ length same = ap length is in
    omega arith

unit_some : (unit word : List ℕ) (byte : ℕ) → IsUnit unit byte → [] ≡ unit ++ word → ⊥
unit_some unit word byte (inl h) e = cons_is_not (byte ∷ []) word unit h.0 (omega arith) e
unit_some unit word byte (inr (inl h)) e = cons_is_not (92 ∷ 92 ∷ []) word unit h.0 (omega arith) e
unit_some unit word byte (inr (inr h)) e = cons_is_not (92 ∷ 120 ∷ h.high ∷ h.low ∷ []) word unit h.unit_is (omega arith) e

after_backslash : (n : ℕ) (word text : List ℕ) → Follows n → length word ≤ n → text_from Backslash word ≡ Some text → Spells (92 ∷ word) text
after_backslash n [] text ih short e = absurd cc
after_backslash n (byte ∷ word) text ih short e =
    let third : Bool → Option (Spot × Option ℕ) = λ b. cond b (Some (Hex, None)) None in
    elim (bool_is (eqb byte 92)) [
      | inl passes ↦
          let f : option_map (λ back. 92 ∷ back) (text_from Between word) ≡ Some text = sym (ap (λ (b : Bool). read_on word (cond b (Some (Between, Some 92)) (third (eqb byte 120)))) passes) ∙ e in
          let s : Spells (92 ∷ 92 ∷ word) text = spells_behind (92 ∷ 92 ∷ []) word text 92 n ih (omega arith) (inr (inl (refl, refl))) f in
          subst (λ (c : ℕ). Spells (92 ∷ c ∷ word) text) (sym (is_it byte 92 passes)) s
      | inr other ↦
          let g : read_on word (third (eqb byte 120)) ≡ Some text = sym (ap (λ (b : Bool). read_on word (cond b (Some (Between, Some 92)) (third (eqb byte 120)))) other) ∙ e in
          elim (bool_is (eqb byte 120)) [
            | inl passes ↦
                let h : read_on word (third true) ≡ Some text = sym (ap (λ (b : Bool). read_on word (third b)) passes) ∙ g in
                let s : Spells (92 ∷ 120 ∷ word) text = after_hex n word text ih (omega arith) (sym (same_text (text_from Hex word)) ∙ h) in
                subst (λ (c : ℕ). Spells (92 ∷ c ∷ word) text) (sym (is_it byte 120 passes)) s
            | inr neither ↦
                let h : read_on word (third false) ≡ Some text = sym (ap (λ (b : Bool). read_on word (third b)) neither) ∙ g in
                absurd (nothing_read text h)
          ]
    ]

spells_within : (n : ℕ) → Follows n
spells_within n [] text short e = subst (λ (t : List ℕ). Spells [] t) (some_is [] text e) refl
spells_within zero (byte ∷ word) text short e = absurd (omega (arith, short))
spells_within (suc n) (byte ∷ word) text short e =
    let second : Option (Spot × Option ℕ) = Some (Between, Some byte) in
    elim (bool_is (eqb byte 92)) [
      | inl passes ↦
          let f : option_map (λ back. [] ++ back) (text_from Backslash word) ≡ Some text = sym (ap (λ (b : Bool). read_on word (cond b (Some (Backslash, None)) second)) passes) ∙ e in
          subst (λ (c : ℕ). Spells (c ∷ word) text) (sym (is_it byte 92 passes)) (after_backslash n word text (spells_within n) (omega arith) (sym (same_text (text_from Backslash word)) ∙ f))
      | inr other ↦
          let f : option_map (λ back. byte ∷ back) (text_from Between word) ≡ Some text = sym (ap (λ (b : Bool). read_on word (cond b (Some (Backslash, None)) second)) other) ∙ e in
          spells_behind (byte ∷ []) word text byte n (spells_within n) (omega arith) (inl (refl, is_not byte 92 other)) f
    ]

read_unit : (unit word : List ℕ) (byte : ℕ) → IsUnit unit byte → text_from Between (unit ++ word) ≡ option_map (λ back. byte ∷ back) (text_from Between word)
read_unit unit word byte (inl h) =
    ap (λ (u : List ℕ). text_from Between (u ++ word)) h.0 ∙ ap (λ (b : Bool). read_on word (cond b (Some (Backslash, None)) (Some (Between, Some byte)))) (is_other byte 92 h.1)
read_unit unit word byte (inr (inl h)) =
    ap (λ (u : List ℕ). text_from Between (u ++ word)) h.0 ∙ same_text (option_map (λ back. 92 ∷ back) (text_from Between word)) ∙ ap (λ (b : ℕ). option_map (λ back. b ∷ back) (text_from Between word)) (sym h.1)
read_unit unit word byte (inr (inr h)) =
    let decoded : hex_byte h.high h.low ≡ Some byte =
    ap (λ (o : Option ℕ). option_and_then (λ front. option_map (λ back. 16 * front + back) (hex_digit h.low)) o) (hex_from h.high h.front h.high_is)
    ∙ ap (λ (o : Option ℕ). option_map (λ back. 16 * h.front + back) o) (hex_from h.low h.back h.low_is) ∙ ap (λ (v : ℕ). Some v) (sym h.byte_is) in
    let last : text_from (High h.high) (h.low ∷ word) ≡ option_map (λ back. byte ∷ back) (text_from Between word) = ap (λ (o : Option ℕ). read_on word (option_map (λ d. (Between, Some d)) o)) decoded in
    ap (λ (u : List ℕ). text_from Between (u ++ word)) h.unit_is
    ∙ same_text (option_map (λ back. [] ++ back) (option_map (λ back. [] ++ back) (text_from (High h.high) (h.low ∷ word))))
    ∙ same_text (option_map (λ back. [] ++ back) (text_from (High h.high) (h.low ∷ word))) ∙ same_text (text_from (High h.high) (h.low ∷ word)) ∙ last

-- ---- both ways

pub text_to : (word text : List ℕ) → text_of word ≡ Ok text → Spells word text
unfolding text_of
text_to word text e = spells_within (length word) word text (omega arith) (ok_some (text_from Between word) text e)

read_spelled : (text word : List ℕ) → Spells word text → text_from Between word ≡ Some text
read_spelled [] word s = ap (text_from Between) s
read_spelled (byte ∷ text) word s =
    ap (text_from Between) s.2 ∙ read_unit s.0 s.1 byte s.3 ∙ ap (option_map (λ (back : List ℕ). byte ∷ back)) (read_spelled text s.1 s.4)

pub text_back : (word text : List ℕ) → Spells word text → text_of word ≡ Ok text
unfolding text_of
text_back word text s = ap (λ (o : Option (List ℕ)). ok_or o Escape) (read_spelled text word s)

-- ---- texts behind one another

pub spells_append : (one first other second : List ℕ) → Spells one first → Spells other second → Spells (one ++ other) (first ++ second)
spells_append one [] other second s t = subst (λ (w : List ℕ). Spells (w ++ other) second) (sym s) t
spells_append one (byte ∷ first) other second s t =
    (s.0, s.1 ++ other, ap (λ (w : List ℕ). w ++ other) s.2 ∙ append_assoc s.0 s.1 other, s.3, spells_append s.1 first other second s.4 t)

pub spells_itself : (word : List ℕ) → IsWithout 92 word → Spells word word
spells_itself [] w = refl
spells_itself (byte ∷ word) w = (byte ∷ [], word, refl, inl (refl, w.0), spells_itself word w.1)

-- a word has at least the bytes of its text
pub spells_some : (word text : List ℕ) → Spells word text → 1 ≤ length text → 1 ≤ length word
spells_some [] [] s some = some
spells_some [] (byte ∷ text) s some = absurd (unit_some s.0 s.1 byte s.3 s.2)
spells_some (first ∷ word) text s some = omega arith
