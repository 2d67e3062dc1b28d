-- A word is read as a number exactly where it is one.
use Rattle.std.proofs.Common.{◌≡◌, ◌≢◌, ◌≤◌, ◌<◌, ◌+◌, ◌-◌, ◌*◌, ◌^◌, ◌⊎◌, inl, inr, ℕ, Bool, true, false, cond, eqb, ltb, ◌&&◌, List, [], ◌∷◌, length, Option, Some, None, ap, sym, refl, ◌∙◌, subst, arith}
use Rattle.std.specs.Char.{is_ascii_digit}
use Rattle.std.specs.List.{AllByRecursion}
use Rattle.std.proofs.lemmas.Bool.Decides.{nat_tests}
use Rattle.script_text.specs.Words.{number_behind, number_of}
use Rattle.script_text.specs.Grammar.{IsDigit, value_behind, IsNumber}

pub cond_some : {A : Type 0} (b : Bool) (o : Option A) (value : A) → cond b o None ≡ Some value → (b ≡ true) × (o ≡ Some value)
cond_some true o value e = (refl, e)
cond_some false o value e = absurd cc

pub cond_none : {A : Type 0} (b : Bool) (o : Option A) (value : A) → cond b None o ≡ Some value → (b ≡ false) × (o ≡ Some value)
cond_none true o value e = absurd cc
cond_none false o value e = (refl, e)

pub both : (a b : Bool) → (a && b) ≡ true → (a ≡ true) × (b ≡ true)
both true true e = (refl, refl)
both true false e = absurd cc
both false b e = absurd cc

pub both_from : (a b : Bool) → a ≡ true → b ≡ true → (a && b) ≡ true
both_from a b p q = rw (p, q) refl

pub is_other : (byte other : ℕ) → byte ≢ other → eqb byte other ≡ false
is_other byte other h = grind (arith, nat_tests)

pub is_not : (byte other : ℕ) → eqb byte other ≡ false → byte ≢ other
is_not byte other h = λ e. grind (arith, nat_tests)

pub is_it : (byte other : ℕ) → eqb byte other ≡ true → byte ≡ other
is_it byte other h = grind (arith, nat_tests)

pub it_is : (byte : ℕ) → eqb byte byte ≡ true
it_is byte = grind (arith, nat_tests)

digit_is : (byte : ℕ) → is_ascii_digit byte ≡ true → IsDigit byte
digit_is byte e = (grind (arith, nat_tests), grind (arith, nat_tests))

digit_passes : (byte : ℕ) → IsDigit byte → is_ascii_digit byte ≡ true
digit_passes byte d = grind (arith, nat_tests)

below : (n m : ℕ) → ltb n m ≡ true → n < m
below n m e = grind (arith, nat_tests)

below_passes : (n m : ℕ) → n < m → ltb n m ≡ true
below_passes n m lt = grind (arith, nat_tests)

behind_to : (word : List ℕ) (front value : ℕ) → front < 2 ^ 64 → number_behind front word ≡ Some value → AllByRecursion IsDigit word × (value_behind front word ≡ value) × (value < 2 ^ 64)
behind_to [] front value small e =
    let same : front ≡ value = cc in
    (tt, same, subst (λ (n : ℕ). n < 2 ^ 64) same small)
behind_to (digit ∷ digits) front value small e =
    let next : ℕ = 10 * front + (digit - 48) in
    let p = cond_some (is_ascii_digit digit && ltb next (2 ^ 64)) (number_behind next digits) value e in
    let q = both (is_ascii_digit digit) (ltb next (2 ^ 64)) p.0 in
    let r = behind_to digits next value (below next (2 ^ 64) q.1) p.1 in
    ((digit_is digit q.0, r.0), r.1, r.2)

value_grows : (front : ℕ) (digits : List ℕ) → front ≤ value_behind front digits
value_grows front [] = omega arith
value_grows front (digit ∷ digits) = omega (arith, value_grows (10 * front + (digit - 48)) digits)

behind_from : (word : List ℕ) (front : ℕ) → AllByRecursion IsDigit word → value_behind front word < 2 ^ 64 → number_behind front word ≡ Some (value_behind front word)
behind_from [] front digits small = refl
behind_from (digit ∷ word) front digits small =
    let next : ℕ = 10 * front + (digit - 48) in
    let grows : next ≤ value_behind next word = value_grows next word in
    let fits : next < 2 ^ 64 = omega arith in
    ap (λ (b : Bool). cond b (number_behind next word) None) (both_from (is_ascii_digit digit) (ltb next (2 ^ 64)) (digit_passes digit digits.0) (below_passes next (2 ^ 64) fits))
    ∙ behind_from word next digits.1 small

pub number_to : (word : List ℕ) (value : ℕ) → number_of word ≡ Some value → IsNumber word value
number_to [] value e = absurd cc
number_to (digit ∷ []) value e =
    let r = behind_to (digit ∷ []) 0 value (omega arith) e in
    record { some = omega arith; digits = r.0; shortest = inl (omega arith); value_is = r.1; most = r.2 }
number_to (digit ∷ next ∷ digits) value e =
    let p = cond_none (eqb digit 48) (number_behind 0 (digit ∷ next ∷ digits)) value e in
    let r = behind_to (digit ∷ next ∷ digits) 0 value (omega arith) p.1 in
    record { some = omega arith; digits = r.0; shortest = inr (is_not digit 48 p.0); value_is = r.1; most = r.2 }

value_small : (word : List ℕ) (value : ℕ) → IsNumber word value → value_behind 0 word < 2 ^ 64
value_small word value n = subst (λ (v : ℕ). v < 2 ^ 64) (sym n.value_is) n.most

begins : (digit next : ℕ) (digits : List ℕ) → (length (digit ∷ next ∷ digits) ≡ 1) ⊎ (digit ≢ 48) → number_behind 0 (digit ∷ next ∷ digits) ≡ number_of (digit ∷ next ∷ digits)
begins digit next digits (inl one) = absurd (omega (arith, one))
begins digit next digits (inr other) = sym (ap (λ (b : Bool). cond b None (number_behind 0 (digit ∷ next ∷ digits))) (is_other digit 48 other))

pub number_from : (word : List ℕ) (value : ℕ) → IsNumber word value → number_of word ≡ Some value
number_from [] value n = absurd (omega (arith, n.some))
number_from (digit ∷ []) value n = behind_from (digit ∷ []) 0 n.digits (value_small (digit ∷ []) value n) ∙ ap (λ (v : ℕ). Some v) n.value_is
number_from (digit ∷ next ∷ digits) value n =
    sym (begins digit next digits n.shortest) ∙ behind_from (digit ∷ next ∷ digits) 0 n.digits (value_small (digit ∷ next ∷ digits) value n) ∙ ap (λ (v : ℕ). Some v) n.value_is
