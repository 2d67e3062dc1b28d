-- A name more is counted for its inode.
use Rattle.std.proofs.Common.{◌≡◌, ◌≢◌, ◌<◌, ◌+◌, ◌++◌, ◌⊎◌, ℕ, Bool, true, false, cond, List, [], ◌∷◌, length, take, get_or, count_by, Option, Some, ap, ◌∙◌, arith, inl, inr}
use Rattle.std.proofs.lemmas.Bool.{cases_eq, eq-eqb, eqb-true, false_from_ne_true}
use Rattle.std.proofs.lemmas.Bool.Decides.{nat_tests}
use Rattle.std.proofs.lemmas.List.{map-append, take_more}
use Rattle.std.proofs.lemmas.List.Sums.{sum_by-append}
use Rattle.std.specs.Option.{unwrap_or}
use Rattle.std.specs.Ordering.{nat_cmp, is_eq}
use Rattle.flat_model.specs.Names.{FlatName, leads_to}
use Rattle.coherent_names.specs.Names.{flat_names, flat_of}
use Rattle.coherent_names.specs.declared.name.Name.{Name}

taken : (names : List Name) (i : ℕ) (d : Name) → i < length names → flat_names (take (i + 1) names) ≡ flat_names (take i names) ++ flat_of (get_or names i d) ∷ []
taken names i d below = ap flat_names (take_more names i d below) ∙ map-append flat_of (take i names) (get_or names i d ∷ [])

-- one more of a list counts itself
more_counts : (p : FlatName → Bool) (names : List FlatName) (name : FlatName) (b : Bool) → p name ≡ b → count_by p (names ++ name ∷ []) ≡ count_by p names + cond b 1 0
more_counts p names name b e =
    let sum : count_by p (names ++ name ∷ []) ≡ count_by p names + (0 + cond (p name) 1 0) = sum_by-append (λ (n : FlatName). cond (p n) 1 0) names (name ∷ []) in
    let one = ap (λ (x : Bool). cond {A = ℕ} x 1 0) e in
    omega arith

equal_cmp : (a b : ℕ) → a ≡ b → is_eq (nat_cmp a b) ≡ true
equal_cmp a b h = grind (arith, nat_tests)

other_cmp : (a b : ℕ) → a ≢ b → is_eq (nat_cmp a b) ≡ false
other_cmp a b h = grind (arith, nat_tests)

pub counted : (names : List Name) (i : ℕ) (d : Name) (old new : ℕ → Option ℕ) (count ino : ℕ) → i < length names → count ≡ unwrap_or (old (get_or names i d).found.ino.0) 0
    → new ino ≡ cond (is_eq (nat_cmp (get_or names i d).found.ino.0 ino)) (Some (count + 1)) (old ino)
    → ((q : ℕ) → unwrap_or (old q) 0 ≡ count_by (leads_to q) (flat_names (take i names))) → unwrap_or (new ino) 0 ≡ count_by (leads_to ino) (flat_names (take (i + 1) names))
counted names i d old new count ino below had now before = go (cases_eq x.found.ino.0 ino)
  where
    x : Name
    x = get_or names i d

    all : (b : Bool) → leads_to ino (flat_of x) ≡ b → count_by (leads_to ino) (flat_names (take (i + 1) names)) ≡ count_by (leads_to ino) (flat_names (take i names)) + cond b 1 0
    all b e = ap (count_by (leads_to ino)) (taken names i d below) ∙ more_counts (leads_to ino) (flat_names (take i names)) (flat_of x) b e

    told : (b : Bool) → is_eq (nat_cmp x.found.ino.0 ino) ≡ b → unwrap_or (new ino) 0 ≡ unwrap_or (cond b (Some (count + 1)) (old ino)) 0
    told b e = ap (λ (o : Option ℕ). unwrap_or o 0) (now ∙ ap (λ (t : Bool). cond t (Some (count + 1)) (old ino)) e)

    go : (x.found.ino.0 ≡ ino) ⊎ (x.found.ino.0 ≢ ino) → unwrap_or (new ino) 0 ≡ count_by (leads_to ino) (flat_names (take (i + 1) names))
    go (inl same) =
        let one = told true (equal_cmp x.found.ino.0 ino same) in
        let two = all true (eq-eqb x.found.ino.0 ino same) in
        let three = before ino in
        let four = ap (λ (n : ℕ). unwrap_or (old n) 0) same in
        omega arith
    go (inr other) =
        let one = told false (other_cmp x.found.ino.0 ino other) in
        let two = all false (false_from_ne_true (leads_to ino (flat_of x)) (λ e. other (eqb-true x.found.ino.0 ino e))) in
        let three = before ino in
        omega arith
