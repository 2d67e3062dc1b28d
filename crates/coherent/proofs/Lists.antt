-- What stands once in a list: by places, by lengths, and in parts of it.
use Rattle.std.proofs.Common.{◌≡◌, ◌≤◌, ◌<◌, ◌++◌, ◌⊎◌, ◌==◌, ◌&&◌, ℕ, not, nat_lt, zero, suc, Bool, true, false, cond, List, [], ◌∷◌, length, filter, flat_map, slice_get, Contains, Some, refl, sym, ap, subst, ◌∙◌, arith, inl, inr}
use Rattle.std.proofs.lemmas.Bool.{and_from, and_parts, cases_lt, eq-eqb, eqb-true, false_from_ne_true, le-ltb, ltb-false, not-true, not_from_false}
use Rattle.std.proofs.lemmas.List.Elements.{filter-append, Contains-append_left}
use Rattle.volume_image.proofs.Lists.{in_cons, in_nothing}
use Rattle.volume_image.proofs.Members.{in_filter, filter_in}
use Rattle.volume_image.proofs.Reaches.{head_in, tail_in}
use Rattle.image_faults.specs.Faulty.{StandOnce}
use Rattle.image_faults.specs.Lists.{fewer, get_at, once_filter}
use Rattle.image_faults.specs.Lowest.{is_refuted}

pub clash : {A : Type 0} → true ≡ false → A
clash e = absurd cc

-- ---- by places

pub got : {X : Type 0} (xs : List X) (k : ℕ) (x : X) → slice_get xs k ≡ Some x → Contains xs x
got [] k x e = absurd cc
got (y ∷ xs) zero x e = let same : y ≡ x = cc in subst (Contains (y ∷ xs)) same (head_in y xs)
got (y ∷ xs) (suc k) x e = tail_in y x xs (got xs k x e)

-- what stands at two places doesn't stand once
pub once_apart : {X : Type 0} (p : X → Bool) (xs : List X) (j k : ℕ) (x : X) → StandOnce (filter p xs) → p x ≡ true → j < k → slice_get xs j ≡ Some x → slice_get xs k ≡ Some x → ⊥
once_apart p [] j k x once passes below a b = cc
once_apart p (y ∷ xs) zero zero x once passes below a b = omega arith
once_apart p (y ∷ xs) (suc j) zero x once passes below a b = omega arith
once_apart p (y ∷ xs) zero (suc k) x once passes below a b = go (p y) refl once
  where
    same : y ≡ x
    same = cc

    go : (t : Bool) → p y ≡ t → StandOnce (cond t (y ∷ filter p xs) (filter p xs)) → ⊥
    go true e o = o.0 (subst (Contains (filter p xs)) (sym same) (filter_in p xs x (got xs k x b) passes))
    go false e o = clash (sym passes ∙ ap p (sym same) ∙ e)
once_apart {X} p (y ∷ xs) (suc j) (suc k) x once passes below a b = once_apart p xs j k x (go (p y) once) passes (omega arith) a b
  where
    go : (t : Bool) → StandOnce (cond t (y ∷ filter p xs) (filter p xs)) → StandOnce (filter p xs)
    go true o = o.1
    go false o = o

-- where nothing that passes stands at two places, it stands once
pub apart_once : {X : Type 0} (p : X → Bool) (xs : List X) → ((j k : ℕ) (x : X) → p x ≡ true → j < k → slice_get xs j ≡ Some x → slice_get xs k ≡ Some x → ⊥) → StandOnce (filter p xs)
apart_once p [] apart = tt
apart_once p (y ∷ xs) apart = go (p y) refl (apart_once p xs (λ j k x passes below a b. apart (suc j) (suc k) x passes (omega arith) a b))
  where
    go : (t : Bool) → p y ≡ t → StandOnce (filter p xs) → StandOnce (cond t (y ∷ filter p xs) (filter p xs))
    go true e rest = ((λ c. let d = in_filter p xs y c in apart 0 (suc d.0.0) y e (omega arith) refl (get_at xs y d.0)), rest)
    go false e rest = rest

-- ---- parts

once_parts : {X : Type 0} (xs ys : List X) → StandOnce (xs ++ ys) → StandOnce xs × StandOnce ys
once_parts [] ys once = (tt, once)
once_parts (x ∷ xs) ys once = let parts = once_parts xs ys once.1 in (((λ c. once.0 (Contains-append_left xs ys x c)), parts.0), parts.1)

-- what one of the lists that were joined has of it
pub once_part : {X Y : Type 0} (f : X → List Y) (p : Y → Bool) (xs : List X) (x : X) → Contains xs x → StandOnce (filter p (flat_map f xs)) → StandOnce (filter p (f x))
once_part f p [] x c once = absurd (in_nothing x c)
once_part f p (y ∷ xs) x c once =
    let parts = once_parts (filter p (f y)) (filter p (flat_map f xs)) (subst StandOnce (filter-append p (f y) (flat_map f xs)) once) in
    elim (in_cons y x xs c) [
      | inl here ↦ subst (λ z. StandOnce (filter p (f z))) here parts.0
      | inr there ↦ once_part f p xs x there parts.1
    ]

-- a list passes as a whole
pub once_whole : {X : Type 0} (p : X → Bool) (xs : List X) → ((x : X) → Contains xs x → p x ≡ true) → StandOnce (filter p xs) → StandOnce xs
once_whole p [] all once = tt
once_whole {X} p (x ∷ xs) all once = go (p x) refl once (λ o. once_whole p xs (λ y c. all y (tail_in x y xs c)) o)
  where
    go : (t : Bool) → p x ≡ t → StandOnce (cond t (x ∷ filter p xs) (filter p xs)) → (StandOnce (filter p xs) → StandOnce xs) → StandOnce (x ∷ xs)
    go true e o rest = ((λ c. o.0 (filter_in p xs x c e)), rest o.1)
    go false e o rest = clash (sym (all x (head_in x xs)) ∙ e)

-- ---- by lengths

refuted_no : {P : Type 0} (d : Dec P) → is_refuted d ≡ true → P → ⊥
refuted_no (yes p) e = clash (sym e)
refuted_no (no h) e = h

refuted_yes : {P : Type 0} (d : Dec P) → (P → ⊥) → is_refuted d ≡ true
refuted_yes (yes p) h = absurd (h p)
refuted_yes (no h) other = refl

-- a list that has all of one in which nothing stands twice, and is no longer, has nothing twice
pub once_no_longer : {X : Type 0} (same : (x y : X) → Dec (x ≡ y)) (xs ys : List X) → StandOnce xs → ((x : X) → Contains xs x → Contains ys x) → length ys ≤ length xs → StandOnce ys
once_no_longer same xs [] once inside short = tt
once_no_longer {X} same xs (y ∷ ys) once inside short = (
  λ c. let less = fewer xs ys once (λ x d. elim (in_cons y x ys (inside x d)) [ inl here ↦ subst (Contains ys) here c | inr there ↦ there ]) in omega arith,
  once_no_longer same (filter other xs) ys (once_filter other xs once) kept (let more = fewer xs (y ∷ filter other xs) once (λ x d. back x d (same y x) refl) in omega arith),
)
  where
    other : X → Bool
    other x = is_refuted (same y x)

    kept : (x : X) → Contains (filter other xs) x → Contains ys x
    kept x c = let d = in_filter other xs x c in elim (in_cons y x ys (inside x d.0)) [ inl here ↦ absurd (refuted_no (same y x) d.1 here) | inr there ↦ there ]

    back : (x : X) → Contains xs x → (d : Dec (y ≡ x)) → same y x ≡ d → Contains (y ∷ filter other xs) x
    back x c (yes e) is = subst (Contains (y ∷ filter other xs)) e (head_in y (filter other xs))
    back x c (no h) is = tail_in y x (filter other xs) (filter_in other xs x c (refuted_yes (same y x) h))

-- ---- tests of numbers

-- what is neither below the least nor above the most is between them
pub between_to : (n low high : ℕ) → (not (nat_lt n low) && not (nat_lt high n)) ≡ true → (low ≤ n) × (n ≤ high)
between_to n low high h = let parts = and_parts (not (nat_lt n low)) (not (nat_lt high n)) h in (ltb-false n low (not-true _ parts.0), ltb-false high n (not-true _ parts.1))

pub between_from : (n low high : ℕ) → low ≤ n → n ≤ high → (not (nat_lt n low) && not (nat_lt high n)) ≡ true
between_from n low high below above = and_from (not (nat_lt n low)) (not (nat_lt high n)) (not_from_false _ (le-ltb n low below)) (not_from_false _ (le-ltb high n above))

-- the same, where the least is 1
pub some_to : (n high : ℕ) → (not (n == 0) && not (nat_lt high n)) ≡ true → (1 ≤ n) × (n ≤ high)
some_to n high h = let parts = and_parts (not (n == 0)) (not (nat_lt high n)) h in (some (cases_lt 0 n) (not-true _ parts.0), ltb-false high n (not-true _ parts.1))
  where
    some : (0 < n) ⊎ (n ≤ 0) → (n == 0) ≡ false → 1 ≤ n
    some (inl more) e = omega arith
    some (inr none) e = clash (sym (eq-eqb n 0 (omega arith)) ∙ e)

pub some_from : (n high : ℕ) → 1 ≤ n → n ≤ high → (not (n == 0) && not (nat_lt high n)) ≡ true
some_from n high below above = and_from (not (n == 0)) (not (nat_lt high n)) (not_from_false _ (false_from_ne_true (n == 0) (λ e. let none = eqb-true n 0 e in omega arith))) (not_from_false _ (le-ltb high n above))
