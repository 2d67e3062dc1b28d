-- What can be told by looking: decisions of facts on numbers, lists and values that were read.
use Rattle.std.specs.Prelude.{◌≡◌, ◌≤◌, ◌<◌, ℕ, zero, suc, Bool, true, false, List, [], ◌∷◌, Option, Some, None, Result, Ok, Err, Contains, All, IsTrue}
use Rattle.std.proofs.Common.{refl, sym, subst, arith, inl, inr, ◌⊎◌}
use Rattle.std.specs.List.{AllByRecursion}
use Rattle.std.proofs.lemmas.Bool.{cases_eq, cases_lt}
use Rattle.std.proofs.lemmas.List.Elements.{All-from_recursion, recursion_from_All}
use Rattle.volume_image.proofs.Lists.{in_nothing, in_cons}
use Rattle.volume_image.proofs.Reaches.{head_in, tail_in}

pub map_told : {A B : Type 0} → (A → B) → (B → A) → Dec A → Dec B
map_told f g (yes a) = yes (f a)
map_told f g (no h) = no (λ b. h (g b))

pub both_told : {A B : Type 0} → Dec A → Dec B → Dec (A × B)
both_told (yes a) (yes b) = yes (a, b)
both_told (yes a) (no h) = no (λ p. h p.1)
both_told (no h) d = no (λ p. h p.0)

pub either_told : {A B : Type 0} → Dec A → Dec B → Dec (A ⊎ B)
either_told (yes a) d = yes (inl a)
either_told (no h) (yes b) = yes (inr b)
either_told (no h) (no k) = no (λ e. elim e [ inl a ↦ h a | inr b ↦ k b ])

pub if_told : {A B : Type 0} → Dec A → Dec B → Dec (A → B)
if_told d (yes b) = yes (λ a. b)
if_told (yes a) (no h) = no (λ f. h (f a))
if_told (no k) (no h) = yes (λ a. absurd (k a))

pub not_told : {A : Type 0} → Dec A → Dec (A → ⊥)
not_told (yes a) = no (λ h. h a)
not_told (no h) = yes h

-- ---- numbers and tests

pub same_number : (m n : ℕ) → Dec (m ≡ n)
same_number m n = elim (cases_eq m n) [ inl same ↦ yes same | inr other ↦ no other ]

pub at_most : (m n : ℕ) → Dec (m ≤ n)
at_most m n = go (cases_lt n m)
  where
    go : (n < m) ⊎ (m ≤ n) → Dec (m ≤ n)
    go (inl above) = no (λ below. omega arith)
    go (inr below) = yes below

pub is_so : (b : Bool) → Dec (IsTrue b)
is_so true = yes refl
is_so false = no (λ e. let no : false ≡ true = e in absurd cc)

-- each number below a bound
pub each_below : (P : ℕ → Type 0) → ((n : ℕ) → Dec (P n)) → (most : ℕ) → Dec ((n : ℕ) → n < most → P n)
each_below P told zero = yes (λ n below. absurd (omega arith))
each_below P told (suc most) = go (told most) (each_below P told most)
  where
    go : Dec (P most) → Dec ((n : ℕ) → n < most → P n) → Dec ((n : ℕ) → n < suc most → P n)
    go (no h) rest = no (λ all. h (all most (omega arith)))
    go (yes p) (no h) = no (λ all. h (λ n below. all n (omega arith)))
    go (yes p) (yes all) = yes (λ n below. elim (cases_eq n most) [ inl same ↦ subst P (sym same) p | inr other ↦ all n (omega arith) ])

-- ---- lists

pub each_in : {X : Type 0} (P : X → Type 0) → ((x : X) → Dec (P x)) → (xs : List X) → Dec ((x : X) → Contains xs x → P x)
each_in P told [] = yes (λ x c. absurd (in_nothing x c))
each_in {X} P told (x ∷ xs) = go (told x) (each_in P told xs)
  where
    go : Dec (P x) → Dec ((y : X) → Contains xs y → P y) → Dec ((y : X) → Contains (x ∷ xs) y → P y)
    go (no h) rest = no (λ all. h (all x (head_in x xs)))
    go (yes p) (no h) = no (λ all. h (λ y c. all y (tail_in x y xs c)))
    go (yes p) (yes all) = yes (λ y c. elim (in_cons x y xs c) [ inl here ↦ subst P here p | inr there ↦ all y there ])

pub one_in : {X : Type 0} (P : X → Type 0) → ((x : X) → Dec (P x)) → (xs : List X) → Dec ((x : X) × Contains xs x × P x)
one_in P told [] = no (λ p. in_nothing p.0 p.1)
one_in {X} P told (x ∷ xs) = go (told x) (one_in P told xs)
  where
    go : Dec (P x) → Dec ((y : X) × Contains xs y × P y) → Dec ((y : X) × Contains (x ∷ xs) y × P y)
    go (yes p) rest = yes (x, head_in x xs, p)
    go (no h) (yes there) = yes (there.0, tail_in x there.0 xs there.1, there.2)
    go (no h) (no k) = no (λ p. elim (in_cons x p.0 xs p.1) [ inl here ↦ h (subst P (sym here) p.2) | inr there ↦ k (p.0, there, p.2) ])

pub all_told : {X : Type 0} (P : X → Type 0) → ((x : X) → Dec (P x)) → (xs : List X) → Dec (AllByRecursion P xs)
all_told P told [] = yes tt
all_told P told (x ∷ xs) = both_told (told x) (all_told P told xs)

pub all_by_place : {X : Type 0} (P : X → Type 0) → ((x : X) → Dec (P x)) → (xs : List X) → Dec (All P xs)
all_by_place P told xs = map_told (All-from_recursion P xs) (recursion_from_All P xs) (all_told P told xs)

pub is_in : {X : Type 0} → ((x y : X) → Dec (x ≡ y)) → (xs : List X) (x : X) → Dec (Contains xs x)
is_in {X} same xs x = map_told (λ p. subst (λ (y : X). Contains xs y) p.2 p.1) (λ c. (x, c, refl)) (one_in (λ y. y ≡ x) (λ y. same y x) xs)

pub same_list : {X : Type 0} → ((x y : X) → Dec (x ≡ y)) → (xs ys : List X) → Dec (xs ≡ ys)
same_list same [] [] = yes refl
same_list same [] (y ∷ ys) = no (λ e. cc)
same_list same (x ∷ xs) [] = no (λ e. cc)
same_list {X} same (x ∷ xs) (y ∷ ys) = go (same x y) (same_list same xs ys)
  where
    go : Dec (x ≡ y) → Dec (xs ≡ ys) → Dec ((x ∷ xs) ≡ (y ∷ ys))
    go (yes a) (yes b) = yes (λ i. a i ∷ b i)
    go (yes a) (no h) = no (λ e. h cc)
    go (no h) d = no (λ e. h cc)

-- ---- values that may be there

pub if_some : {X : Type 0} (P : X → Type 0) → ((x : X) → Dec (P x)) → (o : Option X) → Dec ((x : X) → o ≡ Some x → P x)
if_some P told None = yes (λ x e. absurd cc)
if_some {X} P told (Some y) = map_told (λ p x e. subst P (some_is y x e) p) (λ f. f y refl) (told y)
  where
    some_is : (x y : X) → Some x ≡ Some y → x ≡ y
    some_is x y e = cc

pub if_ok : {X E : Type 0} (P : X → Type 0) → ((x : X) → Dec (P x)) → (r : Result X E) → Dec ((x : X) → r ≡ Ok x → P x)
if_ok P told (Err fault) = yes (λ x e. absurd cc)
if_ok {X} {E} P told (Ok y) = map_told (λ p x e. subst P (ok_is y x e) p) (λ f. f y refl) (told y)
  where
    ok_is : (x y : X) → ◌≡◌ {A = Result X E} (Ok x) (Ok y) → x ≡ y
    ok_is x y e = cc
