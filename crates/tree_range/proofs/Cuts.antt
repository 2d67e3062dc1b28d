-- Lists cut at a place.
use Rattle.std.proofs.Common.{◌∙◌, ◌≡◌, ◌<◌, ℕ, zero, suc, List, [], ◌∷◌, ◌++◌, length, map, take, drop, slice_get, refl, ap, sym, Some, arith}
use Rattle.std.specs.Prelude.{All}
use Rattle.std.proofs.lemmas.List.Elements.{All-nil, All-cons, All-head, All-tail}

-- the element there, where there is one
pub record IsAt {A B : Type 0} (f : A → B) (xs : List A) (place : ℕ) (value : B) : Type 0 where
  pub element : A
  pub at_place : slice_get xs place ≡ Some element
  pub value_is : f element ≡ value

pub mapped_at : {A B : Type 0} (f : A → B) (xs : List A) (place : ℕ) (value : B) → slice_get (map f xs) place ≡ Some value → IsAt f xs place value
mapped_at f [] place value h = absurd cc
mapped_at f (x ∷ xs) zero value h = record { element = x; at_place = refl; value_is = cc }
mapped_at f (x ∷ xs) (suc place) value h =
    let there = mapped_at f xs place value h in
    record { element = there.element; at_place = there.at_place; value_is = there.value_is }

pub at_within : {A : Type 0} (xs : List A) (place : ℕ) → place < length xs → (x : A) × (slice_get xs place ≡ Some x)
at_within [] place h = absurd (omega arith)
at_within (x ∷ xs) zero h = (x, refl)
at_within (x ∷ xs) (suc place) h = at_within xs place (omega arith)

pub cut_at : {A : Type 0} (xs : List A) (place : ℕ) (x : A) → slice_get xs place ≡ Some x → xs ≡ take place xs ++ x ∷ drop (suc place) xs
cut_at [] place x h = absurd cc
cut_at (y ∷ ys) zero x h = let same : y ≡ x = cc in ap (λ z. z ∷ ys) same
cut_at (y ∷ ys) (suc place) x h = ap (λ l. y ∷ l) (cut_at ys place x h)

pub length_cut : {A : Type 0} (xs : List A) (place : ℕ) (x : A) → slice_get xs place ≡ Some x → length (take place xs) ≡ place
length_cut [] place x h = absurd cc
length_cut (y ∷ ys) zero x h = refl
length_cut (y ∷ ys) (suc place) x h = ap (λ n. suc n) (length_cut ys place x h)

pub drop_here : {A : Type 0} (xs : List A) (place : ℕ) (x : A) → slice_get xs place ≡ Some x → drop place xs ≡ x ∷ drop (suc place) xs
drop_here [] place x h = absurd cc
drop_here (y ∷ ys) zero x h = let same : y ≡ x = cc in ap (λ z. z ∷ ys) same
drop_here (y ∷ ys) (suc place) x h = drop_here ys place x h

-- what holds of all up to a place holds there
pub take_last : {A : Type 0} (P : A → Type 0) (xs : List A) (place : ℕ) (x : A) → slice_get xs place ≡ Some x → All P (take (suc place) xs) → P x
take_last P [] place x h all = absurd cc
take_last P (y ∷ ys) zero x h all = let same : y ≡ x = cc in rw (sym same) (All-head P y [] all)
take_last P (y ∷ ys) (suc place) x h all = take_last P ys place x h (All-tail P y (take (suc place) ys) all)

pub All-unmap : {A B : Type 0} (P : B → Type 0) (f : A → B) (xs : List A) → All P (map f xs) → All (λ x. P (f x)) xs
All-unmap P f [] h = All-nil (λ x. P (f x))
All-unmap P f (x ∷ xs) h = All-cons (λ y. P (f y)) x xs (All-head P (f x) (map f xs) h) (All-unmap P f xs (All-tail P (f x) (map f xs) h))

pub at_cut : {A B : Type 0} (f : A → B) (lefts : List A) (x : A) (rights : List A) → slice_get (map f (lefts ++ x ∷ rights)) (length lefts) ≡ Some (f x)
at_cut f [] x rights = refl
at_cut f (y ∷ ys) x rights = at_cut f ys x rights

pub drop_cut : {A : Type 0} (lefts : List A) (x : A) (rights : List A) → drop (suc (length lefts)) (lefts ++ x ∷ rights) ≡ rights
drop_cut [] x rights = refl
drop_cut (y ∷ ys) x rights = drop_cut ys x rights

pub length_at : {A : Type 0} (lefts : List A) (x : A) (rights : List A) → length lefts < length (lefts ++ x ∷ rights)
length_at [] x rights = omega arith
length_at (y ∷ ys) x rights = omega (arith, length_at ys x rights)

-- a list is cut in one way at a place
pub cut_same : {A : Type 0} (xs : List A) (x : A) (ys zs : List A) (z : A) (ws : List A) → xs ++ x ∷ ys ≡ zs ++ z ∷ ws → length xs ≡ length zs → (xs ≡ zs) × (x ≡ z) × (ys ≡ ws)
cut_same {A = A} [] x ys [] z ws h long = (refl, cc, cc)
cut_same {A = A} [] x ys (z' ∷ zs) z ws h long = absurd (omega arith)
cut_same {A = A} (x' ∷ xs) x ys [] z ws h long = absurd (omega arith)
cut_same {A = A} (x' ∷ xs) x ys (z' ∷ zs) z ws h long =
    let first : x' ≡ z' = cc in
    let rest : xs ++ x ∷ ys ≡ zs ++ z ∷ ws = cc in
    let others = cut_same xs x ys zs z ws rest (omega arith) in
    (ap (λ (l : List A). x' ∷ l) others.0 ∙ ap (λ (y : A). y ∷ zs) first, others.1, others.2)
