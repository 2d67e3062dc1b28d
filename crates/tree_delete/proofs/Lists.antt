-- How often lists have an address.
use Rattle.std.proofs.Common.{◌≡◌, ◌≤◌, ◌<◌, ◌+◌, ℕ, zero, suc, Bool, true, false, List, [], ◌∷◌, ◌++◌, length, slice_get, refl, ap, ◌∙◌, sym, subst, Some, ◌⊎◌, arith, inl, inr}
use Rattle.std.specs.Prelude.{All, Contains, ◌==◌, if◌then◌else◌, slice_index_or}
use Rattle.std.proofs.lemmas.Bool.{cases_Bool, cases_lt, eqb-true, eq-eqb}
use Rattle.std.proofs.lemmas.List.Elements.{All-contains, Contains-get_or, Contains-append_cases}
use Rattle.std.proofs.lemmas.Option.{slice_get-get_or}
use Rattle.blk_base.specs.Trees.{NoneTwice}
use Rattle.tree_range.specs.Part.{times_in}
use Rattle.blk_base.proofs.Members.{in_one, in_tail}

pub times_append : (at : ℕ) (xs ys : List ℕ) → times_in at (xs ++ ys) ≡ times_in at xs + times_in at ys
times_append at [] ys = omega arith
times_append at (x ∷ xs) ys = omega (arith, times_append at xs ys)

times_cons : (at x : ℕ) (xs : List ℕ) (b : Bool) → (x == at) ≡ b → times_in at (x ∷ xs) ≡ (if b then 1 else 0) + times_in at xs
times_cons at x xs b h = ap (λ (b' : Bool). (if b' then 1 else 0) + times_in at xs) h

times_contained : (at : ℕ) (xs : List ℕ) (place : ℕ) → place < length xs → slice_get xs place ≡ Some at → 1 ≤ times_in at xs
times_contained at [] place inside is = absurd (omega arith)
times_contained at (x ∷ xs) zero inside is = let same : x ≡ at = cc in omega (arith, times_cons at x xs true (eq-eqb x at same))
times_contained at (x ∷ xs) (suc place) inside is = omega (arith, times_contained at xs place (omega arith) is)

pub contained_by_times : (at : ℕ) (xs : List ℕ) → 1 ≤ times_in at xs → Contains xs at
contained_by_times at [] h = absurd (omega arith)
contained_by_times at (x ∷ xs) h = elim (cases_Bool (x == at)) [
  | inl same ↦ (0, omega arith, eqb-true x at same)
  | inr other ↦ in_tail x at xs (contained_by_times at xs (omega (arith, times_cons at x xs false other)))
]

get_of : (xs : List ℕ) (place at : ℕ) → place < length xs → slice_index_or xs place at ≡ at → slice_get xs place ≡ Some at
get_of xs place at inside is = slice_get-get_or xs place at inside ∙ ap (λ (n : ℕ). Some n) is

pub contains_times : (at : ℕ) (xs : List ℕ) → Contains xs at → 1 ≤ times_in at xs
contains_times at xs h = times_contained at xs h.0 h.1 (get_of xs h.0 at h.1 h.2)

pub none_twice_from : (xs : List ℕ) → ((at : ℕ) → times_in at xs ≤ 1) → NoneTwice xs
none_twice_from [] h = tt
none_twice_from (x ∷ xs) h =
    ((λ there. omega (arith, h x, times_cons x x xs true (eq-eqb x x refl), contains_times x xs there)), none_twice_from xs (λ at. omega (arith, h at)))

pub none_twice_to : (xs : List ℕ) (at : ℕ) → NoneTwice xs → times_in at xs ≤ 1
none_twice_to [] at h = omega arith
none_twice_to (x ∷ xs) at h = elim (cases_Bool (x == at)) [
  | inl same ↦
      let none : times_in at xs < 1 = elim (cases_lt (times_in at xs) 1) [
        | inl none ↦ none
        | inr some ↦ absurd (h.0 (subst (λ (a : ℕ). Contains xs a) (sym (eqb-true x at same)) (contained_by_times at xs some)))
      ] in
      omega (arith, times_cons at x xs true same)
  | inr other ↦ omega (arith, times_cons at x xs false other, none_twice_to xs at h.1)
]

-- two lists have each address equally often
abbrev pub IsShuffle : List ℕ → List ℕ → Type 0
IsShuffle xs ys = (at : ℕ) → times_in at xs ≡ times_in at ys

pub shuffle_back : (xs ys : List ℕ) → IsShuffle xs ys → IsShuffle ys xs
shuffle_back xs ys h = λ at. sym (h at)

pub shuffle_contains : (xs ys : List ℕ) (at : ℕ) → IsShuffle xs ys → Contains xs at → Contains ys at
shuffle_contains xs ys at h there = contained_by_times at ys (omega (arith, h at, contains_times at xs there))

pub shuffle_once : (xs ys : List ℕ) → IsShuffle xs ys → NoneTwice xs → NoneTwice ys
shuffle_once xs ys h once = none_twice_from ys (λ at. omega (arith, h at, none_twice_to xs at once))

pub shuffle_all : (P : ℕ → Type 0) (xs ys : List ℕ) → IsShuffle xs ys → All P xs → All P ys
shuffle_all P xs ys h all = λ k d inside. All-contains P xs (slice_index_or ys k d) all (shuffle_contains ys xs (slice_index_or ys k d) (shuffle_back xs ys h) (Contains-get_or ys k d inside))

-- what holds of each address that a list has holds of all
pub all_from : (P : ℕ → Type 0) (xs : List ℕ) → ((at : ℕ) → Contains xs at → P at) → All P xs
all_from P xs h = λ k d inside. h (slice_index_or xs k d) (Contains-get_or xs k d inside)

-- the two parts of a list in which none stands twice have no address in common
pub parts_apart : (whole before rest : List ℕ) (at : ℕ) → IsShuffle whole (before ++ rest) → NoneTwice whole → Contains before at → Contains rest at → ⊥
parts_apart whole before rest at h once there other =
    omega (arith, none_twice_to whole at once, h at, times_append at before rest, contains_times at before there, contains_times at rest other)

pub contains_first : (x : ℕ) (xs : List ℕ) → Contains (x ∷ xs) x
contains_first x xs = (0, omega arith, refl)

pub contains_behind : (x : ℕ) (xs : List ℕ) (at : ℕ) → Contains xs at → Contains (x ∷ xs) at
contains_behind x xs at h = in_tail x at xs h

pub contains_two : (x y at : ℕ) → Contains (x ∷ y ∷ []) at → (x ≡ at) ⊎ (y ≡ at)
contains_two x y at h = elim (Contains-append_cases (x ∷ []) (y ∷ []) at h) [
  | inl there ↦ inl (in_one x at there)
  | inr there ↦ inr (in_one y at there)
]
