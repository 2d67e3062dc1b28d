-- Which addresses stand in a list, and lists in which none stands twice.
use Rattle.std.proofs.Common.{◌≡◌, ◌<◌, ◌⊎◌, ℕ, zero, suc, List, [], ◌∷◌, ◌++◌, length, refl, sym, subst, inl, inr, arith, le_of_suc-le-suc}
use Rattle.std.specs.Prelude.{Contains, slice_index_or}
use Rattle.std.proofs.lemmas.Bool.{cases_eq}
use Rattle.std.proofs.lemmas.List.Elements.{Contains-append_cases, Contains-append_left, Contains-append_right}
use Rattle.blk_base.specs.Trees.{NoneTwice}

pub in_nothing : (at : ℕ) → Contains [] at → ⊥
in_nothing at h = let inside = h.1 in omega arith

pub in_head : (x at : ℕ) (xs : List ℕ) → x ≡ at → Contains (x ∷ xs) at
in_head x at xs e = (0, omega arith, e)

pub in_tail : (x at : ℕ) (xs : List ℕ) → Contains xs at → Contains (x ∷ xs) at
in_tail x at xs h = (suc h.0, omega (arith, h.1), h.2)

-- what stands in a list is its head or stands behind it
pub in_cons : (x at : ℕ) (xs : List ℕ) → Contains (x ∷ xs) at → (x ≡ at) ⊎ Contains xs at
in_cons x at xs h = go h.0 h.1 h.2
  where
    go : (k : ℕ) → k < length (x ∷ xs) → slice_index_or (x ∷ xs) k at ≡ at → (x ≡ at) ⊎ Contains xs at
    go zero inside is = inl is
    go (suc k) inside is = inr (k, le_of_suc-le-suc inside, is)

pub in_one : (x at : ℕ) → Contains (x ∷ []) at → x ≡ at
in_one x at h = elim (in_cons x at [] h) [ inl e ↦ e | inr none ↦ absurd (in_nothing at none) ]

-- it stands in the list or it doesn't
pub is_in : (xs : List ℕ) (at : ℕ) → Contains xs at ⊎ (Contains xs at → ⊥)
is_in [] at = inr (in_nothing at)
is_in (x ∷ xs) at = elim (cases_eq x at) [
  | inl e ↦ inl (in_head x at xs e)
  | inr apart ↦ elim (is_in xs at) [
    | inl there ↦ inl (in_tail x at xs there)
    | inr gone ↦ inr (λ h. elim (in_cons x at xs h) [ inl e ↦ apart e | inr there ↦ gone there ])
  ]
]

-- ---- none stands twice

pub once_left : (xs ys : List ℕ) → NoneTwice (xs ++ ys) → NoneTwice xs
once_left [] ys h = tt
once_left (x ∷ xs) ys h = (λ there. h.0 (Contains-append_left xs ys x there), once_left xs ys h.1)

pub once_right : (xs ys : List ℕ) → NoneTwice (xs ++ ys) → NoneTwice ys
once_right [] ys h = h
once_right (x ∷ xs) ys h = once_right xs ys h.1

pub once_apart : (xs ys : List ℕ) → NoneTwice (xs ++ ys) → (at : ℕ) → Contains xs at → Contains ys at → ⊥
once_apart [] ys h at there here = in_nothing at there
once_apart (x ∷ xs) ys h at there here = elim (in_cons x at xs there) [
  | inl e ↦ h.0 (Contains-append_right xs ys x (subst (λ (a : ℕ). Contains ys a) (sym e) here))
  | inr behind ↦ once_apart xs ys h.1 at behind here
]

pub once_append : (xs ys : List ℕ) → NoneTwice xs → NoneTwice ys → ((at : ℕ) → Contains xs at → Contains ys at → ⊥) → NoneTwice (xs ++ ys)
once_append [] ys one two apart = two
once_append (x ∷ xs) ys one two apart = (
  λ there. elim (Contains-append_cases xs ys x there) [ inl here ↦ one.0 here | inr far ↦ apart x (in_head x x xs refl) far ],
  once_append xs ys one.1 two (λ at here far. apart at (in_tail x at xs here) far),
)
