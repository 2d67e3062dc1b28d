-- Lists of numbers: none twice, and lists with none in common.
use Rattle.std.proofs.Common.{◌≡◌, ◌++◌, ◌==◌, ℕ, suc, true, false, List, [], ◌∷◌, Contains, refl, arith, inl, inr}
use Rattle.std.proofs.lemmas.Bool.{or_cases, or_left, or_right, eqb-true, eq-eqb, false_from_ne_true}
use Rattle.std.proofs.lemmas.List.Elements.{Contains-append_left, Contains-append_right, Contains-append_cases}
use Rattle.blk_base.specs.Trees.{NoneTwice, AreApart}
use Rattle.disk_model.proofs.CrashLaws.{Contains-cons_cases, Contains-none}
use Rattle.foreign_tree.specs.Tree.{was_reached}

-- the head of a list stands in it, and so does what stands in its tail
pub head_in : {X : Type 0} (x : X) (xs : List X) → Contains (x ∷ xs) x
head_in x xs = (0, omega arith, refl)

pub tail_in : {X : Type 0} (x y : X) (xs : List X) → Contains xs y → Contains (x ∷ xs) y
tail_in x y xs (k, below, is) = (suc k, omega arith, is)

pub was_reached-true : (at : ℕ) (reached : List ℕ) → was_reached at reached ≡ true → Contains reached at
was_reached-true at [] h = absurd cc
was_reached-true at (other ∷ reached) h = elim (or_cases (other == at) (was_reached at reached) h) [
  | inl here ↦ rw (eqb-true other at here) (head_in at reached)
  | inr there ↦ tail_in other at reached (was_reached-true at reached there)
]

pub was_reached-in : (at : ℕ) (reached : List ℕ) → Contains reached at → was_reached at reached ≡ true
was_reached-in at [] c = absurd (Contains-none at c)
was_reached-in at (other ∷ reached) c = elim (Contains-cons_cases other reached at c) [
  | inl here ↦ or_left (other == at) (was_reached at reached) (eq-eqb other at here)
  | inr there ↦ or_right (other == at) (was_reached at reached) (was_reached-in at reached there)
]

pub not_reached : (at : ℕ) (reached : List ℕ) → was_reached at reached ≡ false → Contains reached at → ⊥
not_reached at reached out c = let reached_it = was_reached-in at reached c in absurd cc

pub not_in : (at : ℕ) (reached : List ℕ) → (Contains reached at → ⊥) → was_reached at reached ≡ false
not_in at reached out = false_from_ne_true _ (λ h. out (was_reached-true at reached h))

pub none_twice_joined : (near far : List ℕ) → NoneTwice near → NoneTwice far → AreApart near far → NoneTwice (near ++ far)
none_twice_joined [] far a b apart = b
none_twice_joined (at ∷ near) far a b apart = (
  (λ c. elim (Contains-append_cases near far at c) [ inl here ↦ a.0 here | inr there ↦ apart at (head_in at near) there ]),
  none_twice_joined near far a.1 b (λ x c d. apart x (tail_in at x near c) d),
)

pub none_twice_parts : (near far : List ℕ) → NoneTwice (near ++ far) → NoneTwice near × NoneTwice far × AreApart near far
none_twice_parts [] far a = (tt, a, λ x c d. Contains-none x c)
none_twice_parts (at ∷ near) far a =
    let rest = none_twice_parts near far a.1 in (
      ((λ c. a.0 (Contains-append_left near far at c)), rest.0),
      rest.1,
      λ x c d. elim (Contains-cons_cases at near x c) [
        | inl here ↦ a.0 (Contains-append_right near far at (rw here d))
        | inr there ↦ rest.2 x there d
      ],
    )
