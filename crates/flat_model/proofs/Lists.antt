-- Facts on membership in lists.
use Rattle.std.proofs.Common.{◌≡◌, Bool, true, false, cond, List, [], ◌∷◌, refl, sym, ap, subst, ◌∙◌, arith, inl, inr, ◌⊎◌}
use Rattle.std.specs.List.{Contains, filter}
use Rattle.std.proofs.lemmas.List.Elements.{Contains-get_or, Contains-append_right, Contains-append_cases, Contains-push_cases}

module _ {X : Type 0} where
  pub contains_head : (x : X) (xs : List X) → Contains (x ∷ xs) x
  contains_head x xs = Contains-get_or (x ∷ xs) 0 x (omega arith)

  pub contains_tail : (x : X) (xs : List X) (y : X) → Contains xs y → Contains (x ∷ xs) y
  contains_tail x xs y c = Contains-append_right (x ∷ []) xs y c

  pub contains_none : (y : X) → Contains [] y → ⊥
  contains_none y c = let below = c.1 in omega arith

  pub contains_cases : (x : X) (xs : List X) (y : X) → Contains (x ∷ xs) y → (x ≡ y) ⊎ Contains xs y
  contains_cases x xs y c =
      elim (Contains-append_cases (x ∷ []) xs y c) [
        | inl h ↦ elim (Contains-push_cases [] x y h) [ inl none ↦ absurd (contains_none y none) | inr e ↦ inl e ]
        | inr h ↦ inr h
      ]

  pub contains_filter : (p : X → Bool) (xs : List X) (y : X) → p y ≡ true → Contains xs y → Contains (filter p xs) y
  contains_filter p [] y t c = absurd (contains_none y c)
  contains_filter p (x ∷ xs) y t c =
      elim (contains_cases x xs y c) [
        | inl e ↦ subst (λ b. Contains (cond b (x ∷ filter p xs) (filter p xs)) y) (sym (ap p e ∙ t)) (subst (λ z. Contains (x ∷ filter p xs) z) e (contains_head x _))
        | inr h ↦ elim (p x) as (λ b. Contains (cond b (x ∷ filter p xs) (filter p xs)) y) [
          | true ↦ contains_tail x _ y (contains_filter p xs y t h)
          | false ↦ contains_filter p xs y t h
        ]
      ]

  pub filter_contains : (p : X → Bool) (xs : List X) (y : X) → Contains (filter p xs) y → Contains xs y × (p y ≡ true)
  filter_contains p [] y c = absurd (contains_none y c)
  filter_contains p (x ∷ xs) y c =
      elim (p x) as (λ b. p x ≡ b → Contains (cond b (x ∷ filter p xs) (filter p xs)) y → Contains (x ∷ xs) y × (p y ≡ true)) [
        | true ↦ λ t d. elim (contains_cases x _ y d) [
          | inl e ↦ (subst (λ z. Contains (x ∷ xs) z) e (contains_head x xs), ap p (sym e) ∙ t)
          | inr h ↦ let rest = filter_contains p xs y h in (contains_tail x xs y rest.0, rest.1)
        ]
        | false ↦ λ f d. let rest = filter_contains p xs y d in (contains_tail x xs y rest.0, rest.1)
      ] refl c

  -- a filter that each element passes keeps the list
  pub filter_keeps : (p : X → Bool) (xs : List X) → ((y : X) → Contains xs y → p y ≡ true) → filter p xs ≡ xs
  filter_keeps p [] all = refl
  filter_keeps p (x ∷ xs) all =
      ap (λ b. cond b (x ∷ filter p xs) (filter p xs)) (all x (contains_head x xs)) ∙ ap (λ ys. x ∷ ys) (filter_keeps p xs (λ y c. all y (contains_tail x xs y c)))

  -- a filter that no element passes leaves none
  pub filter_empties : (p : X → Bool) (xs : List X) → ((y : X) → Contains xs y → p y ≡ false) → filter p xs ≡ []
  filter_empties p [] none = refl
  filter_empties p (x ∷ xs) none =
      ap (λ b. cond b (x ∷ filter p xs) (filter p xs)) (none x (contains_head x xs)) ∙ filter_empties p xs (λ y c. none y (contains_tail x xs y c))

  pub filter_swaps : (p q : X → Bool) (xs : List X) → filter p (filter q xs) ≡ filter q (filter p xs)
  filter_swaps p q [] = refl
  filter_swaps p q (x ∷ xs) =
      let rest = filter_swaps p q xs in
      elim (p x) as (λ a. p x ≡ a → filter p (cond (q x) (x ∷ filter q xs) (filter q xs)) ≡ filter q (cond a (x ∷ filter p xs) (filter p xs))) [
        | true ↦ λ t. elim (q x) as (λ b. q x ≡ b → filter p (cond b (x ∷ filter q xs) (filter q xs)) ≡ cond b (x ∷ filter q (filter p xs)) (filter q (filter p xs))) [
          | true ↦ λ u. ap (λ b. cond b (x ∷ filter p (filter q xs)) (filter p (filter q xs))) t ∙ ap (λ ys. x ∷ ys) rest
          | false ↦ λ u. rest
        ] refl
        | false ↦ λ f. elim (q x) as (λ b. filter p (cond b (x ∷ filter q xs) (filter q xs)) ≡ filter q (filter p xs)) [
          | true ↦ ap (λ b. cond b (x ∷ filter p (filter q xs)) (filter p (filter q xs))) f ∙ rest
          | false ↦ rest
        ]
      ] refl
