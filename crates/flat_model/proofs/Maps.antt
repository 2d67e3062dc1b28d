-- Facts on finite maps, on the numbers beside a subvolume, and on sums over filters.
use Rattle.std.proofs.Common.{◌≡◌, ◌≢◌, ℕ, ◌<◌, ◌≤◌, ◌+◌, max, Bool, true, false, cond, not, ◌&&◌, List, [], ◌∷◌, Option, Some, None, refl, sym, ap, subst, ◌∙◌, arith, inl, inr, ◌⊎◌}
use Rattle.std.specs.Ordering.{nat_cmp, is_eq, eq_by_cmp}
use Rattle.std.specs.Option.{unwrap_or, is_some}
use Rattle.std.specs.Cmp.{nat_cmp_total, tied_itself, unsigned_tied}
use Rattle.std.specs.FinMap.{FinMap, get, insert, remove, get-insert, get-remove, same_map, nat_cmp-IsAntisymmetric}
use Rattle.std.specs.List.{filter, sum_by}
use Rattle.std.proofs.lemmas.Bool.{true≢false, ne_eqb, cases_eq}
use Rattle.std.proofs.lemmas.List.Sums.{sum_by-cons}

-- one of the two sides
pub some_same : {A : Type 0} (x y : A) → Some x ≡ Some y → x ≡ y
some_same x y e = ap (λ o. unwrap_or o x) e

pub some_none : {A : Type 0} (x : A) → Some x ≡ None → ⊥
some_none x e = true≢false (ap is_some e)

apart : (q k : ℕ) → q ≢ k → eq_by_cmp nat_cmp q k ≡ false
apart q k other = unsigned_tied q k ∙ ne_eqb q k other

module _ {X : Type 0} where
  pub get_insert_same : (m : FinMap nat_cmp X) (k : ℕ) (x : X) → get (insert m k x) k ≡ Some x
  get_insert_same m k x = get-insert nat_cmp_total m k x k ∙ ap (λ r. cond (is_eq r) (Some x) (get m k)) (tied_itself nat_cmp_total k)

  pub get_insert_other : (m : FinMap nat_cmp X) (k : ℕ) (x : X) (q : ℕ) → q ≢ k → get (insert m k x) q ≡ get m q
  get_insert_other m k x q other = get-insert nat_cmp_total m k x q ∙ ap (λ b. cond b (Some x) (get m q)) (apart q k other)

  pub get_remove_same : (m : FinMap nat_cmp X) (k : ℕ) → get (remove m k) k ≡ None
  get_remove_same m k = get-remove nat_cmp_total m k k ∙ ap (λ r. cond (is_eq r) None (get m k)) (tied_itself nat_cmp_total k)

  pub get_remove_other : (m : FinMap nat_cmp X) (k q : ℕ) → q ≢ k → get (remove m k) q ≡ get m q
  get_remove_other m k q other = get-remove nat_cmp_total m k q ∙ ap (λ b. cond b None (get m q)) (apart q k other)

  -- what is at a key after an insertion
  pub insert_cases : (m : FinMap nat_cmp X) (k : ℕ) (x : X) (q : ℕ) (y : X) → get (insert m k x) q ≡ Some y → ((q ≡ k) × (y ≡ x)) ⊎ ((q ≢ k) × (get m q ≡ Some y))
  insert_cases m k x q y e =
      elim (cases_eq q k) [
        | inl same ↦ inl (same, some_same y x (sym e ∙ subst (λ z. get (insert m k x) z ≡ Some x) (sym same) (get_insert_same m k x)))
        | inr other ↦ inr (other, sym (get_insert_other m k x q other) ∙ e)
      ]

  -- and after a removal
  pub remove_cases : (m : FinMap nat_cmp X) (k q : ℕ) (y : X) → get (remove m k) q ≡ Some y → (q ≢ k) × (get m q ≡ Some y)
  remove_cases m k q y e =
      elim (cases_eq q k) [
        | inl same ↦ absurd (some_none y (sym e ∙ subst (λ z. get (remove m k) z ≡ None) (sym same) (get_remove_same m k)))
        | inr other ↦ (other, sym (get_remove_other m k q other) ∙ e)
      ]

  -- to insert what is there changes nothing
  pub insert_same : (m : FinMap nat_cmp X) (k : ℕ) (x : X) → get m k ≡ Some x → insert m k x ≡ m
  insert_same m k x there = same_map nat_cmp_total nat_cmp-IsAntisymmetric _ _ (λ q. elim (cases_eq q k) [
    | inl same ↦ subst (λ z. get (insert m k x) z ≡ get m z) (sym same) (get_insert_same m k x ∙ sym there)
    | inr other ↦ get_insert_other m k x q other
  ])

  -- a filter lets no sum grow
  pub sum_filter_le : (f : X → ℕ) (p : X → Bool) (xs : List X) → sum_by f (filter p xs) ≤ sum_by f xs
  sum_filter_le f p [] = omega arith
  sum_filter_le f p (x ∷ xs) =
      let rest = sum_filter_le f p xs in
      elim (p x) as (λ b. sum_by f (cond b (x ∷ filter p xs) (filter p xs)) ≤ sum_by f (x ∷ xs)) [
        | true ↦ omega (arith, sum_by-cons f x (filter p xs), sum_by-cons f x xs, rest)
        | false ↦ omega (arith, sum_by-cons f x xs, rest)
      ]

pub no_length : {X : Type 0} (xs : List X) → Rattle.std.proofs.Common.length xs ≡ 0 → xs ≡ []
no_length [] e = refl
no_length (x ∷ xs) e = absurd (omega arith)
