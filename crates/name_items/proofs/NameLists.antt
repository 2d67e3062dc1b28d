-- The names that pass a test, with one name more and with one less.
use Rattle.std.proofs.Common.{◌≡◌, ◌∙◌, Bool, true, false, not, cond, List, [], ◌∷◌, refl, sym, ap, subst, inl, inr}
use Rattle.std.specs.Prelude.{Contains, filter}
use Rattle.std.specs.List.Sorted.{IsPermutation}
use Rattle.std.specs.Ordering.{match_ordering}
use Rattle.std.specs.declared.cmp.Ordering.TheVariants.{Less, Equal, Greater}
use Rattle.std.proofs.lemmas.Bool.{true≢false}
use Rattle.std.proofs.lemmas.List.Sorted.{IsPermutation-cons, IsPermutation-middle, IsPermutation-refl, IsPermutation-sym, IsPermutation-trans}
use Rattle.flat_model.specs.Names.{FlatName, add_name, is_name_set, is_same_name, name_cmp, remove_name}
use Rattle.flat_model.proofs.NameSets.{filter_add_name, filter_remove_name, is_name_set_filter, is_same_name_itself, is_same_name_true, name_cmp_antisymmetric, remove_name_absent, set_head_once, set_tail}
use Rattle.volume_image.proofs.Lists.{in_cons, in_nothing}
use Rattle.volume_image.proofs.Members.{filter_in, in_filter}
use Rattle.volume_image.proofs.Reaches.{head_in, tail_in}

exchanged : {X : Type 0} (x y : X) (xs : List X) → IsPermutation (x ∷ y ∷ xs) (y ∷ x ∷ xs)
exchanged x y xs =
    IsPermutation-sym (y ∷ x ∷ xs) (x ∷ y ∷ xs) (IsPermutation-middle (y ∷ []) x xs)

pub added_order : (name : FlatName) (names : List FlatName) → (Contains names name → ⊥) → IsPermutation (name ∷ names) (add_name name names)
added_order name [] absent = IsPermutation-refl (name ∷ [])
added_order name (other ∷ names) absent =
    elim (name_cmp name other) as (λ o. name_cmp name other ≡ o → IsPermutation (name ∷ other ∷ names) (match_ordering o (name ∷ other ∷ names) (other ∷ names) (other ∷ add_name name names))) [
      | Less ↦ λ e. IsPermutation-refl (name ∷ other ∷ names)
      | Equal ↦ λ e. absurd (absent (subst (λ z. Contains (other ∷ names) z) (sym (name_cmp_antisymmetric name other e)) (head_in other names)))
      | Greater ↦ λ e. IsPermutation-trans (name ∷ other ∷ names) (other ∷ name ∷ names) (other ∷ add_name name names) (exchanged name other names)
          (IsPermutation-cons other (name ∷ names) (add_name name names) (added_order name names (λ c. absent (tail_in other name names c))))
    ] refl

pub removed_order : (name : FlatName) (names : List FlatName) → is_name_set names ≡ true → Contains names name → IsPermutation names (name ∷ remove_name name names)
removed_order name [] set c = absurd (in_nothing name c)
removed_order name (other ∷ names) set c =
    elim (is_same_name name other) as (λ b. is_same_name name other ≡ b → IsPermutation (other ∷ names) (name ∷ cond (not b) (other ∷ remove_name name names) (remove_name name names))) [
      | true ↦ λ e. let same : name ≡ other = is_same_name_true name other e in
          let left : remove_name name names ≡ names = remove_name_absent name names (λ h. set_head_once other names set (subst (λ z. Contains names z) same h)) in
          subst (λ ys. IsPermutation (other ∷ names) (name ∷ ys)) (sym left) (subst (λ z. IsPermutation (other ∷ names) (z ∷ names)) (sym same) (IsPermutation-refl (other ∷ names)))
      | false ↦ λ e. elim (in_cons other name names c) [
        | inl same ↦ absurd (true≢false (sym (is_same_name_itself name) ∙ ap (is_same_name name) (sym same) ∙ e))
        | inr h ↦ IsPermutation-trans (other ∷ names) (other ∷ name ∷ remove_name name names) (name ∷ other ∷ remove_name name names)
            (IsPermutation-cons other names (name ∷ remove_name name names) (removed_order name names (set_tail other names set) h)) (exchanged other name (remove_name name names))
      ]
    ] refl

-- ---- those that pass a test

module _ (p : FlatName → Bool) (name : FlatName) (names : List FlatName) (set : is_name_set names ≡ true) (passes : p name ≡ true) where
  pub added_passing : (Contains names name → ⊥) → IsPermutation (name ∷ filter p names) (filter p (add_name name names))
  added_passing absent =
      subst (IsPermutation (name ∷ filter p names)) (sym (filter_add_name p name names set passes)) (added_order name (filter p names) (λ c. absent (in_filter p names name c).0))

  pub removed_passing : Contains names name → IsPermutation (filter p names) (name ∷ filter p (remove_name name names))
  removed_passing there =
      subst (λ (l : List FlatName). IsPermutation (filter p names) (name ∷ l)) (sym (filter_remove_name p name names)) (removed_order name (filter p names) (is_name_set_filter p names set) (filter_in p names name there passes))
