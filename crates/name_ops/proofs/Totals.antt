-- How many bytes names have in an item, behind names that go and names that come.
use Rattle.std.proofs.Common.{◌≡◌, ◌+◌, ℕ, Bool, true, false, cond, List, [], ◌∷◌, Contains, filter, refl, ap, ◌∙◌, arith, zero-add}
use Rattle.std.specs.List.{sum_by}
use Rattle.std.proofs.lemmas.List.Sums.{sum_by-cons}
use Rattle.flat_model.specs.Names.{FlatName, add_name, is_name_set, remove_name}
use Rattle.flat_model.specs.Operations.{add_names}
use Rattle.flat_model.proofs.NameSets.{filter_add_other, filter_remove_name, filter_remove_other, is_name_set_add, is_name_set_filter, is_name_set_remove, sum_by_remove_name}
use Rattle.flat_model.proofs.Fresh.{sum_filter_add}
use Rattle.volume_image.proofs.Members.{filter_in}
use Rattle.name_ops.specs.Changes.{AreNew, AreThere, remove_names}

module _ (f : FlatName → ℕ) (p : FlatName → Bool) where
  -- the total of those that pass
  abbrev pub total : List FlatName → ℕ
  total names = sum_by f (filter p names)

  abbrev pub share : FlatName → ℕ
  share name = cond (p name) (f name) 0

  pub total_cons : (name : FlatName) (names : List FlatName) → total (name ∷ names) ≡ share name + total names
  total_cons name names =
      elim (p name) as (λ b. sum_by f (cond b (name ∷ filter p names) (filter p names)) ≡ cond b (f name) 0 + sum_by f (filter p names)) [
        | true ↦ sum_by-cons f name (filter p names)
        | false ↦ omega arith
      ]

  pub total_one : (name : FlatName) → p name ≡ true → total (name ∷ []) ≡ f name
  total_one name is = ap (λ (b : Bool). sum_by f (cond b (name ∷ []) [])) is ∙ zero-add (f name)

  total_remove : (names : List FlatName) (name : FlatName) → is_name_set names ≡ true → Contains names name → total (remove_name name names) + share name ≡ total names
  total_remove names name set there = go (p name) refl
    where
      go : (b : Bool) → p name ≡ b → total (remove_name name names) + cond b (f name) 0 ≡ total names
      go true is =
          let rest = sum_by_remove_name f name (filter p names) (is_name_set_filter p names set) (filter_in p names name there is) in
          let same = ap (sum_by f) (filter_remove_name p name names) in
          omega arith
      go false is = let same = ap (sum_by f) (filter_remove_other p name names is) in omega arith

  total_add : (names : List FlatName) (name : FlatName) → is_name_set names ≡ true → (Contains names name → ⊥) → total (add_name name names) ≡ share name + total names
  total_add names name set absent = go (p name) refl
    where
      go : (b : Bool) → p name ≡ b → total (add_name name names) ≡ cond b (f name) 0 + total names
      go true is = sum_filter_add f p name names set absent is
      go false is = let same = ap (sum_by f) (filter_add_other p name names is) in omega arith

  pub total_gone : (gone names : List FlatName) → is_name_set names ≡ true → AreThere names gone → total (remove_names names gone) + total gone ≡ total names
  total_gone [] names set there = omega arith
  total_gone (name ∷ gone) names set there =
      let rest = total_gone gone (remove_name name names) (is_name_set_remove name names set) there.1 in
      let one = total_remove names name set there.0 in
      let head = total_cons name gone in
      omega arith

  pub total_made : (made names : List FlatName) → is_name_set names ≡ true → AreNew names made → total (add_names names made) ≡ total names + total made
  total_made [] names set new = omega arith
  total_made (name ∷ made) names set new =
      let rest = total_made made (add_name name names) (is_name_set_add name names set) new.1 in
      let one = total_add names name set new.0 in
      let head = total_cons name made in
      omega arith

pub set_gone : (gone names : List FlatName) → is_name_set names ≡ true → is_name_set (remove_names names gone) ≡ true
set_gone [] names set = set
set_gone (name ∷ gone) names set = set_gone gone (remove_name name names) (is_name_set_remove name names set)

pub set_made : (made names : List FlatName) → is_name_set names ≡ true → is_name_set (add_names names made) ≡ true
set_made [] names set = set
set_made (name ∷ made) names set = set_made made (add_name name names) (is_name_set_add name names set)

-- both
pub total_after : (f : FlatName → ℕ) (p : FlatName → Bool) (names gone made : List FlatName) → is_name_set names ≡ true → AreThere names gone → AreNew (remove_names names gone) made
    → total f p (add_names (remove_names names gone) made) + total f p gone ≡ total f p names + total f p made
total_after f p names gone made set there new =
    let left = total_gone f p gone names set there in
    let right = total_made f p made (remove_names names gone) (set_gone gone names set) new in
    omega arith
