-- Facts on steps up to the root directory.
use Rattle.std.proofs.Common.{◌≡◌, ◌≢◌, ℕ, zero, suc, ◌≤◌, Bool, true, false, ◌||◌, List, [], ◌∷◌, length, Option, Some, None, refl, sym, ap, subst, ◌∙◌, arith, inl, inr, ◌⊎◌}
use Rattle.std.specs.Bool.{nat_eq}
use Rattle.std.specs.List.{Contains, find}
use Rattle.std.proofs.lemmas.Bool.{true≢false, eqb-true, eq-eqb, ne_eqb, cases_eq}
use Rattle.flat_model.specs.Names.{FlatName, leads_to, is_name_set, remove_name}
use Rattle.flat_model.specs.Volume.{Subvolume, is_dir_at}
use Rattle.flat_model.specs.Coherent.{IsCoherent, LeadsUp}
use Rattle.flat_model.proofs.Lists.{contains_head, contains_tail}
use Rattle.flat_model.proofs.NameSets.{is_name_set_remove, remove_name_keeps, length_remove_name}
use Rattle.flat_model.proofs.Ways.{find_some, find_none, dir_name_once, dir_of_name, way_avoids_own, way_names}
use Rattle.flat_check.specs.Parts.{dir_or, dir_above, reaches_root}

-- ---- the loop

pub reached : (names : List FlatName) (steps dir : ℕ) → dir ≡ 256 → reaches_root names steps dir ≡ true
reached names zero dir is = eq-eqb dir 256 is
reached names (suc steps) dir is = ap (λ b. b || reaches_root names steps (dir_above names dir)) (eq-eqb dir 256 is)

pub reached_or_not : (names : List FlatName) (steps dir : ℕ) → steps ≡ 0 → reaches_root names steps dir ≡ nat_eq dir 256
reached_or_not names zero dir none = refl
reached_or_not names (suc steps) dir none = absurd (omega arith)

pub step_up : (names : List FlatName) (steps fewer dir : ℕ) → steps ≡ suc fewer → dir ≢ 256 → reaches_root names steps dir ≡ reaches_root names fewer (dir_above names dir)
step_up names zero fewer dir is below = absurd (omega arith)
step_up names (suc steps) fewer dir is below =
    let same : steps ≡ fewer = omega arith in
    ap (λ b. b || reaches_root names steps (dir_above names dir)) (ne_eqb dir 256 below) ∙ ap (λ n. reaches_root names n (dir_above names dir)) same

-- ---- a reached root is a way up

or_cases : (a b : Bool) → (a || b) ≡ true → (a ≡ true) ⊎ (b ≡ true)
or_cases true b e = inl refl
or_cases false b e = inr e

way_by : (names : List FlatName) (dir : ℕ) (o : Option FlatName) → find (leads_to dir) names ≡ o → (way : List FlatName) → LeadsUp names (dir_or dir o) way → (other : List FlatName) × LeadsUp names dir other
way_by names dir None is way up = (way, up)
way_by names dir (Some name) is way up =
    let found = find_some (leads_to dir) names name is in
    (name ∷ way, (found.0, eqb-true name.ino dir found.1, up))

pub way_from : (names : List FlatName) (steps dir : ℕ) → reaches_root names steps dir ≡ true → (way : List FlatName) × LeadsUp names dir way
way_from names zero dir is = ([], eqb-true dir 256 is)
way_from names (suc steps) dir is =
    elim (or_cases (nat_eq dir 256) _ is) [
      | inl here ↦ ([], eqb-true dir 256 here)
      | inr later ↦ let rest = way_from names steps (dir_above names dir) later in way_by names dir (find (leads_to dir) names) refl rest.0 rest.1
    ]

-- ---- a way up reaches the root

-- no name stands in the list twice
abbrev IsDistinct : List FlatName → Type 0
IsDistinct [] = Unit {0}
IsDistinct (name ∷ names) = (Contains names name → ⊥) × IsDistinct names

-- names of a set, none of them twice, are no more than the set
within_set : (way names : List FlatName) → is_name_set names ≡ true → IsDistinct way → ((name : FlatName) → Contains way name → Contains names name) → length way ≤ length names
within_set [] names set distinct each = omega arith
within_set (name ∷ way) names set distinct each =
    let there = each name (contains_head name way) in
    let rest = within_set way (remove_name name names) (is_name_set_remove name names set) distinct.1
    (λ other c. remove_name_keeps name names other (each other (contains_tail name way other c)) (λ same. distinct.0 (subst (Contains way) (sym same) c))) in
    let one_less = length_remove_name name names set there in
    omega (arith, rest, one_less)

module _ (sub : Subvolume) (coherent : IsCoherent sub) where
  way_distinct : (dir : ℕ) (way : List FlatName) → LeadsUp sub.names dir way → IsDistinct way
  way_distinct dir [] up = tt
  way_distinct dir (name ∷ way) up = (way_avoids_own sub coherent name up.0 way up.2, way_distinct name.dir way up.2)

  above_by : (dir : ℕ) (name : FlatName) (o : Option FlatName) → find (leads_to dir) sub.names ≡ o → is_dir_at sub dir ≡ true → Contains sub.names name → name.ino ≡ dir → dir_or dir o ≡ name.dir
  above_by dir name None is is_dir there leads = absurd (true≢false (sym (eq-eqb name.ino dir leads) ∙ find_none (leads_to dir) sub.names is name there))
  above_by dir name (Some other) is is_dir there leads =
      let found = find_some (leads_to dir) sub.names other is in
      let leads_too : other.ino ≡ dir = eqb-true other.ino dir found.1 in
      ap (λ (n : FlatName). n.dir) (dir_name_once sub coherent other name found.0 there (leads_too ∙ sym leads) (subst (λ d. is_dir_at sub d ≡ true) (sym leads_too) is_dir))

  reaches : (dir : ℕ) (way : List FlatName) (steps : ℕ) → is_dir_at sub dir ≡ true → LeadsUp sub.names dir way → length way ≤ steps → reaches_root sub.names steps dir ≡ true
  reaches dir [] steps is_dir up within = reached sub.names steps dir up
  reaches dir (name ∷ way) zero is_dir up within = absurd (omega arith)
  reaches dir (name ∷ way) (suc steps) is_dir up within =
      let above = above_by dir name (find (leads_to dir) sub.names) refl is_dir up.0 up.1 in
      let rest = reaches name.dir way steps (dir_of_name sub coherent name up.0) up.2 (omega arith) in
      elim (cases_eq dir 256) [
        | inl same ↦ reached sub.names (suc steps) dir same
        | inr below ↦ step_up sub.names (suc steps) steps dir refl below ∙ ap (reaches_root sub.names steps) above ∙ rest
      ]

  -- from a directory of a coherent subvolume the root is reached by as many steps as there are names
  pub coherent_reaches : (dir : ℕ) → is_dir_at sub dir ≡ true → reaches_root sub.names (length sub.names) dir ≡ true
  coherent_reaches dir is_dir =
      let found = coherent.ends_at_root dir is_dir in
      reaches dir found.0 (length sub.names) is_dir found.1
      (within_set found.0 sub.names coherent.in_order (way_distinct dir found.0 found.1) (way_names sub.names dir found.0 found.1))
