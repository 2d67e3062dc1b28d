-- Facts on what moves names.
use Rattle.std.proofs.Common.{◌≡◌, ℕ, suc, ◌<◌, ◌≤◌, ◌-◌, true, false, ◌&&◌, List, [], ◌∷◌, length, drop, Some, None, refl, sym, ap, ◌∙◌, arith, inl, inr, nat_eq, nat_lt, bytes_eq}
use Rattle.std.specs.List.{Contains}
use Rattle.std.specs.declared.cmp.Ordering.TheVariants.{Less, Equal, Greater}
use Rattle.std.specs.Ordering.{match_ordering, is_lt}
use Rattle.std.proofs.lemmas.Bool.{true≢false, lt-ltb, le-ltb}
use Rattle.flat_model.specs.Names.{FlatName, name_cmp, name_cmp_total, is_name_set}
use Rattle.flat_model.specs.Walk.{WalkEnd, AtRoot, AtSlot, Missing, Blocked, is_below, is_one_inode, dir_of, bytes_of}
use Rattle.flat_model.specs.Operations.{new_name, has_room_near}
use Rattle.flat_model.proofs.Lists.{contains_none, contains_cases}
use Rattle.flat_model.proofs.NameSets.{name_cmp_antisymmetric, name_cmp_itself, set_head_below, set_tail}
use Rattle.flat_sub.specs.Building.{place_in, has_name}
use Rattle.flat_sub.specs.Moves.{leads_there}
use Rattle.flat_sub.proofs.Makings.{marked}

-- ---- a path below another

-- where one of two paths has ended, the upper one is the shorter
pub below_end : (upper lower : List (List ℕ)) (a b at : ℕ) → length upper ≡ a - at → length lower ≡ b - at → at ≤ a → at ≤ b → (at < a → at < b → ⊥) → nat_lt a b ≡ is_below upper lower
below_end [] [] a b at long short within below ends = le-ltb a b (omega (arith, long, short))
below_end [] (name ∷ lower) a b at long short within below ends = lt-ltb a b (omega (arith, long, short))
below_end (one ∷ upper) [] a b at long short within below ends = le-ltb a b (omega (arith, long, short))
below_end (one ∷ upper) (name ∷ lower) a b at long short within below ends = absurd (ends (omega (arith, long)) (omega (arith, short)))

-- a name of each path on, where they are the same
pub below_step : (upper lower us ls : List (List ℕ)) (one name : List ℕ) → upper ≡ one ∷ us → lower ≡ name ∷ ls → bytes_eq one name ≡ true → is_below upper lower ≡ is_below us ls
below_step upper lower us ls one name upper_is lower_is same = (λ i. is_below (upper_is i) (lower_is i)) ∙ ap (λ b. b && is_below us ls) same

pub below_apart : (upper lower us ls : List (List ℕ)) (one name : List ℕ) → upper ≡ one ∷ us → lower ≡ name ∷ ls → bytes_eq one name ≡ false → is_below upper lower ≡ false
below_apart upper lower us ls one name upper_is lower_is other = (λ i. is_below (upper_is i) (lower_is i)) ∙ ap (λ b. b && is_below us ls) other

-- ---- ends of walks

-- a walk that ended at a name's inode, and another
pub one_inode : (end : WalkEnd) (dir : ℕ) (bytes : List ℕ) (name : FlatName) (ino : ℕ) (other : WalkEnd) → end ≡ AtSlot dir bytes (Some name) → ino ≡ name.ino → leads_there other ino ≡ is_one_inode end other
one_inode end dir bytes name ino AtRoot is leads = sym (ap (λ w. is_one_inode w AtRoot) is)
one_inode end dir bytes name ino (AtSlot d b None) is leads = sym (ap (λ w. is_one_inode w (AtSlot d b None)) is)
one_inode end dir bytes name ino (AtSlot d b (Some other)) is leads = ap (λ k. nat_eq k other.ino) leads ∙ sym (ap (λ w. is_one_inode w (AtSlot d b (Some other))) is)
one_inode end dir bytes name ino Missing is leads = sym (ap (λ w. is_one_inode w Missing) is)
one_inode end dir bytes name ino Blocked is leads = sym (ap (λ w. is_one_inode w Blocked) is)

-- the name that is made at the end of a walk
pub made_at : (names : List FlatName) (place : WalkEnd) (dir index : ℕ) (bytes : List ℕ) (ino : ℕ) → dir ≡ dir_of place → bytes ≡ bytes_of place → new_name names place index ino ≡ marked dir index bytes ino (has_room_near names (marked dir index bytes ino false))
made_at names place dir index bytes ino dir_is bytes_is = λ i. marked (sym dir_is i) index (sym bytes_is i) ino (has_room_near names (marked (sym dir_is i) index (sym bytes_is i) ino false))

-- ---- a name taken away

-- a name stands in its place, where it is there
pub stands_there : (new : FlatName) (all : List FlatName) → has_name new all ≡ true → drop (place_in new all) all ≡ new ∷ drop (suc (place_in new all)) all
stands_there new [] there = absurd (true≢false (sym there))
stands_there new (other ∷ names) there =
    elim (name_cmp new other) as (λ o. name_cmp new other ≡ o → match_ordering o false true (has_name new names) ≡ true → drop (match_ordering o 0 0 (suc (place_in new names))) (other ∷ names) ≡ new ∷ drop (suc (match_ordering o 0 0 (suc (place_in new names)))) (other ∷ names)) [
      | Less ↦ λ e t. absurd (true≢false (sym t))
      | Equal ↦ λ e t. ap (λ n. n ∷ names) (sym (name_cmp_antisymmetric new other e))
      | Greater ↦ λ e t. stands_there new names t
    ] refl there

-- a name is nowhere in a set, where it isn't there
pub stands_nowhere : (new : FlatName) (all : List FlatName) → is_name_set all ≡ true → has_name new all ≡ false → Contains all new → ⊥
stands_nowhere new [] set absent c = contains_none new c
stands_nowhere new (other ∷ names) set absent c =
    elim (name_cmp new other) as (λ o. name_cmp new other ≡ o → match_ordering o false true (has_name new names) ≡ false → ⊥) [
      | Less ↦ λ e t. elim (contains_cases other names new c) [
        | inl same ↦ true≢false (ap is_lt (sym e ∙ ap (name_cmp new) same ∙ name_cmp_itself new))
        | inr h ↦ true≢false (ap is_lt (sym (name_cmp_total.trans new other new e (set_head_below other names set new h)) ∙ name_cmp_itself new))
      ]
      | Equal ↦ λ e t. true≢false t
      | Greater ↦ λ e t. elim (contains_cases other names new c) [
        | inl same ↦ true≢false (sym (ap Rattle.std.specs.Ordering.is_eq (sym e ∙ ap (name_cmp new) same ∙ name_cmp_itself new)))
        | inr h ↦ stands_nowhere new names (set_tail other names set) t h
      ]
    ] refl absent

pub same_head : (xs : List FlatName) (one two : FlatName) (rest more : List FlatName) → xs ≡ one ∷ rest → xs ≡ two ∷ more → one ≡ two
same_head xs one two rest more is also = cc
