-- Facts on names as the code keeps them, beside the names as they are seen.
use Rattle.std.proofs.Common.{◌≡◌, ℕ, zero, suc, ◌<◌, ◌+◌, Bool, cond, ◌&&◌, List, [], ◌∷◌, length, get_or, count_by, Some, None, refl, sym, ap, subst, ◌∙◌, arith, inl, inr}
use Rattle.std.specs.Bool.{nat_eq}
use Rattle.std.specs.Str.{bytes_eq}
use Rattle.std.specs.List.{filter, find, position, Contains, AllWithin, HoldsAt}
use Rattle.std.proofs.lemmas.Bool.{cases_lt}
use Rattle.std.proofs.lemmas.List.Elements.{at_read}
use Rattle.flat_model.proofs.Lists.{contains_head, contains_tail, contains_none, contains_cases}
use Rattle.flat_model.specs.declared.view.NameAt.{NameAt}
use Rattle.flat_model.specs.Names.{FlatName, leads_to, is_in_slot}
use Rattle.flat_record.proofs.Tables.{FirstAt, NonePasses, position_first, position_none}
use Rattle.flat_sub.specs.View.{name_view, names_view}
use Rattle.flat_sub.proofs.Removals.{count_view}
use Rattle.flat_check.specs.Parts.{is_at_index, dir_or, dir_above}

-- ---- one step up

module _ (ino start : ℕ) where
  abbrev leads : NameAt → Bool
  leads at = nat_eq at.ino.0 ino

  above_first : (ats : List NameAt) (nears : List Bool) (i : ℕ) (at : NameAt) → length nears ≡ length ats → FirstAt leads ats i → at ≡ get_or ats i at → dir_or start (find (leads_to ino) (names_view ats nears)) ≡ at.dir.0
  above_first [] nears i at same first is = absurd first
  above_first (one ∷ ats) [] i at same first is = absurd (omega arith)
  above_first (one ∷ ats) (mark ∷ nears) zero at same first is =
      ap (λ b. dir_or start (cond b (Some (name_view one mark)) (find (leads_to ino) (names_view ats nears)))) first ∙ ap (λ (n : NameAt). n.dir.0) (sym is)
  above_first (one ∷ ats) (mark ∷ nears) (suc i) at same first is =
      ap (λ b. dir_or start (cond b (Some (name_view one mark)) (find (leads_to ino) (names_view ats nears)))) first.0 ∙ above_first ats nears i at (omega arith) first.1 is

  above_nowhere : (ats : List NameAt) (nears : List Bool) → NonePasses leads ats → dir_or start (find (leads_to ino) (names_view ats nears)) ≡ start
  above_nowhere [] nears none = refl
  above_nowhere (one ∷ ats) [] none = refl
  above_nowhere (one ∷ ats) (mark ∷ nears) none =
      ap (λ b. dir_or start (cond b (Some (name_view one mark)) (find (leads_to ino) (names_view ats nears)))) none.0 ∙ above_nowhere ats nears none.1

-- the directory of the first name that leads to an inode is the one above it
pub above_at : (dir : ℕ) (ats : List NameAt) (nears : List Bool) (i : ℕ) (at : NameAt) → length nears ≡ length ats → position (leads dir dir) ats ≡ Some i → at ≡ get_or ats i at → at.dir.0 ≡ dir_above (names_view ats nears) dir
above_at dir ats nears i at same is at_is = sym (above_first dir dir ats nears i at same (position_first (leads dir dir) ats i is) at_is)

-- and where none does, it is the same
pub above_none : (dir : ℕ) (ats : List NameAt) (nears : List Bool) → position (leads dir dir) ats ≡ None → dir ≡ dir_above (names_view ats nears) dir
above_none dir ats nears is = sym (above_nowhere dir dir ats nears (position_none (leads dir dir) ats is))

-- ---- names in one slot, and at one index

module _ (one : NameAt) (ats : List NameAt) (nears : List Bool) (marked : length nears ≡ length ats) where
  pub slot_count : length (filter (is_in_slot one.dir.0 one.name) (names_view ats nears)) ≡ count_by (λ (at : NameAt). nat_eq at.dir.0 one.dir.0 && bytes_eq at.name one.name) ats
  slot_count = count_view (λ (at : NameAt). nat_eq at.dir.0 one.dir.0 && bytes_eq at.name one.name) (is_in_slot one.dir.0 one.name) (λ at near. refl) ats nears marked

  pub index_count : length (filter (is_at_index one.dir.0 one.index) (names_view ats nears)) ≡ count_by (λ (at : NameAt). nat_eq at.dir.0 one.dir.0 && nat_eq at.index one.index) ats
  index_count = count_view (λ (at : NameAt). nat_eq at.dir.0 one.dir.0 && nat_eq at.index one.index) (is_at_index one.dir.0 one.index) (λ at near. refl) ats nears marked

-- ---- what holds of each element before a place

pub all_more : {X : Type 0} (P : X → Type 0) (xs : List X) (k : ℕ) (x : X) → k < length xs → x ≡ get_or xs k x → P x → AllWithin P xs 0 k → AllWithin P xs 0 (k + 1)
all_more P xs k x below is here all j d low high =
    elim (cases_lt j k) [
      | inl before ↦ all j d low before
      | inr above ↦ let same : k ≡ j = omega arith in subst (λ n. P (get_or xs n d)) same (at_read xs P k x below is here d)
    ]

-- ---- what holds of each name

module _ (P : FlatName → Type 0) where
  abbrev pub Holds : NameAt → Type 0
  Holds at = (near : Bool) → P (name_view at near)

  abbrev pub Fails : NameAt → Type 0
  Fails at = (near : Bool) → P (name_view at near) → ⊥

  pub each_holds : (ats : List NameAt) (nears : List Bool) → length nears ≡ length ats → AllWithin Holds ats 0 (length ats) → (name : FlatName) → Contains (names_view ats nears) name → P name
  each_holds [] nears same all name c = absurd (contains_none name c)
  each_holds (at ∷ ats) [] same all name c = absurd (contains_none name c)
  each_holds (at ∷ ats) (near ∷ nears) same all name c =
      elim (contains_cases (name_view at near) (names_view ats nears) name c) [
        | inl is ↦ subst P is (all 0 at (omega arith) (omega arith) near)
        | inr later ↦ each_holds ats nears (omega arith) (λ k d low high. all (suc k) d (omega arith) (omega arith)) name later
      ]

  pub one_fails : (ats : List NameAt) (nears : List Bool) (k : ℕ) → length nears ≡ length ats → k < length ats → HoldsAt Fails ats k → ((name : FlatName) → Contains (names_view ats nears) name → P name) → ⊥
  one_fails [] nears k same below fails each = omega arith
  one_fails (at ∷ ats) [] k same below fails each = omega arith
  one_fails (at ∷ ats) (near ∷ nears) zero same below fails each = fails at near (each (name_view at near) (contains_head (name_view at near) (names_view ats nears)))
  one_fails (at ∷ ats) (near ∷ nears) (suc k) same below fails each =
      one_fails ats nears k (omega arith) (omega arith) fails (λ name c. each name (contains_tail (name_view at near) (names_view ats nears) name c))
