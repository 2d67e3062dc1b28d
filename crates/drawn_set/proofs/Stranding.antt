-- Which gone directory is stranded, as it is looked for.
use Rattle.std.proofs.Common.{◌≡◌, ◌<◌, ◌+◌, ◌++◌, ℕ, Bool, true, false, not, cond, ◌&&◌, List, [], ◌∷◌, map, filter, length, take, drop, get_or, Some, None, refl, sym, ap, subst, ◌∙◌, add-one, drop-cons}
use Rattle.std.specs.BTreeSet.{BTreeSet, contains}
use Rattle.std.specs.Cmp.{both_ways}
use Rattle.std.specs.List.{list_any}
use Rattle.std.specs.List.Sorted.{IsPermutation}
use Rattle.std.specs.Ordering.{nat_cmp}
use Rattle.std.specs.Prelude.{find, option_map}
use Rattle.std.proofs.Math.ListN.{take-append-drop}
use Rattle.std.proofs.lemmas.Bool.{and_parts, and_from}
use Rattle.std.proofs.lemmas.List.{take_more}
use Rattle.flat_model.specs.declared.view.NameAt.{NameAt}
use Rattle.flat_model.specs.Names.{FlatName, stands_in, entries_of}
use Rattle.flat_model.specs.Unmarked.{unmarked}
use Rattle.flat_model.specs.Volume.{Subvolume}
use Rattle.flat_model.proofs.Lists.{contains_filter, filter_contains}
use Rattle.logged_volume.specs.Agreement.{is_there}
use Rattle.logged_volume.specs.Drawn.{first_of, is_stranding}
use Rattle.logged_volume.specs.Numbers.{is_in}
use Rattle.logged_volume.proofs.Members.{any_from, any_gives}
use Rattle.drawn_set.specs.Drawn.{ino_of}
use Rattle.drawn_set.specs.Stranded.{does_strand, has_other}
use Rattle.drawn_set.proofs.Given.{given_from, given_is}
use Rattle.drawn_set.proofs.Sets.{contains_is_in}

-- ---- one directory

pub other_is : (names : List FlatName) (dir : ℕ) (members : BTreeSet ℕ) (given : List NameAt) → IsPermutation (map unmarked (entries_of names dir)) given
    → has_other members given ≡ list_any (λ name. stands_in dir name && not (is_in members.keys name.ino)) names
other_is names dir members given same = both_ways _ _
    (λ t.
    let at = any_gives (λ (name : NameAt). not (contains nat_cmp members name.ino.0)) given t in
    let found = given_is (entries_of names dir) given same at.0 at.1 in
    let parts = filter_contains (stands_in dir) names found.0 found.1 in
    let lacks : not (contains nat_cmp members found.0.ino) ≡ true = subst (λ (a : NameAt). not (contains nat_cmp members a.ino.0) ≡ true) (sym found.2) at.2 in
    any_from (λ name. stands_in dir name && not (is_in members.keys name.ino)) names found.0 parts.0
    (and_from (stands_in dir found.0) (not (is_in members.keys found.0.ino)) parts.1 (ap not (sym (contains_is_in members found.0.ino)) ∙ lacks)))
    (λ t.
    let found = any_gives (λ name. stands_in dir name && not (is_in members.keys name.ino)) names t in
    let parts = and_parts (stands_in dir found.0) (not (is_in members.keys found.0.ino)) found.2 in
    any_from (λ (name : NameAt). not (contains nat_cmp members name.ino.0)) given (unmarked found.0)
    (given_from (entries_of names dir) given same found.0 (contains_filter (stands_in dir) names found.0 parts.0 found.1))
    (ap not (contains_is_in members found.0.ino) ∙ parts.1))

-- ---- the first of a list

module _ {X : Type 0} (p : X → Bool) where
  find_behind : (xs ys : List X) → find p xs ≡ None → find p (xs ++ ys) ≡ find p ys
  find_behind [] ys e = refl
  find_behind (x ∷ xs) ys e =
      elim (p x) as (λ b. cond b (Some x) (find p xs) ≡ None → cond b (Some x) (find p (xs ++ ys)) ≡ find p ys) [
        | true ↦ λ f. absurd cc
        | false ↦ λ f. find_behind xs ys f
      ] e

  pub find_first : (xs : List X) (k : ℕ) (d : X) → k < length xs → find p (take k xs) ≡ None → p (get_or xs k d) ≡ true → find p xs ≡ Some (get_or xs k d)
  find_first xs k d below none t =
      let rest : drop k xs ≡ get_or xs k d ∷ drop (k + 1) xs = rw (add-one, drop-cons xs k d) in
      ap (find p) (sym (take-append-drop k xs)) ∙ find_behind (take k xs) (drop k xs) none ∙ ap (find p) rest ∙ ap (λ b. cond b (Some (get_or xs k d)) (find p (drop (k + 1) xs))) t

  pub find_further : (xs : List X) (k : ℕ) (d : X) → k < length xs → find p (take k xs) ≡ None → p (get_or xs k d) ≡ false → find p (take (k + 1) xs) ≡ None
  find_further xs k d below none f =
      ap (find p) (take_more xs k d below) ∙ find_behind (take k xs) (get_or xs k d ∷ []) none ∙ ap (λ b. cond b (Some (get_or xs k d)) None) f

-- ---- among the gone ones

pub first_stranding : (current logged : Subvolume) (members xs : List ℕ) → find (does_strand logged members) (map ino_of (filter (λ ino. not (is_there current ino)) xs)) ≡ option_map ino_of (first_of (filter (is_stranding current logged members) xs))
first_stranding current logged members [] = refl
first_stranding current logged members (x ∷ xs) =
    let rest = first_stranding current logged members xs in
    let gone = filter (λ ino. not (is_there current ino)) xs in
    let others = filter (is_stranding current logged members) xs in
    let strands = does_strand logged members (ino_of x) in
    elim (is_there current x) as (λ b. find (does_strand logged members) (map ino_of (cond (not b) (x ∷ filter (λ ino. not (is_there current ino)) xs) (filter (λ ino. not (is_there current ino)) xs)))
    ≡ option_map ino_of (first_of (cond (not b && does_strand logged members (ino_of x)) (x ∷ filter (is_stranding current logged members) xs) (filter (is_stranding current logged members) xs)))) [
      | true ↦ rest
      | false ↦ elim (does_strand logged members (ino_of x)) as (λ b. cond b (Some (ino_of x)) (find (does_strand logged members) (map ino_of (filter (λ ino. not (is_there current ino)) xs)))
          ≡ option_map ino_of (first_of (cond b (x ∷ filter (is_stranding current logged members) xs) (filter (is_stranding current logged members) xs)))) [ true ↦ refl | false ↦ rest ]
    ]
