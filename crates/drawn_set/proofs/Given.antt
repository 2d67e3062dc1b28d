-- What a view's lists of names say of the subvolume.
use Rattle.std.proofs.Common.{◌≡◌, ℕ, true, not, ◌&&◌, List, [], ◌∷◌, map, Contains, sym, ap, subst, ◌∙◌, inl, inr}
use Rattle.std.specs.Cmp.{both_ways}
use Rattle.std.specs.Prelude.{nat_eq, bytes_eq}
use Rattle.std.specs.List.{list_all}
use Rattle.std.specs.List.Sorted.{IsPermutation}
use Rattle.std.proofs.lemmas.Bool.{and_parts, eqb-true, eq-eqb}
use Rattle.std.proofs.lemmas.List.Sorted.{Contains-permutation, IsPermutation-sym}
use Rattle.flat_model.specs.declared.view.NameAt.{NameAt}
use Rattle.flat_model.specs.Names.{FlatName, leads_to, stands_in, names_of, entries_of}
use Rattle.flat_model.specs.Unmarked.{unmarked}
use Rattle.flat_model.specs.Volume.{Subvolume}
use Rattle.flat_model.proofs.Lists.{contains_head, contains_tail, contains_none, contains_cases, contains_filter, filter_contains}
use Rattle.logged_volume.specs.Agreement.{is_same_unmarked, has_unmarked, do_names_differ}
use Rattle.logged_volume.proofs.Members.{any_from, any_gives, all_from, all_gives}
use Rattle.logged_volume.proofs.LeastSets.{parent_from, parent_gives}
use Rattle.drawn_set.specs.Names.{AreInodesIn, AreParents, are_alike, is_among, is_same_at}

module _ {X Y : Type 0} (f : X → Y) where
  pub in_map : (xs : List X) (y : Y) → Contains (map f xs) y → (x : X) × Contains xs x × (f x ≡ y)
  in_map [] y c = absurd (contains_none y c)
  in_map (x ∷ xs) y c =
      elim (contains_cases (f x) (map f xs) y c) [
        | inl here ↦ (x, contains_head x xs, here)
        | inr later ↦ let rest = in_map xs y later in (rest.0, contains_tail x xs rest.0 rest.1, rest.2)
      ]

  pub map_in : (xs : List X) (x : X) → Contains xs x → Contains (map f xs) (f x)
  map_in [] x c = absurd (contains_none x c)
  map_in (z ∷ xs) x c =
      elim (contains_cases z xs x c) [
        | inl same ↦ subst (λ y. Contains (f z ∷ map f xs) (f y)) same (contains_head (f z) (map f xs))
        | inr later ↦ contains_tail (f z) (map f xs) (f x) (map_in xs x later)
      ]

-- ---- lists that a view gave

module _ (asked : List FlatName) (given : List NameAt) (same : IsPermutation (map unmarked asked) given) where
  pub given_from : (name : FlatName) → Contains asked name → Contains given (unmarked name)
  given_from name c = Contains-permutation (map unmarked asked) given (unmarked name) same (map_in unmarked asked name c)

  pub given_is : (at : NameAt) → Contains given at → (name : FlatName) × Contains asked name × (unmarked name ≡ at)
  given_is at c = in_map unmarked asked at (Contains-permutation given (map unmarked asked) at (IsPermutation-sym (map unmarked asked) given same) c)

pub are_parents : (names : List FlatName) (ino : ℕ) (given : List NameAt) → IsPermutation (map unmarked (names_of names ino)) given → AreParents names ino (map (λ (name : NameAt). name.dir.0) given)
are_parents names ino given same dir = (
  λ c. let at = in_map (λ (name : NameAt). name.dir.0) given dir c in
      let found = given_is (names_of names ino) given same at.0 at.1 in
      let parts = filter_contains (leads_to ino) names found.0 found.1 in
      parent_from names found.0 ino dir parts.0 (eqb-true found.0.ino ino parts.1) (ap (λ (a : NameAt). a.dir.0) found.2 ∙ at.2),
  λ t. let found = parent_gives names ino dir t in
      subst (λ d. Contains (map (λ (name : NameAt). name.dir.0) given) d) found.3
      (map_in (λ (name : NameAt). name.dir.0) given (unmarked found.0)
      (given_from (names_of names ino) given same found.0 (contains_filter (leads_to ino) names found.0 (eq-eqb found.0.ino ino found.2) found.1))),
)

pub are_inodes : (names : List FlatName) (dir : ℕ) (given : List NameAt) → IsPermutation (map unmarked (entries_of names dir)) given → AreInodesIn names dir (map (λ (name : NameAt). name.ino.0) given)
are_inodes names dir given same ino = (
  λ c. let at = in_map (λ (name : NameAt). name.ino.0) given ino c in
      let found = given_is (entries_of names dir) given same at.0 at.1 in
      let parts = filter_contains (stands_in dir) names found.0 found.1 in
      parent_from names found.0 ino dir parts.0 (ap (λ (a : NameAt). a.ino.0) found.2 ∙ at.2) (eqb-true found.0.dir dir parts.1),
  λ t. let found = parent_gives names ino dir t in
      subst (λ d. Contains (map (λ (name : NameAt). name.ino.0) given) d) found.2
      (map_in (λ (name : NameAt). name.ino.0) given (unmarked found.0)
      (given_from (entries_of names dir) given same found.0 (contains_filter (stands_in dir) names found.0 (eq-eqb found.0.dir dir found.3) found.1))),
)

-- ---- names that differ

module _ (ino : ℕ) (names others : List FlatName) (here there : List NameAt) (is_here : IsPermutation (map unmarked (names_of names ino)) here) (is_there : IsPermutation (map unmarked (names_of others ino)) there) where
  same_ino : (one two : FlatName) → is_same_unmarked one two ≡ true → one.ino ≡ two.ino
  same_ino one two t =
      let tail = nat_eq one.ino two.ino in
      let bytes = bytes_eq one.bytes two.bytes && tail in
      let index = nat_eq one.index two.index && bytes in
      eqb-true one.ino two.ino (and_parts (bytes_eq one.bytes two.bytes) tail (and_parts (nat_eq one.index two.index) bytes (and_parts (nat_eq one.dir two.dir) index t).1).1).1

  among_has : (name : FlatName) → Contains (names_of names ino) name → is_among there (unmarked name) ≡ true → has_unmarked others name ≡ true
  among_has name c t =
      let at = any_gives (is_same_at (unmarked name)) there t in
      let found = given_is (names_of others ino) there is_there at.0 at.1 in
      any_from (is_same_unmarked name) others found.0 (filter_contains (leads_to ino) others found.0 found.1).0
      (subst (λ (a : NameAt). is_same_at (unmarked name) a ≡ true) (sym found.2) at.2)

  has_among : (name : FlatName) → Contains (names_of names ino) name → has_unmarked others name ≡ true → is_among there (unmarked name) ≡ true
  has_among name c t =
      let found = any_gives (is_same_unmarked name) others t in
      let of_ino = eqb-true name.ino ino (filter_contains (leads_to ino) names name c).1 in
      any_from (is_same_at (unmarked name)) there (unmarked found.0)
      (given_from (names_of others ino) there is_there found.0 (contains_filter (leads_to ino) others found.0 (eq-eqb found.0.ino ino (sym (same_ino name found.0 found.2) ∙ of_ino)) found.1)) found.2

  pub all_among : list_all (is_among there) here ≡ list_all (has_unmarked others) (names_of names ino)
  all_among = both_ways _ _
      (λ t. all_from (has_unmarked others) (names_of names ino) (λ name c. among_has name c (all_gives (is_among there) here t (unmarked name) (given_from (names_of names ino) here is_here name c))))
      (λ t. all_from (is_among there) here (λ at c.
      let found = given_is (names_of names ino) here is_here at c in
      subst (λ (a : NameAt). is_among there a ≡ true) found.2 (has_among found.0 found.1 (all_gives (has_unmarked others) (names_of names ino) t found.0 found.1))))

pub differ_is : (one two : Subvolume) (ino : ℕ) (here there : List NameAt) → IsPermutation (map unmarked (names_of one.names ino)) here → IsPermutation (map unmarked (names_of two.names ino)) there
    → not (are_alike here there) ≡ do_names_differ one two ino
unfolding do_names_differ
differ_is one two ino here there is_here is_there =
    ap (λ b. not (b && list_all (is_among here) there)) (all_among ino one.names two.names here there is_here is_there)
    ∙ ap (λ b. not (list_all (has_unmarked two.names) (names_of one.names ino) && b)) (all_among ino two.names one.names there here is_there is_here)
