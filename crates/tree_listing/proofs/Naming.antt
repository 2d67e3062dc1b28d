-- The names of a directory in the order of their bytes, and what is below it by them.
use Rattle.std.proofs.Common.{◌≡◌, ◌≢◌, ◌-◌, ℕ, Bool, true, false, cond, nat_eq, List, [], ◌∷◌, filter, map, Contains, IsPermutation, Some, refl, sym, ap, subst, ◌∙◌, arith}
use Rattle.std.specs.Ordering.{nat_cmp}
use Rattle.std.specs.Cmp.Lexicographic.{slice_cmp, nat_list_cmp_total}
use Rattle.std.specs.FinMap.{from_entries, get}
use Rattle.std.specs.List.{flat_map}
use Rattle.std.proofs.lemmas.Bool.{eqb-true}
use Rattle.std.proofs.lemmas.List.{length-map}
use Rattle.std.proofs.lemmas.List.Sorted.{Contains-permutation, IsPermutation-sym}
use Rattle.flat_model.specs.Coherent.{IsCoherent}
use Rattle.flat_model.specs.declared.view.NameAt.{NameAt}
use Rattle.flat_model.specs.Names.{FlatName, entries_of}
use Rattle.flat_model.specs.Unmarked.{unmarked}
use Rattle.flat_model.specs.Volume.{Subvolume}
use Rattle.flat_sub.specs.View.{names_view}
use Rattle.image_faults.specs.Lists.{given, taken}
use Rattle.image_faults.proofs.OfInodes.{bytes_one}
use Rattle.inode_shown.specs.Putting.{all_put}
use Rattle.inode_shown.proofs.Putting.{put_gives}
use Rattle.volume_image.proofs.Members.{in_filter, in_get, in_map, map_in}
use Rattle.volume_listing.specs.Found.{below_name}
use Rattle.volume_listing.specs.Listing.{below}
use Rattle.volume_listing.proofs.Ways.{below_some}
use Rattle.tree_listing.specs.Places.{names_shown, pair_at}

-- the names of a directory as pairs, in the subvolume's order
abbrev pairs_in : Subvolume → ℕ → List (List ℕ × ℕ)
pairs_in sub dir = map pair_at (filter (λ (at : NameAt). nat_eq at.dir.0 dir) (map unmarked sub.names))

filtered : (dir : ℕ) (names : List FlatName) → filter (λ (at : NameAt). nat_eq at.dir.0 dir) (map unmarked names) ≡ map unmarked (entries_of names dir)
filtered dir [] = refl
filtered dir (name ∷ names) =
    elim (nat_eq name.dir dir) as (λ b. cond b (unmarked name ∷ filter (λ (at : NameAt). nat_eq at.dir.0 dir) (map unmarked names)) (filter (λ (at : NameAt). nat_eq at.dir.0 dir) (map unmarked names)) ≡ map unmarked (cond b (name ∷ entries_of names dir) (entries_of names dir))) [
      | true ↦ ap (λ (l : List NameAt). unmarked name ∷ l) (filtered dir names)
      | false ↦ filtered dir names
    ]

-- a name of the directory with these bytes leads to the inode
pub record IsName (sub : Subvolume) (dir : ℕ) (pair : List ℕ × ℕ) : Type 0 where
  pub name : FlatName
  pub there : Contains sub.names name
  pub dir_is : name.dir ≡ dir
  pub bytes_is : name.bytes ≡ pair.0
  pub ino_is : name.ino ≡ pair.1

name_of : (sub : Subvolume) (dir : ℕ) (pair : List ℕ × ℕ) → Contains (pairs_in sub dir) pair → IsName sub dir pair
name_of sub dir pair c =
    let at = in_map pair_at (filter (λ (at : NameAt). nat_eq at.dir.0 dir) (map unmarked sub.names)) pair c in
    let kept = in_filter (λ (at : NameAt). nat_eq at.dir.0 dir) (map unmarked sub.names) at.0 at.1 in
    let name = in_map unmarked sub.names at.0 kept.0 in
    record {
      name = name.0;
      there = name.1;
      dir_is = ap (λ (a : NameAt). a.dir.0) name.2 ∙ eqb-true at.0.dir.0 dir kept.1;
      bytes_is = ap (λ (a : NameAt). a.name) name.2 ∙ ap (λ (p : List ℕ × ℕ). p.0) at.2;
      ino_is = ap (λ (a : NameAt). a.ino.0) name.2 ∙ ap (λ (p : List ℕ × ℕ). p.1) at.2;
    }

pub shown_is_name : (sub : Subvolume) (dir : ℕ) (pair : List ℕ × ℕ) → Contains (names_shown sub dir) pair → IsName sub dir pair
shown_is_name sub dir pair c =
    name_of sub dir pair (taken nat_list_cmp_total bytes_one (pairs_in sub dir) pair.0 pair.1 (in_get nat_list_cmp_total bytes_one (from_entries {R = slice_cmp nat_cmp} (pairs_in sub dir)) pair.0 pair.1 c))

-- in whatever order they come, put one by one they are in order
pub names_put : (sub : Subvolume) → IsCoherent sub → (dir : ℕ) (ats : List NameAt) → IsPermutation (map unmarked (entries_of sub.names dir)) ats → all_put [] (map pair_at ats) ≡ names_shown sub dir
names_put sub whole dir ats same = put_gives (map pair_at ats) (from_entries {R = slice_cmp nat_cmp} (pairs_in sub dir)) there back
  where
    there : (k : List ℕ) (v : ℕ) → Contains (map pair_at ats) (k, v) → get (from_entries {R = slice_cmp nat_cmp} (pairs_in sub dir)) k ≡ Some v
    there k v c =
        let at = in_map pair_at ats (k, v) c in
        let among = Contains-permutation ats (map unmarked (entries_of sub.names dir)) at.0 (IsPermutation-sym (map unmarked (entries_of sub.names dir)) ats same) at.1 in
        let stands = map_in pair_at (filter (λ (a : NameAt). nat_eq a.dir.0 dir) (map unmarked sub.names)) at.0 (subst (λ (l : List NameAt). Contains l at.0) (sym (filtered dir sub.names)) among) in
        let one = subst (Contains (pairs_in sub dir)) at.2 stands in
        let name = name_of sub dir (k, v) one in
        given nat_list_cmp_total bytes_one (pairs_in sub dir) k v
        (λ w d.
        let other = name_of sub dir (k, w) d in
        sym other.ino_is ∙ ap (λ (n : FlatName). n.ino) (whole.no_name_twice other.name name.name other.there name.there (other.dir_is ∙ sym name.dir_is) (other.bytes_is ∙ sym name.bytes_is)) ∙ name.ino_is)
        one

    back : (k : List ℕ) (v : ℕ) → get (from_entries {R = slice_cmp nat_cmp} (pairs_in sub dir)) k ≡ Some v → Contains (map pair_at ats) (k, v)
    back k v h =
        let at = in_map pair_at (filter (λ (a : NameAt). nat_eq a.dir.0 dir) (map unmarked sub.names)) (k, v) (taken nat_list_cmp_total bytes_one (pairs_in sub dir) k v h) in
        let among = subst (λ (l : List NameAt). Contains l at.0) (filtered dir sub.names) at.1 in
        subst (Contains (map pair_at ats)) at.2 (map_in pair_at ats at.0 (Contains-permutation (map unmarked (entries_of sub.names dir)) ats at.0 same among))

marks : List FlatName → List Bool
marks names = map (λ (n : FlatName). n.near) names

marked : (names : List FlatName) → names ≡ names_view (map unmarked names) (map (λ (n : FlatName). n.near) names)
marked [] = refl
marked (name ∷ names) = ap (λ (l : List FlatName). name ∷ l) (marked names)

-- what is below a directory, by its names in order
pub below_is : (depth : ℕ) (sub : Subvolume) (dir : ℕ) (path : List (List ℕ)) → depth ≢ 0 → below depth sub dir path ≡ flat_map (below_name (depth - 1) sub path) (names_shown sub dir)
below_is depth sub dir path some =
    let one = length-map sub.names unmarked in
    let two = length-map sub.names (λ (n : FlatName). n.near) in
    below_some depth sub dir path (map unmarked sub.names) (map (λ (n : FlatName). n.near) sub.names) some (omega (arith, one, two)) (marked sub.names)
