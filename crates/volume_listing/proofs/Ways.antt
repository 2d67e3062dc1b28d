-- What is below a directory, name by name.
use Rattle.std.proofs.Common.{◌≡◌, ◌≢◌, ℕ, suc, ◌-◌, Bool, true, false, cond, List, [], ◌∷◌, ◌++◌, map, length, refl, sym, ap, ◌∙◌, arith}
use Rattle.std.specs.declared.cmp.Ordering.TheVariants.{Less, Equal, Greater}
use Rattle.std.specs.Ordering.{nat_cmp}
use Rattle.std.specs.Bool.{nat_eq}
use Rattle.std.specs.Cmp.Lexicographic.{slice_cmp, nat_list_cmp_total}
use Rattle.std.specs.List.{flat_map, filter}
use Rattle.std.specs.FinMap.{entries, from_entries, entries-insert, slice_cmp-IsAntisymmetric, nat_cmp-IsAntisymmetric}
use Rattle.std.specs.FinMap.Entries.{put, by_order}
use Rattle.flat_model.specs.declared.view.NameAt.{NameAt}
use Rattle.flat_model.specs.Names.{FlatName, entries_of}
use Rattle.flat_model.specs.Volume.{Subvolume}
use Rattle.flat_sub.specs.View.{name_view, names_view}
use Rattle.volume_listing.specs.Listing.{Listed, below, in_byte_order, listed}
use Rattle.volume_listing.specs.Found.{below_name}
use Rattle.volume_listing.specs.Order.{ordered}
use Rattle.volume_listing.proofs.Places.{no_entries}

pub flat_map_map : {A B C : Type 0} (f : B → List C) (g : A → B) (xs : List A) → flat_map f (map g xs) ≡ flat_map (λ x. f (g x)) xs
flat_map_map f g [] = refl
flat_map_map f g (x ∷ xs) = ap (λ l. f (g x) ++ l) (flat_map_map f g xs)

abbrev pair : FlatName → List ℕ × ℕ
pair name = (name.bytes, name.ino)

abbrev bytes_pair : FlatName → List ℕ × FlatName
bytes_pair name = (name.bytes, name)

-- the names with a further one in its place, which takes that of one with the same bytes
abbrev placed : FlatName → List FlatName → List FlatName
placed new [] = new ∷ []
placed new (name ∷ names) = by_order (slice_cmp nat_cmp new.bytes name.bytes) (new ∷ name ∷ names) (new ∷ names) (name ∷ placed new names)

abbrev sorted : List FlatName → List FlatName
sorted [] = []
sorted (name ∷ names) = placed name (sorted names)

same_bytes : (one two : List ℕ) → slice_cmp nat_cmp one two ≡ Equal → one ≡ two
same_bytes = slice_cmp-IsAntisymmetric nat_cmp-IsAntisymmetric

put_name : (new : FlatName) (names : List FlatName) → put (slice_cmp nat_cmp) new.bytes new (map bytes_pair names) ≡ map bytes_pair (placed new names)
put_name new [] = refl
put_name new (name ∷ names) =
    elim (slice_cmp nat_cmp new.bytes name.bytes) as (λ o. slice_cmp nat_cmp new.bytes name.bytes ≡ o → by_order o ((new.bytes, new) ∷ bytes_pair name ∷ map bytes_pair names) ((name.bytes, new) ∷ map bytes_pair names) (bytes_pair name ∷ put (slice_cmp nat_cmp) new.bytes new (map bytes_pair names)) ≡ map bytes_pair (by_order o (new ∷ name ∷ names) (new ∷ names) (name ∷ placed new names))) [
      | Less ↦ λ e. refl
      | Equal ↦ λ e. ap (λ (k : List ℕ). (k, new) ∷ map bytes_pair names) (sym (same_bytes new.bytes name.bytes e))
      | Greater ↦ λ e. ap (λ (l : List (List ℕ × FlatName)). bytes_pair name ∷ l) (put_name new names)
    ] refl

put_pair : (new : FlatName) (names : List FlatName) → put (slice_cmp nat_cmp) new.bytes new.ino (map pair names) ≡ map pair (placed new names)
put_pair new [] = refl
put_pair new (name ∷ names) =
    elim (slice_cmp nat_cmp new.bytes name.bytes) as (λ o. slice_cmp nat_cmp new.bytes name.bytes ≡ o → by_order o ((new.bytes, new.ino) ∷ pair name ∷ map pair names) ((name.bytes, new.ino) ∷ map pair names) (pair name ∷ put (slice_cmp nat_cmp) new.bytes new.ino (map pair names)) ≡ map pair (by_order o (new ∷ name ∷ names) (new ∷ names) (name ∷ placed new names))) [
      | Less ↦ λ e. refl
      | Equal ↦ λ e. ap (λ (k : List ℕ). (k, new.ino) ∷ map pair names) (sym (same_bytes new.bytes name.bytes e))
      | Greater ↦ λ e. ap (λ (l : List (List ℕ × ℕ)). pair name ∷ l) (put_pair new names)
    ] refl

names_sorted : (names : List FlatName) → entries (from_entries {R = slice_cmp nat_cmp} (map bytes_pair names)) ≡ map bytes_pair (sorted names)
names_sorted [] = no_entries FlatName
names_sorted (name ∷ names) =
    entries-insert nat_list_cmp_total (from_entries (map bytes_pair names)) name.bytes name ∙ ap (put (slice_cmp nat_cmp) name.bytes name) (names_sorted names) ∙ put_name name (sorted names)

pairs_sorted : (names : List FlatName) → entries (from_entries {R = slice_cmp nat_cmp} (map pair names)) ≡ map pair (sorted names)
pairs_sorted [] = no_entries ℕ
pairs_sorted (name ∷ names) =
    entries-insert nat_list_cmp_total (from_entries (map pair names)) name.bytes name.ino ∙ ap (put (slice_cmp nat_cmp) name.bytes name.ino) (pairs_sorted names) ∙ put_pair name (sorted names)

names_back : (names : List FlatName) → map (λ (e : List ℕ × FlatName). e.1) (map bytes_pair names) ≡ names
names_back [] = refl
names_back (name ∷ names) = ap (λ (l : List FlatName). name ∷ l) (names_back names)

sorted_is : (names : List FlatName) → in_byte_order names ≡ sorted names
unfolding in_byte_order
sorted_is names = ap (map (λ (e : List ℕ × FlatName). e.1)) (names_sorted names) ∙ names_back (sorted names)

abbrev pair_at : NameAt → List ℕ × ℕ
pair_at at = (at.name, at.ino.0)

pairs_view : (dir : ℕ) (ats : List NameAt) (nears : List Bool) → length nears ≡ length ats → map pair (entries_of (names_view ats nears) dir) ≡ map pair_at (filter (λ (at : NameAt). nat_eq at.dir.0 dir) ats)
pairs_view dir [] nears same = refl
pairs_view dir (at ∷ ats) [] same = absurd (omega arith)
pairs_view dir (at ∷ ats) (near ∷ nears) same =
    let rest = pairs_view dir ats nears (omega arith) in
    elim (nat_eq at.dir.0 dir) as (λ b. map pair (cond b (name_view at near ∷ entries_of (names_view ats nears) dir) (entries_of (names_view ats nears) dir)) ≡ map pair_at (cond b (at ∷ filter (λ (at : NameAt). nat_eq at.dir.0 dir) ats) (filter (λ (at : NameAt). nat_eq at.dir.0 dir) ats))) [
      | true ↦ ap (λ (l : List (List ℕ × ℕ)). pair_at at ∷ l) rest
      | false ↦ rest
    ]

-- the names of a directory in order, as the code has them
pub ordered_is : (dir : ℕ) (ats : List NameAt) (nears : List Bool) → length nears ≡ length ats → ordered dir ats ≡ map pair (in_byte_order (entries_of (names_view ats nears) dir))
ordered_is dir ats nears same =
    let names : List FlatName = entries_of (names_view ats nears) dir in
    ap (λ (ps : List (List ℕ × ℕ)). entries (from_entries {R = slice_cmp nat_cmp} ps)) (sym (pairs_view dir ats nears same)) ∙ pairs_sorted names ∙ ap (map pair) (sym (sorted_is names))

pub below_none : (depth : ℕ) (sub : Subvolume) (dir : ℕ) (path : List (List ℕ)) → depth ≡ 0 → below depth sub dir path ≡ []
below_none depth sub dir path none = ap (λ d. below d sub dir path) none

-- what is below a directory, by its names as the code has them
pub below_some : (depth : ℕ) (sub : Subvolume) (dir : ℕ) (path : List (List ℕ)) (ats : List NameAt) (nears : List Bool) → depth ≢ 0 → length nears ≡ length ats → sub.names ≡ names_view ats nears → below depth sub dir path ≡ flat_map (below_name (depth - 1) sub path) (ordered dir ats)
below_some depth sub dir path ats nears some same names =
    let deep : depth ≡ suc (depth - 1) = omega (arith, some) in
    ap (λ d. below d sub dir path) deep
    ∙ sym (flat_map_map (below_name (depth - 1) sub path) pair (in_byte_order (entries_of sub.names dir)))
    ∙ ap (λ (ns : List FlatName). flat_map (below_name (depth - 1) sub path) (map pair (in_byte_order (entries_of ns dir)))) names
    ∙ ap (flat_map (below_name (depth - 1) sub path)) (sym (ordered_is dir ats nears same))

-- the root directory, and what is below it
pub listed_from : (sub : Subvolume) (depth : ℕ) (root path : List (List ℕ)) (none one all : List Listed) → none ≡ [] → path ≡ [] → root ≡ [] → depth ≡ length sub.names → one ≡ none ++ record { path = path; ino = 256 } ∷ [] → all ≡ one ++ below depth sub 256 root → all ≡ listed sub
unfolding listed
listed_from sub depth root path none one all none_is path_is root_is depth_is one_is all_is =
    all_is ∙ ap (λ (l : List Listed). l ++ below depth sub 256 root) one_is ∙ (λ i. (none_is i ++ record { path = path_is i; ino = 256 } ∷ []) ++ below (depth_is i) sub 256 (root_is i))
