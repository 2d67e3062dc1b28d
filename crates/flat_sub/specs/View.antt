-- How the fields of a `FlatSub` are seen.
use Rattle.std.specs.Prelude.{◌≡◌, ◌≤◌, ℕ, Bool, List, [], ◌∷◌, length, IsTrue}
use Rattle.std.specs.Ordering.{nat_cmp}
use Rattle.std.specs.FinMap.{from_entries, is_sorted}
use Rattle.flat_model.specs.declared.view.NameAt.{NameAt}
use Rattle.flat_model.specs.Names.{FlatName, is_name_set}
use Rattle.flat_model.specs.Volume.{RunSub, last_index_in}
use Rattle.flat_sub.specs.declared.sub.FlatSub.{FlatSub}

-- a name with its mark
abbrev pub name_view : NameAt → Bool → FlatName
name_view at near = record { dir = at.dir.0; index = at.index; bytes = at.name; ino = at.ino.0; near = near }

-- the names with their marks
abbrev pub names_view : List NameAt → List Bool → List FlatName
names_view [] nears = []
names_view (at ∷ ats) [] = []
names_view (at ∷ ats) (near ∷ nears) = name_view at near ∷ names_view ats nears

-- a subvolume in its run
abbrev pub sub_view : FlatSub → RunSub
sub_view sub = record {
  sub = record { inodes = from_entries sub.inodes.items; names = names_view sub.names.items sub.near.items };
  numbers = record { last_ino = sub.last_ino; last_index = sub.last_index; dir_indexes = from_entries sub.dir_indexes.items };
}

-- What holds of a subvolume at all times: the names are a set in order, each with its mark; the inodes and the greatest
-- indexes rise by their numbers; and no directory has had an index above the greatest of all, where 1 stands for none
pub record IsWellKept (sub : FlatSub) : Type 0 where
  pub marked : length sub.near.items ≡ length sub.names.items
  pub in_order : IsTrue (is_name_set (names_view sub.names.items sub.near.items))
  pub inodes_rise : IsTrue (is_sorted nat_cmp sub.inodes.items)
  pub indexes_rise : IsTrue (is_sorted nat_cmp sub.dir_indexes.items)
  pub covered : (dir : ℕ) → last_index_in (sub_view sub).numbers dir ≤ sub.last_index
  pub least : 1 ≤ sub.last_index
  pub each_least : (dir : ℕ) → 1 ≤ last_index_in (sub_view sub).numbers dir
