-- Lists of names as the calls of a view hand them out.
use Rattle.std.specs.Prelude.{◌≡◌, ◌↔◌, ◌⊎◌, ℕ, Bool, ◌&&◌, ◌||◌, List, Option, Some, IsTrue, Contains, nat_eq, bytes_eq}
use Rattle.std.specs.List.{list_all, list_any}
use Rattle.flat_model.specs.declared.view.NameAt.{NameAt}
use Rattle.flat_model.specs.Names.{FlatName}
use Rattle.logged_volume.specs.Drawn.{is_parent}

-- the numbers are those of the directories that have a name of the inode
abbrev pub AreParents : List FlatName → ℕ → List ℕ → Type 0
AreParents names ino dirs = (dir : ℕ) → Contains dirs dir ↔ IsTrue (is_parent names ino dir)

-- whoever has a directory's name is its parent, and it has one parent or none
abbrev pub IsParentOf : List FlatName → ℕ → Option ℕ → Type 0
IsParentOf names dir parent = (above : ℕ) → IsTrue (is_parent names dir above) ↔ (parent ≡ Some above)

-- the numbers are those of the inodes that have a name in the directory
abbrev pub AreInodesIn : List FlatName → ℕ → List ℕ → Type 0
AreInodesIn names dir inos = (ino : ℕ) → Contains inos ino ↔ IsTrue (is_parent names ino dir)

-- the numbers are those of the inodes that have a name in the directory, by one of two lists of names
abbrev pub AreInodesInEither : List FlatName → List FlatName → ℕ → List ℕ → Type 0
AreInodesInEither names others dir inos = (ino : ℕ) → Contains inos ino ↔ IsTrue (is_parent names ino dir || is_parent others ino dir)

-- a list has these numbers beside those that it had
abbrev pub AddsAll : List ℕ → List ℕ → List ℕ → Type 0
AddsAll numbers old new = (number : ℕ) → Contains new number ↔ (Contains old number ⊎ Contains numbers number)

-- whether two names are one
abbrev pub is_same_at : NameAt → NameAt → Bool
is_same_at one two = nat_eq one.dir.0 two.dir.0 && (nat_eq one.index two.index && (bytes_eq one.name two.name && nat_eq one.ino.0 two.ino.0))

-- whether the name is among these
abbrev pub is_among : List NameAt → NameAt → Bool
is_among names name = list_any (is_same_at name) names

-- whether these names are the others, in any order
abbrev pub are_alike : List NameAt → List NameAt → Bool
are_alike names others = list_all (is_among others) names && list_all (is_among names) others
