-- Ways down from the root directory by names that are sorted by their directories, and what a walk has reached of them.
use Rattle.std.specs.Prelude.{◌≡◌, ◌↔◌, ◌++◌, ℕ, Bool, true, List, Contains}
use Rattle.std.specs.BTreeSet.{contains}
use Rattle.std.specs.List.Sorted.{IsNonDecreasingBy}
use Rattle.std.specs.Ordering.{nat_cmp}
use Rattle.flat_model.specs.Coherent.{LeadsUp}
use Rattle.flat_model.specs.Names.{FlatName}
use Rattle.image_faults.specs.Faulty.{StandOnce}
use Rattle.coherent_names.specs.declared.name.Name.{Name}
use Rattle.coherent_ways.specs.declared.reached.Reached.{Reached}

abbrev pub dir_of : Name → ℕ
dir_of name = name.found.dir.0

-- each directory's number is at least the one before
abbrev pub AreByDirectory : List Name → Type 0
AreByDirectory names = IsNonDecreasingBy dir_of names

abbrev pub has_reached : Reached → ℕ → Bool
has_reached reached ino = contains nat_cmp reached.inos ino

-- what was reached: each number once, the root directory among them, and from each names lead up to it
pub record IsWalk (names : List FlatName) (has : ℕ → Bool) (queue : List ℕ) : Type 0 where
  pub same : (ino : ℕ) → (has ino ≡ true) ↔ Contains queue ino
  pub once : StandOnce queue
  pub leads : (ino : ℕ) → Contains queue ino → (way : List FlatName) × LeadsUp names ino way
  pub root : Contains queue 256

-- the list begins with the other
abbrev pub Extends : List ℕ → List ℕ → Type 0
Extends old new = (more : List ℕ) × (new ≡ old ++ more)
