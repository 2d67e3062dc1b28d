-- What a search for the drawn set has found, and what its steps add.
use Rattle.std.specs.Prelude.{◌≡◌, ◌⊎◌, ℕ, ◌+◌, ◌<◌, Bool, not, List, [], ◌∷◌, length, filter, Option, Some, None, IfSome, IsTrue, Contains}
use Rattle.std.specs.FinMap.{keys}
use Rattle.flat_model.specs.Names.{FlatName}
use Rattle.flat_model.specs.Volume.{Subvolume}
use Rattle.logged_volume.specs.Numbers.{is_in, is_number_set}
use Rattle.logged_volume.specs.Agreement.{is_there, do_names_differ}
use Rattle.logged_volume.specs.Drawn.{LeadsTo, is_parent, is_out_of_step, is_first, DrawsAbove, DrawsSlots}
use Rattle.drawn_set.specs.declared.search.Search.{Search}

-- nothing is found
pub record IsEmpty (search : Search) : Type 0 where
  pub members : search.members.keys ≡ []
  pub above : search.above.keys ≡ []
  pub fresh : search.fresh.items ≡ []

-- what was found keeps the rules: each member is good, the directories above present members are noted or pending, and those
-- that are noted are members where they are out of step
pub record IsSearch (current logged : Subvolume) (is_good : ℕ → Bool) (pending : List ℕ) (search : Search) : Type 0 where
  pub in_order : IsTrue (is_number_set search.members.keys)
  pub good : (ino : ℕ) → Contains search.members.keys ino → IsTrue (is_good ino)
  pub fresh : (ino : ℕ) → Contains search.fresh.items ino → Contains search.members.keys ino
  pub parents : (member dir : ℕ) → Contains search.members.keys member → IsTrue (is_there current member) → IsTrue (is_parent current.names member dir)
      → Contains search.above.keys dir ⊎ Contains pending dir
  pub up : (dir parent : ℕ) → Contains search.above.keys dir → IsTrue (is_parent current.names dir parent)
      → Contains search.above.keys parent ⊎ Contains pending parent
  pub drawn : (dir : ℕ) → Contains search.above.keys dir → IsTrue (is_out_of_step current logged dir) → Contains search.members.keys dir

-- members and fresh ones stay, a new member is fresh, and as many came to the one as to the other
pub record Grows (old new : Search) : Type 0 where
  pub members : (ino : ℕ) → Contains old.members.keys ino → Contains new.members.keys ino
  pub fresh : (ino : ℕ) → Contains old.fresh.items ino → Contains new.fresh.items ino
  pub new_fresh : (ino : ℕ) → Contains new.members.keys ino → Contains old.members.keys ino ⊎ Contains new.fresh.items ino
  pub counts : length new.members.keys + length old.fresh.items ≡ length old.members.keys + length new.fresh.items

-- how many inodes weren't noted as directories above a member
abbrev pub unnoted : Subvolume → Search → ℕ
unnoted current search = length (filter (λ ino. not (is_in search.above.keys ino)) (keys current.inodes))

-- what is pending after a step: the directory to go on with, where there is one, and the others
abbrev pub pending_with : Option ℕ → List ℕ → List ℕ
pending_with None pending = pending
pending_with (Some dir) pending = dir ∷ pending

-- the directory is noted, and the next one is pending
pub record Visits (current logged : Subvolume) (dir : ℕ) (next : Option ℕ) (old new : Search) : Type 0 where
  pub goes_on : IfSome next (λ parent. IsTrue (is_parent current.names dir parent) × (unnoted current new < unnoted current old))
  pub search : (is_good : ℕ → Bool) (pending : List ℕ) → (IsTrue (is_out_of_step current logged dir) → IsTrue (is_good dir))
      → IsSearch current logged is_good (dir ∷ pending) old → IsSearch current logged is_good (pending_with next pending) new

-- the directory, or one above it
abbrev pub IsFrom : List FlatName → ℕ → ℕ → Type 0
IsFrom names dir above = (way : List FlatName) × LeadsTo names dir way above

-- each directory from this one up is good where it is out of step
abbrev pub AreGoodFrom : Subvolume → Subvolume → (ℕ → Bool) → ℕ → Type 0
AreGoodFrom current logged is_good dir = (above : ℕ) → IsFrom current.names dir above → IsTrue (is_out_of_step current logged above) → IsTrue (is_good above)

-- the directory is pending no more
abbrev pub Climbs : Subvolume → Subvolume → ℕ → Search → Search → Type 0
Climbs current logged dir old new = (is_good : ℕ → Bool) (pending : List ℕ) → AreGoodFrom current logged is_good dir
    → IsSearch current logged is_good (dir ∷ pending) old → IsSearch current logged is_good pending new

-- none of the directories is pending any more
abbrev pub ClimbsAll : Subvolume → Subvolume → List ℕ → Search → Search → Type 0
ClimbsAll current logged dirs old new = (is_good : ℕ → Bool) → ((dir : ℕ) → Contains dirs dir → AreGoodFrom current logged is_good dir)
    → IsSearch current logged is_good dirs old → IsSearch current logged is_good [] new

-- what a good inode draws of the directories above it is good
abbrev pub AreGoodAbove : Subvolume → Subvolume → (ℕ → Bool) → Type 0
AreGoodAbove current logged is_good = (member ino : ℕ) → IsTrue (is_good member) → DrawsAbove current logged member ino → IsTrue (is_good ino)

-- each of the wanted inodes is a member, and where they are good the search stays one
pub record DrawsEach (current logged : Subvolume) (Wanted : ℕ → Type 0) (old new : Search) : Type 0 where
  pub has : (ino : ℕ) → Wanted ino → Contains new.members.keys ino
  pub search : (is_good : ℕ → Bool) → AreGoodAbove current logged is_good → ((ino : ℕ) → Wanted ino → IsTrue (is_good ino))
      → IsSearch current logged is_good [] old → IsSearch current logged is_good [] new

abbrev pub Draws : Subvolume → Subvolume → ℕ → Search → Search → Type 0
Draws current logged ino = DrawsEach current logged (λ other. other ≡ ino)

abbrev pub DrawsAll : Subvolume → Subvolume → List ℕ → Search → Search → Type 0
DrawsAll current logged inos = DrawsEach current logged (Contains inos)

abbrev pub DrawsDiffering : Subvolume → Subvolume → List ℕ → Search → Search → Type 0
DrawsDiffering current logged inos = DrawsEach current logged (λ ino. Contains inos ino × IsTrue (do_names_differ current logged ino))

abbrev pub DrawsFirst : Subvolume → Subvolume → ℕ → Search → Search → Type 0
DrawsFirst current logged target = DrawsEach current logged (λ ino. IsTrue (is_first current logged target ino))

abbrev pub Follows : Subvolume → Subvolume → ℕ → Search → Search → Type 0
Follows current logged member = DrawsEach current logged (DrawsSlots current logged member)
