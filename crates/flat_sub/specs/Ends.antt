-- Where a path leads, as the code keeps it.
use Rattle.std.specs.Prelude.{◌≡◌, ℕ, suc, cond, List, ◌∷◌, Some, None, drop}
use Rattle.flat_sub.specs.declared.walk.End.{End}
use Rattle.flat_sub.specs.declared.walk.End.TheVariants as ends
use Rattle.flat_model.specs.declared.answer.Answer.{Answer}
use Rattle.flat_model.specs.declared.answer.Answer.TheVariants.{NoEnt, NotDir, IsDir, Exists}
use Rattle.flat_model.specs.Operations.{Outcome}
use Rattle.flat_model.specs.Names.{FlatName, name_in_slot}
use Rattle.flat_model.specs.Volume.{Subvolume, RunSub, is_dir_at, is_dir_there}
use Rattle.flat_model.specs.Walk.{WalkEnd, AtRoot, AtSlot, Missing, Blocked, bytes_of, is_absent, is_blocked, record_at}

-- the name at a place among others is the one of a slot, and leads to this inode
pub record IsTaken (names : List FlatName) (end : WalkEnd) (dir at ino : ℕ) : Type 0 where
  pub name : FlatName
  pub slot : end ≡ AtSlot dir (bytes_of end) (Some name)
  pub leads : ino ≡ name.ino
  pub place : drop at names ≡ name ∷ drop (suc at) names

-- the end of a walk is this, as the code keeps it
abbrev pub IsEnd : List FlatName → WalkEnd → End → Type 0
IsEnd names end ends.Root = end ≡ AtRoot
IsEnd names end (ends.Free dir) = end ≡ AtSlot dir (bytes_of end) None
IsEnd names end (ends.Taken dir at ino) = IsTaken names end dir at ino
IsEnd names end ends.Missing = end ≡ Missing
IsEnd names end ends.Blocked = end ≡ Blocked

-- where one name leads, from a directory on
abbrev pub slot_end : Subvolume → ℕ → List ℕ → WalkEnd
slot_end sub dir bytes = cond (is_dir_at sub dir) (AtSlot dir bytes (name_in_slot sub.names dir bytes)) Blocked

-- where a path leads that goes on by one name from where this walk ended
abbrev pub next_end : Subvolume → WalkEnd → List ℕ → WalkEnd
next_end sub AtRoot bytes = slot_end sub 256 bytes
next_end sub (AtSlot dir last None) bytes = Missing
next_end sub (AtSlot dir last (Some name)) bytes = slot_end sub name.ino bytes
next_end sub Missing bytes = Missing
next_end sub Blocked bytes = Blocked

-- a subvolume in its run with these names
abbrev pub with_names : RunSub → List FlatName → RunSub
with_names run names = record { sub = record { inodes = run.sub.inodes; names = names }; numbers = run.numbers }

-- this subvolume in the run of another
abbrev pub with_sub : RunSub → Subvolume → RunSub
with_sub run sub = record { sub = sub; numbers = run.numbers }

-- an operation comes to this: the subvolume in its run afterwards, and the answer
pub record ComesTo (outcome : Outcome) (after : RunSub) (said : Answer) : Type 0 where
  pub next : after ≡ outcome.next
  pub answer : said ≡ outcome.answer

-- what link answers where its second place is taken
abbrev pub taken_answer : Subvolume → WalkEnd → Answer
taken_answer sub from = cond (is_absent from) NoEnt (cond (is_blocked from) NotDir (cond (is_dir_there (record_at sub from)) IsDir Exists))
