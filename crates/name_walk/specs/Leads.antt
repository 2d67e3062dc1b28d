-- What is found on the way to the name in a slot.
use Rattle.std.specs.Prelude.{◌≡◌, ℕ, Bool, cond, ◌&&◌, List, Some, None, nat_eq, bytes_eq}
use Rattle.blk_base.specs.Entries.{ExtRefValue}
use Rattle.flat_model.specs.Names.{FlatName, name_in_slot}
use Rattle.flat_model.specs.Volume.{Subvolume, is_dir_at}
use Rattle.flat_model.specs.Walk.{WalkEnd, AtRoot, AtSlot, Missing, Blocked}
use Rattle.name_walk.specs.declared.slots.Lead.{Lead}
use Rattle.name_walk.specs.declared.paths.Step.{Step}
use Rattle.name_walk.specs.declared.paths.Step.TheVariants as steps

-- whether a far name is of this directory and has these bytes ("INODE_EXTREF")
abbrev pub is_far_of : ℕ → List ℕ → ExtRefValue → Bool
is_far_of dir bytes r = nat_eq r.parent dir && bytes_eq r.name bytes

-- the name in a slot leads to this inode
pub record LeadsTo (sub : Subvolume) (dir : ℕ) (bytes : List ℕ) (ino : ℕ) (name : FlatName) : Type 0 where
  pub there : name_in_slot sub.names dir bytes ≡ Some name
  pub leads : name.ino ≡ ino

-- the name in a slot leads to this inode, which is a directory or not
pub record IsLead (sub : Subvolume) (dir : ℕ) (bytes : List ℕ) (lead : Lead) : Type 0 where
  pub name : FlatName
  pub is : LeadsTo sub dir bytes lead.ino name
  pub is_dir : lead.is_dir ≡ is_dir_at sub lead.ino

-- a walk ends at a slot with this name
pub record IsTaken (sub : Subvolume) (end : WalkEnd) (dir : ℕ) (bytes : List ℕ) (lead : Lead) : Type 0 where
  pub is : IsLead sub dir bytes lead
  pub slot : end ≡ AtSlot dir bytes (Some is.name)

-- a walk ends so, as the code keeps it on the way
abbrev pub IsStep : Subvolume → WalkEnd → Step → Type 0
IsStep sub end steps.Root = end ≡ AtRoot
IsStep sub end (steps.Free dir name) = end ≡ AtSlot dir name.now None
IsStep sub end (steps.Taken dir name lead) = IsTaken sub end dir name.now lead
IsStep sub end steps.Missing = end ≡ Missing
IsStep sub end steps.Blocked = end ≡ Blocked

-- where one name leads, from a directory on
abbrev pub slot_end : Subvolume → ℕ → List ℕ → WalkEnd
slot_end sub dir bytes = AtSlot dir bytes (name_in_slot sub.names dir bytes)

-- where a path leads that goes on by one name from where this walk ended
abbrev pub next_end : Subvolume → WalkEnd → List ℕ → WalkEnd
next_end sub AtRoot bytes = slot_end sub 256 bytes
next_end sub (AtSlot dir last None) bytes = Missing
next_end sub (AtSlot dir last (Some name)) bytes = cond (is_dir_at sub name.ino) (slot_end sub name.ino bytes) Blocked
next_end sub Missing bytes = Missing
next_end sub Blocked bytes = Blocked
