-- Where a path leads.
use Rattle.std.specs.Prelude.{ℕ, Bool, true, false, cond, ◌&&◌, List, [], ◌∷◌, Option, Some, None, nat_eq, bytes_eq}
use Rattle.std.specs.FinMap.{get}
use Rattle.flat_model.specs.Records.{InodeRecord}
use Rattle.flat_model.specs.Names.{FlatName, name_in_slot}
use Rattle.flat_model.specs.Volume.{Subvolume, is_dir_at}

-- where a path leads in a subvolume: to the root directory, to a slot of a directory that is there, with the name in it
-- where there is one, or nowhere: a name before the last isn't in its directory, or what stands before the last name is no directory
-- (after the kernel's path walk, without symlinks)
pub data WalkEnd : Type 0 where
  AtRoot : WalkEnd
  AtSlot : ℕ → List ℕ → Option FlatName → WalkEnd
  Missing : WalkEnd
  Blocked : WalkEnd

-- the walk of a path that begins with this name, from a directory on (after the kernel's path walk)
abbrev pub walk_from : Subvolume → ℕ → List ℕ → List (List ℕ) → WalkEnd
walk_from sub dir bytes [] = cond (is_dir_at sub dir) (AtSlot dir bytes (name_in_slot sub.names dir bytes)) Blocked
walk_from sub dir bytes (next ∷ path) = cond (is_dir_at sub dir) (elim (name_in_slot sub.names dir bytes) [ None ↦ Missing | Some name ↦ walk_from sub name.ino next path ]) Blocked

-- the walk of a path, from directory 256 on (after the kernel's path walk)
abbrev pub walk : Subvolume → List (List ℕ) → WalkEnd
walk sub [] = AtRoot
walk sub (bytes ∷ path) = walk_from sub 256 bytes path

-- the inode at the end of a walk, where there is one
abbrev pub ino_at : WalkEnd → Option ℕ
ino_at AtRoot = Some 256
ino_at (AtSlot dir bytes None) = None
ino_at (AtSlot dir bytes (Some name)) = Some name.ino
ino_at Missing = None
ino_at Blocked = None

-- the record at the end of a walk, where there is one
abbrev pub record_at : Subvolume → WalkEnd → Option InodeRecord
record_at sub end = elim (ino_at end) [ None ↦ None | Some ino ↦ get sub.inodes ino ]

-- whether the walk met a name that isn't in its directory, the last one included: a place that has to be there isn't
abbrev pub is_absent : WalkEnd → Bool
is_absent AtRoot = false
is_absent (AtSlot dir bytes None) = true
is_absent (AtSlot dir bytes (Some name)) = false
is_absent Missing = true
is_absent Blocked = false

-- whether the walk met a name before the last that isn't in its directory: a place to make has no directory
abbrev pub is_dirless : WalkEnd → Bool
is_dirless AtRoot = false
is_dirless (AtSlot dir bytes there) = false
is_dirless Missing = true
is_dirless Blocked = false

-- whether the walk met a non-directory before the last name
abbrev pub is_blocked : WalkEnd → Bool
is_blocked AtRoot = false
is_blocked (AtSlot dir bytes there) = false
is_blocked Missing = false
is_blocked Blocked = true

-- whether the path is the root directory's
abbrev pub is_root : WalkEnd → Bool
is_root AtRoot = true
is_root (AtSlot dir bytes there) = false
is_root Missing = false
is_root Blocked = false

-- whether something stands at the end of a walk, the root directory included
abbrev pub is_taken : WalkEnd → Bool
is_taken AtRoot = true
is_taken (AtSlot dir bytes None) = false
is_taken (AtSlot dir bytes (Some name)) = true
is_taken Missing = false
is_taken Blocked = false

-- the directory of the slot at the end of a walk; 256 where it is no slot
abbrev pub dir_of : WalkEnd → ℕ
dir_of AtRoot = 256
dir_of (AtSlot dir bytes there) = dir
dir_of Missing = 256
dir_of Blocked = 256

-- the bytes of the slot at the end of a walk; none where it is no slot
abbrev pub bytes_of : WalkEnd → List ℕ
bytes_of AtRoot = []
bytes_of (AtSlot dir bytes there) = bytes
bytes_of Missing = []
bytes_of Blocked = []

-- whether two walks end at one inode other than the root directory
abbrev pub is_one_inode : WalkEnd → WalkEnd → Bool
is_one_inode (AtSlot dir bytes (Some name)) (AtSlot other_dir other_bytes (Some other)) = nat_eq name.ino other.ino
is_one_inode one two = false

-- whether the second path goes on below the first
abbrev pub is_below : List (List ℕ) → List (List ℕ) → Bool
is_below upper [] = false
is_below [] (name ∷ lower) = true
is_below (one ∷ upper) (name ∷ lower) = bytes_eq one name && is_below upper lower
