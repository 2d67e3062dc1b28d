-- What stands in the slot of a name.
use Rattle.std.specs.Prelude.{◌↔◌, ℕ, ◌+◌, Bool, true, cond, ◌&&◌, ◌||◌, List, length, IsTrue, Contains, bytes_eq}
use Rattle.std.specs.List.{list_any}
use Rattle.flat_model.specs.declared.view.NameAt.{NameAt}
use Rattle.flat_model.specs.Names.{FlatName, leads_to, is_in_slot}
use Rattle.flat_model.specs.Volume.{Subvolume}
use Rattle.logged_volume.specs.Drawn.{is_one_slot}

-- the bytes of a name's entry in a DIR_ITEM item ("DIR_ITEM")
abbrev pub entry_bytes : NameAt → ℕ
entry_bytes name = 30 + length name.name

-- the bytes of a name's entry where F leaves its slot free
abbrev pub bytes_beside : Subvolume → NameAt → ℕ
bytes_beside current name = cond (list_any (is_in_slot name.dir.0 name.name) current.names) 0 (entry_bytes name)

-- whether one of the names of a hash is in the slot of a name
abbrev pub does_share : NameAt → Bool → NameAt → Bool
does_share name crowded other = crowded || bytes_eq other.name name.name

-- the name with a mark; what is said of slots is one for both marks
abbrev pub marked : NameAt → FlatName
marked name = record { dir = name.dir.0; index = name.index; bytes = name.name; ino = name.ino.0; near = true }

-- whether R has the inode in the slot of a name of F
abbrev pub is_in_slot_of : Subvolume → Subvolume → NameAt → ℕ → Bool
is_in_slot_of current logged name ino = list_any (λ other. leads_to ino other && is_one_slot current logged (marked name) other) logged.names

-- the numbers are those of the inodes that R has in the slot of a name of F
abbrev pub AreInSlotOf : Subvolume → Subvolume → NameAt → List ℕ → Type 0
AreInSlotOf current logged name inos = (ino : ℕ) → Contains inos ino ↔ IsTrue (is_in_slot_of current logged name ino)
