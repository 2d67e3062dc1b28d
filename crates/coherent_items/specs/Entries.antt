-- Tests of entries: of the types that they have, and of their names by the slots of all names.
use Rattle.std.specs.Prelude.{◌==◌, ◌&&◌, ℕ, Bool, true, false, not, length, nat_lt, Option, Some, None}
use Rattle.std.specs.Option.{is_some}
use Rattle.blk_base.specs.Entries.{EntryValue, dir_entry, file_entry, link_entry}
use Rattle.flat_model.specs.Coherent.{greatest_number}
use Rattle.flat_model.specs.declared.view.Kind.{Kind}
use Rattle.flat_model.specs.declared.view.Kind.TheVariants.{Dir, File, Link}
use Rattle.coherent_slots.specs.declared.slots.Slots.{Slots}
use Rattle.coherent_slots.specs.Slots.{index_at}

-- the type of an entry that leads to an inode of this kind; of one that isn't there it may be any ("DIR_INDEX")
abbrev pub is_right_type : Option Kind → ℕ → Bool
is_right_type None type = true
is_right_type (Some File) type = type == file_entry
is_right_type (Some Dir) type = type == dir_entry
is_right_type (Some Link) type = type == link_entry

-- a number that an index may be (own)
abbrev pub is_index_number : ℕ → Bool
is_index_number index = not (nat_lt index 2) && not (nat_lt greatest_number index)

abbrev pub is_index : ℕ → Option ℕ → Bool
is_index index None = false
is_index index (Some found) = found == index

-- the entry at an index has its inode's type, and its name is in its slot at this index
abbrev pub is_right_indexed : (ℕ → Option Kind) → Slots → ℕ → ℕ → EntryValue → Bool
is_right_indexed kinds slots dir index entry = is_right_type (kinds entry.target.objectid) entry.kind && is_index index (index_at slots dir entry.name)

-- the entry has its inode's type, and a name is in its slot
abbrev pub is_right_hashed : (ℕ → Option Kind) → Slots → ℕ → EntryValue → Bool
is_right_hashed kinds slots dir entry = is_right_type (kinds entry.target.objectid) entry.kind && is_some (index_at slots dir entry.name)

-- the value of an attribute has 1 to 1024 bytes (own limits)
abbrev pub is_right_value : EntryValue → Bool
is_right_value entry = not (length entry.value == 0) && not (nat_lt 1024 (length entry.value))
