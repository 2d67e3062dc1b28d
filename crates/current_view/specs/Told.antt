-- What items of a tree tell of names, without their marks.
use Rattle.std.specs.Prelude.{ℕ, ◌-◌, ◌^◌, List, ◌==◌, if◌then◌else◌, map, Option, Some, None}
use Rattle.blk_base.specs.declared.key.Key.{Key}
use Rattle.blk_base.specs.Entries.{EntryValue, ExtRefValue, RefValue, entries_of, extrefs_of, refs_of as refs_read}
use Rattle.blk_base.specs.Keys.{dir_index, inode_extref, inode_ref}
use Rattle.blk_base.specs.Leaf.{Item}
use Rattle.flat_model.specs.declared.view.NameAt.{NameAt}
use Rattle.flat_model.specs.Names.{FlatName, name_in_slot}
use Rattle.flat_model.specs.Unmarked.{unmarked}
use Rattle.flat_model.specs.Volume.{Subvolume}
use Rattle.image_faults.specs.Said.{read_list}
use Rattle.tree_range.specs.Between.{items_between}
use Rattle.volume_image.specs.Subvolume.{make_key}

-- a name by its parts
abbrev pub name_told : ℕ → ℕ → List ℕ → ℕ → NameAt
name_told dir index name ino = record { dir = record { 0 = dir }; index = index; name = name; ino = record { 0 = ino } }

-- an entry at an index ("DIR_INDEX")
abbrev pub entry_told : Key → EntryValue → NameAt
entry_told key entry = name_told key.objectid key.offset entry.name entry.target.objectid

-- a near name ("INODE_REF")
abbrev pub near_told : Key → RefValue → NameAt
near_told key ref = name_told key.offset ref.index ref.name key.objectid

-- a far name ("INODE_EXTREF")
abbrev pub far_told : Key → ExtRefValue → NameAt
far_told key ref = name_told ref.parent ref.index ref.name key.objectid

-- the items of a directory's indexes
abbrev pub indexes_of : List Item → ℕ → List Item
indexes_of items dir = items_between (make_key dir dir_index 0) (make_key dir dir_index (2 ^ 64 - 1)) items

-- the items of an inode's refs
abbrev pub refs_of : List Item → ℕ → List Item
refs_of items ino = items_between (make_key ino inode_ref 0) (make_key ino inode_extref (2 ^ 64 - 1)) items

-- the names that an item of an index says
abbrev pub indexed_told : Item → List NameAt
indexed_told item = map (entry_told item.0) (read_list (entries_of dir_index item.1))

-- the names that an item of refs says, near or far
abbrev pub refs_told : Item → List NameAt
refs_told item =
    if item.0.kind == inode_ref then map (near_told item.0) (read_list (refs_read item.0 item.1)) else map (far_told item.0) (read_list (extrefs_of item.1))

-- what stands in the slot of an entry, and where nothing does the entry at index 0
abbrev pub slot_told : ℕ → EntryValue → Option FlatName → NameAt
slot_told dir entry (Some name) = unmarked name
slot_told dir entry None = name_told dir 0 entry.name entry.target.objectid

-- the name of an entry of a directory, as the subvolume has it
abbrev pub held_told : Subvolume → ℕ → EntryValue → NameAt
held_told sub dir entry = slot_told dir entry (name_in_slot sub.names dir entry.name)
