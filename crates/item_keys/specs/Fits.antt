-- Whether an item's content belongs under its key, entry by entry: tests, and what they say of all entries.
use Rattle.std.specs.Prelude.{◌≡◌, ◌==◌, ◌&&◌, ℕ, Bool, List}
use Rattle.std.specs.List.{AllByRecursion}
use Rattle.blk_base.specs.Crc.{extref_hash_of, name_hash_of}
use Rattle.blk_base.specs.Entries.{EntryValue, ExtRefValue, IsEntries, IsExtRefs}
use Rattle.blk_base.specs.ItemFaults.{LeadsNowhere, LeadsToInode}
use Rattle.blk_base.specs.Keys.{dir_index, dir_item, inode_item, xattr_item}

-- ---- one entry

-- the far name has this hash ("INODE_EXTREF")
abbrev pub is_extref_at : ℕ → ExtRefValue → Bool
is_extref_at hash ref = extref_hash_of ref.parent ref.name == hash

-- the entry leads to the item of an inode ("DIR_ITEM")
abbrev pub leads_to_inode : EntryValue → Bool
leads_to_inode entry = (entry.target.kind == inode_item) && (entry.target.offset == 0)

-- the entry leads nowhere ("XATTR_ITEM")
abbrev pub leads_nowhere : EntryValue → Bool
leads_nowhere entry = (entry.target.objectid == 0) && (entry.target.kind == 0) && (entry.target.offset == 0)

-- the entry is that of a name of this hash, in a directory and as an attribute
abbrev pub is_entry_at : ℕ → EntryValue → Bool
is_entry_at hash entry = (name_hash_of entry.name == hash) && leads_to_inode entry

abbrev pub is_attribute_at : ℕ → EntryValue → Bool
is_attribute_at hash entry = (name_hash_of entry.name == hash) && leads_nowhere entry

-- ---- all entries of an item, where it has no fault

-- far names of this hash
abbrev pub AreExtRefsAt : ℕ → List ℕ → Type 0
AreExtRefsAt hash bytes = (refs : List ExtRefValue) → IsExtRefs bytes refs → AllByRecursion (λ ref. extref_hash_of ref.parent ref.name ≡ hash) refs

-- names of this hash in a directory
abbrev pub AreEntriesAt : ℕ → List ℕ → Type 0
AreEntriesAt hash bytes = (entries : List EntryValue) → IsEntries dir_item bytes entries → AllByRecursion (λ entry. (name_hash_of entry.name ≡ hash) × LeadsToInode entry) entries

-- the name at an index of a directory
abbrev pub IsEntryAtIndex : List ℕ → Type 0
IsEntryAtIndex bytes = (entries : List EntryValue) → IsEntries dir_index bytes entries → AllByRecursion LeadsToInode entries

-- attributes of this hash
abbrev pub AreAttributesAt : ℕ → List ℕ → Type 0
AreAttributesAt hash bytes = (entries : List EntryValue) → IsEntries xattr_item bytes entries → AllByRecursion (λ entry. (name_hash_of entry.name ≡ hash) × LeadsNowhere entry) entries
