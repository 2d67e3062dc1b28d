-- An item's first fault, from its key and its bytes: the grammar of the key's type, whichever tree the item stands in. And the key that the format
-- gives for an item's content.
use Rattle.std.specs.Prelude.{◌≡◌, ◌⊎◌, ℕ, Bool, true, false, ◌||◌, ◌==◌, List, [], ◌∷◌, Option, Some, None, Result, Ok, Err, if◌then◌else◌}
use Rattle.std.specs.List.{AllByRecursion}
use Rattle.blk_base.specs.declared.fault.ItemFault.{ItemFault}
use Rattle.blk_base.specs.declared.key.Key.{Key}
use Rattle.blk_base.specs.Crc.{name_hash_of, extref_hash_of}
use Rattle.blk_base.specs.Keys.{inode_item, inode_ref, inode_extref, xattr_item, dir_log_index, dir_item, dir_index, extent_data}
use Rattle.blk_base.specs.Items.{InodeValue, IsInode, inode_of, IsRange, range_of}
use Rattle.blk_base.specs.Entries.{RefValue, ExtRefValue, EntryValue, IsRefs, IsExtRefs, IsEntries, refs_of, extrefs_of, entries_of}
use Rattle.blk_base.specs.Extents.{ExtentValue, IsExtent, IsLogExtent, extent_in}

-- ---- the first fault

-- the fault of what was read, where it couldn't be
abbrev pub fault_of : {V : Type 0} → Result V ItemFault → Option ItemFault
fault_of (Ok value) = None
fault_of (Err fault) = Some fault

-- an item of entries of a directory, or of attributes
abbrev pub is_entries_kind : ℕ → Bool
is_entries_kind kind = (kind == dir_item) || (kind == dir_index) || (kind == xattr_item)

-- the first fault by the grammar of the key's type; `holes` says whether the item stands in a log. A type without a grammar has no fault.
abbrev pub fault_in : Bool → Key → List ℕ → Option ItemFault
fault_in holes key bytes =
    if key.kind == inode_item then fault_of (inode_of bytes) else
    if key.kind == inode_ref then fault_of (refs_of key bytes) else
    if key.kind == inode_extref then fault_of (extrefs_of bytes) else
    if is_entries_kind key.kind then fault_of (entries_of key.kind bytes) else
    if key.kind == extent_data then fault_of (extent_in holes key bytes) else
    if key.kind == dir_log_index then fault_of (range_of bytes) else None

-- of an item in the tree of a subvolume
unfoldable pub item_fault : Key → List ℕ → Option ItemFault
item_fault key bytes = fault_in false key bytes

-- of an item in a log, which has holes too
unfoldable pub log_item_fault : Key → List ℕ → Option ItemFault
log_item_fault key bytes = fault_in true key bytes

-- ---- the grammar

-- an item of entries of a directory, or of attributes
abbrev pub IsEntriesKind : ℕ → Type 0
IsEntriesKind kind = (kind ≡ dir_item) ⊎ (kind ≡ dir_index) ⊎ (kind ≡ xattr_item)

-- The bytes are what the grammar of the key's type spells, with extents of this grammar. A type without a grammar has any bytes.
pub record IsSpelledWith (IsExtentHere : Key → List ℕ → ExtentValue → Type 0) (key : Key) (bytes : List ℕ) : Type 0 where
  -- mode and numbers of an inode
  pub inode : key.kind ≡ inode_item → (value : InodeValue) × IsInode bytes value
  -- near names of an inode in one directory
  pub refs : key.kind ≡ inode_ref → (refs : List RefValue) × IsRefs key bytes refs
  -- far names of an inode
  pub extrefs : key.kind ≡ inode_extref → (refs : List ExtRefValue) × IsExtRefs bytes refs
  -- names in a directory, or attributes
  pub entries : IsEntriesKind key.kind → (entries : List EntryValue) × IsEntries key.kind bytes entries
  -- a target, a run of blocks, or a hole
  pub extent : key.kind ≡ extent_data → (value : ExtentValue) × IsExtentHere key bytes value
  -- a range of indexes
  pub range : key.kind ≡ dir_log_index → (last : ℕ) × IsRange bytes last

-- in the tree of a subvolume
abbrev pub IsSpelled : Key → List ℕ → Type 0
IsSpelled key bytes = IsSpelledWith IsExtent key bytes

-- in a log, which has holes too
abbrev pub IsLogSpelled : Key → List ℕ → Type 0
IsLogSpelled key bytes = IsSpelledWith IsLogExtent key bytes

-- ---- keys

-- the types of the items of a subvolume
abbrev pub is_subvolume_kind : ℕ → Bool
is_subvolume_kind kind = (kind == inode_item) || (kind == inode_ref) || (kind == inode_extref) || is_entries_kind kind || (kind == extent_data)

-- the types of the items of a log
abbrev pub is_log_kind : ℕ → Bool
is_log_kind kind =
    (kind == inode_item) || (kind == inode_ref) || (kind == inode_extref) || (kind == xattr_item) || (kind == dir_index) || (kind == extent_data)
    || (kind == dir_log_index)

-- the entry leads to the item of an inode, which has the key (inode, 1, 0)
pub record LeadsToInode (entry : EntryValue) : Type 0 where
  pub kind : entry.target.kind ≡ inode_item
  pub offset : entry.target.offset ≡ 0

-- the entry of an attribute leads nowhere
pub record LeadsNowhere (entry : EntryValue) : Type 0 where
  pub objectid : entry.target.objectid ≡ 0
  pub kind : entry.target.kind ≡ 0
  pub offset : entry.target.offset ≡ 0

-- The key is the one that the format gives for this content: offset 0 of an inode's item, and the hash of each name. What the grammar says of a key
-- (the parent of `..`, the place of an extent) isn't said again.
pub record HasItsKey (key : Key) (bytes : List ℕ) : Type 0 where
  -- (inode, 1, 0)
  pub inode : key.kind ≡ inode_item → key.offset ≡ 0
  -- (inode, 13, hash of the directory's number and the name)
  pub extrefs : key.kind ≡ inode_extref → (refs : List ExtRefValue) → IsExtRefs bytes refs → AllByRecursion (λ ref. extref_hash_of ref.parent ref.name ≡ key.offset) refs
  -- (directory, 84, hash of the name)
  pub hashed : key.kind ≡ dir_item → (entries : List EntryValue) → IsEntries dir_item bytes entries → AllByRecursion (λ entry. (name_hash_of entry.name ≡ key.offset) × LeadsToInode entry) entries
  -- (directory, 96, index), which no entry has in it
  pub indexed : key.kind ≡ dir_index → (entries : List EntryValue) → IsEntries dir_index bytes entries → AllByRecursion LeadsToInode entries
  -- (inode, 24, hash of the attribute's name)
  pub attributes : key.kind ≡ xattr_item → (entries : List EntryValue) → IsEntries xattr_item bytes entries → AllByRecursion (λ entry. (name_hash_of entry.name ≡ key.offset) × LeadsNowhere entry) entries
