-- Which items a tree of a subvolume has: exactly those that its records and names ask for.
use Rattle.std.specs.Prelude.{◌≡◌, ◌≢◌, ◌≤◌, ◌<◌, ◌+◌, ◌*◌, ◌/◌, ℕ, zero, suc, ◌&&◌, not, ◌==◌, List, [], ◌∷◌, ◌++◌, length, map, filter, sum_by, nat_eq, Option, Some, None, Result, Ok, Contains, if◌then◌else◌}
use Rattle.std.specs.List.{flat_map}
use Rattle.std.specs.List.Sorted.{IsPermutation}
use Rattle.std.specs.FinMap.{get, len, entries}
use Rattle.blk_base.specs.declared.format.TheConstants.{BLOCK_SIZE, FIRST_FREE}
use Rattle.blk_base.specs.declared.key.Key.{Key}
use Rattle.blk_base.specs.declared.fault.ItemFault.{ItemFault}
use Rattle.blk_base.specs.Crc.{name_hash_of, extref_hash_of}
use Rattle.blk_base.specs.Keys.{inode_item, inode_ref, inode_extref, xattr_item, dir_item, dir_index, extent_data}
use Rattle.blk_base.specs.Leaf.{Item}
use Rattle.blk_base.specs.Items.{InodeValue, IsInode, file_mode, dir_mode, link_mode}
use Rattle.blk_base.specs.Entries.{RefValue, ExtRefValue, EntryValue, IsRefs, IsExtRefs, IsEntries, dots, file_entry, dir_entry, link_entry, attr_entry}
use Rattle.blk_base.specs.Extents.{ExtentValue, Inline, Regular, IsExtent, extent_of}
use Rattle.flat_model.specs.Names.{FlatName, entries_of, links_of}
use Rattle.flat_model.specs.Records.{InodeRecord, FileRecord, LinkRecord, FileInode, DirInode, LinkInode, attributes_of}
use Rattle.flat_model.specs.Volume.{Subvolume}

-- what stands at the byte address of a data block, where something does
abbrev pub Data : Type 0
Data = ℕ → Option (List ℕ)

abbrev pub make_key : ℕ → ℕ → ℕ → Key
make_key objectid kind offset = record { objectid = objectid; kind = kind; offset = offset }

-- the items have something under the key
abbrev pub HasKey : List Item → Key → Type 0
HasKey items key = (bytes : List ℕ) × Contains items (key, bytes)

-- ---- inode items ("INODE_ITEM")

abbrev pub mode_of : InodeRecord → ℕ
mode_of (FileInode file) = file_mode
mode_of (DirInode dir) = dir_mode
mode_of (LinkInode link) = link_mode

-- a file's size, a target's length, and for a directory twice the lengths of the names in it
abbrev pub size_of : Subvolume → ℕ → InodeRecord → ℕ
size_of sub ino (FileInode file) = file.size
size_of sub ino (DirInode dir) = 2 * sum_by (λ (name : FlatName). length name.bytes) (entries_of sub.names ino)
size_of sub ino (LinkInode link) = length link.target

-- the bytes of a file's data blocks, a target's length, and 0 of a directory
abbrev pub nbytes_of : InodeRecord → ℕ
nbytes_of (FileInode file) = BLOCK_SIZE * len file.blocks
nbytes_of (DirInode dir) = 0
nbytes_of (LinkInode link) = length link.target

-- 1 of a directory, else the number of names
abbrev pub nlink_of : Subvolume → ℕ → InodeRecord → ℕ
nlink_of sub ino (FileInode file) = links_of sub.names ino
nlink_of sub ino (DirInode dir) = 1
nlink_of sub ino (LinkInode link) = links_of sub.names ino

-- an inode item of this record; its generation and transid are free
pub record IsInodeOf (sub : Subvolume) (ino : ℕ) (inode : InodeRecord) (bytes : List ℕ) : Type 0 where
  pub value : InodeValue
  pub spelled : IsInode bytes value
  pub mode : value.mode ≡ mode_of inode
  pub size : value.size ≡ size_of sub ino inode
  pub nbytes : value.nbytes ≡ nbytes_of inode
  pub nlink : value.nlink ≡ nlink_of sub ino inode

-- ---- names ("INODE_REF", "INODE_EXTREF", "DIR_ITEM", "DIR_INDEX")

abbrev pub ref_of : FlatName → RefValue
ref_of name = record { index = name.index; name = name.bytes }

-- the root directory's one name for itself
abbrev pub own_refs : ℕ → ℕ → List RefValue
own_refs ino parent = if nat_eq ino FIRST_FREE && nat_eq parent FIRST_FREE then record { index = 0; name = dots } ∷ [] else []

-- the near names of an inode in a directory, and for inode 256 the `..` of itself
abbrev pub refs_asked : Subvolume → ℕ → ℕ → List RefValue
refs_asked sub ino parent = own_refs ino parent ++ map ref_of (filter (λ name. name.near && (nat_eq name.ino ino && nat_eq name.dir parent)) sub.names)

abbrev pub extref_of : FlatName → ExtRefValue
extref_of name = record { parent = name.dir; index = name.index; name = name.bytes }

-- the far names of an inode with this hash
abbrev pub extrefs_asked : Subvolume → ℕ → ℕ → List ExtRefValue
extrefs_asked sub ino hash = map extref_of (filter (λ name. not name.near && (nat_eq name.ino ino && nat_eq (extref_hash_of name.dir name.bytes) hash)) sub.names)

abbrev pub entry_kind_of : Option InodeRecord → ℕ
entry_kind_of None = file_entry
entry_kind_of (Some (FileInode file)) = file_entry
entry_kind_of (Some (DirInode dir)) = dir_entry
entry_kind_of (Some (LinkInode link)) = link_entry

-- a name's entry in its directory, apart from its transid: it leads to the inode's item and tells the inode's kind
abbrev pub entry_of : Subvolume → FlatName → EntryValue
entry_of sub name = record { target = make_key name.ino inode_item 0; transid = 0; kind = entry_kind_of (get sub.inodes name.ino); name = name.bytes; value = [] }

-- the names in a directory with this hash
abbrev pub hashed_asked : Subvolume → ℕ → ℕ → List EntryValue
hashed_asked sub dir hash = map (entry_of sub) (filter (λ name. nat_eq name.dir dir && nat_eq (name_hash_of name.bytes) hash) sub.names)

-- the names in a directory at this index
abbrev pub indexed_asked : Subvolume → ℕ → ℕ → List EntryValue
indexed_asked sub dir index = map (entry_of sub) (filter (λ name. nat_eq name.dir dir && nat_eq name.index index) sub.names)

-- ---- attributes ("XATTR_ITEM")

abbrev pub attribute_entry : List ℕ × List ℕ → EntryValue
attribute_entry attribute = record { target = make_key 0 0 0; transid = 0; kind = attr_entry; name = attribute.0; value = attribute.1 }

abbrev pub attributes_there : Option InodeRecord → List (List ℕ × List ℕ)
attributes_there None = []
attributes_there (Some inode) = entries (attributes_of inode)

-- the attributes of an inode whose names have this hash
abbrev pub attributes_asked : Subvolume → ℕ → ℕ → List EntryValue
attributes_asked sub ino hash = map attribute_entry (filter (λ attribute. nat_eq (name_hash_of attribute.0) hash) (attributes_there (get sub.inodes ino)))

-- the entry as it is asked for: its transid is free
abbrev pub without_transid : EntryValue → EntryValue
without_transid e = record e { transid = 0 }

-- an item of this type has the entries that are asked for, in any order, and at least one
pub record HasEntries (kind : ℕ) (bytes : List ℕ) (asked : List EntryValue) : Type 0 where
  pub found : List EntryValue
  pub spelled : IsEntries kind bytes found
  pub same : IsPermutation (map without_transid found) asked

-- ---- extents ("EXTENT_DATA")

-- each block of a run of so many blocks has the bytes of the file's block of its number
abbrev pub RunHolds : Data → FileRecord → ℕ → ℕ → ℕ → Type 0
RunHolds blocks file number at count = (i : ℕ) → i < count → (block : List ℕ) × (blocks (at + BLOCK_SIZE * i) ≡ Some block) × (get file.blocks (number + i) ≡ Some block)

-- an extent item of a file is a run of its blocks, of a symlink its target; a directory has none
abbrev pub IsExtentOf : Data → InodeRecord → Key → List ℕ → Type 0
IsExtentOf blocks (FileInode file) key bytes =
    (at : ℕ) × (len : ℕ) × IsExtent key bytes (Regular at 0 len) × RunHolds blocks file (key.offset / BLOCK_SIZE) at (len / BLOCK_SIZE)
IsExtentOf blocks (DirInode dir) key bytes = ⊥
IsExtentOf blocks (LinkInode link) key bytes = IsExtent key bytes (Inline link.target)

-- ---- all items

-- The item is one that the subvolume asks for.
pub data IsAsked (sub : Subvolume) (blocks : Data) (key : Key) (bytes : List ℕ) : Type 0 where
  -- the item of an inode that is there, under offset 0
  InodeAsked : (inode : InodeRecord) (kind : key.kind ≡ inode_item) (offset : key.offset ≡ 0) (there : get sub.inodes key.objectid ≡ Some inode)
      (is : IsInodeOf sub key.objectid inode bytes) → IsAsked sub blocks key bytes
  -- the near names of an inode in the directory of the key's offset
  RefsAsked : (found : List RefValue) (kind : key.kind ≡ inode_ref) (spelled : IsRefs key bytes found)
      (same : IsPermutation found (refs_asked sub key.objectid key.offset)) → IsAsked sub blocks key bytes
  -- the far names of an inode with the hash of the key's offset
  ExtRefsAsked : (found : List ExtRefValue) (kind : key.kind ≡ inode_extref) (spelled : IsExtRefs bytes found)
      (same : IsPermutation found (extrefs_asked sub key.objectid key.offset)) → IsAsked sub blocks key bytes
  -- the attributes of an inode whose names have the hash of the key's offset
  AttributesAsked : (kind : key.kind ≡ xattr_item) (has : HasEntries xattr_item bytes (attributes_asked sub key.objectid key.offset)) → IsAsked sub blocks key bytes
  -- the names in a directory with the hash of the key's offset
  HashedAsked : (kind : key.kind ≡ dir_item) (has : HasEntries dir_item bytes (hashed_asked sub key.objectid key.offset)) → IsAsked sub blocks key bytes
  -- the name in a directory at the index of the key's offset
  IndexedAsked : (kind : key.kind ≡ dir_index) (has : HasEntries dir_index bytes (indexed_asked sub key.objectid key.offset)) → IsAsked sub blocks key bytes
  -- an extent of a file from the byte of the key's offset on, or a symlink's target
  ExtentAsked : (inode : InodeRecord) (kind : key.kind ≡ extent_data) (there : get sub.inodes key.objectid ≡ Some inode)
      (is : IsExtentOf blocks inode key bytes) → IsAsked sub blocks key bytes

-- how many bytes of its file an extent item covers
abbrev pub extent_len : Key → List ℕ → ℕ
extent_len key bytes = len_of (extent_of key bytes)
  where
    len_of : Result ExtentValue ItemFault → ℕ
    len_of (Ok (Regular at offset len)) = len
    len_of other = 0

-- the items have an extent of the file that covers this block of it
pub record CoversBlock (items : List Item) (ino number : ℕ) : Type 0 where
  pub offset : ℕ
  pub bytes : List ℕ
  pub there : Contains items (make_key ino extent_data offset, bytes)
  pub from : offset ≤ BLOCK_SIZE * number
  pub to : BLOCK_SIZE * number < offset + extent_len (make_key ino extent_data offset) bytes

-- The items of a tree, with the data blocks that its extents lead to, are those of this subvolume: each item is asked for, and all that is asked for is there.
pub record AreItemsOf (items : List Item) (blocks : Data) (sub : Subvolume) : Type 0 where
  pub only : (key : Key) (bytes : List ℕ) → Contains items (key, bytes) → IsAsked sub blocks key bytes
  pub inodes : (ino : ℕ) (inode : InodeRecord) → get sub.inodes ino ≡ Some inode → HasKey items (make_key ino inode_item 0)
  pub refs : (ino parent : ℕ) → refs_asked sub ino parent ≢ [] → HasKey items (make_key ino inode_ref parent)
  pub extrefs : (ino hash : ℕ) → extrefs_asked sub ino hash ≢ [] → HasKey items (make_key ino inode_extref hash)
  pub attributes : (ino hash : ℕ) → attributes_asked sub ino hash ≢ [] → HasKey items (make_key ino xattr_item hash)
  pub hashed : (dir hash : ℕ) → hashed_asked sub dir hash ≢ [] → HasKey items (make_key dir dir_item hash)
  pub indexed : (dir index : ℕ) → indexed_asked sub dir index ≢ [] → HasKey items (make_key dir dir_index index)
  pub file_blocks : (ino : ℕ) (file : FileRecord) (number : ℕ) (block : List ℕ) → get sub.inodes ino ≡ Some (FileInode file) → get file.blocks number ≡ Some block → CoversBlock items ino number
  pub targets : (ino : ℕ) (link : LinkRecord) → get sub.inodes ino ≡ Some (LinkInode link) → HasKey items (make_key ino extent_data 0)
  -- no two extents of a file cover one byte
  pub apart : (ino one two : ℕ) (first second : List ℕ) → Contains items (make_key ino extent_data one, first) → Contains items (make_key ino extent_data two, second) → one < two
      → one + extent_len (make_key ino extent_data one) first ≤ two

-- the byte addresses of a run of so many blocks
abbrev pub run_addresses : ℕ → ℕ → List ℕ
run_addresses at zero = []
run_addresses at (suc count) = at ∷ run_addresses (at + BLOCK_SIZE) count

-- the byte addresses of the data blocks that an item leads to
abbrev pub item_addresses : Item → List ℕ
item_addresses item = if item.0.kind == extent_data then addresses_of (extent_of item.0 item.1) else []
  where
    addresses_of : Result ExtentValue ItemFault → List ℕ
    addresses_of (Ok (Regular at offset len)) = run_addresses at (len / BLOCK_SIZE)
    addresses_of other = []

-- those that all items lead to
abbrev pub data_addresses : List Item → List ℕ
data_addresses items = flat_map item_addresses items
