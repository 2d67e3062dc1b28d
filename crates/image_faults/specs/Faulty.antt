-- When an inode is faulty, among rising items none of which has a fault of its own: what must hold of it and of its items, line by line.
use Rattle.std.specs.Prelude.{◌≡◌, ◌≢◌, ◌≤◌, ◌+◌, ◌*◌, ℕ, Bool, true, false, ◌||◌, ◌==◌, List, [], ◌∷◌, length, sum_by, Option, Some, None, Result, Ok, Contains, IsTrue, if◌then◌else◌, ◌<◌}
use Rattle.std.specs.FinMap.{get}
use Rattle.blk_base.specs.declared.format.TheConstants.{FIRST_FREE}
use Rattle.blk_base.specs.declared.key.Key.{Key}
use Rattle.blk_base.specs.declared.fault.ItemFault.{ItemFault}
use Rattle.blk_base.specs.Bytes.{IsBytes}
use Rattle.blk_base.specs.Crc.{name_hash_of}
use Rattle.blk_base.specs.Keys.{inode_item, inode_ref, inode_extref, dir_item, dir_index, extent_data}
use Rattle.blk_base.specs.Leaf.{Item}
use Rattle.blk_base.specs.Trees.{ItemsRise}
use Rattle.blk_base.specs.Items.{InodeValue, inode_of}
use Rattle.blk_base.specs.Entries.{EntryValue, refs_of, extrefs_of, dots}
use Rattle.blk_base.specs.Extents.{ExtentValue, Inline, Regular, extent_of}
use Rattle.blk_base.specs.ItemFaults.{item_fault, is_subvolume_kind, HasItsKey}
use Rattle.flat_model.specs.Names.{FlatName, links_of}
use Rattle.flat_model.specs.Records.{InodeRecord, FileInode, DirInode, LinkInode}
use Rattle.flat_model.specs.Lengths.{most_item_bytes}
use Rattle.flat_model.specs.Volume.{Subvolume, is_dir_at, is_dir_there}
use Rattle.flat_model.specs.Coherent.{IsInoNumber, IsIndexNumber, IsLinkCount, KeepsLimits, LeadsUp}
use Rattle.volume_image.specs.Subvolume.{Data, HasKey, make_key, nlink_of, nbytes_of, entry_kind_of, extent_len, data_addresses}
use Rattle.image_faults.specs.Said.{PlacedEntry, read_list, entries_at, said_sub}

-- ---- what is known of the items before

-- Items whose keys rise, none with a fault of its own, of bytes, of at most 3970, with no extent that begins below the end of the one before it in its file.
pub record AreReadable (items : List Item) : Type 0 where
  pub rise : ItemsRise items
  pub bytes : (key : Key) (bytes : List ℕ) → Contains items (key, bytes) → IsBytes bytes
  pub short : (key : Key) (bytes : List ℕ) → Contains items (key, bytes) → length bytes ≤ most_item_bytes
  pub faultless : (key : Key) (bytes : List ℕ) → Contains items (key, bytes) → item_fault key bytes ≡ None
  pub apart : (ino one two : ℕ) (first second : List ℕ) → Contains items (make_key ino extent_data one, first) → Contains items (make_key ino extent_data two, second) → one < two
      → one + extent_len (make_key ino extent_data one) first ≤ two

-- at each address to which the items lead there is a block
abbrev pub HasData : List Item → Data → Type 0
HasData items blocks = (at : ℕ) → Contains (data_addresses items) at → (block : List ℕ) × (blocks at ≡ Some block)

-- nothing stands in the list twice
abbrev pub StandOnce : {X : Type 0} → List X → Type 0
StandOnce [] = Unit {0}
StandOnce (x ∷ xs) = (Contains xs x → ⊥) × StandOnce xs

-- ---- keys

-- an item has the number as its objectid
abbrev pub IsThere : List Item → ℕ → Type 0
IsThere items ino = (item : Item) × Contains items item × (item.0.objectid ≡ ino)

-- the item of refs has the root directory's name for itself ("INODE_REF": index 0 and name `..`)
pub record HasOwnRef (items : List Item) : Type 0 where
  pub bytes : List ℕ
  pub there : Contains items (make_key FIRST_FREE inode_ref FIRST_FREE, bytes)
  pub dots : Contains (read_list (refs_of (make_key FIRST_FREE inode_ref FIRST_FREE) bytes)) (record { index = 0; name = dots })

-- a run of blocks is a file's, a target is a symlink's
abbrev pub is_extent_for : Option InodeRecord → Result ExtentValue ItemFault → Bool
is_extent_for (Some (FileInode file)) (Ok (Regular at offset len)) = true
is_extent_for (Some (LinkInode link)) (Ok (Inline content)) = true
is_extent_for inode value = false

-- entries are a directory's; refs and attributes may be any inode's
abbrev pub is_for_kind : Option InodeRecord → Key → List ℕ → Bool
is_for_kind inode key bytes =
    if (key.kind == dir_item) || (key.kind == dir_index) then is_dir_there inode else
    if key.kind == extent_data then is_extent_for inode (extent_of key bytes) else true

-- the format gives this key, for an item of a subvolume, for its content and for the kind of its inode
pub record HasRightKey (sub : Subvolume) (key : Key) (bytes : List ℕ) : Type 0 where
  pub type : IsTrue (is_subvolume_kind key.kind)
  pub content : HasItsKey key bytes
  pub kind : IsTrue (is_for_kind (get sub.inodes key.objectid) key bytes)

-- ---- numbers of an inode item ("INODE_ITEM")

-- the size of this record; of a directory twice the lengths of the names of its DIR_INDEX entries
abbrev pub size_by : List Item → ℕ → InodeRecord → ℕ
size_by items ino (FileInode file) = file.size
size_by items ino (DirInode dir) = 2 * sum_by (λ (entry : PlacedEntry). length entry.1.name) (entries_at items dir_index ino)
size_by items ino (LinkInode link) = length link.target

pub record HasRightNumbers (items : List Item) (sub : Subvolume) (ino : ℕ) (inode : InodeRecord) (value : InodeValue) : Type 0 where
  pub nlink : value.nlink ≡ nlink_of sub ino inode
  pub size : value.size ≡ size_by items ino inode
  pub nbytes : value.nbytes ≡ nbytes_of inode

-- ---- entries and refs ("DIR_ITEM", "DIR_INDEX", "INODE_REF", "INODE_EXTREF")

-- the entry has the name's bytes and leads to its inode
pub record IsEntryOf (name : FlatName) (entry : EntryValue) : Type 0 where
  pub bytes : entry.name ≡ name.bytes
  pub ino : entry.target.objectid ≡ name.ino

-- a DIR_INDEX entry of a directory has its fellow in the DIR_ITEM of its hash and its ref in the inode that it leads to, and that inode's type
pub record IsRightIndexed (items : List Item) (sub : Subvolume) (dir index : ℕ) (entry : EntryValue) : Type 0 where
  pub hashed : (fellow : EntryValue) × Contains (entries_at items dir_item dir) (name_hash_of entry.name, fellow) × (fellow.name ≡ entry.name) × (fellow.target.objectid ≡ entry.target.objectid)
  pub ref : (name : FlatName) × Contains sub.names name × (name.dir ≡ dir) × (name.index ≡ index) × IsEntryOf name entry
  pub type : (inode : InodeRecord) → get sub.inodes entry.target.objectid ≡ Some inode → entry.kind ≡ entry_kind_of (Some inode)

-- a DIR_ITEM entry of a directory has its fellow in a DIR_INDEX, whose ref is its own, and the type of the inode that it leads to
pub record IsRightHashed (items : List Item) (sub : Subvolume) (dir : ℕ) (entry : EntryValue) : Type 0 where
  pub indexed : (index : ℕ) × (fellow : EntryValue) × Contains (entries_at items dir_index dir) (index, fellow) × (fellow.name ≡ entry.name) × (fellow.target.objectid ≡ entry.target.objectid)
  pub type : (inode : InodeRecord) → get sub.inodes entry.target.objectid ≡ Some inode → entry.kind ≡ entry_kind_of (Some inode)

-- a ref has both of its directory entries, and its parent is there and is a directory
pub record IsRightRef (items : List Item) (sub : Subvolume) (name : FlatName) : Type 0 where
  pub hashed : (entry : EntryValue) × Contains (entries_at items dir_item name.dir) (name_hash_of name.bytes, entry) × IsEntryOf name entry
  pub indexed : (entry : EntryValue) × Contains (entries_at items dir_index name.dir) (name.index, entry) × IsEntryOf name entry
  pub parent : IsTrue (is_dir_at sub name.dir)

-- no ref stands twice in the item
pub record HasRefsOnce (key : Key) (bytes : List ℕ) : Type 0 where
  pub near : key.kind ≡ inode_ref → StandOnce (read_list (refs_of key bytes))
  pub far : key.kind ≡ inode_extref → StandOnce (read_list (extrefs_of bytes))

-- ---- an inode

-- What is its own keeps the rules of a coherent subvolume: names and the way up by its refs, slots and indexes by its DIR_INDEX entries, its record's limits.
pub record KeepsRules (items : List Item) (sub : Subvolume) (ino : ℕ) : Type 0 where
  -- inode 256 is a directory and has no name
  pub root_is_dir : ino ≡ FIRST_FREE → IsTrue (is_dir_at sub FIRST_FREE)
  pub root_has_no_name : ino ≡ FIRST_FREE → (name : FlatName) → Contains sub.names name → name.ino ≢ FIRST_FREE
  -- it has no name twice, neither in one item nor as a near and a far one, and as many names as its kind allows
  pub refs_once : (key : Key) (bytes : List ℕ) → Contains items (key, bytes) → key.objectid ≡ ino → HasRefsOnce key bytes
  pub names_once : (one two : FlatName) → Contains sub.names one → Contains sub.names two → one.ino ≡ ino → two.ino ≡ ino → one.dir ≡ two.dir → one.bytes ≡ two.bytes → one ≡ two
  pub link_count : (inode : InodeRecord) → get sub.inodes ino ≡ Some inode → ino ≢ FIRST_FREE → IsLinkCount inode (links_of sub.names ino)
  -- as a directory it has no name at two indexes, each index is in its range, and the way up from it ends at 256
  pub slots : (one two : PlacedEntry) → Contains (entries_at items dir_index ino) one → Contains (entries_at items dir_index ino) two → one.1.name ≡ two.1.name → one.0 ≡ two.0
  pub indexes : (entry : PlacedEntry) → Contains (entries_at items dir_index ino) entry → IsIndexNumber entry.0
  pub way_up : IsTrue (is_dir_at sub ino) → (way : List FlatName) × LeadsUp sub.names ino way
  -- its attributes, blocks and target keep their limits
  pub limits : (inode : InodeRecord) → get sub.inodes ino ≡ Some inode → KeepsLimits inode

-- Each line holds of the inode, in the subvolume that the items say.
pub record IsRightInode (items : List Item) (sub : Subvolume) (ino : ℕ) : Type 0 where
  -- a number that items have is 256 to 2^62 + 1
  pub number : IsThere items ino → IsInoNumber ino
  -- what has items has an inode item, and inode 256 has it and its `..` always
  pub inode : IsThere items ino → HasKey items (make_key ino inode_item 0)
  pub root : ino ≡ FIRST_FREE → HasKey items (make_key FIRST_FREE inode_item 0)
  pub own_ref : ino ≡ FIRST_FREE → HasOwnRef items
  -- each of its items has a key that the format gives
  pub keys : (key : Key) (bytes : List ℕ) → Contains items (key, bytes) → key.objectid ≡ ino → HasRightKey sub key bytes
  -- its item's nlink, size and nbytes are those of its names and its record
  pub numbers : (bytes : List ℕ) (value : InodeValue) (inode : InodeRecord) → Contains items (make_key ino inode_item 0, bytes) → inode_of bytes ≡ Ok value → get sub.inodes ino ≡ Some inode
      → HasRightNumbers items sub ino inode value
  -- each directory entry in it is right, and each ref of it
  pub indexed : (index : ℕ) (entry : EntryValue) → Contains (entries_at items dir_index ino) (index, entry) → IsRightIndexed items sub ino index entry
  pub hashed : (hash : ℕ) (entry : EntryValue) → Contains (entries_at items dir_item ino) (hash, entry) → IsRightHashed items sub ino entry
  pub refs : (name : FlatName) → Contains sub.names name → name.ino ≡ ino → IsRightRef items sub name
  pub own : KeepsRules items sub ino

-- The inode isn't faulty.
abbrev pub HasNoFault : List Item → Data → ℕ → Type 0
HasNoFault items blocks ino = IsRightInode items (said_sub items blocks) ino

-- The inode is faulty: one of the lines doesn't hold of it.
abbrev pub IsFaulty : List Item → Data → ℕ → Type 0
IsFaulty items blocks ino = HasNoFault items blocks ino → ⊥
