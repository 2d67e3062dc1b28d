-- When a flat volume is coherent: what holds of every volume that this file system makes, and of every one that it mounts.
use Rattle.std.specs.Prelude.{◌≡◌, ◌≢◌, ℕ, ◌+◌, ◌*◌, ◌^◌, ◌<◌, ◌≤◌, List, [], ◌∷◌, length, Some, IsTrue, All, Contains, slice_index}
use Rattle.std.specs.FinMap.{get}
use Rattle.blk_base.specs.Name.{IsName}
use Rattle.flat_model.specs.Records.{Attributes, FileRecord, LinkRecord, InodeRecord, FileInode, DirInode, LinkInode, attributes_of}
use Rattle.flat_model.specs.Names.{FlatName, is_name_set, links_of}
use Rattle.flat_model.specs.Lengths.{most_item_bytes, ref_item_length, extref_item_length, dir_item_length, xattr_item_length, link_extent_length}
use Rattle.flat_model.specs.Contents.{block_bytes, most_file_bytes}
use Rattle.flat_model.specs.Volume.{Subvolume, Volume, is_dir_at}

-- the most names of a file or symlink (own)
abbrev pub most_links : ℕ
most_links = 65535

-- the greatest inode number and the greatest index (own)
abbrev pub greatest_number : ℕ
greatest_number = 2 ^ 62 + 1

-- each number of the list is a byte
abbrev pub AreBytes : List ℕ → Type 0
AreBytes = All (λ byte. byte < 256)

-- a name's bytes are a name ("Names", own limits)
abbrev pub IsNameBytes : List ℕ → Type 0
IsNameBytes bytes = IsName bytes × AreBytes bytes

-- the attributes keep their limits: names are names, and each value has 1 to 1024 bytes ("XATTR_ITEM", own limits)
abbrev pub KeepAttributeLimits : Attributes → Type 0
KeepAttributeLimits attributes = (name value : List ℕ) → get attributes name ≡ Some value → IsNameBytes name × (1 ≤ length value) × (length value ≤ 1024) × AreBytes value

-- a block of a file keeps its limits: it isn't wholly past the size, it has 4096 bytes, and those past the size are zeros ("EXTENT_DATA")
pub record KeepsBlockLimits (size number : ℕ) (bytes : List ℕ) : Type 0 where
  pub begins_below_size : number * block_bytes < size
  pub whole : length bytes ≡ block_bytes
  pub are_bytes : AreBytes bytes
  pub zeros_past_size : (at : ℕ) → at < block_bytes → size ≤ number * block_bytes + at → slice_index bytes at ≡ 0

-- a file keeps its limits: at most 16,777,216 bytes, and each block keeps its own ("EXTENT_DATA", own limits)
pub record KeepsFileLimits (file : FileRecord) : Type 0 where
  pub size : file.size ≤ most_file_bytes
  pub blocks : (number : ℕ) (bytes : List ℕ) → get file.blocks number ≡ Some bytes → KeepsBlockLimits file.size number bytes

-- a symlink's target has 1 to 1023 bytes (inline "EXTENT_DATA", own limits)
pub record KeepsLinkLimits (link : LinkRecord) : Type 0 where
  pub at_least_one : 1 ≤ length link.target
  pub at_most_1023 : length link.target ≤ 1023
  pub are_bytes : AreBytes link.target

-- a record keeps the limits of its kind, apart from its attributes (own limits)
abbrev pub KeepsKindLimits : InodeRecord → Type 0
KeepsKindLimits (FileInode file) = KeepsFileLimits file
KeepsKindLimits (DirInode dir) = Unit {0}
KeepsKindLimits (LinkInode link) = KeepsLinkLimits link

-- a record keeps its limits (own limits)
pub record KeepsLimits (inode : InodeRecord) : Type 0 where
  pub attributes : KeepAttributeLimits (attributes_of inode)
  pub kind : KeepsKindLimits inode

-- no item that the names or the attributes ask for has more bytes than a leaf holds ("Leaf nodes": item size)
pub record ItemsFit (sub : Subvolume) : Type 0 where
  pub refs : (ino dir : ℕ) → ref_item_length sub.names ino dir ≤ most_item_bytes
  pub extrefs : (ino hash : ℕ) → extref_item_length sub.names ino hash ≤ most_item_bytes
  pub entries : (dir hash : ℕ) → dir_item_length sub.names dir hash ≤ most_item_bytes
  pub attributes : (ino : ℕ) (inode : InodeRecord) → get sub.inodes ino ≡ Some inode → (hash : ℕ) → xattr_item_length (attributes_of inode) hash ≤ most_item_bytes
  pub targets : (ino : ℕ) (link : LinkRecord) → get sub.inodes ino ≡ Some (LinkInode link) → link_extent_length link ≤ most_item_bytes

-- the names, one after the other, lead up from the directory to inode 256 ("INODE_REF")
abbrev pub LeadsUp : List FlatName → ℕ → List FlatName → Type 0
LeadsUp names dir [] = dir ≡ 256
LeadsUp names dir (name ∷ way) = Contains names name × (name.ino ≡ dir) × LeadsUp names name.dir way

-- so many names are right for an inode that isn't the root directory: one for a directory, 1 to 65,535 for a file or symlink ("INODE_ITEM": nlink)
abbrev pub IsLinkCount : InodeRecord → ℕ → Type 0
IsLinkCount (FileInode file) count = (1 ≤ count) × (count ≤ most_links)
IsLinkCount (DirInode dir) count = count ≡ 1
IsLinkCount (LinkInode link) count = (1 ≤ count) × (count ≤ most_links)

-- a number is one that an inode may have ("Objectids": first free 256, own)
abbrev pub IsInoNumber : ℕ → Type 0
IsInoNumber ino = (256 ≤ ino) × (ino ≤ greatest_number)

-- a number is one that a name's index may be ("DIR_INDEX", own)
abbrev pub IsIndexNumber : ℕ → Type 0
IsIndexNumber index = (2 ≤ index) × (index ≤ greatest_number)

-- a subvolume is coherent (file tree of the on-disk format, own limits)
pub record IsCoherent (sub : Subvolume) : Type 0 where
  -- its names are a set in order
  pub in_order : IsTrue (is_name_set sub.names)
  -- inode 256 is a directory and has no name
  pub root_is_dir : IsTrue (is_dir_at sub 256)
  pub root_has_no_name : (name : FlatName) → Contains sub.names name → name.ino ≢ 256
  -- no directory has one name twice, or one index twice
  pub no_name_twice : (one two : FlatName) → Contains sub.names one → Contains sub.names two → one.dir ≡ two.dir → one.bytes ≡ two.bytes → one ≡ two
  pub no_index_twice : (one two : FlatName) → Contains sub.names one → Contains sub.names two → one.dir ≡ two.dir → one.index ≡ two.index → one ≡ two
  -- each name's inode is there, and its directory is there and is a directory
  pub leads_to_inode : (name : FlatName) → Contains sub.names name → (inode : InodeRecord) × (get sub.inodes name.ino ≡ Some inode)
  pub stands_in_dir : (name : FlatName) → Contains sub.names name → IsTrue (is_dir_at sub name.dir)
  -- each other inode has as many names as its kind allows
  pub link_counts : (ino : ℕ) (inode : InodeRecord) → get sub.inodes ino ≡ Some inode → ino ≢ 256 → IsLinkCount inode (links_of sub.names ino)
  -- going up from any directory ends at 256
  pub ends_at_root : (dir : ℕ) → IsTrue (is_dir_at sub dir) → (way : List FlatName) × LeadsUp sub.names dir way
  -- records and names keep their limits, and every item fits into a leaf
  pub limits : (ino : ℕ) (inode : InodeRecord) → get sub.inodes ino ≡ Some inode → KeepsLimits inode
  pub name_limits : (name : FlatName) → Contains sub.names name → IsNameBytes name.bytes
  pub items_fit : ItemsFit sub
  -- inode numbers and indexes are in their ranges
  pub ino_numbers : (ino : ℕ) (inode : InodeRecord) → get sub.inodes ino ≡ Some inode → IsInoNumber ino
  pub index_numbers : (name : FlatName) → Contains sub.names name → IsIndexNumber name.index

-- a volume is coherent: each of its subvolumes is (own)
abbrev pub IsCoherentVolume : Volume → Type 0
IsCoherentVolume volume = (id : ℕ) (sub : Subvolume) → get volume id ≡ Some sub → IsCoherent sub
