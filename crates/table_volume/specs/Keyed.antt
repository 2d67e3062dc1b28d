-- The items of a subvolume key by key, and what a change of the subvolume leaves of them.
use Rattle.std.specs.Prelude.{◌≡◌, ◌≢◌, ◌≤◌, ◌<◌, ◌+◌, ℕ, Bool, false, ◌&&◌, ◌||◌, not, ◌==◌, nat_eq, List, [], All, Contains, Option, Some, IsSome, filter}
use Rattle.std.specs.List.{list_any}
use Rattle.std.specs.FinMap.{get}
use Rattle.blk_base.specs.declared.key.Key.{Key}
use Rattle.blk_base.specs.Crc.{extref_hash_of, name_hash_of}
use Rattle.blk_base.specs.Keys.{dir_index, dir_item, extent_data, inode_extref, inode_item, inode_ref, xattr_item}
use Rattle.blk_base.specs.Leaf.{Item}
use Rattle.flat_model.specs.Names.{FlatName}
use Rattle.flat_model.specs.Records.{FileInode, FileRecord, InodeRecord, LinkInode, LinkRecord}
use Rattle.flat_model.specs.Volume.{Subvolume}
use Rattle.volume_image.specs.Subvolume.{CoversBlock, Data, IsAsked, attributes_asked, entry_kind_of, extent_len, extrefs_asked, hashed_asked, indexed_asked, make_key, refs_asked}

-- ---- key by key

-- the subvolume asks for an item under this key; a file's extents may stand under several keys
pub data DoesAsk (sub : Subvolume) (key : Key) : Type 0 where
  AsksInode : (inode : InodeRecord) (kind : key.kind ≡ inode_item) (offset : key.offset ≡ 0) (there : get sub.inodes key.objectid ≡ Some inode) → DoesAsk sub key
  AsksRefs : (kind : key.kind ≡ inode_ref) (some : refs_asked sub key.objectid key.offset ≢ []) → DoesAsk sub key
  AsksExtRefs : (kind : key.kind ≡ inode_extref) (some : extrefs_asked sub key.objectid key.offset ≢ []) → DoesAsk sub key
  AsksAttributes : (kind : key.kind ≡ xattr_item) (some : attributes_asked sub key.objectid key.offset ≢ []) → DoesAsk sub key
  AsksHashed : (kind : key.kind ≡ dir_item) (some : hashed_asked sub key.objectid key.offset ≢ []) → DoesAsk sub key
  AsksIndexed : (kind : key.kind ≡ dir_index) (some : indexed_asked sub key.objectid key.offset ≢ []) → DoesAsk sub key
  AsksTarget : (link : LinkRecord) (kind : key.kind ≡ extent_data) (offset : key.offset ≡ 0) (there : get sub.inodes key.objectid ≡ Some (LinkInode link)) → DoesAsk sub key

-- what stands under the key is what the subvolume asks for there, and it stands there where the subvolume asks for something
pub record HoldsKey (sub : Subvolume) (blocks : Data) (key : Key) (found : Option (List ℕ)) : Type 0 where
  pub only : (bytes : List ℕ) → found ≡ Some bytes → IsAsked sub blocks key bytes
  pub all : DoesAsk sub key → IsSome found

-- the extents of an inode, where it is a file, cover all its blocks, and no two cover one byte
pub record HoldsExtents (sub : Subvolume) (items : List Item) (ino : ℕ) : Type 0 where
  pub covered : (file : FileRecord) (number : ℕ) (block : List ℕ) → get sub.inodes ino ≡ Some (FileInode file) → get file.blocks number ≡ Some block → CoversBlock items ino number
  pub apart : (one two : ℕ) (first second : List ℕ) → Contains items (make_key ino extent_data one, first) → Contains items (make_key ino extent_data two, second) → one < two
      → one + extent_len (make_key ino extent_data one) first ≤ two

-- ---- a change of some names and inodes

-- The new subvolume has the old one's names but for some of these, which it gained or lost, and its inodes' records but for
-- these inodes'; and an inode that another name of both leads to is of the kind that it was.
pub record ChangesOnly (old new : Subvolume) (names : List FlatName) (inos : List ℕ) : Type 0 where
  pub names_stay : (p : FlatName → Bool) → All (λ name. p name ≡ false) names → filter p new.names ≡ filter p old.names
  pub inodes_stay : (ino : ℕ) → (Contains inos ino → ⊥) → get new.inodes ino ≡ get old.inodes ino
  pub kinds_stay : (name : FlatName) → Contains old.names name → Contains new.names name → (Contains names name → ⊥) → entry_kind_of (get new.inodes name.ino) ≡ entry_kind_of (get old.inodes name.ino)

-- whether the item under the key tells of the name: it is of its inode or of its directory, or it has the name
abbrev pub does_name_count : FlatName → Key → Bool
does_name_count name key =
    ((key.kind == inode_item) && (nat_eq name.ino key.objectid || nat_eq name.dir key.objectid))
    || ((key.kind == inode_ref) && (name.near && (nat_eq name.ino key.objectid && nat_eq name.dir key.offset)))
    || ((key.kind == inode_extref) && (not name.near && (nat_eq name.ino key.objectid && nat_eq (extref_hash_of name.dir name.bytes) key.offset)))
    || ((key.kind == dir_item) && (nat_eq name.dir key.objectid && nat_eq (name_hash_of name.bytes) key.offset))
    || ((key.kind == dir_index) && (nat_eq name.dir key.objectid && nat_eq name.index key.offset))

-- whether the item under the key tells of the inode's record
abbrev pub does_inode_count : ℕ → Key → Bool
does_inode_count ino key =
    nat_eq key.objectid ino && ((key.kind == inode_item) || (key.kind == xattr_item) || (key.kind == extent_data))

-- whether a change of these names and inodes may change the item under the key
abbrev pub is_touched : List FlatName → List ℕ → Key → Bool
is_touched names inos key =
    list_any (λ name. does_name_count name key) names || list_any (λ ino. does_inode_count ino key) inos
