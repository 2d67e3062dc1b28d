-- Coherence taken apart: what holds of each name and of each inode, and the steps from a directory up to the root directory.
use Rattle.std.specs.Prelude.{◌≢◌, ℕ, zero, suc, ◌≤◌, Bool, ◌&&◌, ◌||◌, List, Option, Some, None, length, filter, find, is_some, IsTrue, nat_eq}
use Rattle.std.specs.FinMap.{get}
use Rattle.blk_base.specs.Crc.{name_hash_of, extref_hash_of}
use Rattle.flat_model.specs.Records.{InodeRecord, is_dir_record, attributes_of}
use Rattle.flat_model.specs.Names.{FlatName, leads_to, is_in_slot, links_of}
use Rattle.flat_model.specs.Lengths.{most_item_bytes, ref_item_length, extref_item_length, dir_item_length, xattr_item_length}
use Rattle.flat_model.specs.Volume.{Subvolume, is_dir_at}
use Rattle.flat_model.specs.Coherent.{IsLinkCount, IsInoNumber, IsIndexNumber, IsNameBytes, KeepsLimits}

-- whether a name stands in a directory at an index ("DIR_INDEX")
abbrev pub is_at_index : ℕ → ℕ → FlatName → Bool
is_at_index dir index name = nat_eq name.dir dir && nat_eq name.index index

-- a name is where it may be: its inode is there and isn't the root directory, its directory is there and is one, and its
-- index and its bytes are in their ranges ("INODE_REF", "DIR_INDEX")
pub record IsPlaced (sub : Subvolume) (name : FlatName) : Type 0 where
  pub leads : IsTrue (is_some (get sub.inodes name.ino))
  pub below_root : name.ino ≢ 256
  pub stands : IsTrue (is_dir_at sub name.dir)
  pub index : IsIndexNumber name.index
  pub bytes : IsNameBytes name.bytes

-- no two names stand in the name's slot, nor at its index of its directory ("DIR_ITEM", "DIR_INDEX")
pub record IsAlone (names : List FlatName) (name : FlatName) : Type 0 where
  pub slot : length (filter (is_in_slot name.dir name.bytes) names) ≤ 1
  pub index : length (filter (is_at_index name.dir name.index) names) ≤ 1

-- the items that have an entry of the name, or would have one if it were near or far, fit into a leaf ("Leaf nodes": item size)
pub record HasItemsThatFit (names : List FlatName) (name : FlatName) : Type 0 where
  pub refs : ref_item_length names name.ino name.dir ≤ most_item_bytes
  pub extref : extref_item_length names name.ino (extref_hash_of name.dir name.bytes) ≤ most_item_bytes
  pub entry : dir_item_length names name.dir (name_hash_of name.bytes) ≤ most_item_bytes

-- a name is right among the names and inodes of its subvolume
pub record IsRightName (sub : Subvolume) (name : FlatName) : Type 0 where
  pub placed : IsPlaced sub name
  pub alone : IsAlone sub.names name
  pub items : HasItemsThatFit sub.names name

-- the directory that has this, where there is one
abbrev pub dir_or : ℕ → Option FlatName → ℕ
dir_or dir None = dir
dir_or dir (Some name) = name.dir

-- one step up from a directory: to the directory that has its first name, nowhere where it has none ("INODE_REF")
abbrev pub dir_above : List FlatName → ℕ → ℕ
dir_above names dir = dir_or dir (find (leads_to dir) names)

-- whether inode 256 is reached from a directory by so many steps up, or fewer ("INODE_REF")
abbrev pub reaches_root : List FlatName → ℕ → ℕ → Bool
reaches_root names zero dir = nat_eq dir 256
reaches_root names (suc steps) dir = nat_eq dir 256 || reaches_root names steps (dir_above names dir)

-- an inode stands rightly among the names of its subvolume: its number is in its range, it has as many names as its kind
-- allows, and from a directory the root directory is reached by as many steps up as there are names ("Objectids", "INODE_ITEM": nlink)
pub record IsLinked (names : List FlatName) (ino : ℕ) (inode : InodeRecord) : Type 0 where
  pub number : IsInoNumber ino
  pub links : ino ≢ 256 → IsLinkCount inode (links_of names ino)
  pub way : IsTrue (is_dir_record inode) → IsTrue (reaches_root names (length names) ino)

-- an inode is right: among the names of its subvolume, and by its record, which keeps its limits and whose attributes fit into items
pub record IsRightInode (names : List FlatName) (ino : ℕ) (inode : InodeRecord) : Type 0 where
  pub linked : IsLinked names ino inode
  pub limits : KeepsLimits inode
  pub attributes : (hash : ℕ) → xattr_item_length (attributes_of inode) hash ≤ most_item_bytes
