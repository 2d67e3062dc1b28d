-- Which names may be added to a subvolume on its tree, and which may go; and the items that a name has an entry in.
use Rattle.std.specs.Prelude.{◌≡◌, ◌≢◌, ◌≤◌, ◌<◌, ◌+◌, ◌*◌, ◌^◌, ℕ, true, false, List, length, sum_by, Some, Contains, IsTrue, if◌then◌else◌}
use Rattle.std.specs.FinMap.{get}
use Rattle.blk_base.specs.declared.key.Key.{Key}
use Rattle.blk_base.specs.Crc.{extref_hash_of, name_hash_of}
use Rattle.blk_base.specs.Entries.{extref_bytes, ref_bytes}
use Rattle.blk_base.specs.Keys.{dir_index, dir_item, inode_extref, inode_ref}
use Rattle.blk_base.specs.Name.{IsName}
use Rattle.flat_model.specs.Coherent.{most_links}
use Rattle.flat_model.specs.Lengths.{dir_item_length, entry_length, extref_item_length, extref_length, most_item_bytes, ref_item_length, ref_length}
use Rattle.flat_model.specs.Names.{FlatName, entries_of, is_name_set, links_of}
use Rattle.flat_model.specs.Records.{DirInode, DirRecord, InodeRecord}
use Rattle.flat_model.specs.Volume.{Subvolume}
use Rattle.volume_image.specs.Subvolume.{extref_of, make_key, ref_of}
use Rattle.name_items.specs.declared.entry.NameEntry.{NameEntry}

-- the name that an entry tells
abbrev pub name_of : NameEntry → FlatName
name_of entry = record { dir = entry.dir.0; index = entry.index; bytes = entry.bytes.now; ino = entry.ino.0; near = entry.near }

-- twice the lengths of the names in a directory, in bytes ("INODE_ITEM": size)
abbrev pub names_size : Subvolume → ℕ → ℕ
names_size sub dir = 2 * sum_by (λ (name : FlatName). length name.bytes) (entries_of sub.names dir)

-- A name may be added to a subvolume: its inode is there and isn't the root directory, its directory is there, no name of this
-- has its bytes or its index, and each item that gets an entry keeps within a leaf ("Leaf Node": item size); all numbers, that of
-- the inode's names and the directory's size among them, keep within their fields ("INODE_ITEM": nlink, size).
pub record MayAddName (sub : Subvolume) (name : FlatName) : Type 0 where
  pub in_order : IsTrue (is_name_set sub.names)
  pub is_name : IsName name.bytes
  pub index : name.index < 2 ^ 64
  pub ino_number : name.ino < 2 ^ 64
  pub dir_number : name.dir < 2 ^ 64
  pub not_root : name.ino ≢ 256
  pub inode : InodeRecord
  pub inode_there : get sub.inodes name.ino ≡ Some inode
  pub dir : DirRecord
  pub dir_there : get sub.inodes name.dir ≡ Some (DirInode dir)
  pub slot_free : (other : FlatName) → Contains sub.names other → other.dir ≡ name.dir → other.bytes ≢ name.bytes
  pub index_free : (other : FlatName) → Contains sub.names other → other.dir ≡ name.dir → other.index ≢ name.index
  pub near_fits : name.near ≡ true → ref_item_length sub.names name.ino name.dir + ref_length name ≤ most_item_bytes
  pub far_fits : name.near ≡ false → extref_item_length sub.names name.ino (extref_hash_of name.dir name.bytes) + extref_length name ≤ most_item_bytes
  pub entry_fits : dir_item_length sub.names name.dir (name_hash_of name.bytes) + entry_length name ≤ most_item_bytes
  pub links : links_of sub.names name.ino < most_links
  pub size : names_size sub name.dir + 2 * length name.bytes < 2 ^ 64

-- A name may go from a subvolume: it is there, and its inode, which isn't the root directory, and its directory are; no other
-- name of this has its bytes or its index; and the items that have an entry of it are within a leaf ("Leaf Node": item size).
pub record MayRemoveName (sub : Subvolume) (name : FlatName) : Type 0 where
  pub in_order : IsTrue (is_name_set sub.names)
  pub is_name : IsName name.bytes
  pub index : name.index < 2 ^ 64
  pub ino_number : name.ino < 2 ^ 64
  pub dir_number : name.dir < 2 ^ 64
  pub not_root : name.ino ≢ 256
  pub there : Contains sub.names name
  pub inode : InodeRecord
  pub inode_there : get sub.inodes name.ino ≡ Some inode
  pub dir : DirRecord
  pub dir_there : get sub.inodes name.dir ≡ Some (DirInode dir)
  pub slot_once : (other : FlatName) → Contains sub.names other → other.dir ≡ name.dir → other.bytes ≡ name.bytes → other ≡ name
  pub index_once : (other : FlatName) → Contains sub.names other → other.dir ≡ name.dir → other.index ≡ name.index → other ≡ name
  pub near_fits : name.near ≡ true → ref_item_length sub.names name.ino name.dir ≤ most_item_bytes
  pub far_fits : name.near ≡ false → extref_item_length sub.names name.ino (extref_hash_of name.dir name.bytes) ≤ most_item_bytes
  pub entry_fits : dir_item_length sub.names name.dir (name_hash_of name.bytes) ≤ most_item_bytes
  pub links : links_of sub.names name.ino ≤ most_links

-- ---- the items with an entry of a name

-- of its inode: near in an INODE_REF, far in an INODE_EXTREF ("INODE_REF", "INODE_EXTREF")
abbrev pub ref_key : FlatName → Key
ref_key name =
    if name.near then make_key name.ino inode_ref name.dir else make_key name.ino inode_extref (extref_hash_of name.dir name.bytes)

-- of its directory, by the hash of its bytes ("DIR_ITEM")
abbrev pub hashed_key : FlatName → Key
hashed_key name = make_key name.dir dir_item (name_hash_of name.bytes)

-- of its directory, by its index ("DIR_INDEX")
abbrev pub indexed_key : FlatName → Key
indexed_key name = make_key name.dir dir_index name.index

-- the bytes of its entry in the item of its inode
abbrev pub ref_entry : FlatName → List ℕ
ref_entry name = if name.near then ref_bytes (ref_of name) else extref_bytes (extref_of name)
