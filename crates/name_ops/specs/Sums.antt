-- Names that have an entry in one item.
use Rattle.std.specs.Prelude.{◌≤◌, ℕ, ◌&&◌, not, nat_eq, List, length, filter, All}
use Rattle.blk_base.specs.Crc.{extref_hash_of}
use Rattle.flat_model.specs.Names.{FlatName}
use Rattle.name_items.specs.declared.entry.NameEntry.{NameEntry}

-- the near names of an inode in a directory ("INODE_REF")
abbrev pub near_of : List FlatName → ℕ → ℕ → List FlatName
near_of names ino dir = filter (λ name. name.near && (nat_eq name.ino ino && nat_eq name.dir dir)) names

-- the far names of an inode with a hash ("INODE_EXTREF")
abbrev pub far_of : List FlatName → ℕ → ℕ → List FlatName
far_of names ino hash = filter (λ name. not name.near && (nat_eq name.ino ino && nat_eq (extref_hash_of name.dir name.bytes) hash)) names

-- two entries at most, of at most 255 bytes each
pub record IsFew (entries : List NameEntry) : Type 0 where
  pub count : length entries ≤ 2
  pub short : All (λ (entry : NameEntry). length entry.bytes.now ≤ 255) entries
