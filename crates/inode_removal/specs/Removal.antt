-- Which inode may be taken out of a subvolume on its tree, and how many blocks that takes.
use Rattle.std.specs.Prelude.{◌≡◌, ◌≢◌, ◌≤◌, ◌+◌, ◌*◌, ℕ, Some, Contains}
use Rattle.std.specs.FinMap.{get}
use Rattle.flat_model.specs.Coherent.{IsNameBytes, KeepsLimits, greatest_number}
use Rattle.flat_model.specs.Names.{FlatName}
use Rattle.flat_model.specs.Needs.{blocks_and_items_there}
use Rattle.flat_model.specs.Records.{InodeRecord}
use Rattle.flat_model.specs.Volume.{Subvolume}

-- An inode of this number may be taken out of a subvolume: it isn't the root directory, and no name leads to it or stands in it; and
-- the records and the names of the subvolume keep their limits.
pub record MayRemoveInode (sub : Subvolume) (ino : ℕ) : Type 0 where
  pub not_root : ino ≢ 256
  pub unnamed : (name : FlatName) → Contains sub.names name → name.ino ≢ ino
  pub without_names : (name : FlatName) → Contains sub.names name → name.dir ≢ ino
  pub limits : (other : ℕ) (inode : InodeRecord) → get sub.inodes other ≡ Some inode → KeepsLimits inode
  pub names : (name : FlatName) → Contains sub.names name → IsNameBytes name.bytes
  pub directories : (name : FlatName) → Contains sub.names name → name.dir ≤ greatest_number
  pub indexes : (name : FlatName) → Contains sub.names name → name.index ≤ greatest_number

-- the most blocks and buffers that are taken where an inode goes: 36, and 2 for each of its data blocks, inline extents and
-- XATTR items (own)
abbrev pub most_taken : Subvolume → ℕ → ℕ
most_taken sub ino = 36 + 2 * blocks_and_items_there (get sub.inodes ino)
