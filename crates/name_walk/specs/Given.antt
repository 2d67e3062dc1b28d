-- The tree of a coherent subvolume, and what is read of it.
use Rattle.std.specs.Prelude.{◌≡◌, ℕ, Some}
use Rattle.std.specs.FinMap.{get}
use Rattle.block_table.specs.declared.tree.Tree.{Tree}
use Rattle.block_table.specs.Table.{Table}
use Rattle.blk_base.specs.Items.{InodeValue}
use Rattle.flat_model.specs.Coherent.{IsCoherent}
use Rattle.flat_model.specs.Records.{InodeRecord}
use Rattle.flat_model.specs.Volume.{Subvolume}
use Rattle.table_volume.specs.Gives.{GivesSubvolume}
use Rattle.volume_image.specs.Subvolume.{mode_of, nlink_of, size_of}

-- the tree gives this subvolume, which is coherent
pub record GivesCoherent (table : Table) (tree : Tree) (sub : Subvolume) : Type 0 where
  pub gives : GivesSubvolume table tree sub
  pub coherent : IsCoherent sub

-- an inode item says this inode of the subvolume ("INODE_ITEM")
pub record SaysInode (sub : Subvolume) (ino : ℕ) (value : InodeValue) : Type 0 where
  pub inode : InodeRecord
  pub there : get sub.inodes ino ≡ Some inode
  pub mode : value.mode ≡ mode_of inode
  pub size : value.size ≡ size_of sub ino inode
  pub nlink : value.nlink ≡ nlink_of sub ino inode
