-- Which file a state gives, and its inode item.
use Rattle.std.specs.Prelude.{◌≡◌, ℕ, Some}
use Rattle.std.specs.FinMap.{get}
use Rattle.blk_base.specs.Items.{InodeValue}
use Rattle.block_table.specs.declared.tree.SubState.{SubState}
use Rattle.block_table.specs.Table.{Table}
use Rattle.flat_model.specs.Records.{FileInode, FileRecord}
use Rattle.flat_model.specs.Volume.{RunSub}
use Rattle.table_volume.specs.Running.{GivesRun}

-- the state gives this subvolume in its run, in which the inode of this number is this file (own)
pub record GivesFile (table : Table) (state : SubState) (run : RunSub) (ino : ℕ) (file : FileRecord) : Type 0 where
  pub gives : GivesRun table state run
  pub there : get run.sub.inodes ino ≡ Some (FileInode file)

-- an inode item with another size and another count of data bytes, written in this transaction ("INODE_ITEM": transid, size, nbytes)
abbrev pub resized : InodeValue → ℕ → ℕ → ℕ → InodeValue
resized value running size nbytes = record value { transid = running; size = size; nbytes = nbytes }
