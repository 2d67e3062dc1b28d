-- What a log has of an inode once it is written into it.
use Rattle.std.specs.Prelude.{◌≡◌, ◌≢◌, ℕ, Bool, true, false, cond, is_some, Some, None, option_map}
use Rattle.std.specs.FinMap.{get, insert}
use Rattle.flat_model.specs.Records.{FileRecord, InodeRecord, FileInode, at_creation, kind_of}
use Rattle.flat_model.specs.declared.view.Kind.TheVariants.{File}
use Rattle.flat_model.specs.Volume.{Subvolume}
use Rattle.logged_volume.specs.FlatLog.{FileChanges, WholeFile, FlatLog}
use Rattle.logged_volume.specs.Replay.{blocks_of}
use Rattle.logged_volume.specs.Written.{HasTarget, IsChangesOf}
use Rattle.log_items.specs.Inode.{with_inode}
use Rattle.log_items.specs.Names.{renamed}

-- An inode is whole in the log with the subvolume's record, or else is said to exist, unless it is whole there. Its names are the
-- subvolume's, and all else of the log stays (LOG_INODE_ALL, LOG_INODE_EXISTS, own).
pub record IsInodeWritten (committed current : Subvolume) (ino : ℕ) (whole : Bool) (log after : FlatLog) : Type 0 where
  pub target : whole ≡ true → HasTarget committed current ino after
  pub stays : whole ≡ false → get after.whole ino ≡ get log.whole ino
  pub existing : get after.existing ino
      ≡ cond whole None (cond (is_some (get log.whole ino)) (get log.existing ino) (option_map at_creation (get current.inodes ino)))
  pub others_whole : (other : ℕ) → other ≢ ino → get after.whole other ≡ get log.whole other
  pub others_existing : (other : ℕ) → other ≢ ino → get after.existing other ≡ get log.existing other
  pub names : after.names ≡ (renamed ino current log).names
  pub ranges : after.ranges ≡ log.ranges
  pub entries : after.entries ≡ log.entries

-- the log with these changes of a file in place of those that it has
abbrev pub with_changes : ℕ → FileChanges → FlatLog → FlatLog
with_changes ino changes log = record log { whole = insert log.whole ino (WholeFile changes) }

-- an inode that is written with its names is written, but for a file's changes
abbrev pub InodeIsWritten : Type 0
InodeIsWritten =
    (committed current : Subvolume) (ino : ℕ) (whole : Bool) (inode : InodeRecord) (log : FlatLog)
    → get current.inodes ino ≡ Some inode
    → (whole ≡ true → kind_of inode ≢ File)
    → IsInodeWritten committed current ino whole log (renamed ino current (with_inode ino whole inode log))

-- a file that is whole is written once its changes are those against the committed subvolume
abbrev pub FileIsWritten : Type 0
FileIsWritten =
    (committed current : Subvolume) (ino : ℕ) (file : FileRecord) (changes : FileChanges) (log : FlatLog)
    → get current.inodes ino ≡ Some (FileInode file)
    → IsChangesOf (blocks_of (get committed.inodes ino)) file changes
    → IsInodeWritten committed current ino true log (with_changes ino changes (renamed ino current (with_inode ino true (FileInode file) log)))
