-- When a flat log says what R is over a committed subvolume.
use Rattle.std.specs.Prelude.{◌≡◌, ℕ, Some, None, Contains, IsTrue, IsFalse, unwrap_or}
use Rattle.std.specs.FinMap.{get}
use Rattle.flat_model.specs.Records.{InodeRecord, at_creation}
use Rattle.flat_model.specs.Names.{FlatName, is_name_set}
use Rattle.flat_model.specs.Volume.{Subvolume}
use Rattle.flat_model.specs.Coherent.{IsCoherent}
use Rattle.logged_volume.specs.Agreement.{Agree, KeepsCommon, AreMadeAlike, AreStep, is_there}
use Rattle.logged_volume.specs.FlatLog.{WholeInode, LogEntry, FlatLog, is_logged, is_dropped}
use Rattle.logged_volume.specs.Written.{IsWholeOf}

-- the log has an inode whole: R has it with the record that the log says (own)
pub record StandsWhole (committed logged : Subvolume) (ino : ℕ) (whole : WholeInode) : Type 0 where
  pub inode : InodeRecord
  pub there : get logged.inodes ino ≡ Some inode
  pub changes : IsWholeOf (get committed.inodes ino) inode whole

-- the log says that an inode exists: R has it with C's record, or where C lacks it with the one at creation (own)
pub record StandsExisting (committed logged : Subvolume) (ino : ℕ) (made : InodeRecord) : Type 0 where
  pub inode : InodeRecord
  pub there : get logged.inodes ino ≡ Some inode
  pub created : made ≡ at_creation inode
  pub record_is : inode ≡ unwrap_or (get committed.inodes ino) made

-- the log says what R is over C, inode by inode and name by name (own)
pub record IsLogOf (committed logged : Subvolume) (log : FlatLog) : Type 0 where
  -- its inodes are R's
  pub whole : (ino : ℕ) (whole : WholeInode) → get log.whole ino ≡ Some whole → StandsWhole committed logged ino whole
  pub existing : (ino : ℕ) (made : InodeRecord) → get log.existing ino ≡ Some made → StandsExisting committed logged ino made
  pub one_item : (ino : ℕ) (whole : WholeInode) → get log.whole ino ≡ Some whole → get log.existing ino ≡ None
  -- its names are those that R has of them
  pub in_order : IsTrue (is_name_set log.names)
  pub names_are : (name : FlatName) → Contains log.names name → Contains logged.names name × IsTrue (is_logged log name.ino)
  pub has_names : (name : FlatName) → Contains logged.names name → IsTrue (is_logged log name.ino) → Contains log.names name
  -- every other inode of R is C's, and so are its names
  pub other_inodes : (ino : ℕ) → IsFalse (is_logged log ino) → IsTrue (is_there logged ino) → get logged.inodes ino ≡ get committed.inodes ino
  pub keeps_names : (name : FlatName) → IsFalse (is_logged log name.ino) → Contains logged.names name → Contains committed.names name
  pub misses_none : (name : FlatName)
      → IsFalse (is_logged log name.ino) → IsTrue (is_there logged name.ino) → Contains committed.names name → Contains logged.names name
  -- the names of C that it drops R lacks, and it drops each name of an inode that R lacks
  pub drops_lost : (name : FlatName) → Contains committed.names name → IsTrue (is_dropped log name) → Contains logged.names name → ⊥
  pub drops_gone : (name : FlatName) → Contains committed.names name → IsFalse (is_there logged name.ino) → IsTrue (is_dropped log name)
  pub entries_lead : (entry : LogEntry) → Contains log.entries entry → IsTrue (is_there logged entry.ino)

-- what holds of the three volumes where a log step writes a log: what holds of F and R; C is coherent and agrees with both; a
-- name or inode that C and F have R has too, and inodes of F and R were made alike (own)
pub record AreLogVolumes (committed current logged : Subvolume) (target : ℕ) : Type 0 where
  pub step : AreStep current logged target
  pub committed_coherent : IsCoherent committed
  pub with_current : Agree committed current
  pub with_logged : Agree committed logged
  pub common : KeepsCommon committed current logged
  pub made_alike : AreMadeAlike current logged

-- and the log says what R is (own)
pub record AreLogStep (committed current logged : Subvolume) (target : ℕ) (log : FlatLog) : Type 0 where
  pub volumes : AreLogVolumes committed current logged target
  pub is_log : IsLogOf committed logged log
