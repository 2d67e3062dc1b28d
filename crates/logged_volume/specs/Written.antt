-- What a log step writes into the log of a subvolume.
use Rattle.std.specs.Prelude.{◌≡◌, ℕ, ◌+◌, ◌-◌, ◌/◌, ◌^◌, Bool, cond, not, ◌&&◌, ◌||◌, List, [], ◌∷◌, ◌++◌, map, filter, Option, Some, None, Contains, is_some, option_map, nat_eq, ◌↔◌}
use Rattle.std.specs.FinMap.{get, keys}
use Rattle.flat_model.specs.Records.{Blocks, FileRecord, InodeRecord, FileInode, DirInode, LinkInode, at_creation}
use Rattle.flat_model.specs.Names.{FlatName, name_set, leads_to, stands_in}
use Rattle.flat_model.specs.Contents.{block_bytes}
use Rattle.flat_model.specs.Volume.{Subvolume, is_dir_at}
use Rattle.logged_volume.specs.Numbers.{is_in, gaps_with}
use Rattle.logged_volume.specs.Agreement.{is_there, has_unmarked}
use Rattle.logged_volume.specs.Drawn.{drawn_set, is_data_form}
use Rattle.logged_volume.specs.LogStep.{log_step}
use Rattle.logged_volume.specs.FlatLog.{FileChanges, WholeInode, WholeFile, WholeDir, WholeLink, LogRange, LogEntry, FlatLog, is_logged, is_covered, is_dropped, entry_of, AreDistinct}
use Rattle.logged_volume.specs.Replay.{blocks_of}

-- how many blocks a size takes ("EXTENT_DATA")
abbrev pub blocks_in : ℕ → ℕ
blocks_in size = (size + 4095) / block_bytes

-- a hole for each maximal interval of blocks below the size in which the record has no block and C has at least one ("EXTENT_DATA")
abbrev pub holes_of : Blocks → FileRecord → List (ℕ × ℕ)
holes_of old file = map (λ gap. (gap.0, gap.1 - gap.0)) (gaps_with (keys file.blocks) (keys old) (blocks_in file.size))

-- what the log has of a file, where C has these blocks of it: each block that C lacks or has otherwise, and of those that
-- C has alike any (those that it has at another address), and the holes ("EXTENT_DATA")
pub record IsChangesOf (old : Blocks) (file : FileRecord) (changes : FileChanges) : Type 0 where
  pub attributes : changes.attributes ≡ file.attributes
  pub size : changes.size ≡ file.size
  pub brought : (number : ℕ) (bytes : List ℕ) → get changes.blocks number ≡ Some bytes → get file.blocks number ≡ Some bytes
  pub left : (number : ℕ) (bytes : List ℕ) → get file.blocks number ≡ Some bytes → get changes.blocks number ≡ None → get old number ≡ Some bytes
  pub holes : changes.holes ≡ holes_of old file

-- what the log has of a whole inode with this record, where C has the other (LOG_INODE_ALL)
abbrev pub IsWholeOf : Option InodeRecord → InodeRecord → WholeInode → Type 0
IsWholeOf was (FileInode file) (WholeFile changes) = IsChangesOf (blocks_of was) file changes
IsWholeOf was (DirInode dir) (WholeDir whole) = whole ≡ dir
IsWholeOf was (LinkInode link) (WholeLink whole) = whole ≡ link
IsWholeOf was inode whole = ⊥

-- the indexes of a directory at which C and F have the same name and inode ("DIR_INDEX")
abbrev pub unchanged_indexes : Subvolume → Subvolume → ℕ → List ℕ
unchanged_indexes committed current dir =
    map (λ (name : FlatName). name.index) (filter (λ name. stands_in dir name && has_unmarked current.names name) committed.names)

-- the indexes of a directory at which C or F has a name ("DIR_INDEX")
abbrev pub all_indexes : Subvolume → Subvolume → ℕ → List ℕ
all_indexes committed current dir = map (λ (name : FlatName). name.index) (filter (stands_in dir) (committed.names ++ current.names))

-- the ranges of a directory that was fsynced: each maximal interval of indexes without an unchanged one, where it has a
-- changed one ("DIR_LOG_INDEX")
abbrev pub ranges_of : Subvolume → Subvolume → ℕ → List LogRange
ranges_of committed current dir =
    map (λ gap. record { dir = dir; first = gap.0; last = gap.1 - 1 }) (gaps_with (unchanged_indexes committed current dir) (all_indexes committed current dir) (2 ^ 64))

-- the entries that a directory has in these ranges ("DIR_INDEX")
abbrev pub entries_in : Subvolume → ℕ → List LogRange → List LogEntry
entries_in current dir ranges = map entry_of (filter (λ name. stands_in dir name && is_covered ranges dir name.index) current.names)

-- whether a member is gone: F lacks it (own)
abbrev pub is_gone : Subvolume → List ℕ → ℕ → Bool
is_gone current members ino = is_in members ino && not (is_there current ino)

-- whether a directory's ranges and entries are written anew: it is the target (own)
abbrev pub is_listed : Subvolume → ℕ → ℕ → Bool
is_listed current target dir = nat_eq dir target && is_dir_at current target

-- the ranges without those of gone directories, and with those of a target that is a directory anew (own)
abbrev pub listed_ranges : Subvolume → Subvolume → ℕ → List ℕ → FlatLog → List LogRange
listed_ranges committed current target members log =
    filter (λ range. not (is_gone current members range.dir) && not (is_listed current target range.dir)) log.ranges
    ++ cond (is_dir_at current target) (ranges_of committed current target) []

-- the ranges after the step: for each name that C has of an inode that R then lacks a range of that one index too, unless a range covers it (own)
abbrev pub written_ranges : Subvolume → Subvolume → Subvolume → ℕ → List ℕ → FlatLog → List LogRange
written_ranges committed current next target members log =
    let ranges = listed_ranges committed current target members log in
    ranges ++ map (λ (name : FlatName). record { dir = name.dir; first = name.index; last = name.index })
    (filter (λ name. not (is_there next name.ino) && not (is_covered ranges name.dir name.index)) committed.names)

-- the entries after the step: none of gone directories or leading to gone inodes, and those of a target that is a directory anew (own)
abbrev pub written_entries : Subvolume → Subvolume → ℕ → List ℕ → FlatLog → List LogEntry
written_entries committed current target members log =
    filter (λ entry. not (is_gone current members entry.dir) && (not (is_gone current members entry.ino) && not (is_listed current target entry.dir))) log.entries
    ++ cond (is_dir_at current target) (entries_in current target (ranges_of committed current target)) []

-- the existing inode that the log has after the step: gone members and the target go, another member comes unless it is
-- whole, for an inode that is whole in the log stays whole (LOG_INODE_EXISTS, own)
abbrev pub written_existing : Subvolume → ℕ → List ℕ → FlatLog → ℕ → Option InodeRecord
written_existing current target members log ino =
    cond (nat_eq ino target) None
    (cond (is_in members ino && not (is_some (get log.whole ino))) (option_map at_creation (get current.inodes ino)) (get log.existing ino))

-- the target is whole in the log, with F's record (LOG_INODE_ALL)
pub record HasTarget (committed current : Subvolume) (target : ℕ) (after : FlatLog) : Type 0 where
  pub inode : InodeRecord
  pub whole : WholeInode
  pub there : get current.inodes target ≡ Some inode
  pub logged : get after.whole target ≡ Some whole
  pub changes : IsWholeOf (get committed.inodes target) inode whole

-- what an fsync writes into the log (after the kernel's btrfs_log_inode_parent, own)
pub record IsFsyncWritten (committed current logged : Subvolume) (target : ℕ) (members : List ℕ) (next : Subvolume) (log after : FlatLog) : Type 0 where
  pub has_target : HasTarget committed current target after
  pub whole : (ino : ℕ) → (ino ≡ target → ⊥) → get after.whole ino ≡ cond (is_gone current members ino) None (get log.whole ino)
  pub existing : (ino : ℕ) → get after.existing ino ≡ written_existing current target members log ino
  pub names : after.names ≡ name_set (filter (λ name. is_in members name.ino) current.names ++ filter (λ name. not (is_in members name.ino)) log.names)
  pub ranges : (range : LogRange) → Contains after.ranges range ↔ Contains (written_ranges committed current next target members log) range
  pub entries : (entry : LogEntry) → Contains after.entries entry ↔ Contains (written_entries committed current target members log) entry
  pub ranges_once : AreDistinct after.ranges
  pub entries_once : AreDistinct after.entries

-- what the data form writes: the target is whole; its names are the log's, or where the log lacks the inode those of C
-- that no range drops; all else stays (own)
pub record IsDataWritten (committed current : Subvolume) (target : ℕ) (log after : FlatLog) : Type 0 where
  pub has_target : HasTarget committed current target after
  pub whole : (ino : ℕ) → (ino ≡ target → ⊥) → get after.whole ino ≡ get log.whole ino
  pub existing : (ino : ℕ) → get after.existing ino ≡ cond (nat_eq ino target) None (get log.existing ino)
  pub names : after.names ≡ cond (is_logged log target) log.names (name_set (log.names ++ filter (λ name. leads_to target name && not (is_dropped log name)) committed.names))
  pub ranges : (range : LogRange) → Contains after.ranges range ↔ Contains log.ranges range
  pub entries : (entry : LogEntry) → Contains after.entries entry ↔ Contains log.entries entry
  pub ranges_once : AreDistinct after.ranges
  pub entries_once : AreDistinct after.entries

-- what a log step writes into the log of a subvolume, in both forms
abbrev pub IsWritten : Subvolume → Subvolume → Subvolume → ℕ → Bool → FlatLog → FlatLog → Type 0
IsWritten committed current logged target datasync log after =
    Rattle.std.specs.Prelude.MatchBool (is_data_form logged target datasync)
    (IsDataWritten committed current target log after)
    (IsFsyncWritten committed current logged target (drawn_set current logged target) (log_step current logged target datasync) log after)
