-- One log that a log step writes: of the target it has each block.
use Rattle.std.specs.Prelude.{ℕ, Bool, cond, not, ◌&&◌, List, [], ◌∷◌, ◌++◌, filter, Option, Some, None, option_map, nat_eq, bytes_eq}
use Rattle.std.specs.List.{list_any}
use Rattle.std.specs.FinMap.{get, keys}
use Rattle.flat_model.specs.Records.{InodeRecord, FileInode, DirInode, LinkInode}
use Rattle.flat_model.specs.Names.{name_set, leads_to}
use Rattle.flat_model.specs.Volume.{Subvolume}
use Rattle.logged_volume.specs.Numbers.{is_in, map_of}
use Rattle.logged_volume.specs.Drawn.{drawn_set, is_data_form}
use Rattle.logged_volume.specs.LogStep.{log_step}
use Rattle.logged_volume.specs.FlatLog.{WholeInode, WholeFile, WholeDir, WholeLink, LogRange, LogEntry, FlatLog, is_logged, is_dropped}
use Rattle.logged_volume.specs.Replay.{blocks_of}
use Rattle.logged_volume.specs.Written.{holes_of, is_gone, written_ranges, written_entries, written_existing}

-- a whole inode with this record, where C has the other, with each block that it has ("EXTENT_DATA")
abbrev pub whole_of : Option InodeRecord → InodeRecord → WholeInode
whole_of was (FileInode file) =
    WholeFile (record { attributes = file.attributes; size = file.size; blocks = file.blocks; holes = holes_of (blocks_of was) file })
whole_of was (DirInode dir) = WholeDir dir
whole_of was (LinkInode link) = WholeLink link

-- the target whole, another inode as the log had it unless it is gone
abbrev pub whole_after : Subvolume → Subvolume → ℕ → Bool → Option WholeInode → ℕ → Option WholeInode
whole_after committed current target gone had ino =
    cond (nat_eq ino target) (option_map (whole_of (get committed.inodes target)) (get current.inodes target)) (cond gone None had)

-- the list with each of its elements once
abbrev pub each_once : {X : Type 0} → (X → X → Bool) → List X → List X
each_once same [] = []
each_once same (x ∷ xs) = cond (list_any (same x) xs) (each_once same xs) (x ∷ each_once same xs)

abbrev pub is_same_range : LogRange → LogRange → Bool
is_same_range one two = nat_eq one.dir two.dir && (nat_eq one.first two.first && nat_eq one.last two.last)

abbrev pub is_same_entry : LogEntry → LogEntry → Bool
is_same_entry one two = nat_eq one.dir two.dir && (nat_eq one.index two.index && (bytes_eq one.bytes two.bytes && nat_eq one.ino two.ino))

-- what an fsync writes, with these members, where it leaves R so (after the kernel's btrfs_log_inode_parent, own)
abbrev pub fsync_log : Subvolume → Subvolume → ℕ → List ℕ → Subvolume → FlatLog → FlatLog
fsync_log committed current target members next log = record {
  whole = map_of (target ∷ keys log.whole) (λ ino. whole_after committed current target (is_gone current members ino) (get log.whole ino) ino);
  existing = map_of (members ++ keys log.existing) (written_existing current target members log);
  names = name_set (filter (λ name. is_in members name.ino) current.names ++ filter (λ name. not (is_in members name.ino)) log.names);
  ranges = each_once is_same_range (written_ranges committed current next target members log);
  entries = each_once is_same_entry (written_entries committed current target members log);
}

-- what the data form writes (own)
abbrev pub data_log : Subvolume → Subvolume → ℕ → FlatLog → FlatLog
data_log committed current target log = record {
  whole = map_of (target ∷ keys log.whole) (λ ino. whole_after committed current target Rattle.std.specs.Prelude.false (get log.whole ino) ino);
  existing = map_of (keys log.existing) (λ ino. cond (nat_eq ino target) None (get log.existing ino));
  names = cond (is_logged log target) log.names (name_set (log.names ++ filter (λ name. leads_to target name && not (is_dropped log name)) committed.names));
  ranges = each_once is_same_range log.ranges;
  entries = each_once is_same_entry log.entries;
}

-- what a log step writes, in both forms
unfoldable pub written_log : Subvolume → Subvolume → Subvolume → ℕ → Bool → FlatLog → FlatLog
written_log committed current logged target datasync log =
    cond (is_data_form logged target datasync) (data_log committed current target log)
    (fsync_log committed current target (drawn_set current logged target) (log_step current logged target datasync) log)
