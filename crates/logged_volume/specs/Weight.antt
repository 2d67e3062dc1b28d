-- How much a log may hold: the weight of what was drawn since the last full commit, and how many items a log has.
use Rattle.std.specs.Prelude.{◌≡◌, ℕ, ◌+◌, ◌*◌, max, Bool, cond, not, ◌&&◌, List, [], ◌∷◌, ◌++◌, length, Option, Some, None, ◌⊎◌, flat_map, sum_by, nat_eq}
use Rattle.std.specs.FinMap.{get, keys, len}
use Rattle.flat_model.specs.Records.{InodeRecord, FileInode, DirInode, LinkInode, attributes_of}
use Rattle.flat_model.specs.Names.{links_of, entries_of}
use Rattle.flat_model.specs.Coherent.{IsCoherent}
use Rattle.flat_model.specs.Volume.{Subvolume, is_dir_at}
use Rattle.logged_volume.specs.Numbers.{is_in, number_set}
use Rattle.logged_volume.specs.Agreement.{is_there}
use Rattle.logged_volume.specs.Drawn.{is_data_form, members_of}
use Rattle.logged_volume.specs.Rules.{RoomNumbers, commit_reason}
use Rattle.logged_volume.specs.LogStep.{log_step}
use Rattle.logged_volume.specs.FlatLog.{WholeInode, WholeFile, WholeDir, WholeLink, FlatLog, empty_log}
use Rattle.logged_volume.specs.Replay.{blocks_of}
use Rattle.logged_volume.specs.Written.{IsWritten}
use Rattle.logged_volume.specs.Standing.{AreLogVolumes}

-- a log step that was made: F and R before it, its target, and whether it was asked for the data alone (own)
pub record MadeStep : Type 0 where
  pub current : Subvolume
  pub logged : Subvolume
  pub target : ℕ
  pub datasync : Bool

-- whether it had the data form (own)
abbrev pub had_data_form : MadeStep → Bool
had_data_form step = is_data_form step.logged step.target step.datasync

-- its members (own)
abbrev pub step_members : MadeStep → List ℕ
step_members step = members_of step.current step.logged step.target step.datasync

-- for a present member 2 plus its names in F, in the data form in R (own)
abbrev pub member_weight : ℕ → MadeStep → ℕ
member_weight ino step =
    cond (is_in (step_members step) ino && is_there step.current ino) (2 + links_of (cond (had_data_form step) step.logged step.current).names ino) 0

-- for the target its attributes, twice its data blocks and 1 (own)
abbrev pub record_weight : Option InodeRecord → ℕ
record_weight None = 0
record_weight (Some inode) = len (attributes_of inode) + 2 * len (blocks_of (Some inode)) + 1

abbrev pub target_weight : ℕ → MadeStep → ℕ
target_weight ino step = cond (nat_eq ino step.target) (record_weight (get step.current.inodes ino)) 0

-- for a directory that was fsynced 1 plus the names in it in F (own)
abbrev pub listed_weight : ℕ → MadeStep → ℕ
listed_weight ino step =
    cond (nat_eq ino step.target && (is_dir_at step.current ino && not (had_data_form step))) (1 + length (entries_of step.current.names ino)) 0

-- for a gone member the names that it has in C (own)
abbrev pub gone_weight : Subvolume → ℕ → MadeStep → ℕ
gone_weight committed ino step = cond (is_in (step_members step) ino && not (is_there step.current ino)) (links_of committed.names ino) 0

-- the greatest of a weight over these steps, and 0 where there is none
abbrev pub greatest : (MadeStep → ℕ) → List MadeStep → ℕ
greatest weight [] = 0
greatest weight (step ∷ steps) = max (weight step) (greatest weight steps)

-- an inode's weight: the sum of the four, each the greatest over these steps (own)
abbrev pub inode_weight : Subvolume → List MadeStep → ℕ → ℕ
inode_weight committed steps ino =
    greatest (member_weight ino) steps + greatest (target_weight ino) steps + greatest (listed_weight ino) steps + greatest (gone_weight committed ino) steps

-- every inode that these steps drew
abbrev pub drawn_by : List MadeStep → List ℕ
drawn_by steps = number_set (flat_map step_members steps)

-- the weight of these steps: the sum over all inodes that they drew (own)
abbrev pub weight_of : Subvolume → List MadeStep → ℕ
weight_of committed steps = sum_by (inode_weight committed steps) (drawn_by steps)

-- the attributes, blocks and holes, or the inline extent, that the log has of a whole inode, counted one by one ("XATTR_ITEM", "EXTENT_DATA")
abbrev pub change_count : Option WholeInode → ℕ
change_count None = 0
change_count (Some (WholeFile changes)) = len changes.attributes + len changes.blocks + length changes.holes
change_count (Some (WholeDir dir)) = len dir.attributes
change_count (Some (WholeLink link)) = len link.attributes + 1

-- the inline extent of an existing symlink ("EXTENT_DATA")
abbrev pub made_count : Option InodeRecord → ℕ
made_count None = 0
made_count (Some (FileInode file)) = 0
made_count (Some (DirInode dir)) = 0
made_count (Some (LinkInode link)) = 1

-- every inode that the log has
abbrev pub logged_inodes : FlatLog → List ℕ
logged_inodes log = number_set (keys log.whole ++ keys log.existing)

-- how many items the log has, counted entry by entry: for each inode its inode item and what it has of it; names, ranges and entries (own)
unfoldable pub item_count : FlatLog → ℕ
item_count log =
    sum_by (λ ino. 1 + made_count (get log.existing ino) + change_count (get log.whole ino)) (logged_inodes log)
    + length log.names
    + length log.ranges
    + length log.entries

-- a step was made: no rule asked for a full commit in place of it, it left R so, and wrote this log (own)
pub record IsMade (committed : Subvolume) (step : MadeStep) (before : FlatLog) (logged : Subvolume) (log : FlatLog) : Type 0 where
  pub room : RoomNumbers
  pub no_reason : commit_reason step.current step.logged step.target step.datasync room ≡ None
  pub leaves : logged ≡ log_step step.current step.logged step.target step.datasync
  pub written : IsWritten committed step.current step.logged step.target step.datasync before log

-- a step had nothing to do: it would leave R as it was, and so R and the log stay (own)
pub record IsIdle (step : MadeStep) (before : FlatLog) (logged : Subvolume) (log : FlatLog) : Type 0 where
  pub nothing : log_step step.current step.logged step.target step.datasync ≡ step.logged
  pub logged_stays : logged ≡ step.logged
  pub log_stays : log ≡ before

-- these steps, the newest first, came since the last full commit, from R as C and an empty log on: they left R so, and this log (own)
abbrev pub AreMade : Subvolume → List MadeStep → Subvolume → FlatLog → Type 0
AreMade committed [] logged log = IsCoherent committed × (logged ≡ committed) × (log ≡ empty_log)
AreMade committed (step ∷ steps) logged log =
    (before : FlatLog)
    × AreMade committed steps step.logged before
    × AreLogVolumes committed step.current step.logged step.target
    × (IsMade committed step before logged log ⊎ IsIdle step before logged log)
