-- What is proved of these definitions, each sentence by its name.
use Rattle.std.specs.Prelude.{◌≡◌, ℕ, ◌<◌, ◌≤◌, ◌⊎◌, ◌↔◌, Bool, List, Some, None, Contains, IsTrue, IsFalse}
use Rattle.flat_model.specs.Names.{FlatName}
use Rattle.flat_model.specs.Volume.{Subvolume}
use Rattle.flat_model.specs.Coherent.{IsCoherent}
use Rattle.logged_volume.specs.Numbers.{is_in, gaps_with, IsMaximal}
use Rattle.logged_volume.specs.Agreement.{Agree, AreStep}
use Rattle.logged_volume.specs.Drawn.{IsLeast, IsStranded, least_set, members_of, stranded_of}
use Rattle.logged_volume.specs.LogStep.{log_step}
use Rattle.logged_volume.specs.Rules.{RoomNumbers, commit_reason}
use Rattle.logged_volume.specs.FlatLog.{FlatLog, is_logged, is_whole, is_dropped}
use Rattle.logged_volume.specs.Replay.{replay}
use Rattle.logged_volume.specs.Accepted.{IsAccepted}
use Rattle.logged_volume.specs.Written.{IsWritten}
use Rattle.logged_volume.specs.Standing.{IsLogOf, AreLogStep}
use Rattle.logged_volume.specs.Weight.{MadeStep, AreMade}

-- the least set under the rules is there, with the rule on slots or without it
abbrev pub LeastSetIsThere : Type 0
LeastSetIsThere =
    (current logged : Subvolume) (target : ℕ) (with_slots : Bool)
    → IsLeast current logged target with_slots (least_set current logged target with_slots)

-- it is one
abbrev pub LeastSetIsOne : Type 0
LeastSetIsOne =
    (current logged : Subvolume) (target : ℕ) (with_slots : Bool) (set other : List ℕ)
    → IsLeast current logged target with_slots set
    → IsLeast current logged target with_slots other
    → set ≡ other

-- the stranded directory is the least of those that are
abbrev pub StrandedIsLeast : Type 0
StrandedIsLeast =
    (current logged : Subvolume) (target : ℕ) (datasync : Bool) (dir : ℕ)
    → stranded_of current logged target datasync ≡ Some dir
    → IsStranded current logged (members_of current logged target datasync) dir
    × ((other : ℕ) → IsStranded current logged (members_of current logged target datasync) other → dir ≤ other)

-- where there is none, none is stranded
abbrev pub NoneIsStranded : Type 0
NoneIsStranded =
    (current logged : Subvolume) (target : ℕ) (datasync : Bool) (dir : ℕ)
    → stranded_of current logged target datasync ≡ None
    → IsStranded current logged (members_of current logged target datasync) dir
    → ⊥

-- the intervals are maximal
abbrev pub IntervalsAreMaximal : Type 0
IntervalsAreMaximal =
    (without others : List ℕ) (high : ℕ) (interval : ℕ × ℕ)
    → Contains (gaps_with without others high) interval
    → IsMaximal without others high interval

-- each of the other numbers that isn't one of the first lies in one of them
abbrev pub NoneIsLeftOut : Type 0
NoneIsLeftOut =
    (without others : List ℕ) (high number : ℕ)
    → number < high
    → (Contains without number → ⊥)
    → Contains others number
    → (interval : ℕ × ℕ) × Contains (gaps_with without others high) interval × (interval.0 ≤ number) × (number < interval.1)

-- this holds of F, R and what a log step leaves of R, where no full commit is made in place of the step
abbrev pub AfterStep : (Subvolume → Subvolume → Subvolume → Type 0) → Type 0
AfterStep Holds =
    (current logged : Subvolume) (target : ℕ) (datasync : Bool) (room : RoomNumbers)
    → AreStep current logged target
    → commit_reason current logged target datasync room ≡ None
    → Holds current logged (log_step current logged target datasync)

-- whatever is related so to F and to R is so to what a log step leaves of R
abbrev pub StepKeeps : (Subvolume → Subvolume → Type 0) → Type 0
StepKeeps Related =
    (third current logged : Subvolume) (target : ℕ) (datasync : Bool)
    → AreStep current logged target
    → Related third current
    → Related third logged
    → Related third (log_step current logged target datasync)

-- where a log says what R is, what a step writes says what it leaves of R
abbrev pub StepWritesLog : Type 0
StepWritesLog =
    (committed current logged : Subvolume) (target : ℕ) (datasync : Bool) (room : RoomNumbers) (log after : FlatLog)
    → AreLogStep committed current logged target log
    → commit_reason current logged target datasync room ≡ None
    → IsWritten committed current logged target datasync log after
    → IsLogOf committed (log_step current logged target datasync) after

-- the inodes that come into the log by a step are its members
abbrev pub MembersCome : Type 0
MembersCome =
    (committed current logged : Subvolume) (target : ℕ) (datasync : Bool) (log after : FlatLog) (ino : ℕ)
    → IsWritten committed current logged target datasync log after
    → IsTrue (is_logged after ino)
    → IsTrue (is_logged log ino) ⊎ IsTrue (is_in (members_of current logged target datasync) ino)

-- the inode that becomes whole by a step is its target
abbrev pub TargetComes : Type 0
TargetComes =
    (committed current logged : Subvolume) (target : ℕ) (datasync : Bool) (log after : FlatLog) (ino : ℕ)
    → IsWritten committed current logged target datasync log after
    → IsTrue (is_whole after ino)
    → IsTrue (is_whole log ino) ⊎ (ino ≡ target)

-- replay of a log that says what R is leaves R
abbrev pub LogIsReplayed : Type 0
LogIsReplayed = (committed logged : Subvolume) (log : FlatLog) → IsCoherent logged → IsLogOf committed logged log → replay committed log ≡ logged

-- and the log is accepted over C
abbrev pub LogIsAccepted : Type 0
LogIsAccepted =
    (committed logged : Subvolume) (log : FlatLog)
    → IsCoherent logged
    → Agree committed logged
    → IsLogOf committed logged log
    → IsAccepted committed log

-- the names that replay leaves are the log's, and those of C that no range drops and whose inode the log doesn't have
abbrev pub ReplayLeavesNames : Type 0
ReplayLeavesNames =
    (committed : Subvolume) (log : FlatLog) (name : FlatName)
    → Contains (replay committed log).names name
    ↔ (Contains log.names name ⊎ (Contains committed.names name × IsFalse (is_dropped log name) × IsFalse (is_logged log name.ino)))

-- this holds of C, of the log steps since the last full commit, and of the R and the log that they left
abbrev pub AfterSteps : (Subvolume → List MadeStep → Subvolume → FlatLog → Type 0) → Type 0
AfterSteps Holds =
    (committed : Subvolume) (steps : List MadeStep) (logged : Subvolume) (log : FlatLog)
    → AreMade committed steps logged log
    → Holds committed steps logged log
