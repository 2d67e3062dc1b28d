-- What a crash may leave after some events, and when it survives them.
use Rattle.std.specs.Prelude.{◌≡◌, ℕ, ◌<◌, ◌≤◌, true, List, [], ◌∷◌, ◌++◌, cond, Some, None, Contains}
use Rattle.std.specs.FinMap.{get}
use Rattle.flat_model.specs.Records.{InodeRecord, at_creation}
use Rattle.flat_model.specs.Names.{FlatName, names_of}
use Rattle.flat_model.specs.Coherent.{IsCoherent}
use Rattle.flat_model.specs.Volume.{Subvolume, Volume, RunSub}
use Rattle.flat_model.specs.Step.{Operated, volume_at}
use Rattle.flat_model.specs.Points.{IsPoint}
use Rattle.logged_volume.specs.Agreement.{Agree}
use Rattle.commit_history.specs.declared.event.Event.{Event}
use Rattle.commit_history.specs.declared.event.Event.TheVariants as event
use Rattle.commit_history.specs.State.{Synced, SubLog, RootCommit, State, HasLog, changed, mounted_state, durable_volume, number_taken}
use Rattle.commit_history.specs.Effects.{after, log_taken, state_of}
use Rattle.commit_history.specs.Legal.{operated_by}

-- ---- points

-- the operations among these events
abbrev pub operations_of : List Event → List Operated
operations_of [] = []
operations_of (event.Op caller op again end indexes ∷ events) = operated_by op indexes end ∷ operations_of events
operations_of (other ∷ events) = operations_of events

-- the subvolume at a point of the history is this one
abbrev pub IsAtPoint : Volume → List Operated → ℕ → ℕ → Subvolume → Type 0
IsAtPoint volume history id point sub = IsPoint history point × (get (volume_at volume history point) id ≡ Some sub)

-- an inode was made between two points, not before the first and not after the second: at a point its record is the one at creation
pub record IsMadeBetween (volume : Volume) (history : List Operated) (id ino early late : ℕ) (inode : InodeRecord) : Type 0 where
  pub point : ℕ
  pub there : Subvolume
  pub later : early < point
  pub not_after : point ≤ late
  pub at : IsAtPoint volume history id point there
  pub fresh : get there.inodes ino ≡ Some (at_creation inode)

-- the directory has a name of the inode
abbrev pub HasNameIn : Subvolume → ℕ → ℕ → Type 0
HasNameIn sub dir ino = (name : FlatName) × Contains sub.names name × (name.dir ≡ dir) × (name.ino ≡ ino)

-- ---- what is acknowledged

-- A point isn't before the last full commit, nor before any acknowledged fsync or fdatasync of the inode (own).
pub record IsSinceData (committed_at : ℕ) (acknowledged : List Synced) (ino point : ℕ) : Type 0 where
  pub committed : committed_at ≤ point
  pub own : (fsync : Synced) → Contains acknowledged fsync → fsync.ino ≡ ino → fsync.point ≤ point

-- A point isn't before the last full commit, nor before any acknowledged fsync of the inode, nor before any of a directory that had the
-- inode in it then (own).
pub record IsSinceNames (volume : Volume) (history : List Operated) (id committed_at : ℕ) (acknowledged : List Synced) (ino point : ℕ) : Type 0 where
  pub committed : committed_at ≤ point
  pub own : (fsync : Synced) → Contains acknowledged fsync → fsync.names ≡ true → fsync.ino ≡ ino → fsync.point ≤ point
  pub in_directory : (fsync : Synced) (then_ : Subvolume) → Contains acknowledged fsync → fsync.names ≡ true → IsAtPoint volume history id fsync.point then_
      → HasNameIn then_ fsync.ino ino → fsync.point ≤ point

-- ---- survival

-- an inode's record is its own at a point of the history that is late enough (own)
pub record RecordSurvives (volume : Volume) (history : List Operated) (id committed_at : ℕ) (acknowledged : List Synced) (ino : ℕ) (inode : InodeRecord) : Type 0 where
  pub point : ℕ
  pub there : Subvolume
  pub at : IsAtPoint volume history id point there
  pub since : IsSinceData committed_at acknowledged ino point
  pub same : get there.inodes ino ≡ Some inode

-- an inode's names are its own at a point of the history that is late enough, also for each acknowledged fsync of a directory in which they stand (own)
pub record NamesSurvive (volume : Volume) (history : List Operated) (id committed_at : ℕ) (acknowledged : List Synced) (ino : ℕ) (names : List FlatName) : Type 0 where
  pub point : ℕ
  pub there : Subvolume
  pub at : IsAtPoint volume history id point there
  pub since : IsSinceNames volume history id committed_at acknowledged ino point
  pub in_directory : (fsync : Synced) (name : FlatName) → Contains acknowledged fsync → fsync.names ≡ true → Contains names name → name.dir ≡ fsync.ino → fsync.point ≤ point
  pub same : names_of there.names ino ≡ names

-- an inode isn't there at a point of the history that is late enough (own)
pub record AbsenceSurvives (volume : Volume) (history : List Operated) (id committed_at : ℕ) (acknowledged : List Synced) (ino : ℕ) : Type 0 where
  pub point : ℕ
  pub there : Subvolume
  pub at : IsAtPoint volume history id point there
  pub since_data : IsSinceData committed_at acknowledged ino point
  pub since_names : IsSinceNames volume history id committed_at acknowledged ino point
  pub absent : get there.inodes ino ≡ None

-- A subvolume survives a history: it is coherent; each inode's record and each inode's names are its own at points of the history, and an inode that it lacks
-- wasn't there at one; none of these points is before the last full commit or before what was acknowledged of the inode (own).
pub record SubSurvives (volume : Volume) (history : List Operated) (id committed_at : ℕ) (acknowledged : List Synced) (sub : Subvolume) : Type 0 where
  pub coherent : IsCoherent sub
  pub records : (ino : ℕ) (inode : InodeRecord) → get sub.inodes ino ≡ Some inode → RecordSurvives volume history id committed_at acknowledged ino inode
  pub names : (ino : ℕ) (inode : InodeRecord) → get sub.inodes ino ≡ Some inode → NamesSurvive volume history id committed_at acknowledged ino (names_of sub.names ino)
  pub absence : (ino : ℕ) → get sub.inodes ino ≡ None → AbsenceSurvives volume history id committed_at acknowledged ino

-- A volume survives these events of a volume that was mounted: it has the same subvolumes, and each survives (own).
pub record Survives (volume : Volume) (events : List Event) (left : Volume) : Type 0 where
  pub there : (id : ℕ) (log : SubLog) → HasLog (state_of volume events) id log → (sub : Subvolume) × (get left id ≡ Some sub)
  pub each : (id : ℕ) (sub : Subvolume) → get left id ≡ Some sub → (log : SubLog) × HasLog (state_of volume events) id log
      × SubSurvives volume (operations_of events) id (state_of volume events).committed_at log.acknowledged sub

-- ---- the volumes that a crash may leave

-- the volume that a root commit makes durable
abbrev pub volume_by_root : State → RootCommit → Volume
volume_by_root state root = changed (λ id log. (log_taken (number_taken (Some root) id) log).durable) state.logs

-- the volume that the superblock of the commit that runs would make durable, where one runs (own)
abbrev pub next_volumes : State → List Volume
next_volumes state = elim state.root as (λ o. List Volume) [ None ↦ [] | Some root ↦ volume_by_root state root ∷ [] ] ++ elim state.full as (λ o. List Volume) [ None ↦ [] | Some full ↦ full.volume ∷ [] ]

-- The volumes of superblocks whose write was tried and failed, and that none replaced: until a commit is done (own).
abbrev pub tried_after : State → List Volume → Event → List Volume
tried_after state tried (event.Failed caller turn was_tried) = cond was_tried (next_volumes state ++ tried) tried
tried_after state tried (event.RootDone caller) = []
tried_after state tried (event.FullDone caller) = []
tried_after state tried other = tried

-- the same over a list of events
abbrev pub tried_from : State → List Volume → List Event → List Volume
tried_from state tried [] = tried
tried_from state tried (event ∷ events) = tried_from (after state event) (tried_after state tried event) events

-- Each volume that a crash may leave after these events: the durable one, that of the superblock being written, and those of
-- superblocks whose write failed (own).
unfoldable pub possible_volumes : Volume → List Event → List Volume
possible_volumes volume events = durable_volume (state_of volume events) ∷ next_volumes (state_of volume events) ++ tried_from (mounted_state volume) [] events

-- ---- states

-- the subvolume is, in a state, the current one or the logged one (own)
pub data IsStateOf (state : State) (id : ℕ) : Subvolume → Type 0 where
  IsCurrent : (run : RunSub) → get state.current id ≡ Some run → IsStateOf state id run.sub
  IsLogged : (log : SubLog) → HasLog state id log → IsStateOf state id log.logged

-- ---- what the laws say of a whole history

-- what a subvolume is at any two points agrees
abbrev pub PointsAgree : Volume → List Operated → Type 0
PointsAgree volume history =
    (id one_point two_point : ℕ) (one two : Subvolume) → IsAtPoint volume history id one_point one → IsAtPoint volume history id two_point two → Agree one two

-- an inode that isn't there at one point and is there at a later one was made between them
abbrev pub CreationIsAPoint : Volume → List Operated → Type 0
CreationIsAPoint volume history =
    (id ino early late : ℕ) (one two : Subvolume) (inode : InodeRecord) → early ≤ late → IsAtPoint volume history id early one → get one.inodes ino ≡ None
    → IsAtPoint volume history id late two → get two.inodes ino ≡ Some inode → IsMadeBetween volume history id ino early late inode

-- the current and the logged subvolumes of a state are coherent
abbrev pub AreCoherent : State → Type 0
AreCoherent state = (id : ℕ) (sub : Subvolume) → IsStateOf state id sub → IsCoherent sub

-- the current and the logged subvolumes of two states agree pairwise
abbrev pub DoAgree : State → State → Type 0
DoAgree early late = (id : ℕ) (one two : Subvolume) → IsStateOf early id one → IsStateOf late id two → Agree one two

-- each volume that a crash may leave survives
abbrev pub CrashesSurvive : Volume → List Event → Type 0
CrashesSurvive volume events = (left : Volume) → Contains (possible_volumes volume events) left → Survives volume events left

-- no subvolume's open log number falls from one state to the other
abbrev pub NumbersRise : State → State → Type 0
NumbersRise early late = (id : ℕ) (old new : SubLog) → HasLog early id old → HasLog late id new → old.open_number ≤ new.open_number
