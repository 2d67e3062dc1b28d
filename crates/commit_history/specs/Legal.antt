-- Which events may come, and which lists of events are legal.
use Rattle.std.specs.Prelude.{◌≡◌, ◌≢◌, ℕ, ◌%◌, ◌<◌, Bool, true, false, List, [], ◌∷◌, Option, Some, None, Contains, IsTrue, ⊤}
use Rattle.std.specs.FinMap.{get}
use Rattle.flat_model.specs.declared.op.Op.{Op}
use Rattle.flat_model.specs.declared.place.Place.{Place}
use Rattle.flat_model.specs.declared.answer.Answer.{Answer}
use Rattle.flat_model.specs.declared.answer.Answer.TheVariants as answers
use Rattle.flat_model.specs.declared.answer.Reason.{Reason}
use Rattle.flat_model.specs.Volume.{Subvolume, Volume, RunSub, RunVolume}
use Rattle.flat_model.specs.Walk.{WalkEnd, AtRoot, AtSlot, Missing, Blocked, walk}
use Rattle.flat_model.specs.Step as operation
use Rattle.flat_model.specs.Needs.{need}
use Rattle.logged_volume.specs.Agreement.{is_there}
use Rattle.logged_volume.specs.LogStep.{log_step}
use Rattle.logged_volume.specs.Rules.{RoomNumbers, commit_reason}
use Rattle.commit_history.specs.declared.event.Event.{Event}
use Rattle.commit_history.specs.declared.event.Event.TheVariants as event
use Rattle.commit_history.specs.declared.event.Logged.{Logged}
use Rattle.commit_history.specs.declared.event.Logged.TheVariants as logged
use Rattle.commit_history.specs.declared.event.OpEnd.{OpEnd}
use Rattle.commit_history.specs.declared.event.OpEnd.TheVariants as ends
use Rattle.commit_history.specs.declared.event.Turn.{Turn}
use Rattle.commit_history.specs.declared.event.Turn.TheVariants as turns
use Rattle.commit_history.specs.State.{SubLog, Ticket, RootCommit, FullCommit, State, HasLog, is_slot_busy, is_ready, is_taken, mounted_state}
use Rattle.commit_history.specs.Effects.{after}

-- ---- operations

-- an answer as events show it: without its bytes
abbrev pub shown : Answer → Answer
shown (answers.Bytes text) = answers.Bytes []
shown answer = answer

-- whether an operation ended for want of room
abbrev pub is_short : OpEnd → Bool
is_short (ends.Answered answer) = false
is_short (ends.Short free need) = true

-- How an operation may end: with its answer, or where it needs more blocks than are free. How many are free isn't said here (own).
pub data IsOpEnd (current : RunVolume) (op : Op) (indexes : List ℕ) : OpEnd → Type 0 where
  IsAnswered : IsOpEnd current op indexes (ends.Answered (shown (operation.step current op indexes).answer))
  IsShort : (free : ℕ) → free < need current op → IsOpEnd current op indexes (ends.Short free (need current op))

-- an operation of an event, as histories of flat volumes have it
abbrev pub operated_by : Op → List ℕ → OpEnd → operation.Operated
operated_by op indexes end = record { op = op; indexes = indexes; short = is_short end }

-- ---- log steps

-- all that a log step asks for is on the disk: it changes nothing, no number of the subvolume is undurable, and no failure stands (own)
pub record IsAlready (log : SubLog) (current : Subvolume) (ino : ℕ) (datasync : Bool) (failures : ℕ) : Type 0 where
  pub unchanged : log_step current log.logged ino datasync ≡ log.logged
  pub durable : log.undurable ≡ None
  pub no_failure : failures ≡ 0

-- the ticket of a log step: the open number where it changes something, else the newest undurable one (own)
pub data IsTicketOf (log : SubLog) (current : Subvolume) (ino : ℕ) (datasync : Bool) : ℕ → Type 0 where
  IsOpen : log_step current log.logged ino datasync ≢ log.logged → IsTicketOf log current ino datasync log.open_number
  IsNewest : (number : ℕ) → log_step current log.logged ino datasync ≡ log.logged → log.undurable ≡ Some number → IsTicketOf log current ino datasync number

-- How a log step may end, by the numbers on room: done already, else with the first reason for a full commit, else with a ticket. How
-- many blocks are free, and how many the committed trees have, isn't said here (own).
pub data IsLogEnd (log : SubLog) (current : Subvolume) (ino : ℕ) (datasync : Bool) (room : RoomNumbers) : Logged → Type 0 where
  IsDone : IsAlready log current ino datasync room.failed → IsLogEnd log current ino datasync room logged.Already
  Commits : (reason : Reason) → (IsAlready log current ino datasync room.failed → ⊥) → commit_reason current log.logged ino datasync room ≡ Some reason
      → IsLogEnd log current ino datasync room (logged.Full reason)
  GetsTicket : (number : ℕ) → (IsAlready log current ino datasync room.failed → ⊥) → commit_reason current log.logged ino datasync room ≡ None
      → IsTicketOf log current ino datasync number → IsLogEnd log current ino datasync room (logged.Ticket number)

-- a log step may come: the full turn is free and nobody wants it, the subvolume is there and has the inode, and it ends as it may
pub record MayLog (state : State) (id ino : ℕ) (end : Logged) (datasync : Bool) : Type 0 where
  pub log : SubLog
  pub run : RunSub
  pub room : RoomNumbers
  pub full_is_free : state.full ≡ None
  pub full_is_not_wanted : state.wants ≡ []
  pub of_sub : HasLog state id log
  pub current : get state.current id ≡ Some run
  pub has_ino : IsTrue (is_there run.sub ino)
  pub failures : room.failed ≡ state.failures
  pub ends : IsLogEnd log run.sub ino datasync room end

-- the answer to an fsync whose path isn't there: NoEnt, or NotDir where it meets a non-directory before its last name
abbrev pub refusal_of_walk : WalkEnd → Option Answer
refusal_of_walk AtRoot = None
refusal_of_walk (AtSlot dir bytes None) = Some answers.NoEnt
refusal_of_walk (AtSlot dir bytes (Some name)) = None
refusal_of_walk Missing = Some answers.NoEnt
refusal_of_walk Blocked = Some answers.NotDir

-- the same of a place of the volume: NoEnt also where its subvolume isn't there
abbrev pub refusal_of : RunVolume → Place → Option Answer
refusal_of current place = elim (get current place.sub.0) [ None ↦ Some answers.NoEnt | Some run ↦ refusal_of_walk (walk run.sub place.path) ]

-- a refusal of an fsync may come
pub record MayRefuse (state : State) (place : Place) (answer : Answer) : Type 0 where
  pub full_is_free : state.full ≡ None
  pub full_is_not_wanted : state.wants ≡ []
  pub is_refused : refusal_of state.current place ≡ Some answer

-- ---- commits

-- the caller may seal the open number of a subvolume
pub record MaySealSub (state : State) (caller id number : ℕ) : Type 0 where
  pub log : SubLog
  pub of_sub : HasLog state id log
  pub ticket : Contains state.tickets (record { caller = caller; sub = id; number = number })
  pub is_open : log.open_number ≡ number
  pub slot_is_free : is_slot_busy log number ≡ false
  pub full_is_free : state.full ≡ None
  pub no_failure : state.failures ≡ 0

-- the caller's part of this number may be written
pub record MayBeWritten (state : State) (caller id number : ℕ) : Type 0 where
  pub log : SubLog
  pub of_sub : HasLog state id log
  pub slot : Contains log.slots (record { number = number; holder = caller; written = false })
  pub no_failure : state.failures ≡ 0

-- the caller may begin a root commit
pub record MaySealRoot (state : State) (caller : ℕ) : Type 0 where
  pub ticket : Ticket
  pub log : SubLog
  pub own : ticket.caller ≡ caller
  pub has_ticket : Contains state.tickets ticket
  pub of_sub : HasLog state ticket.sub log
  pub ready : is_ready log ticket.number ≡ true
  pub root_is_free : state.root ≡ None
  pub no_failure : state.failures ≡ 0

-- the caller holds the root turn
pub record HoldsRoot (state : State) (caller : ℕ) : Type 0 where
  pub commit : RootCommit
  pub runs : state.root ≡ Some commit
  pub own : commit.holder ≡ caller

-- the caller may begin a full commit
pub record MaySealFull (state : State) (caller : ℕ) : Type 0 where
  pub wanted : Contains state.wants caller
  pub no_slot_is_busy : (id : ℕ) (log : SubLog) → HasLog state id log → log.slots ≡ []
  pub root_is_free : state.root ≡ None
  pub full_is_free : state.full ≡ None

-- the caller holds the full turn
pub record HoldsFull (state : State) (caller : ℕ) : Type 0 where
  pub commit : FullCommit
  pub runs : state.full ≡ Some commit
  pub own : commit.holder ≡ caller

-- the caller holds a slot whose blocks aren't written
pub record WritesSlot (state : State) (caller id parity : ℕ) : Type 0 where
  pub log : SubLog
  pub number : ℕ
  pub of_sub : HasLog state id log
  pub slot : Contains log.slots (record { number = number; holder = caller; written = false })
  pub slot_of : number % 2 ≡ parity

-- a device call of the caller in this turn may have failed; no superblock is written in the turn of a slot
abbrev pub MayFail : State → ℕ → Turn → Bool → Type 0
MayFail state caller (turns.Slot sub parity) tried = WritesSlot state caller sub.0 parity × (tried ≡ false)
MayFail state caller turns.Root tried = HoldsRoot state caller
MayFail state caller turns.Full tried = HoldsFull state caller

-- the caller may give up the slot of this number: a failure stands, and no root commit that runs takes the number
pub record MayGiveUp (state : State) (caller id number : ℕ) : Type 0 where
  pub log : SubLog
  pub written : Bool
  pub of_sub : HasLog state id log
  pub slot : Contains log.slots (record { number = number; holder = caller; written = written })
  pub not_taken : is_taken state.root id number ≡ false
  pub failure : 0 < state.failures

-- An event may come in a state (own; after the conditions of btrfs_sync_log and btrfs_commit_transaction).
abbrev pub MayCome : State → Event → Type 0
MayCome state (event.Op caller op again end indexes) = operation.MayCome state.current (operated_by op indexes end) × IsOpEnd state.current op indexes end
MayCome state (event.Refused caller target answer) = MayRefuse state target answer
MayCome state (event.Log caller sub ino end datasync) = MayLog state sub.0 ino.0 end datasync
MayCome state (event.Ask caller) = ⊤
MayCome state (event.SealSub caller sub number) = MaySealSub state caller sub.0 number
MayCome state (event.SubWritten caller sub number) = MayBeWritten state caller sub.0 number
MayCome state (event.SealRoot caller) = MaySealRoot state caller
MayCome state (event.RootDone caller) = HoldsRoot state caller
MayCome state (event.SealFull caller) = MaySealFull state caller
MayCome state (event.FullDone caller) = HoldsFull state caller
MayCome state (event.Failed caller turn tried) = MayFail state caller turn tried
MayCome state (event.GiveUp caller sub number) = MayGiveUp state caller sub.0 number

-- each of these events may come after those before it (own)
abbrev pub IsLegalFrom : State → List Event → Type 0
IsLegalFrom state [] = ⊤
IsLegalFrom state (event ∷ events) = MayCome state event × IsLegalFrom (after state event) events

-- these events may come after the mount of a volume (own)
abbrev pub IsLegal : Volume → List Event → Type 0
IsLegal volume events = IsLegalFrom (mounted_state volume) events
