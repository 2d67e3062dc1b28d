-- What the events of a history write into the logs of the subvolumes.
use Rattle.std.specs.Prelude.{◌≡◌, ◌≢◌, ℕ, ◌⊎◌, ◌&&◌, List, [], ◌∷◌, None, Some, Bool, cond, nat_eq}
use Rattle.std.specs.FinMap.{get}
use Rattle.flat_model.specs.Volume.{RunSub, Subvolume}
use Rattle.logged_volume.specs.FlatLog.{FlatLog, empty_log}
use Rattle.logged_volume.specs.LogStep.{log_step}
use Rattle.logged_volume.specs.Written.{IsWritten}
use Rattle.commit_history.specs.declared.event.Event.{Event}
use Rattle.commit_history.specs.declared.event.Event.TheVariants as event
use Rattle.commit_history.specs.declared.event.Logged.{Logged}
use Rattle.commit_history.specs.declared.event.Logged.TheVariants as logged
use Rattle.commit_history.specs.State.{SubLog, State, HasLog, number_taken}
use Rattle.commit_history.specs.Effects.{after}

-- the logs of the subvolumes, by their numbers
abbrev pub FlatLogs : Type 0
FlatLogs = ℕ → FlatLog

-- each log stays as it was
abbrev pub StayAll : FlatLogs → FlatLogs → Type 0
StayAll before after_it = (id : ℕ) → after_it id ≡ before id

-- what a log step that ended so writes into its log: one that gives a ticket its items, or nothing where it has nothing to do; another nothing (own)
abbrev pub StepWrites : Subvolume → Subvolume → Subvolume → ℕ → Bool → Logged → FlatLog → FlatLog → Type 0
StepWrites committed current logged_sub ino datasync logged.Already log next = next ≡ log
StepWrites committed current logged_sub ino datasync (logged.Full reason) log next = next ≡ log
StepWrites committed current logged_sub ino datasync (logged.Ticket number) log next =
    IsWritten committed current logged_sub ino datasync log next ⊎ ((log_step current logged_sub ino datasync ≡ logged_sub) × (next ≡ log))

-- a log step writes into the log of its subvolume alone (own)
pub record LogWrites (state : State) (sub ino : ℕ) (end : Logged) (datasync : Bool) (before next : FlatLogs) : Type 0 where
  pub others : (id : ℕ) → id ≢ sub → next id ≡ before id
  pub own : (log : SubLog) (run : RunSub) → HasLog state sub log → get state.current sub ≡ Some run → StepWrites log.committed run.sub log.logged ino datasync end (before sub) (next sub)

-- what an event writes into the logs: a full commit that is done empties them (own)
abbrev pub EventWrites : State → Event → FlatLogs → FlatLogs → Type 0
EventWrites state (event.Log caller sub ino end datasync) before next = LogWrites state sub.0 ino.0 end datasync before next
EventWrites state (event.FullDone caller) before next = (id : ℕ) → next id ≡ empty_log
EventWrites state other before next = StayAll before next

-- these events, from these logs on, leave these
abbrev pub AreWritten : State → FlatLogs → List Event → FlatLogs → Type 0
AreWritten state before [] left = StayAll before left
AreWritten state before (event ∷ events) left = (next : FlatLogs) × EventWrites state event before next × AreWritten (after state event) next events left

-- ---- logs that are sealed, and those of a superblock

-- the logs of the subvolumes: as they stand, as they were at the seal of each number, and as the superblock that was written last has them
pub record KeptLogs : Type 0 where
  pub standing : FlatLogs
  pub sealed : ℕ → FlatLogs
  pub durable : FlatLogs

-- right after the mount each log is empty
abbrev pub no_logs : KeptLogs
no_logs = record { standing = λ id. empty_log; sealed = λ number id. empty_log; durable = λ id. empty_log }

-- the logs as they were at each seal: a seal adds one of its subvolume
abbrev pub sealed_after : Event → KeptLogs → ℕ → FlatLogs
sealed_after (event.SealSub caller sub number) kept sealed_number id =
    cond (nat_eq sealed_number number && nat_eq id sub.0) (kept.standing id) (kept.sealed sealed_number id)
sealed_after other kept sealed_number id = kept.sealed sealed_number id

-- the logs of the superblock written last: a root commit has each log that it takes as it was at its seal, a full commit none (own)
abbrev pub durable_after : State → Event → KeptLogs → FlatLogs
durable_after state (event.RootDone caller) kept id = elim (number_taken state.root id) [ None ↦ kept.durable id | Some number ↦ kept.sealed number id ]
durable_after state (event.FullDone caller) kept id = empty_log
durable_after state other kept id = kept.durable id

-- these events, from these logs on, leave these
abbrev pub AreKept : State → KeptLogs → List Event → KeptLogs → Type 0
AreKept state kept [] left = left ≡ kept
AreKept state kept (event ∷ events) left =
    (next : FlatLogs) × EventWrites state event kept.standing next
    × AreKept (after state event) (record { standing = next; sealed = sealed_after event kept; durable = durable_after state event kept }) events left
