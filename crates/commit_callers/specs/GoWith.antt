-- What is kept of callers goes with the events of a volume.
use Rattle.std.specs.Prelude.{◌≡◌, ◌≤◌, ℕ, Bool, cond, List, [], Option, Some, None, Contains, ⊤}
use Rattle.flat_model.specs.Volume.{Volume}
use Rattle.commit_history.specs.declared.event.Cover.{Cover}
use Rattle.commit_history.specs.declared.event.Cover.TheVariants as covers
use Rattle.commit_history.specs.declared.event.Event.{Event}
use Rattle.commit_history.specs.Calls.{Stage, Ended, WasShort, HasTicket, Commits, Syncs, Call, call_of}
use Rattle.commit_history.specs.Effects.{state_of}
use Rattle.commit_history.specs.State.{FullCommit, HasLog, State, SubLog}
use Rattle.commit_core.specs.Coming.{IsUnfinished}
use Rattle.commit_callers.specs.declared.callers.Callers.{Callers}
use Rattle.commit_callers.specs.declared.callers.Running.{Running}
use Rattle.commit_callers.specs.declared.covered.Covered.{Covered}
use Rattle.commit_callers.specs.Covered.{is_covered_in}
use Rattle.commit_callers.specs.Wants.{callers_in}

-- by a full commit where it is covered, else by none yet
abbrev pub cover_if : Bool → Cover
cover_if is_covered = cond is_covered covers.Full covers.Open

-- a full commit that runs has this holder and these wants at its seal, and its holder's is one of them
pub record IsRunning (running : Running) (commit : FullCommit) : Type 0 where
  pub holder : running.holder ≡ commit.holder
  pub wants : callers_in running.wants ≡ commit.wants
  pub own : Contains commit.wants commit.holder

-- a full commit runs on both sides, or on neither
abbrev pub Runs : Option Running → Option FullCommit → Type 0
Runs None None = ⊤
Runs None (Some commit) = ⊥
Runs (Some running) None = ⊥
Runs (Some running) (Some commit) = IsRunning running commit

-- no log is written and none is waited for: no ticket, no root commit, no busy slot
pub record IsQuiet (state : State) : Type 0 where
  pub no_ticket : state.tickets ≡ []
  pub no_root : state.root ≡ None
  pub no_slot : (id : ℕ) (log : SubLog) → HasLog state id log → log.slots ≡ []

-- a call waits for no log
abbrev pub HasNoTicket : Stage → Type 0
HasNoTicket (Ended answer) = ⊤
HasNoTicket (WasShort op sealed) = ⊤
HasNoTicket (HasTicket sub number part) = ⊥
HasNoTicket (Commits reason sealed) = ⊤
HasNoTicket (Syncs sealed) = ⊤

-- A caller's call waits for no log; while its caller wants a full commit it isn't covered; and where it hasn't ended by an event of
-- its own, what is kept says whether it is covered (own).
pub record IsKnown (covered : Covered) (wants : List ℕ) (caller : ℕ) (call : Call) : Type 0 where
  pub no_ticket : HasNoTicket call.stage
  pub waits : Contains wants caller → call.cover ≡ covers.Open
  pub cover : 1 ≤ caller → caller ≤ 16 → IsUnfinished call → call.cover ≡ cover_if (is_covered_in covered caller)

-- What is kept of the callers goes with these events since the mount of a volume: the wants in their order, the full commit that
-- runs, and for each call whether it is covered. None of the events is of a log (own).
pub record GoWith (callers : Callers) (volume : Volume) (events : List Event) : Type 0 where
  pub wants : callers_in callers.wants ≡ (state_of volume events).wants
  pub full : Runs callers.full (state_of volume events).full
  pub quiet : IsQuiet (state_of volume events)
  pub calls : (caller : ℕ) → IsKnown callers.covered (state_of volume events).wants caller (call_of volume events caller)
