-- Where the call of a caller stands, what it does next, and what it answers.
use Rattle.std.specs.Prelude.{◌≡◌, ℕ, ◌+◌, ◌%◌, ◌<◌, ◌&&◌, ◌||◌, not, Bool, true, false, cond, List, [], ◌∷◌, Option, Some, None, nat_eq, nat_lt, ⊤}
use Rattle.std.specs.List.{list_any}
use Rattle.std.specs.FinMap.{get}
use Rattle.flat_model.specs.declared.op.Op.{Op}
use Rattle.flat_model.specs.declared.answer.Answer.{Answer}
use Rattle.flat_model.specs.declared.answer.Answer.TheVariants as answers
use Rattle.flat_model.specs.declared.answer.Reason.{Reason}
use Rattle.flat_model.specs.declared.answer.Reason.TheVariants as reasons
use Rattle.flat_model.specs.Volume.{Volume}
use Rattle.commit_history.specs.declared.event.Event.{Event}
use Rattle.commit_history.specs.declared.event.Event.TheVariants as event
use Rattle.commit_history.specs.declared.event.Logged.{Logged}
use Rattle.commit_history.specs.declared.event.Logged.TheVariants as logged
use Rattle.commit_history.specs.declared.event.OpEnd.{OpEnd}
use Rattle.commit_history.specs.declared.event.OpEnd.TheVariants as ends
use Rattle.commit_history.specs.declared.event.Turn.TheVariants as turns
use Rattle.commit_history.specs.declared.event.Cover.{Cover}
use Rattle.commit_history.specs.declared.event.Cover.TheVariants as covers
use Rattle.commit_history.specs.State.{State, mounted_state, is_taken}
use Rattle.commit_history.specs.Effects.{after, has_ticket, wants_at_seal}

-- What a call with a ticket has done with its log number: nothing, sealed it so that its blocks are being written, had them written, begun the
-- root commit that takes it, or given up its slot after a failure (own).
pub data Part : Type 0 where
  Unsealed : Part
  Sealed : Part
  Written : Part
  InRoot : Part
  GaveUp : Part

-- Where a call stands. It has ended, or none has begun; an operation was short; an fsync has a ticket; an fsync wants a full commit, for a
-- reason; a sync wants one. `sealed` where the call itself runs the full commit (own).
pub data Stage : Type 0 where
  Ended : Option Answer → Stage
  WasShort : (op : Op) (sealed : Bool) → Stage
  HasTicket : (sub number : ℕ) (part : Part) → Stage
  Commits : (reason : Reason) (sealed : Bool) → Stage
  Syncs : (sealed : Bool) → Stage

-- A caller's call: where it stands, by which commit what it waits for was first covered, and how many events it has made (own).
pub record Call : Type 0 where
  pub stage : Stage
  pub cover : Cover
  pub events : ℕ

-- a caller that has made no call (own)
abbrev pub no_call : Call
no_call = record { stage = Ended None; cover = covers.Open; events = 0 }

-- What a call answers, where it has finished. One whose ticket or want was covered has, also before its next turn (own).
abbrev pub answer_of : Call → Option Answer
answer_of call = elim call.stage [
  | Ended answer ↦ answer
  | WasShort op sealed ↦ None
  | HasTicket sub number part ↦ elim call.cover [ covers.Open ↦ None | covers.Root ↦ Some answers.Log | covers.Full ↦ Some answers.Full ]
  | Commits reason sealed ↦ elim call.cover [ covers.Open ↦ None | covers.Root ↦ None | covers.Full ↦ Some (answers.Commit reason) ]
  | Syncs sealed ↦ elim call.cover [ covers.Open ↦ None | covers.Root ↦ None | covers.Full ↦ Some answers.Sync ]
]

-- a call that has finished still has its answer
abbrev pub KeepsAnswer : Call → Call → Type 0
KeepsAnswer call next = (answer : Answer) → answer_of call ≡ Some answer → answer_of next ≡ Some answer

-- ---- what an event does to a call

-- a call that has begun, or goes on, with one event more
abbrev pub at_stage : Call → Stage → Call
at_stage call stage = record { stage = stage; cover = covers.Open; events = call.events + 1 }

-- a call that begins: its first event
abbrev pub begun : Stage → Call
begun stage = record { stage = stage; cover = covers.Open; events = 1 }

-- where an operation stands after its event; at its second try it has ended
abbrev pub op_stage : Op → Bool → OpEnd → Stage
op_stage op again (ends.Answered answer) = Ended (Some answer)
op_stage op again (ends.Short free need) = cond again (Ended (Some (answers.NoSpace free need))) (WasShort op false)

-- where an fsync stands after its log step
abbrev pub log_stage : ℕ → Logged → Stage
log_stage sub logged.Already = Ended (Some answers.Already)
log_stage sub (logged.Ticket number) = HasTicket sub number Unsealed
log_stage sub (logged.Full reason) = Commits reason false

-- a call that asks: an fsync whose ticket isn't covered, because of so many failures, else a new sync
abbrev pub asked : Call → ℕ → Call
asked call failures = elim call.stage [
  | Ended answer ↦ begun (Syncs false)
  | WasShort op sealed ↦ begun (Syncs false)
  | HasTicket sub number part ↦ elim call.cover [
    | covers.Open ↦ at_stage call (Commits (reasons.FailedLog failures) false)
    | covers.Root ↦ begun (Syncs false)
    | covers.Full ↦ begun (Syncs false)
  ]
  | Commits reason sealed ↦ begun (Syncs false)
  | Syncs sealed ↦ begun (Syncs false)
]

-- a stage whose number has come so far
abbrev pub with_part : Stage → Part → Stage
with_part (Ended answer) part = Ended answer
with_part (WasShort op sealed) part = WasShort op sealed
with_part (HasTicket sub number old) part = HasTicket sub number part
with_part (Commits reason sealed) part = Commits reason sealed
with_part (Syncs sealed) part = Syncs sealed

-- a stage whose call runs the full commit
abbrev pub with_seal : Stage → Stage
with_seal (Ended answer) = Ended answer
with_seal (WasShort op sealed) = WasShort op true
with_seal (HasTicket sub number part) = HasTicket sub number part
with_seal (Commits reason sealed) = Commits reason true
with_seal (Syncs sealed) = Syncs true

-- whether a full commit that was sealed then covers the stage: an fsync with a ticket by its ticket, another by a want from before the seal or
-- by its ticket
abbrev pub is_covered_by_full : State → ℕ → Stage → Bool
is_covered_by_full state caller (Ended answer) = false
is_covered_by_full state caller (HasTicket sub number part) = true
is_covered_by_full state caller stage = list_any (nat_eq caller) (wants_at_seal state.full) || has_ticket state.tickets caller

-- whether the root commit that runs covers the stage
abbrev pub is_covered_by_root : State → Stage → Bool
is_covered_by_root state (Ended answer) = false
is_covered_by_root state (WasShort op sealed) = false
is_covered_by_root state (HasTicket sub number part) = is_taken state.root sub number
is_covered_by_root state (Commits reason sealed) = false
is_covered_by_root state (Syncs sealed) = false

-- a call once a commit may have covered it: the first cover counts
abbrev pub covered_by : Bool → Cover → Call → Call
covered_by is_covered cover call = elim call.cover [ covers.Open ↦ record call { cover = cond is_covered cover covers.Open } | covers.Root ↦ call | covers.Full ↦ call ]

-- a call with one event more
abbrev pub counted : Call → Call
counted call = record call { events = call.events + 1 }

-- a caller's call after an event of its own; its own commit covers what it waits for (own)
abbrev pub after_own : State → ℕ → Call → Event → Call
after_own state caller call (event.Op by op again end indexes) = cond again (at_stage call (op_stage op again end)) (begun (op_stage op again end))
after_own state caller call (event.Refused by target answer) = begun (Ended (Some answer))
after_own state caller call (event.Log by sub ino end datasync) = begun (log_stage sub.0 end)
after_own state caller call (event.Ask by) = asked call state.failures
after_own state caller call (event.SealSub by sub number) = at_stage call (with_part call.stage Sealed)
after_own state caller call (event.SubWritten by sub number) = at_stage call (with_part call.stage Written)
after_own state caller call (event.SealRoot by) = at_stage call (with_part call.stage InRoot)
after_own state caller call (event.RootDone by) = counted (covered_by true covers.Root call)
after_own state caller call (event.SealFull by) = at_stage call (with_seal call.stage)
after_own state caller call (event.FullDone by) = counted (covered_by true covers.Full call)
after_own state caller call (event.Failed by turn tried) = at_stage call (Ended (Some answers.Io))
after_own state caller call (event.GiveUp by sub number) = at_stage call (with_part call.stage GaveUp)

-- a caller's call after an event of another caller: only a commit that is done changes it (own)
abbrev pub after_other : State → ℕ → Call → Event → Call
after_other state caller call (event.RootDone by) = covered_by (is_covered_by_root state call.stage) covers.Root call
after_other state caller call (event.FullDone by) = covered_by (is_covered_by_full state caller call.stage) covers.Full call
after_other state caller call event = call

-- the caller that makes an event
abbrev pub caller_of : Event → ℕ
caller_of (event.Op caller op again end indexes) = caller
caller_of (event.Refused caller target answer) = caller
caller_of (event.Log caller sub ino end datasync) = caller
caller_of (event.Ask caller) = caller
caller_of (event.SealSub caller sub number) = caller
caller_of (event.SubWritten caller sub number) = caller
caller_of (event.SealRoot caller) = caller
caller_of (event.RootDone caller) = caller
caller_of (event.SealFull caller) = caller
caller_of (event.FullDone caller) = caller
caller_of (event.Failed caller turn tried) = caller
caller_of (event.GiveUp caller sub number) = caller

-- a caller's call after an event, whose state before it is this one (own)
abbrev pub call_after : State → ℕ → Call → Event → Call
call_after state caller call event = cond (nat_eq caller (caller_of event)) (after_own state caller call event) (after_other state caller call event)

-- a caller's call after these events, from this state and this call on (own)
abbrev pub call_after_all : State → ℕ → Call → List Event → Call
call_after_all state caller call [] = call
call_after_all state caller call (event ∷ events) = call_after_all (after state event) caller (call_after state caller call event) events

-- a caller's call after these events on a volume that was mounted (own)
abbrev pub call_of : Volume → List Event → ℕ → Call
call_of volume events caller = call_after_all (mounted_state volume) caller no_call events

-- ---- what a call does next

-- What the rules give a call as its next event: the first of a new call; a second try of an operation; the end of the device work that it was handed out in
-- a turn; the seal of its number, of the log roots or of the volume, for which it may have to wait; to give up its slot; or to ask for a full commit (own).
pub data Duty : Type 0 where
  Begins : Duty
  TriesAgain : Op → Duty
  EndsPart : (sub number : ℕ) → Duty
  EndsRoot : Duty
  EndsFull : Duty
  SealsSub : (sub number : ℕ) → Duty
  SealsRoot : Duty
  SealsFull : Duty
  GivesUp : (sub number : ℕ) → Duty
  Asks : Duty

-- the open number of a subvolume, where it is there
abbrev pub open_number_of : State → ℕ → Option ℕ
open_number_of state id = elim (get state.logs id) [ None ↦ None | Some log ↦ Some log.open_number ]

-- whether this number is the subvolume's open one
abbrev pub is_open_number : State → ℕ → ℕ → Bool
is_open_number state id number = elim (open_number_of state id) [ None ↦ false | Some own ↦ nat_eq own number ]

-- Whether a call whose ticket isn't covered has to go the way of a full commit: a failure stands, and no root commit that runs takes its number (own).
abbrev pub is_stopped : State → ℕ → ℕ → Bool
is_stopped state sub number = nat_lt 0 state.failures && not (is_taken state.root sub number)

-- what a call does next whose ticket isn't covered (own)
abbrev pub ticket_duty : State → ℕ → ℕ → Part → Duty
ticket_duty state sub number Unsealed = cond (is_stopped state sub number) Asks (cond (is_open_number state sub number) (SealsSub sub number) SealsRoot)
ticket_duty state sub number Sealed = EndsPart sub number
ticket_duty state sub number Written = cond (is_stopped state sub number) (GivesUp sub number) SealsRoot
ticket_duty state sub number InRoot = EndsRoot
ticket_duty state sub number GaveUp = Asks

-- what a call does next that wants a full commit
abbrev pub want_duty : Bool → Duty
want_duty sealed = cond sealed EndsFull SealsFull

-- what a call does next (own)
abbrev pub duty : State → Call → Duty
duty state call = elim call.cover [
  | covers.Open ↦ elim call.stage [
    | Ended answer ↦ Begins
    | WasShort op sealed ↦ want_duty sealed
    | HasTicket sub number part ↦ ticket_duty state sub number part
    | Commits reason sealed ↦ want_duty sealed
    | Syncs sealed ↦ want_duty sealed
  ]
  | covers.Root ↦ Begins
  | covers.Full ↦ elim call.stage [ WasShort op sealed ↦ TriesAgain op | _ ↦ Begins ]
]

-- An event is the one that a duty gives its caller. A part that was written while a failure stands is given up (own).
pub data IsDone (state : State) (caller : ℕ) : Duty → Event → Type 0 where
  Operates : (op : Op) (end : OpEnd) (indexes : List ℕ) → IsDone state caller Begins (event.Op caller op false end indexes)
  Refuses : {target : Rattle.flat_model.specs.declared.place.Place.Place} (answer : Answer) → IsDone state caller Begins (event.Refused caller target answer)
  Logs : {sub : Rattle.blk_base.specs.declared.key.SubId.SubId} {ino : Rattle.blk_base.specs.declared.key.Ino.Ino} (end : Logged) (datasync : Bool) → IsDone state caller Begins (event.Log caller sub ino end datasync)
  AsksFirst : IsDone state caller Begins (event.Ask caller)
  OperatesAgain : (op : Op) (end : OpEnd) (indexes : List ℕ) → IsDone state caller (TriesAgain op) (event.Op caller op true end indexes)
  PartWritten : (sub number : ℕ) → state.failures ≡ 0 → IsDone state caller (EndsPart sub number) (event.SubWritten caller (record { 0 = sub }) number)
  PartGivenUp : (sub number : ℕ) → 0 < state.failures → IsDone state caller (EndsPart sub number) (event.GiveUp caller (record { 0 = sub }) number)
  PartFailed : (sub number : ℕ) → IsDone state caller (EndsPart sub number) (event.Failed caller (turns.Slot (record { 0 = sub }) (number % 2)) false)
  RootWritten : IsDone state caller EndsRoot (event.RootDone caller)
  RootFailed : (tried : Bool) → IsDone state caller EndsRoot (event.Failed caller turns.Root tried)
  FullWritten : IsDone state caller EndsFull (event.FullDone caller)
  FullFailed : (tried : Bool) → IsDone state caller EndsFull (event.Failed caller turns.Full tried)
  SealsPart : (sub number : ℕ) → IsDone state caller (SealsSub sub number) (event.SealSub caller (record { 0 = sub }) number)
  SealsLogs : IsDone state caller SealsRoot (event.SealRoot caller)
  SealsVolume : IsDone state caller SealsFull (event.SealFull caller)
  GivesSlotUp : (sub number : ℕ) → IsDone state caller (GivesUp sub number) (event.GiveUp caller (record { 0 = sub }) number)
  AsksForFull : IsDone state caller Asks (event.Ask caller)

-- each event is the one that the rules give its caller's call; `calls` has the call of each caller before the first (own)
abbrev pub FollowsRules : State → (ℕ → Call) → List Event → Type 0
FollowsRules state calls [] = ⊤
FollowsRules state calls (event ∷ events) =
    IsDone state (caller_of event) (duty state (calls (caller_of event))) event
    × FollowsRules (after state event) (λ caller. call_after state caller (calls caller) event) events

-- these events, after the mount of a volume, are those that the rules give each caller's calls (own)
abbrev pub IsRuled : Volume → List Event → Type 0
IsRuled volume events = FollowsRules (mounted_state volume) (λ caller. no_call) events
