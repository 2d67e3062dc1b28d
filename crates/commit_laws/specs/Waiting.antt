-- Which calls haven't finished, what they hold, and whether the next step of a call has to wait.
use Rattle.std.specs.Prelude.{◌≡◌, ◌≢◌, ℕ, ◌<◌, true, List, [], None, Contains}
use Rattle.flat_model.specs.Volume.{Volume}
use Rattle.commit_history.specs.declared.event.Event.{Event}
use Rattle.commit_history.specs.declared.event.Event.TheVariants as event
use Rattle.commit_history.specs.declared.event.OpEnd.{OpEnd}
use Rattle.commit_history.specs.State.{Slot, SubLog, State, HasLog}
use Rattle.commit_history.specs.Effects.{state_of}
use Rattle.commit_history.specs.Legal.{MayCome, HoldsRoot, HoldsFull}
use Rattle.commit_history.specs.Calls.{Call, answer_of, call_of, Duty, Begins, TriesAgain, EndsPart, EndsRoot, EndsFull, SealsSub, SealsRoot, SealsFull, GivesUp, Asks, duty, IsDone}

-- a call has made an event, and hasn't got its answer yet
pub record IsUnfinished (call : Call) : Type 0 where
  pub has_begun : 0 < call.events
  pub has_no_answer : answer_of call ≡ None

-- a caller's call after these events hasn't finished
abbrev pub HasUnfinished : Volume → List Event → ℕ → Type 0
HasUnfinished volume events caller = IsUnfinished (call_of volume events caller)

-- a caller holds no turn and no slot, and wants no full commit
pub record HoldsNothing (state : State) (caller : ℕ) : Type 0 where
  pub no_root : HoldsRoot state caller → ⊥
  pub no_full : HoldsFull state caller → ⊥
  pub no_slot : (id : ℕ) (log : SubLog) (slot : Slot) → HasLog state id log → Contains log.slots slot → slot.holder ≢ caller
  pub no_want : Contains state.wants caller → ⊥

-- the full turn is free and not wanted, so that the first event of an fsync may come
pub record IsFullUnwanted (state : State) : Type 0 where
  pub is_free : state.full ≡ None
  pub is_not_wanted : state.wants ≡ []

-- The next step of a caller's call doesn't wait: each event that its rules give it may come, whichever way the device work ends that it was handed out. The
-- second try of an operation may come in one way at least: its answer and its choice of indexes are free (own).
abbrev pub DoesNotWait : State → ℕ → Duty → Type 0
DoesNotWait state caller Begins = ⊥
DoesNotWait state caller (TriesAgain op) = (end : OpEnd) × (indexes : List ℕ) × MayCome state (event.Op caller op true end indexes)
DoesNotWait state caller (EndsPart sub number) = (event : Event) → IsDone state caller (EndsPart sub number) event → MayCome state event
DoesNotWait state caller EndsRoot = (event : Event) → IsDone state caller EndsRoot event → MayCome state event
DoesNotWait state caller EndsFull = (event : Event) → IsDone state caller EndsFull event → MayCome state event
DoesNotWait state caller (SealsSub sub number) = (event : Event) → IsDone state caller (SealsSub sub number) event → MayCome state event
DoesNotWait state caller SealsRoot = (event : Event) → IsDone state caller SealsRoot event → MayCome state event
DoesNotWait state caller SealsFull = (event : Event) → IsDone state caller SealsFull event → MayCome state event
DoesNotWait state caller (GivesUp sub number) = (event : Event) → IsDone state caller (GivesUp sub number) event → MayCome state event
DoesNotWait state caller Asks = (event : Event) → IsDone state caller Asks event → MayCome state event

-- after these events some caller's call hasn't finished, and its next step doesn't wait
pub record SomeoneGoesOn (volume : Volume) (events : List Event) : Type 0 where
  pub caller : ℕ
  pub unfinished : HasUnfinished volume events caller
  pub goes_on : DoesNotWait (state_of volume events) caller (duty (state_of volume events) (call_of volume events caller))
