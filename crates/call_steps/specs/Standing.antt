-- Where a call on a volume stands in the history of its caller.
use Rattle.std.specs.Prelude.{◌≡◌, ◌≤◌, ◌⊎◌, Bool, Some, None, ⊤}
use Rattle.flat_model.specs.declared.answer.Answer.{Answer}
use Rattle.flat_model.specs.declared.request.Request.{Request}
use Rattle.flat_model.specs.declared.request.Request.TheVariants as requests
use Rattle.flat_model.specs.Step.{IsInLimits}
use Rattle.commit_history.specs.Calls as history
use Rattle.commit_history.specs.Calls.{Ended, WasShort, Syncs, answer_of}
use Rattle.call_steps.specs.declared.call.Call.{Call}
use Rattle.call_steps.specs.declared.call.Stage.{Stage}
use Rattle.call_steps.specs.declared.call.Stage.TheVariants as stages

-- a request that a call may be begun with: an operation in its limits, or a sync (own)
abbrev pub IsAllowed : Request → Type 0
IsAllowed (requests.Op op) = IsInLimits op
IsAllowed (requests.Fsync place) = ⊥
IsAllowed (requests.Fdatasync place) = ⊥
IsAllowed requests.Sync = ⊤

-- a caller's call has finished, or the caller has made none: its next event is the first of a new call (own)
abbrev pub IsOver : history.Call → Type 0
IsOver call = (call.stage ≡ Ended None) ⊎ ((answer : Answer) × (answer_of call ≡ Some answer))

-- an operation that was short, or a sync that asked, at this stage: `sealed` where it runs the full commit or has run it
abbrev pub WantsFull : Request → history.Stage → Type 0
WantsFull (requests.Op op) stage = (sealed : Bool) × (stage ≡ WasShort op sealed)
WantsFull (requests.Fsync place) stage = ⊥
WantsFull (requests.Fdatasync place) stage = ⊥
WantsFull requests.Sync stage = (sealed : Bool) × (stage ≡ Syncs sealed)

-- a call at this stage stands where its caller's call of the history does
abbrev pub StandsAt : Stage → Request → history.Call → Type 0
StandsAt stages.New request call = IsOver call
StandsAt stages.Wants request call = WantsFull request call.stage
StandsAt stages.Finished request call = IsOver call

-- A call stands where its caller's call of the history does: before its first event, where it waits for a full commit, or at its end. The caller is one of 1 to
-- 16, and the request is allowed (own).
pub record IsAt (call : Call) (past : history.Call) : Type 0 where
  pub from_one : 1 ≤ call.caller
  pub to_sixteen : call.caller ≤ 16
  pub allowed : IsAllowed call.request
  pub stands : StandsAt call.stage call.request past

-- a call has made no event
abbrev pub IsNew : Call → Type 0
IsNew call = call.stage ≡ stages.New

-- a call has made an event, and hasn't finished
abbrev pub IsWaiting : Call → Type 0
IsWaiting call = call.stage ≡ stages.Wants

-- a call has finished
abbrev pub IsFinished : Call → Type 0
IsFinished call = call.stage ≡ stages.Finished
