-- What a call on a volume comes to, from its begin to its end.
use Rattle.std.specs.Prelude.{◌≡◌, ◌≤◌, ◌<◌, ◌+◌, ◌⊎◌, ℕ, List, [], ◌∷◌, ◌++◌, All, Bool, true, length, Some, ⊤}
use Rattle.call_steps.specs.Steps.{IsFirst}
use Rattle.commit_core.specs.Coming.{call_in, state_of}
use Rattle.commit_core.specs.Sealed.{CommitsStandWhole}
use Rattle.commit_device.specs.Calls.{AreTold, calls_of}
use Rattle.commit_history.specs.Calls.{answer_of, caller_of}
use Rattle.commit_history.specs.declared.event.Event.TheVariants as event
use Rattle.commit_history.specs.declared.event.OpEnd.TheVariants as ends
use Rattle.commit_history.specs.declared.event.Turn.TheVariants as turns
use Rattle.commit_history.specs.Legal.{shown}
use Rattle.commit_images.specs.Admissible.{AreAdmissible}
use Rattle.commit_images.specs.Scene.{Comes, Happening, Mounted, Nothing, scene_behind}
use Rattle.commit_room.specs.Items.{data_blocks, trees_room}
use Rattle.disk_model.specs.Disk.{Call, GoesOn, HasRisen}
use Rattle.flat_model.specs.declared.answer.Answer.{Answer}
use Rattle.flat_model.specs.declared.answer.Answer.TheVariants as answers
use Rattle.flat_model.specs.declared.op.Op.{Op}
use Rattle.flat_model.specs.declared.request.Request.{Request}
use Rattle.flat_model.specs.declared.request.Request.TheVariants as requests
use Rattle.flat_model.specs.Needs.{need}
use Rattle.flat_model.specs.Step.{step}
use Rattle.flat_model.specs.Volume.{RunVolume, volume_of}
use Rattle.volume_calls.specs.Between.{Between}

-- an event is of this caller's call; a call of the device is nobody's
abbrev pub IsOfCaller : ℕ → Happening → Type 0
IsOfCaller caller (Comes event handed) = caller_of event ≡ caller
IsOfCaller caller other = ⊤

-- These happened: events of this caller's call alone and calls of the device, all of which might come. Each commit that was handed out stands for its volume by what it reaches, and
-- the disk's record went on by the calls that they are, but perhaps for writes of superblocks that failed; the volume has as many blocks as before (own).
pub record HaveHappened (mounted : Mounted) (caller : ℕ) (before after : Between) (happenings : List Happening) : Type 0 where
  pub added : List Call
  pub admissible : AreAdmissible mounted before.scene happenings
  pub behind : after.scene ≡ scene_behind mounted.volume before.scene happenings
  pub commits : CommitsStandWhole (length mounted.image) happenings
  pub own : All (IsOfCaller caller) happenings
  pub goes_on : GoesOn before.told after.told added
  pub told : AreTold (calls_of mounted.volume before.scene happenings) added
  pub counted : before.faults ≤ after.faults
  pub blocks : after.blocks ≡ before.blocks

-- the first of them is the event with which a call of this request begins: the operation's first try, or a sync's asking (own)
abbrev pub BeginWith : Request → List Happening → Type 0
BeginWith request [] = ⊥
BeginWith request (Comes event handed ∷ happenings) = IsFirst request event
BeginWith request (other ∷ happenings) = ⊥

-- A volume of so many blocks has too little room for an operation: fewer blocks are free than it needs on the current volume. And of all but 82 no more are in use
-- than the current volume's data blocks and the most that its trees may have (own).
pub record LacksRoom (blocks : ℕ) (current : RunVolume) (op : Op) (free needed : ℕ) : Type 0 where
  pub too_few : free < needed
  pub of_op : needed ≡ need current op
  pub has_free : blocks ≤ free + (82 + (data_blocks (volume_of current) + trees_room (volume_of current)))

-- The last of them answers the call. An operation answers what its definition does, its bytes too, or that there is too little room, once it was short again
-- right behind a full commit; a sync that its full commit is done; and either that the device failed in the full commit which it ran (own).
pub data EndWith (mounted : Mounted) (before : Between) (caller : ℕ) : Request → Answer → List Happening → Type 0 where
  Operated : (op : Op) (again : Bool) (indexes : List ℕ) (answer : Answer) (front : List Happening)
      → answer ≡ (step (state_of mounted (scene_behind mounted.volume before.scene front)).current op indexes).answer
      → EndWith mounted before caller (requests.Op op) answer
      (front ++ Comes (event.Op caller op again (ends.Answered (shown answer)) indexes) Nothing ∷ [])
  LackedRoom : (op : Op) (free needed : ℕ) (indexes : List ℕ) (front : List Happening)
      → LacksRoom before.blocks (state_of mounted (scene_behind mounted.volume before.scene front)).current op free needed
      → EndWith mounted before caller (requests.Op op) (answers.NoSpace free needed)
      (front ++ Comes (event.Op caller op true (ends.Short free needed) indexes) Nothing ∷ [])
  Synced : (front : List Happening) → EndWith mounted before caller requests.Sync answers.Sync (front ++ Comes (event.FullDone caller) Nothing ∷ [])
  DeviceFailed : {request : Request} (tried : Bool) (front : List Happening)
      → EndWith mounted before caller request answers.Io (front ++ Comes (event.Failed caller turns.Full tried) Nothing ∷ [])

-- A call was made and has this answer, by its own events in their order; Io is the answer only where the disk's count of faults rose in this call (own).
pub record IsCalled (mounted : Mounted) (caller : ℕ) (request : Request) (answer : Answer) (before after : Between) : Type 0 where
  pub happenings : List Happening
  pub happened : HaveHappened mounted caller before after happenings
  pub begins : BeginWith request happenings
  pub ends : EndWith mounted before caller request answer happenings
  pub says : answer_of (call_in mounted after.scene caller) ≡ Some (shown answer)
  pub io : answer ≡ answers.Io → HasRisen before.faults after.faults

-- Memory lacked in a call: it has made no event, or some and has no answer (own).
pub record IsLeft (mounted : Mounted) (caller : ℕ) (request : Request) (before after : Between) : Type 0 where
  pub happenings : List Happening
  pub happened : HaveHappened mounted caller before after happenings
  pub begins : (happenings ≡ []) ⊎ BeginWith request happenings
