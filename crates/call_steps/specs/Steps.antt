-- What one turn of a call does.
use Rattle.std.specs.Prelude.{◌≡◌, ◌≢◌, ◌+◌, ◌%◌, ◌^◌, ◌⊎◌, ℕ, true, false, List, [], Option, Some, None, Result, Ok, Err, ⊤}
use Rattle.blk_base.specs.declared.key.Marks.{Marks}
use Rattle.block_table.specs.declared.batch.Batch.{Batch}
use Rattle.disk_model.specs.declared.fault.DeviceFault.{DeviceFault}
use Rattle.disk_model.specs.declared.fault.DeviceFault.TheVariants as faults
use Rattle.flat_model.specs.declared.answer.Answer.{Answer}
use Rattle.flat_model.specs.declared.answer.Answer.TheVariants as answers
use Rattle.flat_model.specs.declared.request.Request.{Request}
use Rattle.flat_model.specs.declared.request.Request.TheVariants as requests
use Rattle.flat_model.specs.Step.{step}
use Rattle.flat_model.specs.Volume.{RunVolume}
use Rattle.commit_history.specs.declared.event.Event.{Event}
use Rattle.commit_history.specs.declared.event.Event.TheVariants as event
use Rattle.commit_history.specs.declared.event.OpEnd.TheVariants as ends
use Rattle.commit_history.specs.declared.event.Turn.{Turn}
use Rattle.commit_history.specs.Calls.{IsDone, SealsFull, answer_of, duty}
use Rattle.commit_history.specs.Legal.{MaySealFull, shown}
use Rattle.commit_images.specs.Scene.{Comes, Handed, IsWritten, Mounted, Nothing, Scene, scene_after}
use Rattle.commit_images.specs.Scene as scenes
use Rattle.commit_core.specs.declared.work.Outcome.{Outcome}
use Rattle.commit_core.specs.declared.work.Work.{Work}
use Rattle.commit_core.specs.declared.work.Work.TheVariants as works
use Rattle.commit_core.specs.Coming.{HasCome, call_in, numbered, state_of}
use Rattle.commit_core.specs.Few.{HasFew}
use Rattle.commit_core.specs.Holding.{HasFailed, IsFullOf, holder_of}
use Rattle.commit_core.specs.Sealed.{HavePlaces, IsSealedFull, SaysCommit}
use Rattle.call_steps.specs.declared.call.Call.{Call}
use Rattle.call_steps.specs.declared.call.Stage.{Stage}
use Rattle.call_steps.specs.declared.call.Stage.TheVariants as stages
use Rattle.call_steps.specs.declared.next.Next.{Next}
use Rattle.call_steps.specs.declared.next.Next.TheVariants as nexts
use Rattle.call_steps.specs.Standing.{IsAt, IsFinished, IsWaiting}
use Rattle.call_steps.specs.Orderly.{IsOrderly}

-- ---- before a turn

-- the device's result goes with what happened: the superblock is written, or it isn't, and whether its write was made (own)
abbrev pub IsResultOf : Scene → Result (Unit {0}) DeviceFault → Type 0
IsResultOf scene (Ok done) = scene.progress ≡ IsWritten
IsResultOf scene (Err (faults.Disk tried)) = HasFailed scene tried

-- the batch of the full commit that the caller runs is back from the device (own)
pub record IsBack (Out : Batch → Type 0) (mounted : Mounted) (scene : Scene) (caller : ℕ) (outcome : Outcome) : Type 0 where
  pub batch : Batch
  pub work : outcome.work ≡ works.Finish batch
  pub out : Out batch
  pub runs : IsFullOf mounted scene caller
  pub result : IsResultOf scene outcome.result

-- work comes back exactly where the caller runs the full commit (own)
abbrev pub ComesBack : (Batch → Type 0) → Mounted → Scene → ℕ → Option Outcome → Type 0
ComesBack Out mounted scene caller None = IsFullOf mounted scene caller → ⊥
ComesBack Out mounted scene caller (Some outcome) = IsBack Out mounted scene caller outcome

-- a call may take a turn (own)
pub record MayStep (Out : Batch → Type 0) (mounted : Mounted) (scene : Scene) (call : Call) (done : Option Outcome) : Type 0 where
  pub orderly : IsOrderly mounted scene
  pub at : IsAt call (call_in mounted scene call.caller)
  pub goes_on : IsFinished call → ⊥
  pub back : ComesBack Out mounted scene call.caller done

-- ---- the event of a turn

-- the first event of a call with this request: the first try of the operation, or a sync's asking
abbrev pub IsFirst : Request → Event → Type 0
IsFirst (requests.Op asked) (event.Op caller op false end indexes) = op ≡ asked
IsFirst requests.Sync (event.Ask caller) = ⊤
IsFirst request other = ⊥

-- a later event: the second try of the operation, or a step of a full commit
abbrev pub IsLater : Request → Event → Type 0
IsLater (requests.Op asked) (event.Op caller op true end indexes) = op ≡ asked
IsLater request (event.SealFull caller) = ⊤
IsLater request (event.FullDone caller) = ⊤
IsLater request (event.Failed caller turn tried) = ⊤
IsLater request other = ⊥

-- an event is of a call at this stage with this request (own)
abbrev pub IsOfCall : Stage → Request → Event → Type 0
IsOfCall stages.New request made = IsFirst request made
IsOfCall stages.Wants request made = IsLater request made
IsOfCall stages.Finished request made = ⊥

-- behind an event a caller runs the full commit exactly where it handed out a batch
abbrev pub RunsWith : Handed → Type 0 → Type 0
RunsWith scenes.Nothing Runs = Runs → ⊥
RunsWith (scenes.Part blocks) Runs = Runs → ⊥
RunsWith (scenes.Batch blocks commit) Runs = Runs

-- an event tells how the work that came back ended; where none came back it doesn't end a commit (own)
abbrev pub EndsBy : Result (Unit {0}) DeviceFault → Event → Type 0
EndsBy (Ok done) (event.FullDone caller) = ⊤
EndsBy (Err (faults.Disk tried)) (event.Failed caller turn told) = told ≡ tried
EndsBy result other = ⊥

abbrev pub TellsEnd : Option Outcome → Event → Type 0
TellsEnd (Some outcome) made = EndsBy outcome.result made
TellsEnd None (event.FullDone caller) = ⊥
TellsEnd None (event.Failed caller turn tried) = ⊥
TellsEnd None other = ⊤

-- A turn of a call made this event: it came, it is the one that the rules give the call, and of what was asked for; and behind it the call stands where the
-- rules put it (own).
pub record HasMade (Has : Mounted → Scene → Type 0) (mounted : Mounted) (scene : Scene) (call next : Call) (done : Option Outcome) (made : Event)
    (handed : Handed) : Type 0 where
  pub came : HasCome Has mounted scene made handed
  pub ruled : IsDone (state_of mounted scene) call.caller (duty (state_of mounted scene) (call_in mounted scene call.caller)) made
  pub asked : IsOfCall call.stage call.request made
  pub tells : TellsEnd done made
  pub stands : IsAt next (call_in mounted (scene_after mounted.volume scene (Comes made handed)) call.caller)
  pub turn : RunsWith handed (IsFullOf mounted (scene_after mounted.volume scene (Comes made handed)) call.caller)
  pub orderly : IsOrderly mounted (scene_after mounted.volume scene (Comes made handed))

-- what a caller's call answers behind an event that handed out nothing
abbrev pub answer_behind : Mounted → Scene → ℕ → Event → Option Answer
answer_behind mounted scene caller made = answer_of (call_in mounted (scene_after mounted.volume scene (Comes made Nothing)) caller)

-- ---- what a turn answers

-- it made an event, and the call hasn't finished by it (own)
pub record HasMoved (Has : Mounted → Scene → Type 0) (mounted : Mounted) (scene : Scene) (call next : Call) (done : Option Outcome) : Type 0 where
  pub event : Event
  pub made : HasMade Has mounted scene call next done event Nothing
  pub goes_on : answer_behind mounted scene call.caller event ≡ None
  pub waits : IsWaiting next

-- it sealed the whole volume, and handed out this batch (own)
pub record HasHandedOut (Has : Mounted → Scene → Type 0) (mounted : Mounted) (scene : Scene) (call next : Call) (done : Option Outcome) (batch : Batch)
    : Type 0 where
  pub sealed : IsSealedFull Has mounted scene call.caller batch
  pub made : HasMade Has mounted scene call next done (event.SealFull call.caller) (scenes.Batch (numbered batch.blocks.pairs) sealed.commit)
  pub waits : IsWaiting next

-- the answer of an operation is the one of the definition, its bytes too, with the indexes of the names that it made; or it tells how many blocks are free
abbrev pub IsSaid : RunVolume → ℕ → List ℕ → Event → Answer → Type 0
IsSaid current free names (event.Op caller op again (ends.Answered told) indexes) answer = (answer ≡ (step current op indexes).answer) × (indexes ≡ names)
IsSaid current free names (event.Op caller op again (ends.Short told need) indexes) answer = (answer ≡ answers.NoSpace told need) × (told ≡ free)
IsSaid current free names other answer = shown answer ≡ answer

-- It made an event by which the call finished, with this answer. Before it so many blocks were free, and these are the indexes of the names that the last
-- operation made (own).
pub record HasAnswered (Has : Mounted → Scene → Type 0) (mounted : Mounted) (scene : Scene) (call next : Call) (done : Option Outcome) (free : ℕ)
    (names : List ℕ) (answer : Answer) : Type 0 where
  pub event : Event
  pub made : HasMade Has mounted scene call next done event Nothing
  pub answers : answer_behind mounted scene call.caller event ≡ Some (shown answer)
  pub said : IsSaid (state_of mounted scene).current free names event answer

-- the call has to seal the whole volume, and may not while another caller holds this turn (own)
pub record HasToWait (mounted : Mounted) (scene : Scene) (caller : ℕ) (turn : Turn) (holder : ℕ) : Type 0 where
  pub next : duty (state_of mounted scene) (call_in mounted scene caller) ≡ SealsFull
  pub may_not : MaySealFull (state_of mounted scene) caller → ⊥
  pub held : holder_of (state_of mounted scene) turn ≡ Some holder
  pub by_other : holder ≢ caller

-- a commit has covered what the call waited for, and that is its answer (own)
pub record IsCovered (mounted : Mounted) (scene : Scene) (call : Call) (answer : Answer) : Type 0 where
  pub waits : IsWaiting call
  pub answers : answer_of (call_in mounted scene call.caller) ≡ Some answer

-- What a turn of a call did, by its answer: it moved on, handed out work, or finished by an event of its own; or it made no event, and waits, or finished since
-- a commit had covered it (own).
abbrev pub HasStepped : (Mounted → Scene → Type 0) → Type 0 → Mounted → Scene → Call → Call → Option Outcome → ℕ → List ℕ → Next → Type 0
HasStepped Has Same mounted scene call next outcome free names nexts.Moved = HasMoved Has mounted scene call next outcome
HasStepped Has Same mounted scene call next outcome free names (nexts.Work (works.Part part)) = ⊥
HasStepped Has Same mounted scene call next outcome free names (nexts.Work (works.Finish batch)) =
    HasHandedOut Has mounted scene call next outcome batch
HasStepped Has Same mounted scene call next outcome free names (nexts.Waits turn holder) =
    Same × (next ≡ call) × HasToWait mounted scene call.caller turn holder
HasStepped Has Same mounted scene call next outcome free names (nexts.Finished answer) =
    HasAnswered Has mounted scene call next outcome free names answer ⊎ (Same × IsCovered mounted scene call answer)

-- a turn's answer ends the call
abbrev pub IsLast : Next → Type 0
IsLast (nexts.Finished answer) = ⊤
IsLast other = ⊥

-- ---- what a turn makes of a core's numbers

-- the batch of a full commit: it has its places, the superblock of a commit, no parts, the seal's number and the marks at the seal
pub record IsFullBatch (count : ℕ) (fsid : List ℕ) (generation seals : ℕ) (marks : Marks) (batch : Batch) : Type 0 where
  pub says : SaysCommit batch.superblock.value count fsid generation
  pub places : HavePlaces count batch.blocks.pairs
  pub full : batch.full ≡ true
  pub parts : batch.parts ≡ []
  pub number : batch.seal ≡ seals + 1
  pub at_seal : batch.marks ≡ marks

-- a batch that is handed out is that of a full commit, and may come back
abbrev pub HandsOut : (Batch → Type 0) → (Batch → Type 0) → Next → Type 0
HandsOut Is Out (nexts.Work (works.Part part)) = ⊥
HandsOut Is Out (nexts.Work (works.Finish batch)) = Is batch × Out batch
HandsOut Is Out other = ⊤

-- the marks once a batch has come back: as at its seal where its superblock is written, or was tried
abbrev pub marks_of : Marks → Work → Result (Unit {0}) DeviceFault → Marks
marks_of marks (works.Part part) result = marks
marks_of marks (works.Finish batch) (Ok done) = record { done = batch.seal; tried = batch.seal; full = batch.seal }
marks_of marks (works.Finish batch) (Err (faults.Disk true)) = record { done = marks.done; tried = batch.seal; full = batch.seal }
marks_of marks (works.Finish batch) (Err (faults.Disk false)) = marks

abbrev pub marks_after : Marks → Option Outcome → Marks
marks_after marks None = marks
marks_after marks (Some outcome) = marks_of marks outcome.work outcome.result

-- how many seals came behind a turn
abbrev pub seals_after : ℕ → Next → ℕ
seals_after seals (nexts.Work work) = seals + 1
seals_after seals other = seals

-- the generation of the next full commit behind a turn
abbrev pub generation_after : ℕ → Next → ℕ
generation_after generation (nexts.Work work) = (generation + 1) % 2 ^ 64
generation_after generation other = generation

-- a batch that is out stays out, but where work comes back or is handed out
abbrev pub StaysOut : Type 0 → Option Outcome → Next → Type 0
StaysOut IsOut (Some outcome) next = ⊤
StaysOut IsOut None (nexts.Work work) = ⊤
StaysOut IsOut None other = IsOut

-- behind the end of a full commit by which the call goes on, this many blocks are few
abbrev pub LeavesFew : Mounted → Scene → ℕ → ℕ → Option Outcome → Next → Type 0
LeavesFew mounted scene caller count None next = ⊤
LeavesFew mounted scene caller count (Some outcome) nexts.Moved = HasFew mounted (scene_after mounted.volume scene (Comes (event.FullDone caller) Nothing)) count
LeavesFew mounted scene caller count (Some outcome) other = ⊤
