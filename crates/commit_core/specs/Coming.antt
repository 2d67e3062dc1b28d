-- What it means that an event came to a core, by what happened on the volume before.
use Rattle.std.specs.Prelude.{◌≡◌, ◌/◌, ℕ, Bool, List, Option, map, ⊤}
use Rattle.blk_base.specs.Trees.{AtBlock}
use Rattle.flat_model.specs.declared.answer.Answer.{Answer}
use Rattle.flat_model.specs.declared.op.Op.{Op}
use Rattle.flat_model.specs.Step.{step}
use Rattle.commit_history.specs.declared.event.Event.{Event}
use Rattle.commit_history.specs.declared.event.Event.TheVariants as event
use Rattle.commit_history.specs.declared.event.OpEnd.{OpEnd}
use Rattle.commit_history.specs.declared.event.OpEnd.TheVariants as ends
use Rattle.commit_history.specs.Calls.{Call, Ended, call_of}
use Rattle.commit_history.specs.Legal.{shown}
use Rattle.commit_history.specs.State.{State}
use Rattle.commit_images.specs.Admissible.{MayHappen}
use Rattle.commit_images.specs.Scene.{Comes, Flushes, Handed, Happening, Mounted, Nothing, Scene, Writes, WritesAgain, WritesSuper, scene_after, state_in}

-- the state of the volume that was mounted, behind what happened (own)
abbrev pub state_of : Mounted → Scene → State
state_of mounted scene = state_in mounted.volume scene

-- where a caller's call stands behind what happened (own)
abbrev pub call_in : Mounted → Scene → ℕ → Call
call_in mounted scene caller = call_of mounted.volume scene.events caller

-- a happening is a call of the device
abbrev pub IsDeviceCall : Happening → Type 0
IsDeviceCall (Comes event handed) = ⊥
IsDeviceCall (Writes at bytes ok left) = ⊤
IsDeviceCall (Flushes ok) = ⊤
IsDeviceCall (WritesSuper ok left) = ⊤
IsDeviceCall (WritesAgain ok left) = ⊤

-- An event came, and this was handed out: it might come, and what the core keeps goes with what happened then (own).
pub record HasCome (Has : Mounted → Scene → Type 0) (mounted : Mounted) (scene : Scene) (came : Event) (handed : Handed) : Type 0 where
  pub may : MayHappen mounted scene (Comes came handed)
  pub has : Has mounted (scene_after mounted.volume scene (Comes came handed))

-- how an operation ended, as events show it: without the bytes of its answer
abbrev pub shown_end : OpEnd → OpEnd
shown_end (ends.Answered answer) = ends.Answered (shown answer)
shown_end (ends.Short free need) = ends.Short free need

-- The event of an operation came, and its answer is the one of the definition, its bytes too (own).
pub record IsOpDone (Has : Mounted → Scene → Type 0) (mounted : Mounted) (scene : Scene) (caller : ℕ) (op : Op) (again : Bool) (end : OpEnd) (indexes : List ℕ) : Type 0 where
  pub came : HasCome Has mounted scene (event.Op caller op again (shown_end end) indexes) Nothing
  pub said : (answer : Answer) → end ≡ ends.Answered answer → answer ≡ (step (state_of mounted scene).current op indexes).answer

-- a call has begun and hasn't finished by an event of its own
abbrev pub IsUnfinished : Call → Type 0
IsUnfinished call = (answer : Option Answer) → call.stage ≡ Ended answer → ⊥

-- the blocks of a list, each under its number
abbrev pub numbered : List AtBlock → List (ℕ × List ℕ)
numbered pairs = map (λ pair. (pair.0.0 / 4096, pair.1)) pairs
