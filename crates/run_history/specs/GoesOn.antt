-- A call of the device changes nothing of what a recorder keeps.
use Rattle.std.proofs.Common.{◌≡◌, ℕ, Bool, List, [], ◌∷◌, Option, Some, None, refl, sym, subst, ◌∙◌}
use Rattle.commit_history.specs.declared.event.Event.{Event}
use Rattle.commit_history.specs.Effects.{state_of as state_behind}
use Rattle.commit_core.specs.Coming.{IsDeviceCall}
use Rattle.commit_images.specs.Scene.{Commit, Comes, Flushes, Happening, Mounted, Scene, Writes, WritesAgain, WritesSuper, scene_after, scene_after_again, scene_after_super, state_in}
use Rattle.run_history.specs.Recorded.{HasRoom, IsRecorded}
use Rattle.run_history.specs.Seen.{SeenRun}

super_events : (mounted : Mounted) (scene : Scene) (batch : Option Commit) (ok : Bool) (left : List ℕ)
    → (scene_after_super (state_in mounted.volume scene) scene batch ok left).events ≡ scene.events
super_events mounted scene None ok left = refl
super_events mounted scene (Some commit) ok left = refl

again_events : (scene : Scene) (found : List Commit) (ok : Bool) (left : List ℕ) → (scene_after_again scene found ok left).events ≡ scene.events
again_events scene [] ok left = refl
again_events scene (commit ∷ found) ok left = refl

-- no event comes by it
pub call_events : (mounted : Mounted) (scene : Scene) (happening : Happening) → IsDeviceCall happening
    → (scene_after mounted.volume scene happening).events ≡ scene.events
call_events mounted scene (Comes event handed) call = absurd call
call_events mounted scene (Writes at bytes ok left) call = refl
call_events mounted scene (Flushes ok) call = refl
call_events mounted scene (WritesSuper ok left) call = super_events mounted scene scene.batch ok left
call_events mounted scene (WritesAgain ok left) call = again_events scene scene.found ok left

-- what a recorder keeps still goes with what happened, where what its core keeps does
pub device_goes_on : (Has : Mounted → Scene → Type 0) (run : SeenRun) (mounted : Mounted) (scene : Scene) (happening : Happening)
    → IsRecorded Has run mounted scene → IsDeviceCall happening → Has mounted (scene_after mounted.volume scene happening) → IsRecorded Has run mounted (scene_after mounted.volume scene happening)
device_goes_on Has run mounted scene happening h call core =
    let same : scene.events ≡ (scene_after mounted.volume scene happening).events = sym (call_events mounted scene happening call) in
    record {
      core = core;
      events = h.events ∙ same;
      room = subst (λ (events : List Event). HasRoom run.spare (state_behind mounted.volume events)) same h.room;
    }
