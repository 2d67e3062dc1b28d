-- A call of the device changes nothing of what a volume keeps.
use Rattle.std.proofs.Common.{◌≡◌, ℕ, Bool, List, [], ◌∷◌, Option, Some, None, refl, sym, subst, ◌∙◌}
use Rattle.commit_history.specs.declared.event.Event.{Event}
use Rattle.commit_history.specs.Effects.{state_of as state_behind}
use Rattle.commit_core.specs.Coming.{IsDeviceCall, state_of}
use Rattle.commit_images.specs.Admissible.{MayHappen}
use Rattle.commit_images.specs.Scene.{Commit, Comes, Flushes, Happening, Mounted, Scene, Writes, WritesAgain, WritesSuper, scene_after, scene_after_again, scene_after_super, state_in}
use Rattle.commit_callers.specs.GoWith.{GoWith}
use Rattle.commit_blocks.specs.Keeps.{KeepsBlocks}
use Rattle.commit_blocks.proofs.DeviceCalls.{device_keeps}
use Rattle.volume_core.specs.declared.volume.Volume.{Volume}
use Rattle.volume_core.specs.Keeps.{IsVolume, RunsAlike}

super_events : (mounted : Mounted) (scene : Scene) (batch : Option Commit) → (ok : Bool) (left : List ℕ) → (scene_after_super (state_in mounted.volume scene) scene batch ok left).events ≡ scene.events
super_events mounted scene None ok left = refl
super_events mounted scene (Some commit) ok left = refl

again_events : (scene : Scene) (found : List Commit) → (ok : Bool) (left : List ℕ) → (scene_after_again scene found ok left).events ≡ scene.events
again_events scene [] ok left = refl
again_events scene (commit ∷ found) ok left = refl

-- no event comes by it
pub call_events : (mounted : Mounted) (scene : Scene) (happening : Happening) → IsDeviceCall happening → (scene_after mounted.volume scene happening).events ≡ scene.events
call_events mounted scene (Comes event handed) call = absurd call
call_events mounted scene (Writes at bytes ok left) call = refl
call_events mounted scene (Flushes ok) call = refl
call_events mounted scene (WritesSuper ok left) call = super_events mounted scene scene.batch ok left
call_events mounted scene (WritesAgain ok left) call = again_events scene scene.found ok left

pub device_goes_on : (volume : Volume) (mounted : Mounted) (scene : Scene) (happening : Happening) → IsVolume volume mounted scene → IsDeviceCall happening → MayHappen mounted scene happening → IsVolume volume mounted (scene_after mounted.volume scene happening)
device_goes_on volume mounted scene happening h call may =
    let next : Scene = scene_after mounted.volume scene happening in
    let same : scene.events ≡ next.events = sym (call_events mounted scene happening call) in
    record {
      kept = subst (λ (events : List Event). KeepsBlocks volume.kept mounted.image (state_behind mounted.volume events).current next) same
          (device_keeps volume.kept mounted.image (state_of mounted scene).current mounted scene happening h.kept call may);
      callers = subst (GoWith volume.callers mounted.volume) same h.callers;
      turn = subst (λ (events : List Event). RunsAlike (state_behind mounted.volume events).full volume.kept.sealed) same h.turn;
      failures = subst (λ (events : List Event). volume.failures ≡ (state_behind mounted.volume events).failures) same h.failures;
      counted = h.counted;
      spares = h.spares;
      just = λ caller sealed. h.just caller (sealed.0, same ∙ sealed.1);
    }
