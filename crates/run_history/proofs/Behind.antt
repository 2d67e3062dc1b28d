-- What a recorder keeps behind one event more.
use Rattle.std.proofs.Common.{◌≡◌, ◌≤◌, ℕ, Bool, List, [], ◌∷◌, ◌++◌, sym, ap, subst, ◌∙◌}
use Rattle.flat_model.specs.declared.op.Op.{Op}
use Rattle.commit_history.specs.declared.event.Event.{Event}
use Rattle.commit_history.specs.declared.event.Event.TheVariants as event
use Rattle.commit_history.specs.declared.event.OpEnd.{OpEnd}
use Rattle.commit_history.specs.Effects.{after}
use Rattle.commit_history.specs.State.{mounted_state}
use Rattle.commit_images.specs.Scene.{Comes, Handed, Mounted, Scene, scene_after}
use Rattle.commit_images.proofs.Behind.{state_behind}
use Rattle.commit_core.specs.Coming.{HasCome, state_of}
use Rattle.run_history.specs.Recorded.{HasRoom, IsRecorded}
use Rattle.run_history.specs.Seen.{SeenRun}
use Rattle.run_history.proofs.Room.{more_room}

module _ (Has Next : Mounted → Scene → Type 0) (old new : SeenRun) (mounted : Mounted) (scene : Scene) (came : Event) (handed : Handed) where
  pub recorded_behind : IsRecorded Has old mounted scene → Next mounted (scene_after mounted.volume scene (Comes came handed)) → new.events ≡ old.events ++ came ∷ []
      → HasRoom new.spare (after (state_of mounted scene) came) → IsRecorded Next new mounted (scene_after mounted.volume scene (Comes came handed))
  recorded_behind h core pushed room = record {
    core = core;
    events = pushed ∙ ap (λ (events : List Event). events ++ came ∷ []) h.events;
    room = subst (HasRoom new.spare) (sym (state_behind (mounted_state mounted.volume) scene.events came)) room;
  }

  pub has_come : IsRecorded Has old mounted scene → HasCome Next mounted scene came handed → new.events ≡ old.events ++ came ∷ [] → HasRoom new.spare (after (state_of mounted scene) came)
      → HasCome (IsRecorded Next new) mounted scene came handed
  has_come h come pushed room = record {
    may = come.may;
    has = recorded_behind h come.has pushed room;
  }

-- more room changes nothing else
pub with_room : (Has : Mounted → Scene → Type 0) (old new : SeenRun) (mounted : Mounted) (scene : Scene) → IsRecorded Has old mounted scene → new.events ≡ old.events → old.spare ≤ new.spare
    → IsRecorded Has new mounted scene
with_room Has old new mounted scene h same more = record {
  core = h.core;
  events = same ∙ h.events;
  room = more_room (state_of mounted scene) old.spare new.spare h.room more;
}

-- an operation's event, put together of what equals its parts
pub same_op : (caller : ℕ) (copy op : Op) (again : Bool) (end shown : OpEnd) (indexes made : List ℕ) → copy ≡ op → end ≡ shown → indexes ≡ made
    → event.Op caller copy again end indexes ≡ event.Op caller op again shown made
same_op caller copy op again end shown indexes made copied told is =
    ap (λ (o : Op). event.Op caller o again end indexes) copied
    ∙ ap (λ (e : OpEnd). event.Op caller op again e indexes) told
    ∙ ap (λ (i : List ℕ). event.Op caller op again shown i) is
