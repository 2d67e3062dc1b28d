-- What is known of the history of a volume whose callers follow the rules.
use Rattle.std.specs.Prelude.{◌≡◌, ℕ, [], None}
use Rattle.flat_model.specs.Coherent.{IsCoherentVolume}
use Rattle.commit_history.specs.State.{HasLog, State, SubLog}
use Rattle.commit_history.specs.Legal.{IsLegal}
use Rattle.commit_history.specs.Calls.{IsRuled}
use Rattle.commit_images.specs.Scene.{Mounted, Scene}
use Rattle.commit_core.specs.Coming.{state_of}

-- no commit of logs runs: no slot is busy, and the root turn is free
pub record AreLogsFree (state : State) : Type 0 where
  pub no_slot_is_busy : (id : ℕ) (log : SubLog) → HasLog state id log → log.slots ≡ []
  pub root_is_free : state.root ≡ None

-- A coherent volume was mounted, the events since then might come, each of them was the one that the rules give its caller's call, and no commit of logs runs
-- (own).
pub record IsOrderly (mounted : Mounted) (scene : Scene) : Type 0 where
  pub coherent : IsCoherentVolume mounted.volume
  pub legal : IsLegal mounted.volume scene.events
  pub ruled : IsRuled mounted.volume scene.events
  pub logs_free : AreLogsFree (state_of mounted scene)
