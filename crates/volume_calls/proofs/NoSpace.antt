-- What is known of a call that answers that there is no space.
use Rattle.std.proofs.Common.{◌≡◌, ◌∙◌, ◌||◌, ℕ, true, List, [], ◌∷◌, ◌++◌, refl, sym, ap, subst}
use Rattle.std.proofs.lemmas.Bool.{true≢false}
use Rattle.call_steps.proofs.Behind.{state_behind}
use Rattle.commit_core.specs.Coming.{state_of}
use Rattle.commit_device.proofs.Joined.{behind_joined}
use Rattle.commit_history.specs.declared.event.Event.TheVariants as event
use Rattle.commit_history.specs.declared.event.OpEnd.TheVariants as ends
use Rattle.commit_history.specs.Effects.{after}
use Rattle.commit_history.specs.State.{State}
use Rattle.commit_images.specs.Scene.{Comes, Happening, Mounted, Nothing, Scene, scene_behind}
use Rattle.flat_laws.proofs.Answered.{step_says}
use Rattle.flat_model.specs.declared.answer.Answer.TheVariants as answers
use Rattle.flat_model.specs.declared.op.Op.{Op}
use Rattle.flat_model.specs.declared.request.Request.TheVariants as requests
use Rattle.flat_model.specs.Refusal.{is_done, is_refusal}
use Rattle.flat_model.specs.Step.{step}
use Rattle.flat_model.specs.Volume.{RunVolume}
use Rattle.volume_calls.specs.Between.{Between}
use Rattle.volume_calls.specs.Calls.{EndWith, IsCalled, LackedRoom, LacksRoom, Operated}

-- an operation's definition doesn't answer so
no_step_lacks : (run : RunVolume) (op : Op) (indexes : List ℕ) (free needed : ℕ) → answers.NoSpace free needed ≡ (step run op indexes).answer → ⊥
no_step_lacks run op indexes free needed is = true≢false (sym (step_says run op indexes) ∙ ap (λ a. is_done a || is_refusal a) (sym is))

-- an operation that is short leaves the current volume
short_leaves : (state : State) (caller : ℕ) (op : Op) (free needed : ℕ) (indexes : List ℕ) → (after state (event.Op caller op true (ends.Short free needed) indexes)).current ≡ state.current
unfolding after
short_leaves state caller op free needed indexes = refl

module _ (mounted : Mounted) (caller : ℕ) (before : Between) where
  same_behind : (op : Op) (free needed : ℕ) (indexes : List ℕ) (front : List Happening)
      → (state_of mounted (scene_behind mounted.volume before.scene (front ++ Comes (event.Op caller op true (ends.Short free needed) indexes) Nothing ∷ []))).current
      ≡ (state_of mounted (scene_behind mounted.volume before.scene front)).current
  same_behind op free needed indexes front =
      let e = event.Op caller op true (ends.Short free needed) indexes in
      let mid : Scene = scene_behind mounted.volume before.scene front in
      ap (λ (s : Scene). (state_of mounted s).current) (behind_joined mounted.volume before.scene front (Comes e Nothing ∷ []))
      ∙ ap (λ (s : State). s.current) (state_behind mounted mid e Nothing)
      ∙ short_leaves (state_of mounted mid) caller op free needed indexes

  ended : (op : Op) (free needed : ℕ) (happenings : List Happening) → EndWith mounted before caller (requests.Op op) (answers.NoSpace free needed) happenings
      → LacksRoom before.blocks (state_of mounted (scene_behind mounted.volume before.scene happenings)).current op free needed
  ended op free needed _ (Operated own again indexes answer front is) =
      absurd (no_step_lacks (state_of mounted (scene_behind mounted.volume before.scene front)).current op indexes free needed is)
  ended op free needed _ (LackedRoom own room more indexes front lacks) =
      subst (λ (run : RunVolume). LacksRoom before.blocks run op free needed) (sym (same_behind op free needed indexes front)) lacks

pub no_space : (mounted : Mounted) (caller : ℕ) (op : Op) (free needed : ℕ) (before after : Between) → IsCalled mounted caller (requests.Op op) (answers.NoSpace free needed) before after
    → LacksRoom after.blocks (state_of mounted after.scene).current op free needed
no_space mounted caller op free needed before after called =
    subst (λ (blocks : ℕ). LacksRoom blocks (state_of mounted after.scene).current op free needed) (sym called.happened.blocks)
    (subst (λ (s : Scene). LacksRoom before.blocks (state_of mounted s).current op free needed) (sym called.happened.behind)
    (ended mounted caller before op free needed called.happenings called.ends))
