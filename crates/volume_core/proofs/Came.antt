-- What each event makes of the state's full commit, its failures and the current volume; and the events of a volume that come.
use Rattle.std.proofs.Common.{◌≡◌, ◌≤◌, ◌+◌, ℕ, Bool, List, [], ◌∷◌, ◌++◌, Option, Some, None, Result, Ok, Err, refl, sym, ap, subst, ◌∙◌, arith}
use Rattle.std.specs.Prelude.{OnErr}
use Rattle.commit_history.specs.declared.event.Event.{Event}
use Rattle.commit_history.specs.declared.event.Event.TheVariants as event
use Rattle.commit_history.specs.declared.event.OpEnd.{OpEnd}
use Rattle.commit_history.specs.declared.event.Turn.TheVariants as turns
use Rattle.commit_history.specs.Effects.{after, operated}
use Rattle.commit_history.specs.Legal.{HoldsFull}
use Rattle.commit_history.specs.State.{State, mounted_state}
use Rattle.commit_images.proofs.Behind.{state_behind}
use Rattle.commit_images.specs.Scene.{Comes, IsWritten, Mounted, Nothing, Scene, scene_after}
use Rattle.commit_core.specs.Coming.{HasCome, state_of}
use Rattle.commit_core.specs.Few.{HasFew}
use Rattle.commit_room.specs.Items.{data_blocks, trees_room}
use Rattle.commit_core.specs.Holding.{HasFailed, IsFullOf}
use Rattle.commit_callers.specs.GoWith.{GoWith}
use Rattle.commit_blocks.specs.declared.kept.Kept.{Kept}
use Rattle.commit_blocks.specs.Keeps.{KeepsBlocks}
use Rattle.commit_blocks.specs.Steps.{HasMoreSpare, IsEnded}
use Rattle.flat_model.specs.declared.op.Op.{Op}
use Rattle.flat_model.specs.Volume.{RunVolume, volume_of}
use Rattle.volume_core.specs.declared.volume.Volume.{Volume}
use Rattle.volume_core.specs.Keeps.{HasSpares, IsJustOut, IsVolume, running_count}
use Rattle.volume_core.proofs.Behind.{batch_gone, ends_goes, event_goes, given_up, runs_out}

-- the current volume, the full commit and the failures stay as they are
pub record LeavesFull (old new : State) : Type 0 where
  pub full : new.full ≡ old.full
  pub failures : new.failures ≡ old.failures

pub asked_leaves : (state : State) (caller : ℕ) → LeavesFull state (after state (event.Ask caller)) × ((after state (event.Ask caller)).current ≡ state.current)
unfolding after
asked_leaves state caller = (record { full = refl; failures = refl }, refl)

pub operated_leaves : (state : State) (caller : ℕ) (op : Op) (again : Bool) (end : OpEnd) (indexes : List ℕ)
    → LeavesFull state (after state (event.Op caller op again end indexes)) × ((after state (event.Op caller op again end indexes)).current ≡ operated state.current op indexes end)
unfolding after
operated_leaves state caller op again end indexes = (record { full = refl; failures = refl }, refl)

pub sealed_full : (state : State) (caller : ℕ) → (after state (event.SealFull caller)).full ≡ Some (record { holder = caller; volume = volume_of state.current; point = state.point; wants = state.wants })
unfolding after
sealed_full state caller = refl

pub sealed_failures : (state : State) (caller : ℕ) → (after state (event.SealFull caller)).failures ≡ state.failures
unfolding after
sealed_failures state caller = refl

pub sealed_current : (state : State) (caller : ℕ) → (after state (event.SealFull caller)).current ≡ state.current
unfolding after
sealed_current state caller = refl

done_full : (state : State) (caller : ℕ) → (after state (event.FullDone caller)).full ≡ None
unfolding after
done_full state caller = refl

done_failures : (state : State) (caller : ℕ) → (after state (event.FullDone caller)).failures ≡ 0
unfolding after
done_failures state caller = refl

done_current : (state : State) (caller : ℕ) → (after state (event.FullDone caller)).current ≡ state.current
unfolding after
done_current state caller = refl

failed_full : (state : State) (caller : ℕ) (tried : Bool) → HoldsFull state caller → (after state (event.Failed caller turns.Full tried)).full ≡ None
unfolding after
failed_full state caller tried holds = given_up state.full holds.commit caller holds.runs holds.own

failed_failures : (state : State) (caller : ℕ) (tried : Bool) → (after state (event.Failed caller turns.Full tried)).failures ≡ state.failures + 1
unfolding after
failed_failures state caller tried = refl

failed_current : (state : State) (caller : ℕ) (tried : Bool) → (after state (event.Failed caller turns.Full tried)).current ≡ state.current
unfolding after
failed_current state caller tried = refl

-- what holds anyway holds after a failure
pub on_err : {A E : Type 0} {P : Type 0} (r : Result A E) → P → OnErr r P
on_err (Ok a) h = tt
on_err (Err e) h = h

-- ---- more buffers

pub same_sealed : (old new : Kept) → HasMoreSpare old new → new.sealed ≡ old.sealed
same_sealed old new more = ap (λ (k : Kept). k.sealed) more.same

pub with_kept : (old : Volume) (kept : Kept) (mounted : Mounted) (scene : Scene) → kept.sealed ≡ old.kept.sealed → (IsJustOut old.kept → IsJustOut kept) → KeepsBlocks kept mounted.image (state_of mounted scene).current scene → IsVolume old mounted scene → IsVolume (record old { kept = kept }) mounted scene
with_kept old kept mounted scene same just keeps h = record {
  kept = keeps;
  callers = h.callers;
  turn = subst (Rattle.volume_core.specs.Keeps.RunsAlike (state_of mounted scene).full) (sym same) h.turn;
  failures = h.failures;
  counted = let was = h.counted in let count = ap running_count same in omega (arith, was, count);
  spares = subst (λ (o : Option Rattle.block_table.specs.declared.tree.Tree.Tree). HasSpares o old.spares) (sym same) h.spares;
  just = λ caller sealed. just (h.just caller sealed);
}

-- ---- events that leave the full commit as it is

module _ (old new : Volume) (mounted : Mounted) (scene : Scene) (h : IsVolume old mounted scene) where
  abbrev before : State
  before = state_of mounted scene

  module _ (sealed : new.kept.sealed ≡ old.kept.sealed) (failures : new.failures ≡ old.failures) (seals : new.seals ≡ old.seals) (spares : new.spares ≡ old.spares) where
    pub ask_comes : (caller : ℕ) → KeepsBlocks new.kept mounted.image before.current scene → GoWith new.callers mounted.volume (scene.events ++ event.Ask caller ∷ []) → IsVolume new mounted (scene_after mounted.volume scene (Comes (event.Ask caller) Nothing))
    ask_comes caller keeps callers =
        let leaves = asked_leaves before caller in
        event_goes old new mounted scene (event.Ask caller) h (λ by is. let both : event.Ask caller ≡ event.SealFull by = is in cc) leaves.0.full leaves.0.failures sealed failures seals spares
        (subst (λ (run : RunVolume). KeepsBlocks new.kept mounted.image run scene) (sym leaves.1) keeps) callers

    pub op_comes : (caller : ℕ) (op : Op) (again : Bool) (end : OpEnd) (indexes : List ℕ) → KeepsBlocks new.kept mounted.image (operated before.current op indexes end) scene
        → GoWith new.callers mounted.volume (scene.events ++ event.Op caller op again end indexes ∷ []) → IsVolume new mounted (scene_after mounted.volume scene (Comes (event.Op caller op again end indexes) Nothing))
    op_comes caller op again end indexes keeps callers =
        let leaves = operated_leaves before caller op again end indexes in
        event_goes old new mounted scene (event.Op caller op again end indexes) h (λ by is. let both : event.Op caller op again end indexes ≡ event.SealFull by = is in cc) leaves.0.full leaves.0.failures sealed failures seals spares
        (subst (λ (run : RunVolume). KeepsBlocks new.kept mounted.image run scene) (sym leaves.1) keeps) callers

  -- ---- the ends of a full commit

  module _ (sealed : new.kept.sealed ≡ None) (spares : HasSpares None new.spares) (seals : new.seals ≡ old.seals) where
    ended : (came : Event) → (after before came).full ≡ None → GoWith new.callers mounted.volume (scene.events ++ came ∷ []) → IsEnded scene (scene_after mounted.volume scene (Comes came Nothing))
    ended came none callers = record { found = refl; handed = refl; batch = batch_gone old new mounted scene came h none callers }

    pub done_comes : (caller : ℕ) → scene.progress ≡ IsWritten → IsFullOf mounted scene caller → new.failures ≡ 0 → ((next : Scene) → IsEnded scene next → KeepsBlocks new.kept mounted.image before.current next)
        → GoWith new.callers mounted.volume (scene.events ++ event.FullDone caller ∷ []) → HasCome (IsVolume new) mounted scene (event.FullDone caller) Nothing
    done_comes caller written holds failures keeps callers = record {
      may = (holds, refl, written);
      has = ends_goes old new mounted scene (event.FullDone caller) h (λ by is. let both : event.FullDone caller ≡ event.SealFull by = is in cc) (done_full before caller) sealed (failures ∙ sym (done_failures before caller)) (omega (arith, failures)) spares
          (subst (λ (run : RunVolume). KeepsBlocks new.kept mounted.image run (scene_after mounted.volume scene (Comes (event.FullDone caller) Nothing))) (sym (done_current before caller)) (keeps _ (ended (event.FullDone caller) (done_full before caller) callers)))
          callers;
    }

    pub failed_comes : (caller : ℕ) (tried : Bool) → HasFailed scene tried → IsFullOf mounted scene caller → new.failures ≡ old.failures + 1 → ((next : Scene) → IsEnded scene next → KeepsBlocks new.kept mounted.image before.current next)
        → GoWith new.callers mounted.volume (scene.events ++ event.Failed caller turns.Full tried ∷ []) → HasCome (IsVolume new) mounted scene (event.Failed caller turns.Full tried) Nothing
    failed_comes caller tried failed holds failures keeps callers =
        let none = failed_full before caller tried holds in
        let runs = runs_out old mounted scene caller h holds in
        let count : running_count old.kept.sealed ≡ 1 = ap running_count runs.1 in
        let was = h.counted in
        let total : new.failures ≡ before.failures + 1 = failures ∙ ap (λ (n : ℕ). n + 1) h.failures in
        record {
          may = (holds, refl, record { not_written = λ some none. failed.not_written; tells = λ some none. failed.tells });
          has = ends_goes old new mounted scene (event.Failed caller turns.Full tried) h (λ by is. let both : event.Failed caller turns.Full tried ≡ event.SealFull by = is in cc) none sealed (total ∙ sym (failed_failures before caller tried)) (omega (arith, failures, was, count, seals)) spares
              (subst (λ (run : RunVolume). KeepsBlocks new.kept mounted.image run (scene_after mounted.volume scene (Comes (event.Failed caller turns.Full tried) Nothing))) (sym (failed_current before caller tried)) (keeps _ (ended (event.Failed caller turns.Full tried) none callers)))
              callers;
        }

-- few blocks are in use behind the end of a full commit
pub done_few : (mounted : Mounted) (scene : Scene) (caller count : ℕ) → count ≤ data_blocks (volume_of (state_of mounted scene).current) + trees_room (volume_of (state_of mounted scene).current)
    → HasFew mounted (scene_after mounted.volume scene (Comes (event.FullDone caller) Nothing)) count
done_few mounted scene caller count few =
    let same = ap (λ (s : State). s.current) (state_behind (mounted_state mounted.volume) scene.events (event.FullDone caller)) ∙ done_current (state_of mounted scene) caller in
    subst (λ (run : RunVolume). count ≤ data_blocks (volume_of run) + trees_room (volume_of run)) (sym same) few
