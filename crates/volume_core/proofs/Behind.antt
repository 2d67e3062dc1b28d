-- What a volume keeps behind an event that hands out nothing.
use Rattle.std.proofs.Common.{◌≡◌, ◌≤◌, ℕ, Bool, cond, List, [], ◌∷◌, ◌++◌, Option, Some, None, refl, sym, ap, subst, ◌∙◌, arith}
use Rattle.std.proofs.lemmas.Bool.{eq-eqb}
use Rattle.blk_base.specs.Bytes.{Image}
use Rattle.block_table.specs.declared.tree.Tree.{Tree}
use Rattle.flat_model.specs.Volume.{Volume as FlatVolume}
use Rattle.commit_history.specs.declared.event.Event.{Event}
use Rattle.commit_history.specs.declared.event.Event.TheVariants as event
use Rattle.commit_history.specs.Effects.{after, full_without}
use Rattle.commit_history.specs.Legal.{HoldsFull, MaySealFull}
use Rattle.commit_history.specs.State.{FullCommit, State}
use Rattle.commit_history.specs.Survival.{next_volumes, volume_by_root}
use Rattle.commit_images.specs.Scene.{Commit, Comes, Mounted, Nothing, Scene, batch_after, scene_after}
use Rattle.commit_images.proofs.Behind.{state_behind}
use Rattle.commit_core.specs.Coming.{state_of}
use Rattle.commit_core.specs.Few.{IsJustSealed}
use Rattle.commit_callers.specs.GoWith.{GoWith}
use Rattle.commit_blocks.specs.Keeps.{IsTurn, KeepsBlocks}
use Rattle.commit_blocks.specs.Steps.{IsRunning}
use Rattle.commit_blocks.proofs.SameScene.{same_blocks}
use Rattle.volume_core.specs.declared.volume.Volume.{Volume}
use Rattle.volume_core.specs.declared.volume.Spares.{Spares}
use Rattle.volume_core.specs.Keeps.{HasSpares, IsJustOut, IsVolume, RunsAlike, running_count}
use Rattle.volume_core.proofs.JustSealed.{same_last}

-- ---- the turn of the full commit

pub none_runs : (full : Option FullCommit) (sealed : Option Tree) → RunsAlike full sealed → full ≡ None → sealed ≡ None
none_runs None None alike none = refl
none_runs None (Some root) alike none = absurd alike
none_runs (Some full) None alike none = absurd alike
none_runs (Some full) (Some root) alike none = (let wrong : Some full ≡ None = none in absurd (Rattle.flat_model.proofs.Maps.some_none full wrong))

pub one_runs : (full : Option FullCommit) (sealed : Option Tree) → RunsAlike full sealed → (commit : FullCommit) → full ≡ Some commit → (root : Tree) × (sealed ≡ Some root)
one_runs None None alike commit is = absurd (Rattle.flat_model.proofs.Maps.some_none commit (sym is))
one_runs None (Some root) alike commit is = absurd alike
one_runs (Some full) None alike commit is = absurd alike
one_runs (Some full) (Some root) alike commit is = (root, refl)

full_none : (full : Option FullCommit) (sealed : Option Tree) → RunsAlike full sealed → sealed ≡ None → full ≡ None
full_none None sealed alike none = refl
full_none (Some full) None alike none = absurd alike
full_none (Some full) (Some root) alike none = absurd (Rattle.flat_model.proofs.Maps.some_none root none)

-- the caller that runs the full commit has its root tree out
pub runs_out : (volume : Volume) (mounted : Mounted) (scene : Scene) (caller : ℕ) → IsVolume volume mounted scene → HoldsFull (state_of mounted scene) caller → IsRunning volume.kept
runs_out volume mounted scene caller h holds = one_runs (state_of mounted scene).full volume.kept.sealed h.turn holds.commit holds.runs

-- none is out where a caller may seal
pub none_out : (volume : Volume) (mounted : Mounted) (scene : Scene) (caller : ℕ) → IsVolume volume mounted scene → MaySealFull (state_of mounted scene) caller → volume.kept.sealed ≡ None
none_out volume mounted scene caller h may = none_runs (state_of mounted scene).full volume.kept.sealed h.turn may.full_is_free

-- the holder's turn is free again
pub given_up : (full : Option FullCommit) (commit : FullCommit) (caller : ℕ) → full ≡ Some commit → commit.holder ≡ caller → full_without full caller ≡ None
given_up full commit caller runs own =
    ap (λ (o : Option FullCommit). full_without o caller) runs
    ∙ ap (λ (b : Bool). cond b None (Some commit)) (eq-eqb commit.holder caller own)

-- ---- the commit that runs

batch_by : (batch : Option Commit) (roots : List FlatVolume) (full : Option FullCommit) → (full ≡ None → batch ≡ None) → batch_after batch (roots ++ elim full as (λ o. List FlatVolume) [ None ↦ [] | Some f ↦ f.volume ∷ [] ]) Nothing ≡ batch
batch_by batch [] None none = sym (none refl)
batch_by batch [] (Some full) none = refl
batch_by batch (root ∷ roots) full none = refl

-- it still runs
batch_stays : (batch : Option Commit) (next : State) → (next.full ≡ None → batch ≡ None) → batch_after batch (next_volumes next) Nothing ≡ batch
batch_stays batch next none = batch_by batch (elim next.root as (λ o. List FlatVolume) [ None ↦ [] | Some root ↦ volume_by_root next root ∷ [] ]) next.full none

pub no_next : (next : State) → next.root ≡ None → next.full ≡ None → next_volumes next ≡ []
no_next next root full =
    λ k. elim (root k) as (λ o. List FlatVolume) [ None ↦ [] | Some r ↦ volume_by_root next r ∷ [] ] ++ elim (full k) as (λ o. List FlatVolume) [ None ↦ [] | Some f ↦ f.volume ∷ [] ]

-- it runs no more
pub batch_ends : (batch : Option Commit) (next : State) → next.root ≡ None → next.full ≡ None → batch_after batch (next_volumes next) Nothing ≡ None
batch_ends batch next root full = ap (λ (l : List FlatVolume). batch_after batch l Nothing) (no_next next root full)

quiet_batch : (volume : Volume) (image : Image) (scene : Scene) (sealed : Option Tree) → IsTurn volume.kept scene sealed → sealed ≡ None → scene.batch ≡ None
quiet_batch volume image scene None turn none = turn.batch
quiet_batch volume image scene (Some root) turn none = absurd (Rattle.flat_model.proofs.Maps.some_none root none)

-- ---- an event that leaves the full commit as it is

module _ (old new : Volume) (mounted : Mounted) (scene : Scene) (came : Event) (h : IsVolume old mounted scene) where
  abbrev before : State
  before = state_of mounted scene

  abbrev next : Scene
  next = scene_after mounted.volume scene (Comes came Nothing)

  behind : state_of mounted next ≡ after before came
  behind = state_behind (Rattle.commit_history.specs.State.mounted_state mounted.volume) scene.events came

  no_seal_last : ((by : ℕ) → came ≡ event.SealFull by → ⊥) → (caller : ℕ) → IsJustSealed next caller → IsJustOut new.kept
  no_seal_last other caller sealed = absurd (other caller (same_last scene.events sealed.0 came (event.SealFull caller) sealed.1))

  batch_same : (after before came).full ≡ before.full → next.batch ≡ scene.batch
  batch_same same = batch_stays scene.batch (state_of mounted next) (λ none.
      let was : before.full ≡ None = sym same ∙ sym (ap (λ (s : State). s.full) behind) ∙ none in
      quiet_batch old mounted.image scene old.kept.sealed h.kept.turn (none_runs before.full old.kept.sealed h.turn was))

  -- and is no seal
  pub event_goes : ((by : ℕ) → came ≡ event.SealFull by → ⊥) → (after before came).full ≡ before.full → (after before came).failures ≡ before.failures → new.kept.sealed ≡ old.kept.sealed → new.failures ≡ old.failures → new.seals ≡ old.seals → new.spares ≡ old.spares
      → KeepsBlocks new.kept mounted.image (after before came).current scene → GoWith new.callers mounted.volume (scene.events ++ came ∷ []) → IsVolume new mounted next
  event_goes other full failed sealed failures seals spares kept callers = record {
    kept = subst (λ (s : State). KeepsBlocks new.kept mounted.image s.current next) (sym behind)
        (same_blocks new.kept mounted.image (after before came).current scene next (record { found = refl; batch = batch_same full; progress = refl; handed = refl }) kept);
    callers = callers;
    turn =
        subst (λ (s : State). RunsAlike s.full new.kept.sealed) (sym behind)
        (subst (λ (o : Option FullCommit). RunsAlike o new.kept.sealed) (sym full)
        (subst (RunsAlike before.full) (sym sealed) h.turn));
    failures = failures ∙ h.failures ∙ sym failed ∙ sym (ap (λ (s : State). s.failures) behind);
    counted = let was = h.counted in let count = ap running_count sealed in omega (arith, was, count, failures, seals);
    spares = subst (λ (o : Option Spares). HasSpares new.kept.sealed o) (sym spares) (subst (λ (o : Option Tree). HasSpares o old.spares) (sym sealed) h.spares);
    just = no_seal_last other;
  }

  -- an event that ends the full commit
  pub ends_goes : ((by : ℕ) → came ≡ event.SealFull by → ⊥) → (after before came).full ≡ None → new.kept.sealed ≡ None → new.failures ≡ (after before came).failures → new.failures ≤ new.seals → HasSpares None new.spares
      → KeepsBlocks new.kept mounted.image (after before came).current next → GoWith new.callers mounted.volume (scene.events ++ came ∷ []) → IsVolume new mounted next
  ends_goes other full sealed failures counted spares kept callers = record {
    kept = subst (λ (s : State). KeepsBlocks new.kept mounted.image s.current next) (sym behind) kept;
    callers = callers;
    turn =
        subst (λ (s : State). RunsAlike s.full new.kept.sealed) (sym behind)
        (subst (λ (o : Option FullCommit). RunsAlike o new.kept.sealed) (sym full) (subst (RunsAlike None) (sym sealed) tt));
    failures = failures ∙ sym (ap (λ (s : State). s.failures) behind);
    counted = let count = ap running_count sealed in omega (arith, counted, count);
    spares = subst (λ (o : Option Tree). HasSpares o new.spares) (sym sealed) spares;
    just = no_seal_last other;
  }

  -- and its commit runs no more
  pub batch_gone : (after before came).full ≡ None → GoWith new.callers mounted.volume (scene.events ++ came ∷ []) → next.batch ≡ None
  batch_gone full callers = batch_ends scene.batch (state_of mounted next) callers.quiet.no_root (ap (λ (s : State). s.full) behind ∙ full)
