-- What the seal of a volume hands out, and what the volume keeps behind it.
use Rattle.std.proofs.Common.{◌≡◌, ◌+◌, ℕ, List, [], ◌∷◌, ◌++◌, length, Option, Some, None, refl, sym, ap, subst, ◌∙◌, arith}
use Rattle.std.specs.Prelude.{Contains}
use Rattle.std.proofs.lemmas.List.{length-map}
use Rattle.blk_base.specs.declared.key.Addr.{Addr}
use Rattle.block_table.specs.declared.batch.Batch.{Batch}
use Rattle.block_table.specs.declared.state.SlotState.TheVariants.{Free, LetGo, Sealed}
use Rattle.block_table.specs.Slot.{BlockSlot}
use Rattle.block_table.specs.TreeIn.{block_at}
use Rattle.block_table.specs.declared.tree.Tree.{Tree}
use Rattle.commit_history.specs.declared.event.Event.TheVariants as event
use Rattle.commit_history.specs.Effects.{after}
use Rattle.commit_history.specs.Legal.{MaySealFull}
use Rattle.commit_history.specs.State.{FullCommit, State, mounted_state}
use Rattle.commit_images.specs.Scene.{Commit, Comes, Mounted, Scene, scene_after}
use Rattle.commit_images.specs.Scene as scenes
use Rattle.commit_images.proofs.Behind.{state_behind}
use Rattle.commit_core.specs.Coming.{numbered, state_of}
use Rattle.commit_core.specs.Sealed.{HavePlaces, IsSealedFull, SaysCommit}
use Rattle.commit_callers.specs.GoWith.{GoWith}
use Rattle.commit_blocks.specs.Keeps.{KeepsBlocks}
use Rattle.commit_blocks.specs.Steps.{IsKeptSealed, IsListOut}
use Rattle.commit_blocks.proofs.Fates.{AreBothFree, IsNew, Stays, WasDirty, fate}
use Rattle.commit_blocks.proofs.Running.{running_length}
use Rattle.commit_blocks.proofs.SealKeeps.{commit_of, in_addresses, seal_keeps}
use Rattle.commit_blocks.proofs.SealSays.{hands_out, list_out, of_commit, places, ready, says, stands}
use Rattle.flat_model.proofs.Maps.{some_same}
use Rattle.flat_model.specs.Volume.{RunVolume, volume_of}
use Rattle.table_commit.specs.Commit.{addresses_of}
use Rattle.tree_range.specs.Shape.{tree_items}
use Rattle.volume_image.specs.Roots.{next_generation}
use Rattle.volume_seal.specs.Roots.{state_entry}
use Rattle.volume_core.specs.declared.volume.Spares.{Spares}
use Rattle.volume_core.specs.declared.volume.Volume.{Volume}
use Rattle.volume_core.specs.Keeps.{HasSpares, IsJustOut, IsVolume, RunsAlike, running_count}
use Rattle.volume_core.proofs.Behind.{none_out}
use Rattle.volume_core.proofs.Came.{sealed_current, sealed_failures, sealed_full}

module _ (old new : Volume) (mounted : Mounted) (scene : Scene) (caller : ℕ) (h : IsVolume old mounted scene) (may : MaySealFull (state_of mounted scene) caller) (batch : Batch) (s : IsKeptSealed old.kept new.kept batch.superblock.value batch.blocks) where
  abbrev before : State
  before = state_of mounted scene

  none : old.kept.sealed ≡ None
  none = none_out old mounted scene caller h may

  abbrev commit : Commit
  commit = commit_of new.kept s.root batch.superblock.value (volume_of before.current)

  abbrev next : Scene
  next = scene_after mounted.volume scene (Comes (event.SealFull caller) (scenes.Batch (numbered batch.blocks.pairs) commit))

  behind : state_of mounted next ≡ after before (event.SealFull caller)
  behind = state_behind (mounted_state mounted.volume) scene.events (event.SealFull caller)

  -- what was let go before it is noted, and nothing else is
  was_gone : (at : ℕ) → (block_at new.kept.table at).state ≡ LetGo → (block_at old.kept.table at).state ≡ LetGo
  was_gone at gone = elim (fate old.kept new.kept mounted.image before.current scene batch.superblock.value batch.blocks h.kept none s at) [
    | IsNew here free now ↦ absurd (let w : Sealed ≡ LetGo = sym now ∙ gone in cc)
    | WasDirty there dirty now ↦ absurd (let w : Sealed ≡ LetGo = sym now ∙ gone in cc)
    | Stays same not_root clean ↦ ap (λ (slot : BlockSlot). slot.state) (sym same) ∙ gone
    | AreBothFree was behind ↦ absurd (let w : Free ≡ LetGo = sym behind ∙ gone in cc)
  ]

  just_out : IsJustOut new.kept
  just_out = record {
    let_go = λ at gone. subst (λ (l : List Addr). Contains (addresses_of l) at) (sym s.noted) (in_addresses old.kept.table at (was_gone at gone));
    roots = λ root is.
        ap (λ (tree : Tree). length (tree_items new.kept.table tree)) (some_same root s.root (sym is ∙ s.is_out)) ∙ ap length s.sealed.made.items
        ∙ length-map old.kept.states.items (state_entry new.kept.table) ∙ sym (running_length (next_generation old.kept.generation) old.kept.states.items) ∙ ap length (sym s.states);
  }

  seal_comes : new.failures ≡ old.failures → new.seals ≡ old.seals + 1 → new.spares ≡ None → GoWith new.callers mounted.volume (scene.events ++ event.SealFull caller ∷ []) → IsVolume new mounted next
  seal_comes failures seals spares callers = record {
    kept =
        subst (λ (run : RunVolume). KeepsBlocks new.kept mounted.image run next) (sym (ap (λ (t : State). t.current) behind ∙ sealed_current before caller))
        (seal_keeps old.kept new.kept mounted.image before.current scene batch.superblock.value batch.blocks h.kept none s mounted.volume (volume_of before.current) (event.SealFull caller));
    callers = callers;
    turn =
        subst (λ (o : Option FullCommit). RunsAlike o new.kept.sealed) (sym (ap (λ (t : State). t.full) behind ∙ sealed_full before caller))
        (subst (λ (o : Option Tree). RunsAlike (Some (record { holder = caller; volume = volume_of before.current; point = before.point; wants = before.wants })) o) (sym s.is_out) tt);
    failures = failures ∙ h.failures ∙ sym (ap (λ (t : State). t.failures) behind ∙ sealed_failures before caller);
    counted =
        let was = h.counted in
        let one : running_count new.kept.sealed ≡ 1 = ap running_count s.is_out in
        let zero : running_count old.kept.sealed ≡ 0 = ap running_count none in
        omega (arith, was, one, zero, failures, seals);
    spares = subst (λ (o : Option Tree). HasSpares o new.spares) (sym s.is_out) spares;
    just = λ by last. just_out;
  }

  pub is_sealed_full : new.failures ≡ old.failures → new.seals ≡ old.seals + 1 → new.spares ≡ None → GoWith new.callers mounted.volume (scene.events ++ event.SealFull caller ∷ []) → IsSealedFull (IsVolume new) mounted scene caller batch
  is_sealed_full failures seals spares callers = record {
    commit = commit;
    superblock = refl;
    came = record {
      may = (may, hands_out old.kept new.kept mounted.image before.current scene batch.superblock.value batch.blocks h.kept none s, tt);
      has = seal_comes failures seals spares callers;
    };
    of_commit = of_commit old.kept new.kept mounted.image before.current scene batch.superblock.value batch.blocks h.kept none s;
    ready = ready old.kept new.kept mounted.image before.current scene batch.superblock.value batch.blocks h.kept none s mounted.volume (event.SealFull caller);
    stands = stands old.kept new.kept mounted.image before.current scene batch.superblock.value batch.blocks h.kept none s;
  }

  pub batch_says : SaysCommit batch.superblock.value (length old.kept.table.slots) old.kept.fsid old.kept.generation
  batch_says = says old.kept new.kept mounted.image before.current scene batch.superblock.value batch.blocks h.kept none s

  pub batch_places : HavePlaces (length old.kept.table.slots) batch.blocks.pairs
  batch_places = places old.kept new.kept mounted.image before.current scene batch.superblock.value batch.blocks h.kept none s

  pub batch_list : IsListOut new.kept batch.blocks
  batch_list = list_out old.kept new.kept mounted.image before.current scene batch.superblock.value batch.blocks h.kept none s

-- the parts that a volume had spare are none
pub no_parts : (sealed : Option Tree) (spares : Option Spares) (there : Spares) → sealed ≡ None → HasSpares sealed spares → spares ≡ Some there → there.parts ≡ []
no_parts None None there gone has is = absurd has
no_parts None (Some spares) there gone has is = ap (λ (x : Spares). x.parts) (sym (Rattle.flat_model.proofs.Maps.some_same spares there is)) ∙ has
no_parts (Some root) spares there gone has is = absurd (Rattle.flat_model.proofs.Maps.some_none root gone)
