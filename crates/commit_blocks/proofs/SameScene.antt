-- What a volume keeps depends on the scene's superblocks, the blocks that were handed out, and the commit that runs, alone.
use Rattle.std.proofs.Common.{◌≡◌, ◌≢◌, ◌/◌, ℕ, List, Option, Some, None, sym, subst, ◌∙◌}
use Rattle.std.specs.Prelude.{Contains}
use Rattle.blk_base.specs.Bytes.{Image}
use Rattle.block_table.specs.declared.state.SlotState.TheVariants.{Dirty, Free, Live, Sealed}
use Rattle.block_table.specs.declared.tree.Tree.{Tree}
use Rattle.block_table.specs.TreeIn.{block_at}
use Rattle.commit_core.specs.Sealed.{IsOfNewest}
use Rattle.commit_images.specs.Admissible.{last_bytes}
use Rattle.commit_images.specs.Scene.{Commit, Reaches, Scene}
use Rattle.flat_model.specs.Volume.{RunVolume}
use Rattle.tree_range.specs.Shape.{tree_reach}
use Rattle.volume_seal.specs.Sealed.{states_reach}
use Rattle.commit_blocks.specs.declared.kept.Kept.{Kept}
use Rattle.commit_blocks.specs.Keeps.{AreApart, AreApartFromFirst, HoldsCommit, IsFound, IsTried, IsTurn, IsUntried, KeepsBlocks, numbered_at}

-- the same of both, whatever happened and however the disk holds it
pub record HaveSameBlocks (one other : Scene) : Type 0 where
  pub found : other.found ≡ one.found
  pub batch : other.batch ≡ one.batch
  pub progress : other.progress ≡ one.progress
  pub handed : other.handed ≡ one.handed

module _ (kept : Kept) (image : Image) (run : RunVolume) (one other : Scene) (same : HaveSameBlocks one other) where
  abbrev FoundSo : (List Commit → Type 0) → Type 0
  FoundSo P = P one.found → P other.found

  by_found : (P : List Commit → Type 0) → FoundSo P
  by_found P h = subst P (sym same.found) h

  is_found : IsFound kept image one → IsFound kept image other
  is_found h = record {
    on_image = h.on_image;
    held = by_found (λ (l : List Commit). (commit : Commit) → Contains l commit → HoldsCommit kept.table commit) h.held;
    newest = by_found (λ (l : List Commit). (at : ℕ) → Contains (states_reach kept.table kept.states.items) at → (block_at kept.table at).state ≡ Live → IsOfNewest l (numbered_at kept.table at)) h.newest;
    told = subst (λ (l : List (ℕ × List ℕ)). (at : ℕ) → (block_at kept.table at).state ≢ Free → (block_at kept.table at).state ≢ Dirty → last_bytes l image (at / 4096) ≡ Some (block_at kept.table at).bytes) (sym same.handed) h.told;
    clear = h.clear;
    last = h.last;
    failed = h.failed;
    apart = h.apart;
    capacity = h.capacity;
  }

  spared_so : ((tree : Tree) → kept.failed ≡ Some tree → AreApartFromFirst (tree_reach kept.table kept.last) one.found) → (tree : Tree) → kept.failed ≡ Some tree → AreApartFromFirst (tree_reach kept.table kept.last) other.found
  spared_so h tree is = by_found (AreApartFromFirst (tree_reach kept.table kept.last)) (h tree is)

  is_untried : IsUntried kept one → IsUntried kept other
  is_untried h = record {
    fresh = by_found (λ (l : List Commit). (at : ℕ) → (block_at kept.table at).state ≡ Sealed → (commit : Commit) → Contains l commit → Reaches commit (at / 4096) → ⊥) h.fresh;
    spared = spared_so h.spared;
  }

  is_tried : (commit : Commit) → IsTried kept one commit → IsTried kept other commit
  is_tried commit h = record {
    others = h.others;
    found = same.found ∙ h.found;
    spared = by_found (λ (l : List Commit). (tree : Tree) → kept.failed ≡ Some tree → (found : Commit) → Contains l found → AreApart (tree_reach kept.table kept.last) found) h.spared;
    written = λ is. h.written (sym same.progress ∙ is);
  }

  is_turn : (sealed : Option Tree) → IsTurn kept one sealed → IsTurn kept other sealed
  is_turn None h = record { batch = same.batch ∙ h.batch; lists = h.lists; none_sealed = h.none_sealed; back = h.back; noted = h.noted; spared = spared_so h.spared }
  is_turn (Some root) h = record {
    commit = h.commit;
    runs = same.batch ∙ h.runs;
    lists = h.lists;
    tree_in = h.tree_in;
    root_sealed = h.root_sealed;
    root_apart = h.root_apart;
    held = h.held;
    reaches = h.reaches;
    root_reached = h.root_reached;
    since = h.since;
    noted_once = h.noted_once;
    noted = h.noted;
    noted_apart = h.noted_apart;
    old_noted = h.old_noted;
    untried = λ is. is_untried (h.untried (sym same.progress ∙ is));
    tried = λ is. is_tried h.commit (h.tried (λ not. is (same.progress ∙ not)));
  }

  pub same_blocks : KeepsBlocks kept image run one → KeepsBlocks kept image run other
  same_blocks h = record { current = h.current; found = is_found h.found; turn = is_turn kept.sealed h.turn }
