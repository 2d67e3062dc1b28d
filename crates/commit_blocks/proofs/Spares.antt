-- What a volume keeps depends on no count of buffers.
use Rattle.std.proofs.Common.{◌≡◌, ◌≢◌, ◌≤◌, ◌+◌, max, ℕ, List, length, Option, Some, None, Result, Ok, Err, refl, sym, subst, arith, inl, inr}
use Rattle.std.specs.Prelude.{◌⊎◌, Contains, OnOk, OnErr}
use Rattle.std.proofs.Math.Nat.{le-max_left}
use Rattle.blk_base.specs.Bytes.{Image}
use Rattle.blk_base.specs.Trees.{NoneTwice}
use Rattle.block_table.specs.declared.state.SlotState.TheVariants.{Free, LetGo}
use Rattle.block_table.specs.declared.tree.SubState.{SubState}
use Rattle.block_table.specs.declared.tree.Tree.{Tree}
use Rattle.block_table.specs.Blocks.{BlockList}
use Rattle.block_table.specs.Table.{Table, free_blocks, with_spare}
use Rattle.block_table.specs.TreeIn.{IsTaken, block_at}
use Rattle.commit_images.specs.Scene.{Commit, Scene}
use Rattle.flat_model.specs.Volume.{RunVolume}
use Rattle.table_volume.specs.Running.{GiveVolume}
use Rattle.tree_range.specs.Shape.{IsTree, tree_reach}
use Rattle.tree_range.proofs.Local.{tree_alike}
use Rattle.volume_seal.specs.Sealed.{states_reach}
use Rattle.commit_blocks.specs.declared.kept.Kept.{Kept}
use Rattle.commit_blocks.specs.Keeps.{roots_room, AreApart, AreApartFromFirst, HoldsCommit, IsCurrent, IsFound, IsOut, IsTurn, KeepsBlocks, old_roots, reach_there}
use Rattle.commit_blocks.specs.Steps.{IsListOut}
use Rattle.commit_blocks.proofs.Fates.{states_current, states_taken}
use Rattle.commit_blocks.proofs.Gone.{both_reach, gone_reach, gone_stays, there_reach}
use Rattle.commit_blocks.proofs.Read.{above_now, each, given_now, reach_now, ready_now}

abbrev pub with_buffers : Kept → ℕ → Kept
with_buffers old count = record old { table = with_spare old.table count }

pub lists_out : (old : Kept) (count : ℕ) (list : BlockList) → IsListOut old list → IsListOut (with_buffers old count) list
lists_out old count list h = record { lent = h.lent; has = h.has }

module _ (old : Kept) (count : ℕ) (image : Image) (run : RunVolume) (scene : Scene) (more : old.table.spare ≤ count) (h : KeepsBlocks old image run scene) where
  abbrev table : Table
  table = with_spare old.table count

  abbrev states : List SubState
  states = old.states.items

  given_was : GiveVolume old.table states run
  given_was = h.current.given

  readable : (at : ℕ) → Contains (states_reach old.table states) at → IsTaken table at × ((block_at table at).bytes ≡ (block_at old.table at).bytes)
  readable at there = let was = states_taken old.table states run given_was at there in (record { allowed = was.allowed; taken = was.taken }, refl)

  reach : states_reach table states ≡ states_reach old.table states
  reach = reach_now old.table table states run given_was readable (states_current old.table states run given_was)

  roots : old_roots (with_buffers old count) ≡ old_roots old
  roots = both_reach old.table table old.last old.failed (λ at there. refl)

  last_reach : tree_reach table old.last ≡ tree_reach old.table old.last
  last_reach = gone_reach old.table table old.last (λ at there. refl)

  sealed_reach : reach_there table old.sealed ≡ reach_there old.table old.sealed
  sealed_reach = there_reach old.table table old.sealed (λ at there. refl)

  free : 100 ≤ free_blocks table + length (old_roots (with_buffers old count)) + length (reach_there table old.sealed)
  free =
      subst (λ (l : List ℕ). 100 ≤ free_blocks old.table + length l + length (reach_there table old.sealed)) (sym roots)
      (subst (λ (l : List ℕ). 100 ≤ free_blocks old.table + length (old_roots old) + length l) (sym sealed_reach) h.current.free)

  failed_reach : reach_there table old.failed ≡ reach_there old.table old.failed
  failed_reach = there_reach old.table table old.failed (λ at there. refl)

  more_spare : (roots sealed : ℕ) → 80 ≤ old.table.spare + roots + sealed → 80 ≤ count + roots + sealed
  more_spare roots sealed was = omega (arith, was, more)

  spare : 80 ≤ count + length (old_roots (with_buffers old count)) + length (reach_there table old.sealed)
  spare =
      subst (λ (l : List ℕ). 80 ≤ count + length l + length (reach_there table old.sealed)) (sym roots)
      (subst (λ (l : List ℕ). 80 ≤ count + length (old_roots old) + length l) (sym sealed_reach)
      (more_spare (length (old_roots old)) (length (reach_there old.table old.sealed)) h.current.spare))

  accounted : (at : ℕ) → (block_at table at).state ≢ Free → (block_at table at).state ≢ LetGo → Contains (states_reach table states) at ⊎ Contains (reach_there table old.sealed) at
  accounted at taken kept = elim (h.current.used at taken kept) [
    | inl there ↦ inl (subst (λ (l : List ℕ). Contains l at) (sym reach) there)
    | inr root ↦ inr (subst (λ (l : List ℕ). Contains l at) (sym sealed_reach) root)
  ]

  current : IsCurrent (with_buffers old count) run
  current = record {
    least = h.current.least;
    most = h.current.most;
    given = given_now old.table table states run given_was readable (states_current old.table states run given_was);
    ids = h.current.ids;
    some = h.current.some;
    few = h.current.few;
    running = h.current.running;
    ready = ready_now old.table table states run given_was readable (states_current old.table states run given_was) old.fsid (λ at there. record { bytes = refl; down = λ it. it; up = λ it. it }) h.current.ready;
    above = above_now old.table table states run given_was readable (states_current old.table states run given_was) (λ at there. record { bytes = refl; down = λ it. it; up = λ it. it }) h.current.above;
    allowed = h.current.allowed;
    used = accounted;
    fits = subst (λ (l : List ℕ). length l + roots_room (length states) + 198 ≤ length old.table.slots) (sym reach) h.current.fits;
    free = free;
    last_few = subst (λ (l : List ℕ). length l ≤ 33) (sym last_reach) h.current.last_few;
    failed_few = subst (λ (l : List ℕ). length l ≤ 33) (sym failed_reach) h.current.failed_few;
    sealed_few = subst (λ (l : List ℕ). length l ≤ 33) (sym sealed_reach) h.current.sealed_few;
    spare = spare;
  }

  holds : (commit : Commit) → HoldsCommit old.table commit → HoldsCommit table commit
  holds commit held block there = let was = held block there in record { not_free = was.not_free; not_dirty = was.not_dirty; bytes = was.bytes }

  in_reach : (at : ℕ) → Contains (states_reach table states) at → Contains (states_reach old.table states) at
  in_reach at there = subst (λ (l : List ℕ). Contains l at) reach there

  found : IsFound (with_buffers old count) image scene
  found = record {
    on_image = h.found.on_image;
    held = λ commit there. holds commit (h.found.held commit there);
    newest = λ at there live. h.found.newest at (in_reach at there) live;
    told = h.found.told;
    clear = h.found.clear;
    last = gone_stays old.table table old.last (λ at there. refl) h.found.last;
    failed = λ tree is. gone_stays old.table table tree (λ at there. refl) (h.found.failed tree is);
    apart = subst NoneTwice (sym roots) h.found.apart;
    capacity = h.found.capacity;
  }

  first_spared : ((tree : Tree) → old.failed ≡ Some tree → AreApartFromFirst (tree_reach old.table old.last) scene.found) → (tree : Tree) → old.failed ≡ Some tree → AreApartFromFirst (tree_reach table old.last) scene.found
  first_spared spared tree is = subst (λ (l : List ℕ). AreApartFromFirst l scene.found) (sym last_reach) (spared tree is)

  module _ (root : Tree) (out : IsOut old scene root) where
    alike : (tree_reach table root ≡ tree_reach old.table root) × (IsTree old.table root → IsTree table root)
    alike = let is = tree_alike old.table table root (each (λ (at : ℕ). block_at table at ≡ block_at old.table at) (tree_reach old.table root) (λ at there. refl)) in (is.1, is.2)

    in_root : (at : ℕ) → Contains (tree_reach table root) at → Contains (tree_reach old.table root) at
    in_root at there = subst (λ (l : List ℕ). Contains l at) alike.0 there

    out_still : IsOut (with_buffers old count) scene root
    out_still = record {
      commit = out.commit;
      runs = out.runs;
      lists = out.lists;
      tree_in = alike.1 out.tree_in;
      root_sealed = λ at there. out.root_sealed at (in_root at there);
      root_apart = λ at there here. out.root_apart at (in_root at there) (in_reach at here);
      held = holds out.commit out.held;
      reaches = λ at there clean. out.reaches at (in_reach at there) clean;
      root_reached = λ at there. out.root_reached at (in_root at there);
      since = out.since;
      noted_once = out.noted_once;
      noted = out.noted;
      noted_apart = out.noted_apart;
      old_noted = λ at there. out.old_noted at (subst (λ (l : List ℕ). Contains l at) roots there);
      untried = λ is. (let u = out.untried is in record { fresh = u.fresh; spared = first_spared u.spared });
      tried = λ is. (let t = out.tried is in record {
        others = t.others;
        found = t.found;
        spared = λ tree one other there. subst (λ (l : List ℕ). AreApart l other) (sym last_reach) (t.spared tree one other there);
        written = t.written;
      });
    }

  turn : (sealed : Option Tree) → IsTurn old scene sealed → IsTurn (with_buffers old count) scene sealed
  turn None quiet = record {
    batch = quiet.batch;
    lists = quiet.lists;
    none_sealed = quiet.none_sealed;
    back = quiet.back;
    noted = quiet.noted;
    spared = first_spared quiet.spared;
  }
  turn (Some root) out = out_still root out

  pub buffers_keep : KeepsBlocks (with_buffers old count) image run scene
  buffers_keep = record { current = current; found = found; turn = turn old.sealed h.turn }

-- what a reserve leaves: as many buffers or more
pub reserved : {E : Type 0} (old new : Table) (buffers : ℕ) (result : Result (Unit {0}) E) → OnOk result (new ≡ with_spare old (max old.spare buffers)) → OnErr result (new ≡ old)
    → (count : ℕ) × (old.spare ≤ count) × (new ≡ with_spare old count)
reserved old new buffers (Ok done) ok err = (max old.spare buffers, le-max_left old.spare buffers, ok)
reserved old new buffers (Err fault) ok err = (old.spare, omega arith, err)
