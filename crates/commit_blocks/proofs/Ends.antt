-- What a volume keeps once its full commit has ended, whichever way.
use Rattle.std.proofs.Common.{◌≡◌, ◌≢◌, ◌∙◌, ◌≤◌, ◌+◌, ◌/◌, false, ℕ, zero, suc, List, [], Option, None, Some, length, map, refl, sym, ap, subst, inl, inr, arith}
use Rattle.std.specs.Prelude.{All, Contains, slice_index_or, vec_capacity}
use Rattle.blk_base.specs.Bytes.{Image}
use Rattle.blk_base.specs.Leaf.{Pointer}
use Rattle.blk_base.specs.Trees.{NoneTwice}
use Rattle.block_table.specs.declared.state.SlotState.TheVariants.{Dirty, Free, LetGo, Live, Sealed}
use Rattle.block_table.specs.declared.tree.SubState.{SubState}
use Rattle.block_table.specs.declared.tree.Tree.{Tree}
use Rattle.block_table.specs.Slot.{BlockSlot}
use Rattle.block_table.specs.Table.{Table, free_blocks}
use Rattle.block_table.specs.TreeIn.{IsTaken, block_at}
use Rattle.commit_core.specs.Sealed.{IsOfNewest}
use Rattle.commit_images.specs.Admissible.{last_bytes}
use Rattle.commit_images.specs.Scene.{Commit, Scene}
use Rattle.flat_model.specs.Volume.{RunVolume, subvolume_ids}
use Rattle.table_volume.specs.Running.{GiveVolume, id_of}
use Rattle.tree_range.specs.Shape.{node_pointers, tree_reach}
use Rattle.tree_seal.specs.Above.{DirtyIsAbove}
use Rattle.volume_seal.specs.Sealed.{IsReady, states_reach}
use Rattle.commit_blocks.specs.declared.kept.Kept.{Kept}
use Rattle.commit_blocks.specs.Keeps.{AreApartFromFirst, BusyIsAbove, HoldsCommit, IsCurrent, IsFound, IsGone, IsQuiet, IsTurn, KeepsBlocks, numbered_at, old_roots, reach_there, roots_room}
use Rattle.commit_blocks.specs.Steps.{IsEnded, KeepsRest}
use Rattle.commit_blocks.proofs.Fates.{reach_of, states_taken}
use Rattle.commit_blocks.proofs.Read.{given_now, reach_now}

-- the scene once the commit that ran has ended
abbrev pub ended_now : Scene → Scene
ended_now scene = record scene { batch = None }

pub is_ended_now : (scene : Scene) → IsEnded scene (ended_now scene)
is_ended_now scene = record { found = refl; handed = refl; batch = refl }

-- what an end makes of a block
pub record Ends (old new : BlockSlot) : Type 0 where
  pub came : new.state ≢ Free → old.state ≢ Free
  pub bytes : new.state ≢ Free → new.bytes ≡ old.bytes
  pub written : new.state ≢ Free → new.state ≢ Dirty → old.state ≢ Dirty
  pub not_sealed : new.state ≢ Sealed
  pub back : new.state ≡ LetGo → new.out ≡ false
  pub clear : (old.state ≡ Live → old.out ≡ false) → new.state ≡ Live → new.out ≡ false

-- where none is Sealed, the busy ones are the Dirty ones
pub busy_from_dirty : (level : ℕ) (table : Table) (at : ℕ) → ((a : ℕ) → (block_at table a).state ≢ Sealed) → DirtyIsAbove level table at → BusyIsAbove level table at
busy_from_dirty zero table at none above = tt
busy_from_dirty (suc level) table at none above =
    λ i d within. let child : Pointer = slice_index_or (node_pointers table at) i d in
    (λ busy. elim busy [ inl dirty ↦ inl ((above i d within).0 dirty) | inr is_sealed ↦ absurd (none child.at is_sealed) ], busy_from_dirty level table child.at none (above i d within).1)

module _ (old new : Kept) (image : Image) (run : RunVolume) (scene next : Scene) (keeps : KeepsBlocks old image run scene) (ended : IsEnded scene next) (rest : KeepsRest old new)
    (ends : (at : ℕ) → Ends (block_at old.table at) (block_at new.table at)) (stays : (at : ℕ) → Contains (reach_of old) at → ((block_at new.table at).state ≢ Free) × ((block_at new.table at).state ≢ LetGo)) where
  pub end_readable : (at : ℕ) → Contains (reach_of old) at → IsTaken new.table at × ((block_at new.table at).bytes ≡ (block_at old.table at).bytes)
  end_readable at there =
      let was : IsTaken old.table at = states_taken old.table old.states.items run keeps.current.given at there in
      (record { allowed = subst (λ (n : ℕ). Rattle.blk_base.specs.Address.IsAllowed n at) (sym rest.size) was.allowed; taken = (stays at there).0 }, (ends at).bytes (stays at there).0)

  pub end_states_reach : states_reach new.table old.states.items ≡ reach_of old
  end_states_reach = reach_now old.table new.table old.states.items run keeps.current.given end_readable (λ at there. (stays at there).1)

  pub end_reach : reach_of new ≡ reach_of old
  end_reach = ap (λ (l : List SubState). states_reach new.table l) rest.states ∙ end_states_reach

  end_given : GiveVolume new.table old.states.items run
  end_given = given_now old.table new.table old.states.items run keeps.current.given end_readable (λ at there. (stays at there).1)

  pub end_current : ((at : ℕ) → (block_at new.table at).state ≢ Free → (block_at new.table at).state ≢ LetGo → Contains (reach_of old) at) → All (λ (state : SubState). IsReady new.table state.tree old.fsid) old.states.items → 100 ≤ free_blocks new.table + length (old_roots new) → 80 ≤ new.table.spare + length (old_roots new) → length (tree_reach new.table new.last) ≤ 33 → length (reach_there new.table new.failed) ≤ 33 → IsCurrent new run
  end_current accounted ready free spare last_few failed_few = record {
    least = omega (arith, rest.size, keeps.current.least);
    most = omega (arith, rest.size, keeps.current.most);
    given = subst (λ (l : List SubState). GiveVolume new.table l run) (sym rest.states) end_given;
    ids = subst (λ (l : List SubState). map id_of l ≡ subvolume_ids (length l)) (sym rest.states) keeps.current.ids;
    some = subst (λ (l : List SubState). 1 ≤ length l) (sym rest.states) keeps.current.some;
    few = subst (λ (l : List SubState). length l ≤ 16) (sym rest.states) keeps.current.few;
    running = subst (λ (g : ℕ). All (λ (state : SubState). state.running ≡ g) new.states.items) (sym rest.generation) (subst (λ (l : List SubState). All (λ (state : SubState). state.running ≡ old.generation) l) (sym rest.states) keeps.current.running);
    ready = subst (λ (fsid : List ℕ). All (λ (state : SubState). IsReady new.table state.tree fsid) new.states.items) (sym rest.fsid) (subst (λ (l : List SubState). All (λ (state : SubState). IsReady new.table state.tree old.fsid) l) (sym rest.states) ready);
    above = subst (λ (l : List SubState). All (λ (state : SubState). BusyIsAbove state.tree.level new.table state.tree.root.0) l) (sym rest.states)
        (λ k d within. busy_from_dirty (slice_index_or old.states.items k d).tree.level new.table (slice_index_or old.states.items k d).tree.root.0 (λ at. (ends at).not_sealed) (ready k d within).above);
    allowed = λ at taken. subst (λ (n : ℕ). Rattle.blk_base.specs.Address.IsAllowed n at) (sym rest.size) (keeps.current.allowed at ((ends at).came taken));
    used = λ at taken kept. inl (subst (λ (l : List ℕ). Contains l at) (sym end_reach) (accounted at taken kept));
    fits = let long = ap length end_reach in let same = ap (λ (l : List SubState). roots_room (length l)) rest.states in omega (arith, long, rest.size, same, keeps.current.fits);
    free = subst (λ (tree : Option Tree). 100 ≤ free_blocks new.table + length (old_roots new) + length (reach_there new.table tree)) (sym rest.sealed) (omega (arith, free));
    last_few = last_few;
    failed_few = failed_few;
    sealed_few = subst (λ (tree : Option Tree). length (reach_there new.table tree) ≤ 33) (sym rest.sealed) (omega arith);
    spare = subst (λ (tree : Option Tree). 80 ≤ new.table.spare + length (old_roots new) + length (reach_there new.table tree)) (sym rest.sealed) (omega (arith, spare));
  }

  pub end_found : ((commit : Commit) → Contains scene.found commit → HoldsCommit new.table commit)
      → ((at : ℕ) → Contains (reach_of old) at → (block_at new.table at).state ≡ Live → IsOfNewest scene.found (numbered_at new.table at))
      → IsGone new.table new.last → ((tree : Tree) → new.failed ≡ Some tree → IsGone new.table tree) → NoneTwice (old_roots new) → length old.table.slots ≤ vec_capacity new.let_go → IsFound new image next
  end_found held newest last failed apart capacity = record {
    on_image = omega (arith, rest.size, keeps.found.on_image);
    held = λ commit there. held commit (subst (λ (l : List Commit). Contains l commit) ended.found there);
    newest = λ at there live. subst (λ (l : List Commit). IsOfNewest l (numbered_at new.table at)) (sym ended.found) (newest at (subst (λ (l : List ℕ). Contains l at) end_reach there) live);
    told = λ at taken clean.
        ap (λ (l : List (ℕ × List ℕ)). last_bytes l image (at / 4096)) ended.handed
        ∙ keeps.found.told at ((ends at).came taken) ((ends at).written taken clean) ∙ ap (λ (bytes : List ℕ). Some bytes) (sym ((ends at).bytes taken));
    clear = λ at live. (ends at).clear (keeps.found.clear at) live;
    last = last;
    failed = failed;
    apart = apart;
    capacity = subst (λ (n : ℕ). n ≤ vec_capacity new.let_go) (sym rest.size) capacity;
  }

  pub end_quiet : new.table.lists ≡ 34 → new.let_go.items ≡ [] → ((tree : Tree) → new.failed ≡ Some tree → AreApartFromFirst (tree_reach new.table new.last) scene.found) → IsQuiet new next
  end_quiet lists noted spared = record {
    batch = ended.batch;
    lists = lists;
    none_sealed = λ at. (ends at).not_sealed;
    back = λ at. (ends at).back;
    noted = noted;
    spared = λ tree is. subst (λ (l : List Commit). AreApartFromFirst (tree_reach new.table new.last) l) (sym ended.found) (spared tree is);
  }

  pub end_all : IsCurrent new run → IsFound new image next → IsQuiet new next → KeepsBlocks new image run next
  end_all current found quiet = record { current = current; found = found; turn = subst (IsTurn new next) (sym rest.sealed) quiet }
