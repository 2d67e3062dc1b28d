-- What a volume keeps depends on the list of its states, and not on where that stands.
use Rattle.std.proofs.Common.{◌≡◌, ◌≢◌, ◌≤◌, ◌+◌, ℕ, List, length, map, Option, Some, None, Vec, Global, sym, subst}
use Rattle.std.specs.Prelude.{◌⊎◌, All, Contains}
use Rattle.blk_base.specs.Bytes.{Image}
use Rattle.block_table.specs.declared.tree.SubState.{SubState}
use Rattle.block_table.specs.declared.tree.Tree.{Tree}
use Rattle.block_table.specs.TreeIn.{block_at}
use Rattle.block_table.specs.declared.state.SlotState.TheVariants.{Dirty, Free, LetGo, Live}
use Rattle.commit_core.specs.Sealed.{IsOfNewest}
use Rattle.commit_images.specs.Scene.{Scene}
use Rattle.flat_model.specs.Volume.{RunVolume, subvolume_ids}
use Rattle.table_volume.specs.Running.{GiveVolume, id_of}
use Rattle.tree_range.specs.Shape.{tree_reach}
use Rattle.volume_seal.specs.Sealed.{IsReady, states_reach}
use Rattle.commit_blocks.specs.declared.kept.Kept.{Kept}
use Rattle.commit_blocks.specs.Keeps.{BusyIsAbove, IsCurrent, IsFound, IsTurn, KeepsBlocks, numbered_at, reach_there, roots_room}

module _ (old : Kept) (image : Image) (run : RunVolume) (scene : Scene) (states : Vec SubState Global) (same : states.items ≡ old.states.items) where
  abbrev pub with_states : Kept
  with_states = record {
    table = old.table;
    states = states;
    fsid = old.fsid;
    generation = old.generation;
    last = old.last;
    failed = old.failed;
    sealed = old.sealed;
    let_go = old.let_go;
  }

  -- what holds of the list still does
  moved : (P : List SubState → Type 0) → P old.states.items → P states.items
  moved P h = subst P (sym same) h

  current : IsCurrent old run → IsCurrent with_states run
  current h = record {
    least = h.least;
    most = h.most;
    given = moved (λ (l : List SubState). GiveVolume old.table l run) h.given;
    ids = moved (λ (l : List SubState). map id_of l ≡ subvolume_ids (length l)) h.ids;
    some = moved (λ (l : List SubState). 1 ≤ length l) h.some;
    few = moved (λ (l : List SubState). length l ≤ 16) h.few;
    running = moved (All (λ (state : SubState). state.running ≡ old.generation)) h.running;
    ready = moved (All (λ (state : SubState). IsReady old.table state.tree old.fsid)) h.ready;
    above = moved (All (λ (state : SubState). BusyIsAbove state.tree.level old.table state.tree.root.0)) h.above;
    allowed = h.allowed;
    used = moved (λ (l : List SubState). (at : ℕ) → (block_at old.table at).state ≢ Free → (block_at old.table at).state ≢ LetGo → Contains (states_reach old.table l) at ⊎ Contains (reach_there old.table old.sealed) at) h.used;
    fits = moved (λ (l : List SubState). length (states_reach old.table l) + roots_room (length l) + 198 ≤ length old.table.slots) h.fits;
    last_few = h.last_few;
    failed_few = h.failed_few;
    sealed_few = h.sealed_few;
    spare = h.spare;
    free = h.free;
  }

  found : IsFound old image scene → IsFound with_states image scene
  found h = record {
    on_image = h.on_image;
    held = h.held;
    newest = moved (λ (l : List SubState). (at : ℕ) → Contains (states_reach old.table l) at → (block_at old.table at).state ≡ Live → IsOfNewest scene.found (numbered_at old.table at)) h.newest;
    told = h.told;
    clear = h.clear;
    last = h.last;
    failed = h.failed;
    apart = h.apart;
    capacity = h.capacity;
  }

  turn : (sealed : Option Tree) → IsTurn old scene sealed → IsTurn with_states scene sealed
  turn None h = record { batch = h.batch; lists = h.lists; none_sealed = h.none_sealed; back = h.back; noted = h.noted; spared = h.spared }
  turn (Some root) h = record {
    commit = h.commit;
    runs = h.runs;
    lists = h.lists;
    tree_in = h.tree_in;
    root_sealed = h.root_sealed;
    root_apart = moved (λ (l : List SubState). (at : ℕ) → Contains (tree_reach old.table root) at → Contains (states_reach old.table l) at → ⊥) h.root_apart;
    held = h.held;
    reaches = moved (λ (l : List SubState). (at : ℕ) → Contains (states_reach old.table l) at → (block_at old.table at).state ≢ Dirty → Contains h.commit.blocks (numbered_at old.table at)) h.reaches;
    root_reached = h.root_reached;
    since = h.since;
    noted_once = h.noted_once;
    noted = h.noted;
    noted_apart = h.noted_apart;
    old_noted = h.old_noted;
    untried = λ is. (let u = h.untried is in record { fresh = u.fresh; spared = u.spared });
    tried = λ is. (let t = h.tried is in record { others = t.others; found = t.found; spared = t.spared; written = t.written });
  }

  pub same_kept : KeepsBlocks old image run scene → KeepsBlocks with_states image run scene
  same_kept h = record { current = current h.current; found = found h.found; turn = turn old.sealed h.turn }
