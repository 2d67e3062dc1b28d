-- How few blocks are in use behind a full commit during which nothing else came.
use Rattle.std.proofs.Common.{◌≡◌, ◌≢◌, ◌∙◌, ◌≤◌, ◌<◌, ◌+◌, ◌*◌, ◌/◌, ◌++◌, ℕ, suc, List, [], ◌∷◌, Some, length, map, sym, ap, subst, arith, length-append}
use Rattle.std.specs.Prelude.{Contains, slice_index}
use Rattle.std.specs.FinMap.{entries, len, len-entries, nat_cmp-IsAntisymmetric}
use Rattle.std.specs.Cmp.{nat_cmp_total}
use Rattle.std.specs.List.Sorted.{IsStrictlyIncreasing}
use Rattle.std.proofs.lemmas.List.{length-map}
use Rattle.std.proofs.lemmas.List.Elements.{All-contains}
use Rattle.std.proofs.lemmas.List.Kept.{AllPairs-from_increasing}
use Rattle.std.specs.Option.{option_map}
use Rattle.blk_base.specs.Bytes.{Image}
use Rattle.block_table.specs.declared.state.SlotState.TheVariants.{Free, Sealed}
use Rattle.block_table.specs.declared.tree.SubState.{SubState}
use Rattle.block_table.specs.Table.{Table}
use Rattle.block_table.specs.TreeIn.{IsTaken, block_at}
use Rattle.commit_images.specs.Scene.{Commit, IsWritten, NotTried, Scene}
use Rattle.commit_room.specs.Items.{data_blocks, trees_room}
use Rattle.flat_model.proofs.Lists.{contains_head}
use Rattle.flat_model.proofs.Histories.{get_volume_of}
use Rattle.flat_model.specs.Volume.{RunSub, RunVolume, Subvolume, volume_of}
use Rattle.logged_volume.specs.FlatLog.{AreDistinct}
use Rattle.logged_volume.proofs.Counts.{length_within}
use Rattle.table_volume.specs.Running.{GiveVolume, GivesPart, id_of}
use Rattle.tree_counts.proofs.Volumes.{few_volume_blocks}
use Rattle.tree_frame.proofs.Counting.{few_blocks_in_tree}
use Rattle.tree_frame.proofs.Reading.{IsReadTree, read_tree}
use Rattle.tree_range.specs.Shape.{tree_items, tree_reach}
use Rattle.volume_image.proofs.Members.{get_in, in_map, map_in}
use Rattle.commit_blocks.specs.declared.kept.Kept.{Kept}
use Rattle.commit_blocks.specs.Keeps.{HoldsCommit, IsHeld, IsOut, IsTried, IsTurn, KeepsBlocks, numbered_at}
use Rattle.commit_blocks.specs.Steps.{KeepsRest}
use Rattle.commit_blocks.proofs.Read.{each}
use Rattle.volume_core.specs.InUse.{AreInUse, in_use, volume_reach}

-- ---- no more states than subvolumes

rest_rises : (first : ℕ) (rest : List ℕ) → IsStrictlyIncreasing (first ∷ rest) → IsStrictlyIncreasing rest
rest_rises first rest rise k within =
    let next : suc k + 1 ≡ suc (k + 1) = omega arith in
    subst (λ (n : ℕ). slice_index rest k < slice_index (first ∷ rest) n) next (rise (suc k) (omega (arith, within)))

first_below : (first : ℕ) (rest : List ℕ) → IsStrictlyIncreasing (first ∷ rest) → (other : ℕ) → Contains rest other → first < other
first_below first rest rise other c =
    let within = c.1 in
    subst (λ (n : ℕ). first < n) c.2 (AllPairs-from_increasing (first ∷ rest) rise 0 (suc c.0) other (omega arith) (omega (arith, within)))

rising_differ : (ids : List ℕ) → IsStrictlyIncreasing ids → AreDistinct ids
rising_differ [] rise = tt
rising_differ (id ∷ ids) rise = ((λ c. let below = first_below id ids rise id c in absurd (omega (arith, below))), rising_differ ids (rest_rises id ids rise))

few_states : (table : Table) (states : List SubState) (run : RunVolume) → GiveVolume table states run → length states ≤ len (volume_of run)
few_states table states run given =
    let ids = length-map states id_of in
    let keys = length-map (entries (volume_of run)) (λ (entry : ℕ × Subvolume). entry.0) in
    let within = length_within (map id_of states) (map (λ (entry : ℕ × Subvolume). entry.0) (entries (volume_of run))) (rising_differ (map id_of states) given.rising) there in
    omega (arith, ids, keys, within, len-entries (volume_of run))
  where
    there : (id : ℕ) → Contains (map id_of states) id → Contains (map (λ (entry : ℕ × Subvolume). entry.0) (entries (volume_of run))) id
    there id c =
        let state = in_map id_of states id c in
        let part : GivesPart table run state.0 = All-contains (GivesPart table run) states state.0 given.each state.1 in
        let sub = get_volume_of run (id_of state.0) ∙ ap (option_map (λ (sub : RunSub). sub.sub)) part.there in
        subst (λ (n : ℕ). Contains (map (λ (entry : ℕ × Subvolume). entry.0) (entries (volume_of run))) n) state.2
        (map_in (λ (entry : ℕ × Subvolume). entry.0) (entries (volume_of run)) (id_of state.0, part.sub.sub) (get_in nat_cmp_total nat_cmp-IsAntisymmetric (volume_of run) (id_of state.0) part.sub.sub sub))

-- ---- the root tree of the commit that was written

written_not_new : (scene : Scene) → scene.progress ≡ IsWritten → scene.progress ≢ NotTried
written_not_new scene written new = (let both : IsWritten ≡ NotTried = sym written ∙ new in cc)

module _ (old new : Kept) (image : Image) (run : RunVolume) (scene next : Scene) (keeps : KeepsBlocks old image run scene) (behind : KeepsBlocks new image run next) (found : next.found ≡ scene.found)
    (written : scene.progress ≡ IsWritten) (last : old.sealed ≡ Some new.last) (rest : KeepsRest old new) where
  is_out : IsOut old scene new.last
  is_out = subst (IsTurn old scene) last keeps.turn

  held : HoldsCommit new.table is_out.commit
  held =
      let tried : IsTried old scene is_out.commit = is_out.tried (written_not_new scene written) in
      behind.found.held is_out.commit (subst (λ (l : List Commit). Contains l is_out.commit) (sym (found ∙ tried.found)) (contains_head is_out.commit tried.others))

  readable : (at : ℕ) → Contains (tree_reach old.table new.last) at → IsTaken new.table at × ((block_at new.table at).bytes ≡ (block_at old.table at).bytes)
  readable at there =
      let is_sealed = is_out.root_sealed at there in
      let aligned = (keeps.current.allowed at (λ free. let w : Sealed ≡ Free = sym is_sealed ∙ free in cc)).aligned in
      let place : at / 4096 * 4096 ≡ at = omega (arith, aligned) in
      let here : IsHeld new.table (numbered_at old.table at) = held (numbered_at old.table at) (is_out.root_reached at there) in
      let taken = subst (λ (n : ℕ). (block_at new.table n).state ≢ Free) place here.not_free in
      (record { allowed = behind.current.allowed at taken; taken = taken }, subst (λ (n : ℕ). (block_at new.table n).bytes ≡ (block_at old.table at).bytes) place here.bytes)

  read : IsReadTree old.table new.table new.last
  read = read_tree old.table new.table new.last (each (λ (at : ℕ). IsTaken new.table at × ((block_at new.table at).bytes ≡ (block_at old.table at).bytes)) (tree_reach old.table new.last) readable)

  pub few_in_use : length (tree_items old.table new.last) ≡ length old.states.items → AreInUse new.table (volume_reach new ++ tree_reach new.table new.last)
      → length (in_use new.table) ≤ data_blocks (volume_of run) + trees_room (volume_of run)
  few_in_use roots used =
      let root = few_blocks_in_tree new.last.level new.table new.last.root.0 behind.found.last.tree_in.shape in
      let items = ap length read.items ∙ roots ∙ ap length (sym rest.states) in
      let states = few_states new.table new.states.items run behind.current.given in
      let volume = few_volume_blocks new.table new.states.items run behind.current.given in
      let both = length-append (volume_reach new) (tree_reach new.table new.last) in
      omega (arith, used.many, both, root, items, states, volume)
