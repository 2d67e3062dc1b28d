-- What a volume keeps behind a seal.
use Rattle.std.proofs.Common.{◌≡◌, ◌≢◌, ◌∙◌, ◌≤◌, ◌+◌, ◌*◌, ◌/◌, ◌%◌, ◌++◌, false, ℕ, List, [], ◌∷◌, Option, None, Some, length, map, refl, sym, ap, subst, inl, inr, arith}
use Rattle.std.specs.Prelude.{◌⊎◌, All, Contains, slice_index_or}
use Rattle.std.proofs.lemmas.List.Elements.{All-cons, All-contains, All-contains_itself, All-nil, Contains-append_cases, Contains-append_left, Contains-append_right}
use Rattle.blk_base.specs.Bytes.{Image}
use Rattle.blk_base.specs.Trees.{NoneTwice}
use Rattle.blk_base.proofs.Members.{in_nothing, once_apart}
use Rattle.block_table.specs.declared.state.SlotState.{SlotState}
use Rattle.block_table.specs.declared.state.SlotState.TheVariants.{Dirty, Free, LetGo, Live, Sealed}
use Rattle.block_table.specs.declared.tree.SubState.{SubState}
use Rattle.block_table.specs.declared.tree.Tree.{Tree}
use Rattle.block_table.specs.Blocks.{BlockList}
use Rattle.block_table.specs.Slot.{BlockSlot}
use Rattle.block_table.specs.Table.{Table, free_blocks}
use Rattle.block_table.specs.TreeIn.{IsTaken, block_at}
use Rattle.commit_core.specs.Coming.{numbered}
use Rattle.commit_core.specs.Sealed.{IsOfNewest}
use Rattle.commit_history.specs.declared.event.Event.{Event}
use Rattle.commit_images.specs.Admissible.{last_bytes}
use Rattle.commit_images.specs.Scene.{Commit, NotTried, Reaches, Scene, scene_after_event}
use Rattle.commit_images.specs.Scene as scenes
use Rattle.flat_model.specs.Volume.{RunVolume, Volume, subvolume_ids}
use Rattle.table_commit.specs.Commit.{IsReleasable, addresses_of, let_go_addresses}
use Rattle.table_commit.proofs.Addresses.{noted_is, noted_once}
use Rattle.table_volume.specs.Gives.{sub_reach, tree_data}
use Rattle.table_volume.specs.Running.{GiveVolume, id_of}
use Rattle.tree_range.specs.Shape.{tree_reach}
use Rattle.volume_seal.specs.Sealed.{IsReady, IsWhole, states_reach}
use Rattle.commit_blocks.specs.declared.kept.Kept.{Kept}
use Rattle.commit_blocks.specs.Keeps.{AreApart, AreApartFromFirst, BusyIsAbove, HoldsCommit, IsBusy, IsCurrent, IsFound, IsGone, IsHeld, IsOut, IsQuiet, IsTurn, KeepsBlocks, blocks_at, numbered_at, old_roots, reach_there, roots_room}
use Rattle.commit_blocks.specs.Steps.{IsKeptSealed, with_running}
use Rattle.commit_blocks.proofs.Busy.{KeepsBusy, kept_busy_above}
use Rattle.commit_blocks.proofs.Fates.{AreBothFree, Fate, IsNew, Stays, WasDirty, allowed, current_at, fate, fixed, free_left, lent, lent_given, lent_reach, new_reach, quiet, reach_of, root_taken, sealed_reach, size, states_current, states_taken, taken, whole_at}
use Rattle.commit_blocks.proofs.Gone.{all_gone, both_reach, gone_reach, gone_stays, there_reach}
use Rattle.commit_blocks.proofs.Handed.{handed_numbered, in_numbered, last_in, last_out, numbered_in, same_place}
use Rattle.blk_base.specs.declared.key.Addr.{Addr}
use Rattle.blk_base.specs.Leaf.{Item}
use Rattle.table_volume.proofs.Giving.{IsReadSub}
use Rattle.volume_image.proofs.Members.{flat_map_in}
use Rattle.volume_image.specs.Roots.{next_generation}
use Rattle.volume_image.specs.Subvolume.{data_addresses}
use Rattle.commit_blocks.proofs.Read.{each, sub_read_now}
use Rattle.commit_blocks.proofs.Running.{running_all, running_given, running_ids, running_length, set_running}

-- what the superblock of a seal leads to
abbrev pub commit_of : Kept → Tree → List ℕ → Volume → Commit
commit_of new root superblock volume =
    record { superblock = superblock; blocks = blocks_at new.table (tree_reach new.table root ++ reach_of new); volume = volume }

running_set : (generation : ℕ) (states : List SubState) → All (λ (state : SubState). state.running ≡ generation) (with_running generation states)
running_set generation [] = All-nil _
running_set generation (state ∷ states) = All-cons (λ (s : SubState). s.running ≡ generation) (set_running generation state) (with_running generation states) refl (running_set generation states)

pub in_addresses : (table : Table) (at : ℕ) → (block_at table at).state ≡ LetGo → Contains (addresses_of (let_go_addresses table)) at
in_addresses table at gone =
    Rattle.volume_image.proofs.Members.map_in (λ (a : Addr). a.0) (let_go_addresses table) (record { 0 = at }) ((noted_is table (record { 0 = at })).1 gone)

pub from_addresses : (table : Table) (at : ℕ) → Contains (addresses_of (let_go_addresses table)) at → (block_at table at).state ≡ LetGo
from_addresses table at there =
    let found = Rattle.volume_image.proofs.Members.in_map (λ (a : Addr). a.0) (let_go_addresses table) at there in
    subst (λ (a : ℕ). (block_at table a).state ≡ LetGo) found.2 ((noted_is table found.0).0 found.1)

not_state : (one two : SlotState) (table : Table) (at : ℕ) → (block_at table at).state ≡ one → (one ≡ two → ⊥) → (block_at table at).state ≢ two
not_state one two table at is apart e = apart (sym is ∙ e)

module _ (old new : Kept) (image : Image) (run : RunVolume) (scene : Scene) (superblock : List ℕ) (out : BlockList) (keeps : KeepsBlocks old image run scene) (none : old.sealed ≡ None) (s : IsKeptSealed old new superblock out) where
  fate_of : (at : ℕ) → Fate (tree_reach new.table s.root) (reach_of old) old.table new.table at
  fate_of = fate old new image run scene superblock out keeps none s

  fixed_at : (at : ℕ) → (block_at old.table at).state ≢ Free → (block_at old.table at).state ≢ Dirty → block_at new.table at ≡ block_at old.table at
  fixed_at = fixed old new image run scene superblock out keeps none s

  pub sizes : length new.table.slots ≡ length old.table.slots
  sizes = size old new image run scene superblock out keeps none s

  reaches : reach_of new ≡ reach_of old
  reaches = new_reach old new image run scene superblock out keeps none s

  taken_at : (at : ℕ) → Contains (reach_of old) at → IsTaken old.table at
  taken_at = taken old new image run scene superblock out keeps none s

  was_quiet : IsQuiet old scene
  was_quiet = quiet old new image run scene superblock out keeps none s

  gone_fixed : (at : ℕ) → (block_at old.table at).state ≡ LetGo → block_at new.table at ≡ block_at old.table at
  gone_fixed at gone = fixed_at at (not_state LetGo Free old.table at gone (λ e. let w : LetGo ≡ Free = e in cc)) (not_state LetGo Dirty old.table at gone (λ e. let w : LetGo ≡ Dirty = e in cc))

  old_gone : (at : ℕ) → Contains (old_roots old) at → (block_at old.table at).state ≡ LetGo
  old_gone = all_gone old.table old.last old.failed keeps.found.last keeps.found.failed

  old_same : (at : ℕ) → Contains (old_roots old) at → block_at new.table at ≡ block_at old.table at
  old_same at there = gone_fixed at (old_gone at there)

  -- the older root trees have the blocks that they had
  pub roots_same : old_roots new ≡ old_roots old
  roots_same =
      ap (λ (tree : Tree). tree_reach new.table tree ++ reach_there new.table new.failed) s.last
      ∙ ap (λ (tree : Option Tree). tree_reach new.table old.last ++ reach_there new.table tree) s.failed
      ∙ both_reach old.table new.table old.last old.failed old_same

  last_same : tree_reach new.table new.last ≡ tree_reach old.table old.last
  last_same =
      ap (λ (tree : Tree). tree_reach new.table tree) s.last
      ∙ gone_reach old.table new.table old.last (λ at there. gone_fixed at (keeps.found.last.ready at there))

  failed_same : reach_there new.table new.failed ≡ reach_there old.table old.failed
  failed_same =
      ap (λ (tree : Option Tree). reach_there new.table tree) s.failed
      ∙ there_reach old.table new.table old.failed (λ at there. old_same at (Contains-append_right (tree_reach old.table old.last) (reach_there old.table old.failed) at there))

  pub given_states : GiveVolume new.table old.states.items run
  given_states = s.sealed.given run (lent_given old new image run scene superblock out keeps none s)

  pub given : GiveVolume new.table new.states.items run
  given = subst (λ (l : List SubState). GiveVolume new.table l run) (sym s.states) (running_given new.table _ old.states.items run given_states)

  many : length new.states.items ≡ length old.states.items
  many = ap (λ (l : List SubState). length l) s.states ∙ running_length _ old.states.items

  pub ids : map id_of new.states.items ≡ subvolume_ids (length new.states.items)
  ids = ap (λ (l : List SubState). map id_of l) s.states ∙ running_ids _ old.states.items ∙ keeps.current.ids ∙ ap subvolume_ids (sym many)

  -- a tree's busy blocks are Sealed, and the others stay
  lent_sub : (state : SubState) → Contains old.states.items state → IsReadSub old.table (lent old.table) state.tree
  lent_sub state there = sub_read_now old.table (lent old.table) old.states.items run keeps.current.given
      (λ at k. let was = taken_at at k in (record { allowed = was.allowed; taken = was.taken }, refl)) (current_at old new image run scene superblock out keeps none s) state there

  data_in_place : (state : SubState) → Contains old.states.items state → IsWhole (lent old.table) new.table state.tree old.fsid → tree_data new.table state.tree ≡ tree_data old.table state.tree
  data_in_place state there whole = ap (λ (items : List Item). data_addresses items) whole.items ∙ (lent_sub state there).data_same

  tree_was : (state : SubState) → Contains old.states.items state → IsWhole (lent old.table) new.table state.tree old.fsid → NoneTwice (sub_reach new.table state.tree) → (at : ℕ) → Contains (tree_reach new.table state.tree) at → Contains (tree_reach old.table state.tree) at
  tree_was state there whole once at here =
      let was : Contains (sub_reach old.table state.tree) at = subst (λ (l : List ℕ). Contains l at) (whole.reach ∙ (lent_sub state there).reach_same) (Contains-append_left (tree_reach new.table state.tree) (tree_data new.table state.tree) at here) in
      elim (Contains-append_cases (tree_reach old.table state.tree) (tree_data old.table state.tree) at was) [
        | inl tree ↦ tree
        | inr file ↦ absurd (once_apart (tree_reach new.table state.tree) (tree_data new.table state.tree) once at here (subst (λ (l : List ℕ). Contains l at) (sym (data_in_place state there whole)) file))
      ]

  in_reach : (state : SubState) → Contains old.states.items state → (at : ℕ) → Contains (tree_reach old.table state.tree) at → Contains (reach_of old) at
  in_reach state there at k = flat_map_in (λ (x : SubState). sub_reach old.table x.tree) old.states.items state at there (Contains-append_left (tree_reach old.table state.tree) (tree_data old.table state.tree) at k)

  keeps_busy : (state : SubState) → Contains old.states.items state → IsWhole (lent old.table) new.table state.tree old.fsid → NoneTwice (sub_reach new.table state.tree) → KeepsBusy old.table new.table (tree_reach old.table state.tree) (tree_reach new.table state.tree)
  keeps_busy state there whole once = record {
    clean = λ at here idle.
        let was : Contains (tree_reach old.table state.tree) at = tree_was state there whole once at here in (
          was,
          elim (fate_of at) [
            | IsNew here free now ↦ absurd (idle (inr now))
            | WasDirty there dirty now ↦ absurd (idle (inr now))
            | Stays same not_root clean ↦ same
            | AreBothFree before behind ↦ absurd ((taken_at at (in_reach state there at was)).taken before)
          ],
        );
    up = λ at was here busy. elim (fate_of at) [
      | IsNew here free now ↦ inr now
      | WasDirty there dirty now ↦ inr now
      | Stays same not_root clean ↦ elim busy [
        | inl dirty ↦ absurd (clean (in_reach state there at was) dirty)
        | inr is_sealed ↦ absurd (was_quiet.none_sealed at is_sealed)
      ]
      | AreBothFree before behind ↦ absurd ((taken_at at (in_reach state there at was)).taken before)
    ];
    down = λ at was here busy. elim (fate_of at) [
      | IsNew here free now ↦ absurd ((taken_at at (in_reach state there at was)).taken free)
      | WasDirty there dirty now ↦ inl dirty
      | Stays same not_root clean ↦ subst (λ (slot : BlockSlot). IsBusy slot.state) same busy
      | AreBothFree before behind ↦ absurd ((taken_at at (in_reach state there at was)).taken before)
    ];
  }

  above_states : All (λ (state : SubState). BusyIsAbove state.tree.level new.table state.tree.root.0) old.states.items
  above_states k d within =
      let state : SubState = slice_index_or old.states.items k d in
      let there : Contains old.states.items state = All-contains_itself old.states.items k d within in
      let was = (keeps.current.given.each k d within).gives.gives in
      let is = (given_states.each k d within).gives.gives in
      kept_busy_above old.table new.table state.tree state.tree old.fsid (keeps.current.ready k d within).written.0 (s.sealed.ready k d within).written.0
      (keeps_busy state there (s.sealed.whole k d within) is.once) was.tree_in is.tree_in (keeps.current.ready k d within).written.1 (s.sealed.ready k d within).written.1 (keeps.current.above k d within)

  -- no block leaks: what a seal takes is of the root tree
  accounted : (at : ℕ) → (block_at new.table at).state ≢ Free → (block_at new.table at).state ≢ LetGo → Contains (reach_of new) at ⊎ Contains (reach_there new.table new.sealed) at
  accounted at not_free not_gone = elim (fate_of at) [
    | IsNew here free now ↦ inr (subst (λ (tree : Option Tree). Contains (reach_there new.table tree) at) (sym s.is_out) here)
    | WasDirty there dirty now ↦ inl (subst (λ (l : List ℕ). Contains l at) (sym reaches) there)
    | Stays same not_root clean ↦ elim (keeps.current.used at (λ free. not_free (ap (λ (slot : BlockSlot). slot.state) same ∙ free)) (λ gone. not_gone (ap (λ (slot : BlockSlot). slot.state) same ∙ gone))) [
      | inl there ↦ inl (subst (λ (l : List ℕ). Contains l at) (sym reaches) there)
      | inr root ↦ absurd (in_nothing at (subst (λ (tree : Option Tree). Contains (reach_there old.table tree) at) none root))
    ]
    | AreBothFree before behind ↦ absurd (not_free behind)
  ]

  pub current : IsCurrent new run
  current = record {
    least = omega (arith, sizes, keeps.current.least);
    most = omega (arith, sizes, keeps.current.most);
    given = given;
    ids = ids;
    some = omega (arith, many, keeps.current.some);
    few = omega (arith, many, keeps.current.few);
    running = subst (λ (g : ℕ). All (λ (state : SubState). state.running ≡ g) new.states.items) (sym s.generation) (subst (λ (l : List SubState). All (λ (state : SubState). state.running ≡ next_generation old.generation) l) (sym s.states) (running_set (next_generation old.generation) old.states.items));
    ready = subst (λ (fsid : List ℕ). All (λ (state : SubState). IsReady new.table state.tree fsid) new.states.items) (sym s.fsid)
        (subst (λ (l : List SubState). All (λ (state : SubState). IsReady new.table state.tree old.fsid) l) (sym s.states)
        (running_all (λ (state : SubState). IsReady new.table state.tree old.fsid) (λ (state : SubState). IsReady new.table state.tree old.fsid) _ old.states.items (λ state h. h) s.sealed.ready));
    above = subst (λ (l : List SubState). All (λ (state : SubState). BusyIsAbove state.tree.level new.table state.tree.root.0) l) (sym s.states)
        (running_all (λ (state : SubState). BusyIsAbove state.tree.level new.table state.tree.root.0) (λ (state : SubState). BusyIsAbove state.tree.level new.table state.tree.root.0) _ old.states.items (λ state h. h) above_states);
    allowed = allowed old new image run scene superblock out keeps none s;
    used = accounted;
    fits = let long = ap length reaches in let same = ap roots_room many in omega (arith, long, sizes, same, keeps.current.fits);
    free =
        let was : 100 ≤ free_blocks old.table + length (old_roots old) + 0 = subst (λ (tree : Option Tree). 100 ≤ free_blocks old.table + length (old_roots old) + length (reach_there old.table tree)) none keeps.current.free in
        let left = free_left old new image run scene superblock out keeps none s in
        let roots = ap length roots_same in
        let now : length (reach_there new.table new.sealed) ≡ length (tree_reach new.table s.root) = ap (λ (tree : Option Tree). length (reach_there new.table tree)) s.is_out in
        omega (arith, was, left, roots, now);
    last_few = subst (λ (l : List ℕ). length l ≤ 33) (sym last_same) keeps.current.last_few;
    failed_few = subst (λ (l : List ℕ). length l ≤ 33) (sym failed_same) keeps.current.failed_few;
    sealed_few = let now : length (reach_there new.table new.sealed) ≡ length (tree_reach new.table s.root) = ap (λ (tree : Option Tree). length (reach_there new.table tree)) s.is_out in omega (arith, now, s.sealed.made.few);
    spare =
        let was : 80 ≤ old.table.spare + length (old_roots old) + 0 = subst (λ (tree : Option Tree). 80 ≤ old.table.spare + length (old_roots old) + length (reach_there old.table tree)) none keeps.current.spare in
        let left = s.taken.spare in
        let roots = ap length roots_same in
        let now : length (reach_there new.table new.sealed) ≡ length (tree_reach new.table s.root) = ap (λ (tree : Option Tree). length (reach_there new.table tree)) s.is_out in
        omega (arith, was, left, roots, now);
  }

  -- ---- what was handed out
  abbrev order : List ℕ
  order = s.sealed.written.order

  pub in_order : (at : ℕ) → Contains order at → Contains (tree_reach new.table s.root) at ⊎ (Contains (reach_of old) at × ((block_at old.table at).state ≡ Dirty))
  in_order at there = elim ((s.sealed.written.each at).0 there) [
    | inl here ↦ inl here
    | inr later ↦ inr (subst (λ (l : List ℕ). Contains l at) (lent_reach old new image run scene superblock out keeps none s) later.0, later.1)
  ]

  not_free_order : (at : ℕ) → Contains order at → (block_at new.table at).state ≢ Free
  not_free_order at there = elim (in_order at there) [
    | inl here ↦ (root_taken old new image run scene superblock out keeps none s at here).taken
    | inr later ↦ elim (fate_of at) [
      | IsNew here free now ↦ not_state Sealed Free new.table at now (λ e. let w : Sealed ≡ Free = e in cc)
      | WasDirty there dirty now ↦ not_state Sealed Free new.table at now (λ e. let w : Sealed ≡ Free = e in cc)
      | Stays same not_root clean ↦ absurd (clean later.0 later.1)
      | AreBothFree before behind ↦ absurd (let w : Free ≡ Dirty = sym before ∙ later.1 in cc)
    ]
  ]

  whole_block : (at : ℕ) → (block_at new.table at).state ≢ Free → at % 4096 ≡ 0
  whole_block = whole_at old new image run scene superblock out keeps none s

  pub order_whole : (at : ℕ) → Contains order at → at % 4096 ≡ 0
  order_whole at there = whole_block at (not_free_order at there)

  pub numbers : numbered out.pairs ≡ map (numbered_at new.table) order
  numbers = ap numbered s.sealed.written.handed ∙ handed_numbered new.table order

  told_at : (at : ℕ) → (block_at new.table at).state ≢ Free → (block_at new.table at).state ≢ Dirty → last_bytes (map (numbered_at new.table) order ++ scene.handed) image (at / 4096) ≡ Some (block_at new.table at).bytes
  told_at at not_free not_dirty = elim (fate_of at) [
    | IsNew here free now ↦ last_in new.table order scene.handed image at order_whole (whole_block at not_free) ((s.sealed.written.each at).1 (inl here))
    | WasDirty there dirty now ↦ last_in new.table order scene.handed image at order_whole (whole_block at not_free) ((s.sealed.written.each at).1 (inr (subst (λ (l : List ℕ). Contains l at) (sym (lent_reach old new image run scene superblock out keeps none s)) there, dirty)))
    | Stays same not_root clean ↦
        last_out new.table order scene.handed image at order_whole (whole_block at not_free) (λ k. elim (in_order at k) [ inl here ↦ not_root here | inr later ↦ clean later.0 later.1 ])
        ∙ keeps.found.told at (λ free. not_free (ap (λ (slot : BlockSlot). slot.state) same ∙ free)) (λ dirty. not_dirty (ap (λ (slot : BlockSlot). slot.state) same ∙ dirty))
        ∙ ap (λ (slot : BlockSlot). Some slot.bytes) (sym same)
    | AreBothFree before behind ↦ absurd (not_free behind)
  ]

  pub told : (at : ℕ) → (block_at new.table at).state ≢ Free → (block_at new.table at).state ≢ Dirty → last_bytes (numbered out.pairs ++ scene.handed) image (at / 4096) ≡ Some (block_at new.table at).bytes
  told at not_free not_dirty = ap (λ (l : List (ℕ × List ℕ)). last_bytes (l ++ scene.handed) image (at / 4096)) numbers ∙ told_at at not_free not_dirty

  held_stays : (block : ℕ × List ℕ) → IsHeld old.table block → IsHeld new.table block
  held_stays block held =
      let same : block_at new.table (block.0 * 4096) ≡ block_at old.table (block.0 * 4096) = fixed_at (block.0 * 4096) held.not_free held.not_dirty in
      record {
        not_free = subst (λ (slot : BlockSlot). slot.state ≢ Free) (sym same) held.not_free;
        not_dirty = subst (λ (slot : BlockSlot). slot.state ≢ Dirty) (sym same) held.not_dirty;
        bytes = ap (λ (slot : BlockSlot). slot.bytes) same ∙ held.bytes;
      }

  newest_at : (at : ℕ) → Contains (reach_of new) at → (block_at new.table at).state ≡ Live → IsOfNewest scene.found (numbered_at new.table at)
  newest_at at there live = elim (fate_of at) [
    | IsNew here free now ↦ absurd (let w : Sealed ≡ Live = sym now ∙ live in cc)
    | WasDirty there dirty now ↦ absurd (let w : Sealed ≡ Live = sym now ∙ live in cc)
    | Stays same not_root clean ↦ subst (λ (bytes : List ℕ). IsOfNewest scene.found (at / 4096, bytes)) (ap (λ (slot : BlockSlot). slot.bytes) (sym same))
        (keeps.found.newest at (subst (λ (l : List ℕ). Contains l at) reaches there) (ap (λ (slot : BlockSlot). slot.state) (sym same) ∙ live))
    | AreBothFree before behind ↦ absurd (let w : Free ≡ Live = sym behind ∙ live in cc)
  ]

  clear : (at : ℕ) → (block_at new.table at).state ≡ Live → (block_at new.table at).out ≡ false
  clear at live = elim (fate_of at) [
    | IsNew here free now ↦ absurd (let w : Sealed ≡ Live = sym now ∙ live in cc)
    | WasDirty there dirty now ↦ absurd (let w : Sealed ≡ Live = sym now ∙ live in cc)
    | Stays same not_root clean ↦ ap (λ (slot : BlockSlot). slot.out) same ∙ keeps.found.clear at (ap (λ (slot : BlockSlot). slot.state) (sym same) ∙ live)
    | AreBothFree before behind ↦ absurd (let w : Free ≡ Live = sym behind ∙ live in cc)
  ]

  last_gone : IsGone new.table new.last
  last_gone = subst (IsGone new.table) (sym s.last) (gone_stays old.table new.table old.last (λ at there. gone_fixed at (keeps.found.last.ready at there)) keeps.found.last)

  failed_gone : (tree : Tree) → new.failed ≡ Some tree → IsGone new.table tree
  failed_gone tree is =
      let was : IsGone old.table tree = keeps.found.failed tree (sym s.failed ∙ is) in
      gone_stays old.table new.table tree (λ at there. gone_fixed at (was.ready at there)) was

  pub on_image : length new.table.slots ≤ length image
  on_image = omega (arith, sizes, keeps.found.on_image)

  capacity_now : length new.table.slots ≤ Rattle.std.specs.Prelude.vec_capacity new.let_go
  capacity_now = subst (λ (n : ℕ). n ≤ Rattle.std.specs.Prelude.vec_capacity new.let_go) (sym sizes) s.capacity

  -- ---- the commit
  commit : Volume → Commit
  commit volume = commit_of new s.root superblock volume

  commit_reach : List ℕ
  commit_reach = tree_reach new.table s.root ++ reach_of new

  pub reached_taken : (at : ℕ) → Contains (tree_reach new.table s.root ++ reach_of new) at → IsTaken new.table at
  reached_taken at there = elim (Contains-append_cases (tree_reach new.table s.root) (reach_of new) at there) [
    | inl here ↦ root_taken old new image run scene superblock out keeps none s at here
    | inr later ↦ states_taken new.table new.states.items run given at later
  ]

  pub sealed_all : states_reach new.table old.states.items ≡ reach_of new
  sealed_all = sealed_reach old new image run scene superblock out keeps none s ∙ sym reaches

  pub reached_once : NoneTwice (tree_reach new.table s.root ++ reach_of new)
  reached_once = subst (λ (l : List ℕ). NoneTwice (tree_reach new.table s.root ++ l)) sealed_all s.sealed.once

  pub reached_clean : (at : ℕ) → Contains (tree_reach new.table s.root ++ reach_of new) at → (block_at new.table at).state ≢ Dirty
  reached_clean at there =
      All-contains (λ (a : ℕ). (block_at new.table a).state ≢ Dirty) (tree_reach new.table s.root ++ states_reach new.table old.states.items) at s.sealed.clean (subst (λ (l : List ℕ). Contains (tree_reach new.table s.root ++ l) at) (sym sealed_all) there)

  reached_current : (at : ℕ) → Contains (tree_reach new.table s.root ++ reach_of new) at → (block_at new.table at).state ≢ LetGo
  reached_current at there = elim (Contains-append_cases (tree_reach new.table s.root) (reach_of new) at there) [
    | inl here ↦ not_state Sealed LetGo new.table at (All-contains (λ (a : ℕ). (block_at new.table a).state ≡ Sealed) (tree_reach new.table s.root) at s.sealed.made.now here) (λ e. let w : Sealed ≡ LetGo = e in cc)
    | inr later ↦ states_current new.table new.states.items run given at later
  ]

  block_place : (at : ℕ) → at % 4096 ≡ 0 → at / 4096 * 4096 ≡ at
  block_place at whole = omega (arith, whole)

  held_here : (at : ℕ) → Contains (tree_reach new.table s.root ++ reach_of new) at → IsHeld new.table (numbered_at new.table at)
  held_here at there =
      let taken_now : IsTaken new.table at = reached_taken at there in
      let place : at / 4096 * 4096 ≡ at = block_place at taken_now.allowed.aligned in
      record {
        not_free = subst (λ (a : ℕ). (block_at new.table a).state ≢ Free) (sym place) taken_now.taken;
        not_dirty = subst (λ (a : ℕ). (block_at new.table a).state ≢ Dirty) (sym place) (reached_clean at there);
        bytes = ap (λ (a : ℕ). (block_at new.table a).bytes) place;
      }

  pub commit_held : (volume : Volume) → HoldsCommit new.table (commit_of new s.root superblock volume)
  commit_held volume block there =
      let found = numbered_in new.table (tree_reach new.table s.root ++ reach_of new) block there in
      subst (IsHeld new.table) found.2 (held_here found.0 found.1)

  noted_are : addresses_of new.let_go.items ≡ addresses_of (let_go_addresses old.table)
  noted_are = ap (λ (l : List Addr). addresses_of l) s.noted

  was_gone : (at : ℕ) → (block_at new.table at).state ≡ LetGo → (block_at old.table at).state ≡ LetGo
  was_gone at gone = elim (fate_of at) [
    | IsNew here free now ↦ absurd (let w : Sealed ≡ LetGo = sym now ∙ gone in cc)
    | WasDirty there dirty now ↦ absurd (let w : Sealed ≡ LetGo = sym now ∙ gone in cc)
    | Stays same not_root clean ↦ ap (λ (slot : BlockSlot). slot.state) (sym same) ∙ gone
    | AreBothFree before behind ↦ absurd (let w : Free ≡ LetGo = sym behind ∙ gone in cc)
  ]

  noted_gone : (at : ℕ) → Contains (addresses_of new.let_go.items) at → (block_at old.table at).state ≡ LetGo
  noted_gone at there = from_addresses old.table at (subst (λ (l : List ℕ). Contains l at) noted_are there)

  gone_now : (at : ℕ) → Contains (addresses_of new.let_go.items) at → (block_at new.table at).state ≡ LetGo
  gone_now at there = ap (λ (slot : BlockSlot). slot.state) (gone_fixed at (noted_gone at there)) ∙ noted_gone at there

  noted_apart : (volume : Volume) → AreApart (addresses_of new.let_go.items) (commit_of new s.root superblock volume)
  noted_apart volume at there reached =
      let found = numbered_in new.table (tree_reach new.table s.root ++ reach_of new) reached.0 reached.1 in
      let number : found.0 / 4096 ≡ at / 4096 = ap (λ (block : ℕ × List ℕ). block.0) found.2 ∙ reached.2 in
      let whole_one = (reached_taken found.0 found.1).allowed.aligned in
      let whole_two = whole_block at (not_state LetGo Free new.table at (gone_now at there) (λ e. let w : LetGo ≡ Free = e in cc)) in
      let same : found.0 ≡ at = same_place found.0 at whole_one whole_two number in
      reached_current found.0 found.1 (subst (λ (a : ℕ). (block_at new.table a).state ≡ LetGo) (sym same) (gone_now at there))

  pub fresh_at : (at : ℕ) → (block_at new.table at).state ≡ Sealed → (other : Commit) → Contains scene.found other → Reaches other (at / 4096) → ⊥
  fresh_at at is other found reached =
      let held : IsHeld old.table reached.0 = keeps.found.held other found reached.0 reached.1 in
      let whole = whole_block at (not_state Sealed Free new.table at is (λ e. let w : Sealed ≡ Free = e in cc)) in
      let place : reached.0.0 * 4096 ≡ at = ap (λ (n : ℕ). n * 4096) reached.2 ∙ block_place at whole in
      let not_free : (block_at old.table at).state ≢ Free = subst (λ (a : ℕ). (block_at old.table a).state ≢ Free) place held.not_free in
      let not_dirty : (block_at old.table at).state ≢ Dirty = subst (λ (a : ℕ). (block_at old.table a).state ≢ Dirty) place held.not_dirty in
      was_quiet.none_sealed at (ap (λ (slot : BlockSlot). slot.state) (sym (fixed_at at not_free not_dirty)) ∙ is)

  spared : (tree : Tree) → new.failed ≡ Some tree → AreApartFromFirst (tree_reach new.table new.last) scene.found
  spared tree is = subst (λ (l : List ℕ). AreApartFromFirst l scene.found) (sym last_same) (was_quiet.spared tree (sym s.failed ∙ is))

  module _ (mounted volume : Volume) (came : Event) where
    abbrev next : Scene
    next = scene_after_event mounted scene came (scenes.Batch (numbered out.pairs) (commit_of new s.root superblock volume))

    pub found_now : IsFound new image next
    found_now = record {
      on_image = on_image;
      held = λ other there block within. held_stays block (keeps.found.held other there block within);
      newest = newest_at;
      told = told;
      clear = clear;
      last = last_gone;
      failed = failed_gone;
      apart = subst NoneTwice (sym roots_same) keeps.found.apart;
      capacity = capacity_now;
    }

    pub out_now : IsOut new next s.root
    out_now = record {
      commit = commit_of new s.root superblock volume;
      runs = refl;
      lists = let one = s.sealed.kept.lists in let two = was_quiet.lists in omega (arith, one, two);
      tree_in = s.sealed.made.tree;
      root_sealed = λ at here. All-contains (λ (a : ℕ). (block_at new.table a).state ≡ Sealed) (tree_reach new.table s.root) at s.sealed.made.now here;
      root_apart = λ at here there. once_apart (tree_reach new.table s.root) (reach_of new) reached_once at here there;
      held = commit_held volume;
      reaches = λ at there clean. in_numbered new.table (tree_reach new.table s.root ++ reach_of new) at (Contains-append_right (tree_reach new.table s.root) (reach_of new) at there);
      root_reached = λ at here. in_numbered new.table (tree_reach new.table s.root ++ reach_of new) at (Contains-append_left (tree_reach new.table s.root) (reach_of new) at here);
      since = λ at gone not_noted. absurd (not_noted (subst (λ (l : List ℕ). Contains l at) (sym noted_are) (in_addresses old.table at (was_gone at gone))));
      noted_once = subst NoneTwice (sym noted_are) (noted_once old.table);
      noted = each (λ (at : ℕ). IsReleasable (block_at new.table at)) (addresses_of new.let_go.items) (λ at there. record { let_go = gone_now at there; back = ap (λ (slot : BlockSlot). slot.out) (gone_fixed at (noted_gone at there)) ∙ was_quiet.back at (noted_gone at there) });
      noted_apart = noted_apart volume;
      old_noted = λ at there. subst (λ (l : List ℕ). Contains l at) (sym noted_are) (in_addresses old.table at (old_gone at (subst (λ (l : List ℕ). Contains l at) roots_same there)));
      untried = λ _. record { fresh = fresh_at; spared = spared };
      tried = λ other. absurd (other refl);
    }

    pub seal_keeps : KeepsBlocks new image run next
    seal_keeps = record { current = current; found = found_now; turn = subst (IsTurn new next) (sym s.is_out) out_now }
