-- An image that has the blocks of a sealed volume and its superblock stands for the volume.
use Rattle.std.proofs.Common.{◌≡◌, ◌≢◌, ◌∙◌, ◌≤◌, ◌<◌, ◌/◌, ◌^◌, ℕ, zero, suc, T, Bool, true, false, ◌&&◌, List, [], ◌∷◌, ◌++◌, length, map, Option, Some, None, Ordering, Less, Equal, Greater, cond, is_eq, is_lt, refl, sym, ap, subst, arith, inl, inr}
use Rattle.std.specs.Prelude.{All, Contains, slice_get}
use Rattle.std.specs.List.{AllByRecursion}
use Rattle.std.specs.List.Sorted.{IsStrictlyIncreasing, IsStrictlySortedBy}
use Rattle.std.specs.Ordering.{nat_cmp, ordering_then}
use Rattle.std.specs.Cmp.{nat_cmp_is, nat_cmp_total}
use Rattle.std.specs.FinMap.{entries, entries_sorted, find, get, get-entries, is_sorted, nat_cmp-IsAntisymmetric}
use Rattle.std.specs.FinMap.Entries.{below_all, same_entries}
use Rattle.std.specs.Option.{option_map}
use Rattle.std.proofs.lemmas.List.{length-map}
use Rattle.std.proofs.lemmas.List.Elements.{All-contains, All-head, All-tail, Contains-append_left}
use Rattle.std.proofs.lemmas.Map.Keys.{sorted_from_strictly_increasing}
use Rattle.blk_base.specs.declared.key.Want.{Want}
use Rattle.blk_base.specs.Bytes.{Image, field}
use Rattle.blk_base.specs.Items.{IsRoot, root_bytes}
use Rattle.blk_base.specs.Keys.{root_item}
use Rattle.blk_base.specs.Leaf.{Item}
use Rattle.blk_base.specs.Superblock.{IsSuper, SuperValue}
use Rattle.blk_base.specs.Trees.{AtBlock, ItemsRise}
use Rattle.blk_base.proofs.Members.{in_cons, in_nothing}
use Rattle.format_laws.specs.Items.{IsRoot-from_read, root_reads_back}
use Rattle.block_table.specs.declared.state.SlotState.TheVariants.{Dirty}
use Rattle.block_table.specs.declared.tree.SubState.{SubState}
use Rattle.block_table.specs.declared.tree.Tree.{Tree}
use Rattle.block_table.specs.Table.{Table}
use Rattle.block_table.specs.TreeIn.{IsSealedSubtree, IsTaken, block_at}
use Rattle.tree_range.specs.Shape.{tree_items, tree_reach}
use Rattle.tree_range.proofs.Rise.{All-left, All-right}
use Rattle.tree_seal.specs.OnImage.{AreClean, HasBlocks, root_want}
use Rattle.tree_seal.proofs.OnImage.{tree_on}
use Rattle.tree_seal.proofs.Walk.{reach_itself}
use Rattle.flat_model.specs.Volume.{RunSub, RunVolume, Subvolume, subvolume_ids, volume_of}
use Rattle.flat_model.proofs.Histories.{get_volume_of, sound_is_coherent}
use Rattle.flat_model.proofs.Maps.{some_same}
use Rattle.volume_image.specs.Roots.{AreRootItems, root_want as volume_root_want, sub_want}
use Rattle.volume_image.specs.Stands.{AreSubvolumesAt, IsCommitted, IsSubvolumeAt, StandsBy, free_of, mount_need, super_block}
use Rattle.volume_image.specs.Tree.{IsTree as IsTreeOn}
use Rattle.table_volume.specs.Gives.{GivesSubvolume, sub_reach, tree_data}
use Rattle.table_volume.specs.Running.{GiveVolume, GivesPart, id_of}
use Rattle.table_volume.proofs.Giving.{on_image, subvolume_taken}
use Rattle.table_volume.proofs.States.{volume_sound}
use Rattle.volume_seal.specs.Roots.{root_of, state_entries}
use Rattle.volume_seal.specs.Sealed.{IsReady, IsVolumeSealed, states_reach}
use Rattle.volume_seal.specs.Superblock.{super_at}

-- ---- the root items rise

ids_sorted : (states : List SubState) → IsStrictlyIncreasing (map id_of states) → IsStrictlySortedBy nat_cmp (map id_of states)
ids_sorted states rising = sorted_from_strictly_increasing (map id_of states) rising

entries_rise : (table : Table) (states : List SubState) → IsStrictlySortedBy nat_cmp (map id_of states) → ItemsRise (state_entries table states)
unfolding IsStrictlySortedBy
entries_rise table [] sorted = tt
entries_rise table (one ∷ []) sorted = tt
entries_rise table (one ∷ two ∷ states) sorted =
    (ap (λ (r : Ordering). ordering_then r (ordering_then (nat_cmp root_item root_item) (nat_cmp 0 0))) sorted.0.0, entries_rise table (two ∷ states) sorted.1)

pub state_entries_rise : (table : Table) (states : List SubState) → IsStrictlyIncreasing (map id_of states) → ItemsRise (state_entries table states)
state_entries_rise table states rising = entries_rise table states (ids_sorted states rising)

-- ---- the entries of the volume

both_hold : (a b : Bool) → a ≡ true → T b → T (a && b)
both_hold true b e t = t
both_hold false b e t = absurd cc

less_tested : (r : Ordering) → r ≡ Less → is_lt r ≡ true
less_tested r e = ap is_lt e

module _ (table : Table) (run : RunVolume) where
  -- each subvolume under its number
  pub subs_of : (states : List SubState) → All (GivesPart table run) states → List (ℕ × Subvolume)
  subs_of [] each = []
  subs_of (state ∷ states) each =
      (id_of state, (All-head (GivesPart table run) state states each).sub.sub) ∷ subs_of states (All-tail (GivesPart table run) state states each)

  keys_below : (k : ℕ) (states : List SubState) (each : All (GivesPart table run) states) → AllByRecursion (λ (y : ℕ). nat_cmp k y ≡ Less) (map id_of states) → T (below_all nat_cmp k (subs_of states each))
  unfolding subs_of
  keys_below k [] each below = tt
  keys_below k (state ∷ states) each below =
      both_hold (is_lt (nat_cmp k (id_of state))) (below_all nat_cmp k (subs_of states (All-tail (GivesPart table run) state states each))) (less_tested (nat_cmp k (id_of state)) below.0) (keys_below k states (All-tail (GivesPart table run) state states each) below.1)

  subs_sorted : (states : List SubState) (each : All (GivesPart table run) states) → IsStrictlySortedBy nat_cmp (map id_of states) → T (is_sorted nat_cmp (subs_of states each))
  unfolding IsStrictlySortedBy subs_of
  subs_sorted [] each sorted = tt
  subs_sorted (state ∷ states) each sorted =
      let rest : All (GivesPart table run) states = All-tail (GivesPart table run) state states each in
      both_hold (below_all nat_cmp (id_of state) (subs_of states rest)) (is_sorted nat_cmp (subs_of states rest)) (held (below_all nat_cmp (id_of state) (subs_of states rest)) (keys_below (id_of state) states rest sorted.0)) (subs_sorted states rest sorted.1)
    where
      held : (b : Bool) → T b → b ≡ true
      held true t = refl
      held false t = absurd t

  -- what is found under a number is what the run has there
  found_none : (states : List SubState) (each : All (GivesPart table run) states) (q : ℕ) → get run q ≡ None → find nat_cmp q (subs_of states each) ≡ None
  unfolding subs_of
  found_none [] each q none = refl
  found_none (state ∷ states) each q none =
      let part : GivesPart table run state = All-head (GivesPart table run) state states each in
      let rest : All (GivesPart table run) states = All-tail (GivesPart table run) state states each in
      go part rest (nat_cmp q (id_of state)) refl (found_none states rest q none)
    where
      go : (part : GivesPart table run state) (rest : All (GivesPart table run) states) (r : Ordering) → nat_cmp q (id_of state) ≡ r → find nat_cmp q (subs_of states rest) ≡ None → cond (is_eq r) (Some part.sub.sub) (find nat_cmp q (subs_of states rest)) ≡ None
      go part rest Less is later = later
      go part rest Equal is later =
          let same : q ≡ id_of state = nat_cmp-IsAntisymmetric q (id_of state) is in
          let wrong : None ≡ Some part.sub = sym none ∙ ap (get run) same ∙ part.there in
          absurd cc
      go part rest Greater is later = later

  found_some : (states : List SubState) (each : All (GivesPart table run) states) (q : ℕ) (sub : RunSub) → get run q ≡ Some sub → Contains (map id_of states) q → find nat_cmp q (subs_of states each) ≡ Some sub.sub
  unfolding subs_of
  found_some [] each q sub there within = absurd (in_nothing q within)
  found_some (state ∷ states) each q sub there within =
      let part : GivesPart table run state = All-head (GivesPart table run) state states each in
      let rest : All (GivesPart table run) states = All-tail (GivesPart table run) state states each in
      go part rest (λ later. found_some states rest q sub there later) (nat_cmp q (id_of state)) refl
    where
      behind : q ≢ id_of state → Contains (map id_of states) q
      behind other = elim (in_cons (id_of state) q (map id_of states) within) [ inl here ↦ absurd (other (sym here)) | inr later ↦ later ]

      unequal : (r : Ordering) → nat_cmp q (id_of state) ≡ r → r ≢ Equal → q ≢ id_of state
      unequal r is not_equal same = not_equal (sym is ∙ sym (nat_cmp_is q (id_of state) Equal same))

      go : (part : GivesPart table run state) (rest : All (GivesPart table run) states) → (Contains (map id_of states) q → find nat_cmp q (subs_of states rest) ≡ Some sub.sub) → (r : Ordering) → nat_cmp q (id_of state) ≡ r → cond (is_eq r) (Some part.sub.sub) (find nat_cmp q (subs_of states rest)) ≡ Some sub.sub
      go part rest later Less is = later (behind (unequal Less is (λ e. let wrong : Less ≡ Equal = e in cc)))
      go part rest later Equal is =
          let same : q ≡ id_of state = nat_cmp-IsAntisymmetric q (id_of state) is in
          ap (λ (s : RunSub). Some s.sub) (some_same part.sub sub (sym part.there ∙ sym (ap (get run) same) ∙ there))
      go part rest later Greater is = later (behind (unequal Greater is (λ e. let wrong : Greater ≡ Equal = e in cc)))

  found_as : (states : List SubState) (each : All (GivesPart table run) states) (q : ℕ) (o : Option RunSub) → get run q ≡ o → ((sub : RunSub) → get run q ≡ Some sub → Contains (map id_of states) q) → option_map (λ (s : RunSub). s.sub) o ≡ find nat_cmp q (subs_of states each)
  found_as states each q None is only = sym (found_none states each q is)
  found_as states each q (Some sub) is only = sym (found_some states each q sub is (only sub is))

  pub listed : (states : List SubState) (volume : GiveVolume table states run) → entries (volume_of run) ≡ subs_of states volume.each
  listed states volume =
      same_entries nat_cmp nat_cmp_total nat_cmp-IsAntisymmetric (entries (volume_of run)) (subs_of states volume.each) (entries_sorted (volume_of run)) (subs_sorted states volume.each (ids_sorted states volume.rising))
      (λ q. sym (get-entries (volume_of run) q) ∙ get_volume_of run q ∙ found_as states volume.each q (get run q) refl (volume.only q))

  keys_are : (states : List SubState) (each : All (GivesPart table run) states) → map (λ (entry : ℕ × Subvolume). entry.0) (subs_of states each) ≡ map id_of states
  unfolding subs_of
  keys_are [] each = refl
  keys_are (state ∷ states) each = ap (λ (l : List ℕ). id_of state ∷ l) (keys_are states (All-tail (GivesPart table run) state states each))

-- ---- the trees on the image

-- the root item says the generation that its tree's root has
generation_is : (table : Table) (tree : Tree) (fsid : List ℕ) (generation : ℕ) → IsSealedSubtree tree.level table (root_want tree fsid generation) → (block_at table tree.root.0).state ≢ Dirty → generation ≡ (root_of table tree).generation
generation_is table tree fsid generation seals clean =
    sym (header tree.level seals)
  where
    header : (level : ℕ) → IsSealedSubtree level table (root_want tree fsid generation) → field 8 (block_at table tree.root.0).bytes 80 ≡ generation
    header zero seals = (seals clean).generation
    header (suc level) seals = (seals.0 clean).generation

module _ (table : Table) (run : RunVolume) (fsid : List ℕ) (image : Image) (super : SuperValue) (same_fsid : super.fsid ≡ fsid) (size : super.blocks ≡ length table.slots) where
  sub_on : (state : SubState) (sub : RunSub) → GivesSubvolume table state.tree sub.sub → IsReady table state.tree fsid → AreClean table (sub_reach table state.tree) → HasBlocks image table (sub_reach table state.tree) → IsSubvolumeAt image super (id_of state) (root_of table state.tree) sub.sub (sub_reach table state.tree)
  sub_on state sub gives ready clean has =
      let tree : Tree = state.tree in
      let clean_tree : AreClean table (tree_reach table tree) = All-left (λ (at : ℕ). (block_at table at).state ≢ Dirty) (tree_reach table tree) (tree_data table tree) clean in
      let has_tree : HasBlocks image table (tree_reach table tree) = All-left (λ (at : ℕ). slice_get image (at / 4096) ≡ Some (block_at table at).bytes) (tree_reach table tree) (tree_data table tree) has in
      let first : (block_at table tree.root.0).state ≢ Dirty = All-contains (λ (at : ℕ). (block_at table at).state ≢ Dirty) (tree_reach table tree) tree.root.0 clean_tree (reach_itself tree.level table tree.root.0) in
      let said : ready.written.0 ≡ (root_of table tree).generation = generation_is table tree fsid ready.written.0 ready.written.1 first in
      let on : IsTreeOn image (length table.slots) (root_want tree fsid ready.written.0) (tree_items table tree) (tree_reach table tree) = tree_on table tree fsid ready.written.0 image gives.tree_in clean_tree ready.written.1 has_tree in
      let wanted : root_want tree fsid ready.written.0 ≡ sub_want super (id_of state) (root_of table tree) = ap (root_want tree fsid) said ∙ ap (λ (l : List ℕ). root_want tree l (root_of table tree).generation) (sym same_fsid) in
      on_image table tree sub.sub image super (id_of state) (root_of table tree) gives size
      (subst (λ (n : ℕ). IsTreeOn image n (sub_want super (id_of state) (root_of table tree)) (tree_items table tree) (tree_reach table tree)) (sym size) (subst (λ (w : Want). IsTreeOn image (length table.slots) w (tree_items table tree) (tree_reach table tree)) wanted on))
      (All-right (λ (at : ℕ). slice_get image (at / 4096) ≡ Some (block_at table at).bytes) (tree_reach table tree) (tree_data table tree) has)

  subs_on : (states : List SubState) (each : All (GivesPart table run) states) → All (λ (s : SubState). IsReady table s.tree fsid) states → AreClean table (states_reach table states) → HasBlocks image table (states_reach table states)
      → AreSubvolumesAt image super (map (λ (s : SubState). root_of table s.tree) states) (subs_of table run states each) (states_reach table states)
  unfolding subs_of
  subs_on [] each ready clean has = refl
  subs_on (state ∷ states) each ready clean has =
      let part : GivesPart table run state = All-head (GivesPart table run) state states each in
      let near : List ℕ = sub_reach table state.tree in
      let far : List ℕ = states_reach table states in (
        near,
        far,
        sub_on state part.sub part.gives.gives (All-head (λ (s : SubState). IsReady table s.tree fsid) state states ready) (All-left (λ (at : ℕ). (block_at table at).state ≢ Dirty) near far clean) (All-left (λ (at : ℕ). slice_get image (at / 4096) ≡ Some (block_at table at).bytes) near far has),
        subs_on states (All-tail (GivesPart table run) state states each) (All-tail (λ (s : SubState). IsReady table s.tree fsid) state states ready) (All-right (λ (at : ℕ). (block_at table at).state ≢ Dirty) near far clean) (All-right (λ (at : ℕ). slice_get image (at / 4096) ≡ Some (block_at table at).bytes) near far has),
        refl,
      )

-- ---- the root items

root_fits : (table : Table) (run : RunVolume) (state : SubState) → GivesPart table run state → length table.slots ≤ 65536 → (root_of table state.tree).generation < 2 ^ 64 → IsRoot (root_bytes (root_of table state.tree)) (root_of table state.tree)
root_fits table run state part most fits =
    let tree : Tree = state.tree in
    let taken : IsTaken table tree.root.0 = All-contains (IsTaken table) (sub_reach table tree) tree.root.0 (subvolume_taken table tree part.sub.sub part.gives.gives) (Contains-append_left (tree_reach table tree) (tree_data table tree) tree.root.0 (reach_itself tree.level table tree.root.0)) in
    let inside = taken.allowed.inside in
    let low = part.gives.gives.tree_in.low in
    IsRoot-from_read (root_bytes (root_of table tree)) (root_of table tree) (root_reads_back (root_of table tree) (record { generation = fits; at = omega (arith, inside, most); level = omega (arith, low) }))

entries_are_roots : (table : Table) (run : RunVolume) (states : List SubState) → All (GivesPart table run) states → length table.slots ≤ 65536 → All (λ (s : SubState). (root_of table s.tree).generation < 2 ^ 64) states → AreRootItems (state_entries table states) (map id_of states) (map (λ (s : SubState). root_of table s.tree) states)
entries_are_roots table run [] each most fits = tt
entries_are_roots table run (state ∷ states) each most fits = (
  refl,
  root_fits table run state (All-head (GivesPart table run) state states each) most (All-head (λ (s : SubState). (root_of table s.tree).generation < 2 ^ 64) state states fits),
  entries_are_roots table run states (All-tail (GivesPart table run) state states each) most (All-tail (λ (s : SubState). (root_of table s.tree).generation < 2 ^ 64) state states fits),
)

-- ---- the volume

module _ (old table : Table) (states : List SubState) (run : RunVolume) (root : Tree) (fsid : List ℕ) (generation used : ℕ) (pairs : List AtBlock) (image : Image) (volume : GiveVolume table states run) (sealed : IsVolumeSealed old table states root fsid generation pairs)
    (some : 1 ≤ length states) (few : length states ≤ 16) (ids : map id_of states ≡ subvolume_ids (length states)) (is_super : IsSuper (super_block image) (length image) (super_at table root fsid generation used)) (has : HasBlocks image table (tree_reach table root ++ states_reach table states)) where
  count : length (map (λ (s : SubState). root_of table s.tree) states) ≡ length states
  count = length-map states (λ (s : SubState). root_of table s.tree)

  clean_root : AreClean table (tree_reach table root)
  clean_root = All-left (λ (at : ℕ). (block_at table at).state ≢ Dirty) (tree_reach table root) (states_reach table states) sealed.clean

  has_root : HasBlocks image table (tree_reach table root)
  has_root = All-left (λ (at : ℕ). slice_get image (at / 4096) ≡ Some (block_at table at).bytes) (tree_reach table root) (states_reach table states) has

  wanted : root_want root fsid generation ≡ volume_root_want (super_at table root fsid generation used)
  wanted = ap (λ (owner : ℕ). record { fsid = fsid; at = root.root; generation = generation; owner = owner; level = root.level }) sealed.made.owner

  root_on : IsTreeOn image (length table.slots) (volume_root_want (super_at table root fsid generation used)) (tree_items table root) (tree_reach table root)
  root_on =
      subst (λ (w : Want). IsTreeOn image (length table.slots) w (tree_items table root) (tree_reach table root)) wanted (tree_on table root fsid generation image sealed.made.tree clean_root sealed.made.sealed has_root)

  roots_there : AreRootItems (tree_items table root) (subvolume_ids (length (map (λ (s : SubState). root_of table s.tree) states))) (map (λ (s : SubState). root_of table s.tree) states)
  roots_there =
      subst (λ (l : List Item). AreRootItems l (subvolume_ids (length (map (λ (s : SubState). root_of table s.tree) states))) (map (λ (s : SubState). root_of table s.tree) states)) (sym sealed.made.items)
      (subst (λ (l : List ℕ). AreRootItems (state_entries table states) l (map (λ (s : SubState). root_of table s.tree) states)) (ids ∙ ap subvolume_ids (sym count)) (entries_are_roots table run states volume.each is_super.greatest sealed.made.fits))

  pub committed : IsCommitted image (super_at table root fsid generation used) (volume_of run) (tree_reach table root ++ states_reach table states)
  committed = record {
    items = tree_items table root;
    roots = map (λ (s : SubState). root_of table s.tree) states;
    root_reach = tree_reach table root;
    sub_reach = states_reach table states;
    root_tree = root_on;
    least = subst (λ (n : ℕ). 1 ≤ n) (sym count) some;
    most = subst (λ (n : ℕ). n ≤ 16) (sym count) few;
    root_items = roots_there;
    ids = ap (map (λ (entry : ℕ × Subvolume). entry.0)) (listed table run states volume) ∙ keys_are table run states volume.each ∙ ids ∙ ap subvolume_ids (sym count);
    subvolumes = subst (λ (l : List (ℕ × Subvolume)). AreSubvolumesAt image (super_at table root fsid generation used) (map (λ (s : SubState). root_of table s.tree) states) l (states_reach table states)) (sym (listed table run states volume))
        (subs_on table run fsid image (super_at table root fsid generation used) refl refl states volume.each sealed.ready (All-right (λ (at : ℕ). (block_at table at).state ≢ Dirty) (tree_reach table root) (states_reach table states) sealed.clean) (All-right (λ (at : ℕ). slice_get image (at / 4096) ≡ Some (block_at table at).bytes) (tree_reach table root) (states_reach table states) has));
    reached = refl;
    once = sealed.once;
    coherent = sound_is_coherent run (volume_sound table states run volume);
  }

  pub stands_now : mount_need ≤ free_of (length table.slots) (length (tree_reach table root ++ states_reach table states)) → StandsBy image (volume_of run) (tree_reach table root ++ states_reach table states)
  stands_now room = record {
    super = super_at table root fsid generation used;
    spelled = is_super;
    committed = committed;
    no_log = refl;
    room = room;
  }
