-- The blocks of a subvolume's tree, and of all that a volume's states reach.
use Rattle.std.proofs.Common.{◌++◌, flat_map, ◌≡◌, ◌<◌, ◌≤◌, ◌+◌, ℕ, suc, List, [], ◌∷◌, length, map, sum_by, Contains, Option, Some, sym, ap, subst, ◌∙◌, inl, arith, length-append}
use Rattle.std.specs.Prelude.{slice_index}
use Rattle.std.specs.Cmp.{nat_cmp_total}
use Rattle.std.specs.FinMap.{entries, get, len, len-entries, nat_cmp-IsAntisymmetric}
use Rattle.std.specs.List.Sorted.{IsStrictlyIncreasing}
use Rattle.std.proofs.lemmas.List.Elements.{All-contains}
use Rattle.std.proofs.lemmas.List.Kept.{AllPairs-from_increasing}
use Rattle.std.specs.Option.{unwrap_or, option_map}
use Rattle.block_table.specs.declared.tree.SubState.{SubState}
use Rattle.block_table.specs.declared.tree.Tree.{Tree}
use Rattle.block_table.specs.Table.{Table}
use Rattle.tree_range.specs.Shape.{IsTree, tree_items, tree_reach}
use Rattle.tree_frame.proofs.Counting.{few_blocks_in_tree}
use Rattle.flat_model.specs.Volume.{Subvolume, RunSub, RunVolume, Volume, bare_subvolume, volume_of}
use Rattle.flat_model.proofs.Histories.{get_volume_of}
use Rattle.logged_volume.specs.FlatLog.{AreDistinct}
use Rattle.logged_volume.proofs.Counts.{length_within, sum_le, sum_plus, sum_within}
use Rattle.volume_image.proofs.Members.{get_in, in_map, map_in}
use Rattle.table_volume.specs.Gives.{GivesSubvolume, data_in, sub_reach, tree_data}
use Rattle.table_volume.specs.Running.{GiveVolume, GivesPart, id_of}
use Rattle.volume_seal.specs.Roots.{state_entries, state_entry}
use Rattle.volume_seal.specs.Sealed.{states_reach}
use Rattle.commit_room.specs.Items.{items_of, most_tree_blocks, trees_room, data_blocks}
use Rattle.tree_counts.specs.Laws.{files_blocks, subs_room}
use Rattle.tree_counts.proofs.Lists.{length_map, length_flat_map, sum_map}
use Rattle.tree_counts.proofs.Asked.{few_items}
use Rattle.tree_counts.proofs.Slots.{data_counted}

pub few_tree_blocks : (table : Table) (tree : Tree) (sub : Subvolume) → GivesSubvolume table tree sub → length (tree_reach table tree) ≤ most_tree_blocks (items_of sub)
few_tree_blocks table tree sub gives =
    let few = few_blocks_in_tree tree.level table tree.root.0 gives.tree_in.shape in
    let items = few_items (tree_items table tree) (data_in table) sub gives.tree_in.order gives.items in
    omega (arith, few, items)

-- the most blocks of a subvolume, tree and data
abbrev most_blocks : Subvolume → ℕ
most_blocks sub = files_blocks sub + most_tree_blocks (items_of sub)

few_blocks : (table : Table) (tree : Tree) (sub : Subvolume) → GivesSubvolume table tree sub → length (sub_reach table tree) ≤ most_blocks sub
few_blocks table tree sub gives =
    let both = length-append (tree_reach table tree) (tree_data table tree) in
    let files = data_counted (tree_items table tree) (data_in table) sub gives.tree_in.order gives.items in
    omega (arith, both, files, few_tree_blocks table tree sub gives)

-- ---- the subvolumes of states

-- the entry of a volume that a state is of
abbrev entry_at : Volume → SubState → ℕ × Subvolume
entry_at volume state = (id_of state, unwrap_or (get volume (id_of state)) bare_subvolume)

rest_rises : (first : ℕ) (rest : List ℕ) → IsStrictlyIncreasing (first ∷ rest) → IsStrictlyIncreasing rest
rest_rises first rest rise k within =
    let next : suc k + 1 ≡ suc (k + 1) = omega arith in
    subst (λ (n : ℕ). slice_index rest k < slice_index (first ∷ rest) n) next (rise (suc k) (omega (arith, within)))

first_below : (first : ℕ) (rest : List ℕ) → IsStrictlyIncreasing (first ∷ rest) → (other : ℕ) → Contains rest other → first < other
first_below first rest rise other c =
    let within = c.1 in
    subst (λ (n : ℕ). first < n) c.2 (AllPairs-from_increasing (first ∷ rest) rise 0 (suc c.0) other (omega arith) (omega (arith, within)))

entries_differ : (volume : Volume) (states : List SubState) → IsStrictlyIncreasing (map id_of states) → AreDistinct (map (entry_at volume) states)
entries_differ volume [] rise = tt
entries_differ volume (state ∷ states) rise = (
  (λ c.
      let other = in_map (entry_at volume) states (entry_at volume state) c in
      let same : id_of other.0 ≡ id_of state = ap (λ (e : ℕ × Subvolume). e.0) other.2 in
      let below = first_below (id_of state) (map id_of states) rise (id_of other.0) (map_in id_of states other.0 other.1) in
      absurd (omega (arith, same, below))),
  entries_differ volume states (rest_rises (id_of state) (map id_of states) rise),
)

module _ (table : Table) (states : List SubState) (run : RunVolume) (given : GiveVolume table states run) where
  part_of : (state : SubState) → Contains states state → GivesPart table run state
  part_of state c = All-contains (GivesPart table run) states state given.each c

  has_sub : (state : SubState) (part : GivesPart table run state) → get (volume_of run) (id_of state) ≡ Some part.sub.sub
  has_sub state part = get_volume_of run (id_of state) ∙ ap (option_map (λ (sub : RunSub). sub.sub)) part.there

  entry_is : (state : SubState) (part : GivesPart table run state) → entry_at (volume_of run) state ≡ (id_of state, part.sub.sub)
  entry_is state part = ap (λ (o : Option Subvolume). (id_of state, unwrap_or o bare_subvolume)) (has_sub state part)

  entry_there : (entry : ℕ × Subvolume) → Contains (map (entry_at (volume_of run)) states) entry → Contains (entries (volume_of run)) entry
  entry_there entry c =
      let state = in_map (entry_at (volume_of run)) states entry c in
      let part = part_of state.0 state.1 in
      subst (λ (e : ℕ × Subvolume). Contains (entries (volume_of run)) e) (sym (entry_is state.0 part) ∙ state.2)
      (get_in nat_cmp_total nat_cmp-IsAntisymmetric (volume_of run) (id_of state.0) part.sub.sub (has_sub state.0 part))

  -- what each state has no more of than its subvolume may, all have no more of than the volume may
  sum_over : (has : SubState → ℕ) (most : Subvolume → ℕ) → ((state : SubState) (sub : Subvolume) → GivesSubvolume table state.tree sub → has state ≤ most sub)
      → sum_by has states ≤ sum_by (λ (entry : ℕ × Subvolume). most entry.1) (entries (volume_of run))
  sum_over has most each =
      let own = sum_le has (λ (state : SubState). most (entry_at (volume_of run) state).1) states (λ state c.
      let part = part_of state c in
      subst (λ (entry : ℕ × Subvolume). has state ≤ most entry.1) (sym (entry_is state part)) (each state part.sub.sub part.gives.gives)) in
      let mapped = sum_map (λ (entry : ℕ × Subvolume). most entry.1) (entry_at (volume_of run)) states in
      let within = sum_within (λ (entry : ℕ × Subvolume). most entry.1) (map (entry_at (volume_of run)) states) (entries (volume_of run)) (entries_differ (volume_of run) states given.rising) (λ entry c. inl (entry_there entry c)) in
      omega (arith, own, mapped, within)

  pub few_volume_blocks : length (states_reach table states) ≤ data_blocks (volume_of run) + subs_room (volume_of run)
  few_volume_blocks =
      let all = length_flat_map (λ (state : SubState). sub_reach table state.tree) states in
      let most = sum_over (λ (state : SubState). length (sub_reach table state.tree)) most_blocks (λ state sub gives. few_blocks table state.tree sub gives) in
      let split = sum_plus (λ (entry : ℕ × Subvolume). files_blocks entry.1) (λ (entry : ℕ × Subvolume). most_tree_blocks (items_of entry.1)) (entries (volume_of run)) in
      omega (arith, all, most, split)

  few_subs_blocks : length (flat_map (λ (state : SubState). tree_reach table state.tree) states) ≤ subs_room (volume_of run)
  few_subs_blocks =
      let all = length_flat_map (λ (state : SubState). tree_reach table state.tree) states in
      let most = sum_over (λ (state : SubState). length (tree_reach table state.tree)) (λ (sub : Subvolume). most_tree_blocks (items_of sub)) (λ state sub gives. few_tree_blocks table state.tree sub gives) in
      omega (arith, all, most)

  few_states : length states ≤ len (volume_of run)
  few_states =
      let long = length_map (entry_at (volume_of run)) states in
      let within = length_within (map (entry_at (volume_of run)) states) (entries (volume_of run)) (entries_differ (volume_of run) states given.rising) entry_there in
      omega (arith, long, within, len-entries (volume_of run))

  module _ (root : Tree) (tree : IsTree table root) (roots : tree_items table root ≡ state_entries table states) where
    few_root_blocks : length (tree_reach table root) ≤ most_tree_blocks (len (volume_of run))
    few_root_blocks =
        let few = few_blocks_in_tree root.level table root.root.0 tree.shape in
        let long = ap length roots ∙ length_map (state_entry table) states in
        omega (arith, few, long, few_states)

    pub few_trees_blocks : length (tree_reach table root) + length (flat_map (λ (state : SubState). tree_reach table state.tree) states) ≤ trees_room (volume_of run)
    few_trees_blocks = omega (arith, few_root_blocks, few_subs_blocks)

    pub few_committed_blocks : length (tree_reach table root ++ states_reach table states) ≤ data_blocks (volume_of run) + trees_room (volume_of run)
    few_committed_blocks = omega (arith, length-append (tree_reach table root) (states_reach table states), few_root_blocks, few_volume_blocks)
