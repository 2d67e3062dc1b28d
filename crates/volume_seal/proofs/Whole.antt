-- The states' trees, then a new root tree, then its seal.
use Rattle.std.proofs.Common.{◌≡◌, ◌≢◌, ◌∙◌, ◌≤◌, ◌<◌, ◌+◌, ◌^◌, ℕ, zero, suc, true, List, [], ◌++◌, length, map, Some, sym, ap, subst, arith, inl, inr, length-append}
use Rattle.std.specs.Prelude.{All, Contains, slice_index_or}
use Rattle.std.specs.List.{flat_map}
use Rattle.std.proofs.lemmas.List.{length-map}
use Rattle.std.proofs.lemmas.List.Elements.{All-append, All-contains, All-contains_itself, All-head, All-tail, All-weaker, Contains-append_cases, Contains-append_left, Contains-append_right}
use Rattle.blk_base.specs.declared.format.TheConstants.{ROOT_TREE}
use Rattle.blk_base.specs.Bytes.{field}
use Rattle.blk_base.specs.Items.{root_bytes}
use Rattle.blk_base.specs.Keys.{root_item}
use Rattle.blk_base.specs.Leaf.{Item, Pointer}
use Rattle.blk_base.specs.Trees.{AtBlock, NoneTwice, child_want}
use Rattle.blk_base.specs.declared.key.Want.{Want}
use Rattle.blk_base.proofs.Members.{in_nothing, once_append}
use Rattle.block_table.specs.declared.state.SlotState.TheVariants.{Dirty, Free, LetGo, Sealed}
use Rattle.block_table.specs.declared.tree.SubState.{SubState}
use Rattle.block_table.specs.declared.tree.Tree.{Tree}
use Rattle.block_table.specs.Blocks.{BlockList}
use Rattle.block_table.specs.Slot.{BlockSlot}
use Rattle.block_table.specs.Table.{Table, state_at}
use Rattle.block_table.specs.TreeIn.{IsSealedSubtree, IsSealedTree, IsTaken, block_at}
use Rattle.tree_range.specs.Shape.{AreAlike, IsTree, node_pointers, reach_below, tree_items, tree_reach}
use Rattle.tree_range.proofs.Local.{taken_alike}
use Rattle.tree_range.proofs.Rise.{All-right}
use Rattle.tree_frame.specs.Frame.{AreCurrent, IsEdit, TakesAtMost}
use Rattle.tree_frame.proofs.Among.{apart_stays}
use Rattle.tree_frame.proofs.Places.{taken_fit}
use Rattle.tree_frame.proofs.Reading.{all_parts, flat_map_same, reach_taken}
use Rattle.tree_frame.proofs.Sealed.{pointers_shown}
use Rattle.tree_seal.specs.Above.{DirtyIsAbove}
use Rattle.tree_seal.specs.OnImage.{AreClean}
use Rattle.tree_seal.specs.Sealing.{AreHanded, IsSealing, as_handed, IsSealedSlot}
use Rattle.tree_seal.proofs.Cuts.{map_append, map_same}
use Rattle.tree_seal.proofs.Handed.{handed_same}
use Rattle.tree_seal.proofs.Walk.{reach_itself}
use Rattle.flat_model.specs.Volume.{RunSub, RunVolume}
use Rattle.volume_image.specs.Subvolume.{AreItemsOf, data_addresses, make_key}
use Rattle.volume_image.proofs.Members.{flat_map_in}
use Rattle.volume_image.proofs.Standing.{items_local}
use Rattle.table_volume.specs.Gives.{data_in, sub_reach, tree_data}
use Rattle.table_volume.specs.Running.{GiveVolume, GivesPart, GivesRun, id_of}
use Rattle.table_volume.proofs.Giving.{data_at}
use Rattle.root_tree.proofs.Fresh.{fresh_is_dirty, fresh_was_free}
use Rattle.volume_seal.specs.Roots.{root_of, state_entries, state_entry}
use Rattle.volume_seal.specs.Sealed.{AreWritten, IsKept, IsReady, IsVolumeSealed, IsWhole, states_reach}
use Rattle.volume_seal.proofs.Free.{free_same}
use Rattle.volume_seal.proofs.Parts.{all_sealed, clean_stays, state_stays, still_current, still_taken}
use Rattle.volume_seal.proofs.States.{AreAllSealed, all_taken, clean_alike_too, whole_later}

-- ---- a tree of which every block is Dirty may be sealed

abbrev AreDirty : Table → List ℕ → Type 0
AreDirty table reach = All (λ (at : ℕ). (block_at table at).state ≡ Dirty) reach

below_of : (level : ℕ) (table : Table) (at : ℕ) → AreDirty table (reach_below (suc level) table at) → All (λ (p : Pointer). AreDirty table (reach_below level table p.at)) (node_pointers table at)
below_of level table at dirty =
    all_parts (λ (a : ℕ). (block_at table a).state ≡ Dirty) (λ (p : Pointer). reach_below level table p.at) (node_pointers table at) (All-tail (λ (a : ℕ). (block_at table a).state ≡ Dirty) at (flat_map (λ (p : Pointer). reach_below level table p.at) (node_pointers table at)) dirty)

first_dirty : (level : ℕ) (table : Table) (at : ℕ) → AreDirty table (reach_below level table at) → (block_at table at).state ≡ Dirty
first_dirty zero table at dirty = All-head (λ (a : ℕ). (block_at table a).state ≡ Dirty) at [] dirty
first_dirty (suc level) table at dirty =
    All-head (λ (a : ℕ). (block_at table a).state ≡ Dirty) at (flat_map (λ (p : Pointer). reach_below level table p.at) (node_pointers table at)) dirty

pub dirty_above : (level : ℕ) (table : Table) (at : ℕ) → AreDirty table (reach_below level table at) → DirtyIsAbove level table at
dirty_above zero table at dirty = tt
dirty_above (suc level) table at dirty =
    All-weaker (λ (p : Pointer). AreDirty table (reach_below level table p.at)) (λ (p : Pointer). ((block_at table p.at).state ≡ Dirty → (block_at table at).state ≡ Dirty) × DirtyIsAbove level table p.at) (λ p d. (λ _. first_dirty (suc level) table at dirty, dirty_above level table p.at d)) (node_pointers table at) (below_of level table at dirty)

pub dirty_sealed : (level : ℕ) (table : Table) (want : Want) → AreDirty table (reach_below level table want.at.0) → IsSealedSubtree level table want
dirty_sealed zero table want dirty = λ clean. absurd (clean (first_dirty zero table want.at.0 dirty))
dirty_sealed (suc level) table want dirty = (
  λ clean. absurd (clean (first_dirty (suc level) table want.at.0 dirty)),
  λ pointers body. subst (All (λ (p : Pointer). IsSealedSubtree level table (child_want want p level))) (pointers_shown table want.at.0 pointers body) (All-weaker (λ (p : Pointer). AreDirty table (reach_below level table p.at)) (λ (p : Pointer). IsSealedSubtree level table (child_want want p level)) (λ p d. dirty_sealed level table (child_want want p level) d) (node_pointers table want.at.0) (below_of level table want.at.0 dirty)),
)

pub dirty_ready : (table : Table) (tree : Tree) (fsid : List ℕ) → AreDirty table (tree_reach table tree) → IsReady table tree fsid
dirty_ready table tree fsid dirty = record {
  above = dirty_above tree.level table tree.root.0 dirty;
  written = (0, dirty_sealed tree.level table (record { fsid = fsid; at = tree.root; generation = 0; owner = tree.owner; level = tree.level }) dirty);
}

-- ---- a state gives what it gave

given_now : (old new : Table) (state : SubState) (sub : RunSub) (fsid : List ℕ) → GivesRun old state sub → IsWhole old new state.tree fsid → All (IsTaken new) (sub_reach old state.tree) → AreCurrent new (sub_reach old state.tree) → GivesRun new state sub
given_now old new state sub fsid g w taken current =
    let tree : Tree = state.tree in
    let files : tree_data new tree ≡ tree_data old tree = ap (λ (l : List Item). data_addresses l) w.items in
    let data_taken : All (IsTaken new) (tree_data old tree) = All-right (IsTaken new) (tree_reach old tree) (tree_data old tree) taken in
    let same : (at : ℕ) → Contains (tree_data old tree) at → data_in old at ≡ data_in new at = λ at there.
    data_at old at (All-contains (IsTaken old) (tree_data old tree) at g.gives.data_taken there)
    ∙ ap (λ (bytes : List ℕ). Some bytes) (sym (All-contains (λ (a : ℕ). (block_at new a).bytes ≡ (block_at old a).bytes) (tree_data old tree) at w.bytes there))
    ∙ sym (data_at new at (All-contains (IsTaken new) (tree_data old tree) at data_taken there)) in
    record {
      gives = record {
        tree_in = w.stands;
        items = subst (λ (l : List Item). AreItemsOf l (data_in new) sub.sub) (sym w.items) (items_local (data_in old) (data_in new) (tree_items old tree) sub.sub g.gives.items same);
        data_taken = subst (All (IsTaken new)) (sym files) data_taken;
        once = subst NoneTwice (sym w.reach) g.gives.once;
      };
      current = subst (AreCurrent new) (sym w.reach) current;
      sound = g.sound;
      next_ino = g.next_ino;
      next_index = g.next_index;
    }

-- ---- the three steps

module _ (old one two new : Table) (states : List SubState) (run : RunVolume) (fsid : List ℕ) (generation : ℕ) (root : Tree) (before middle after : BlockList) (volume : GiveVolume old states run) (nothing : before.pairs ≡ [])
    (first : AreAllSealed old one states fsid before middle) (made : IsEdit one two [] (tree_reach two root)) where
  pub root_dirty : AreDirty two (tree_reach two root)
  root_dirty =
      All-weaker (Contains (tree_reach two root)) (λ (at : ℕ). (block_at two at).state ≡ Dirty) (λ at there. fresh_is_dirty one two (tree_reach two root) at made there) (tree_reach two root) (All-contains_itself (tree_reach two root))

  pub root_first_dirty : state_at two root.root ≡ Dirty
  root_first_dirty = first_dirty root.level two root.root.0 root_dirty

  -- the volume's blocks aren't Free, so that the root tree has none of them
  taken_one : All (IsTaken one) (states_reach old states)
  taken_one =
      All-weaker (IsTaken old) (IsTaken one) (λ at t. still_taken old one (states_reach old states) at first.part.sealing t) (states_reach old states) (all_taken old states run volume)

  not_free : (at : ℕ) → Contains (states_reach old states) at → (block_at one at).state ≢ Free
  not_free at there = (All-contains (IsTaken one) (states_reach old states) at taken_one there).taken

  apart : (at : ℕ) → Contains (states_reach old states) at → Contains (tree_reach two root) at → ⊥
  apart at there here = not_free at there (fresh_was_free one two (tree_reach two root) at made here)

  stay_two : (at : ℕ) → Contains (states_reach old states) at → block_at two at ≡ block_at one at
  stay_two at there =
      apart_stays one two [] (tree_reach two root) (states_reach old states) made (λ a h. (λ none. in_nothing a none, not_free a h)) at there

  clean_one : AreClean one (states_reach old states)
  clean_one = all_sealed old one (states_reach old states) first.part.sealing

  clean_two : (at : ℕ) → Contains (states_reach old states) at → (block_at two at).state ≢ Dirty
  clean_two at there dirty =
      All-contains (λ (a : ℕ). (block_at one a).state ≢ Dirty) (states_reach old states) at clean_one there (ap (λ (slot : BlockSlot). slot.state) (sym (stay_two at there)) ∙ dirty)

  taken_two : All (IsTaken two) (states_reach old states)
  taken_two =
      All-weaker (λ (at : ℕ). Contains (states_reach old states) at × IsTaken one at) (IsTaken two) (λ at h. taken_alike one two at (stay_two at h.0) h.1) (states_reach old states)
      (λ k d within. (All-contains_itself (states_reach old states) k d within, taken_one k d within))

  -- ---- the root tree is sealed last
  module _ (is_tree : IsTree two root) where
    both_once : NoneTwice (tree_reach two root ++ states_reach old states)
    both_once =
        once_append (tree_reach two root) (states_reach old states) is_tree.once volume.once (λ at here there. apart at there here)

    both_taken : All (IsTaken two) (tree_reach two root ++ states_reach old states)
    both_taken =
        All-append (IsTaken two) (tree_reach two root) (states_reach old states) (reach_taken root.level two true root.root.0 is_tree.shape) taken_two

    pub root_lent : before.room ≡ length old.slots → middle.room ≡ length two.slots
    root_lent lent = first.part.room ∙ lent ∙ sym first.part.sealing.size ∙ sym made.size

    pub root_room : length middle.pairs + length (tree_reach two root) ≤ length two.slots
    root_room =
        let fit = taken_fit two (tree_reach two root ++ states_reach old states) both_taken both_once in
        let both = length-append (tree_reach two root) (states_reach old states) in
        let pairs = ap length first.part.handed.pairs in
        let long = length-append before.pairs (map (as_handed one) first.part.handed.order) in
        let none = ap length nothing in
        let count = length-map first.part.handed.order (as_handed one) in
        let few = first.part.handed.few in
        omega (arith, fit, both, pairs, long, none, count, few)

    module _ (stands : IsTree new root) (items : tree_items new root ≡ tree_items two root) (reach : tree_reach new root ≡ tree_reach two root) (sealing : IsSealing two new (tree_reach two root)) (handed : AreHanded two new (tree_reach two root) middle.pairs after.pairs) where
      stay_new : (at : ℕ) → Contains (states_reach old states) at → block_at new at ≡ block_at one at
      stay_new at there = clean_stays two new (tree_reach two root) at sealing (clean_two at there) ∙ stay_two at there

      stay_alike : AreAlike one new (states_reach old states)
      stay_alike =
          All-weaker (Contains (states_reach old states)) (λ (at : ℕ). block_at new at ≡ block_at one at) stay_new (states_reach old states) (All-contains_itself (states_reach old states))

      state_alike : All (λ (s : SubState). AreAlike one new (sub_reach old s.tree)) states
      state_alike =
          all_parts (λ (at : ℕ). block_at new at ≡ block_at one at) (λ (s : SubState). sub_reach old s.tree) states stay_alike

      pub whole : All (λ (s : SubState). IsWhole old new s.tree fsid) states
      whole =
          λ k d within. whole_later old one new _ fsid (first.whole k d within) (state_alike k d within)

      same_reach : states_reach new states ≡ states_reach old states
      same_reach =
          flat_map_same (λ (s : SubState). sub_reach new s.tree) (λ (s : SubState). sub_reach old s.tree) states (λ k d within. (whole k d within).reach)

      taken_new : All (IsTaken new) (states_reach old states)
      taken_new =
          All-weaker (IsTaken two) (IsTaken new) (λ at t. still_taken two new (tree_reach two root) at sealing t) (states_reach old states) taken_two

      state_taken : All (λ (s : SubState). All (IsTaken new) (sub_reach old s.tree)) states
      state_taken =
          all_parts (IsTaken new) (λ (s : SubState). sub_reach old s.tree) states taken_new

      current_now : (at : ℕ) → Contains (states_reach old states) at → (block_at old at).state ≢ LetGo → (block_at new at).state ≢ LetGo
      current_now at there current gone =
          still_current old one (states_reach old states) at first.part.sealing current (ap (λ (slot : BlockSlot). slot.state) (sym (stay_new at there)) ∙ gone)

      -- each state gives what it gave
      part_now : (now : RunVolume) → GiveVolume old states now → All (GivesPart new now) states
      part_now now given k d within =
          let state : SubState = slice_index_or states k d in
          let part : GivesPart old now state = given.each k d within in
          let w : IsWhole old new state.tree fsid = whole k d within in
          let is_one : Contains states state = All-contains_itself states k d within in
          let there : (at : ℕ) → Contains (sub_reach old state.tree) at → Contains (states_reach old states) at = λ at h. flat_map_in (λ (s : SubState). sub_reach old s.tree) states state at is_one h in
          record {
            sub = part.sub;
            there = part.there;
            gives = given_now old new state part.sub fsid part.gives w (state_taken k d within)
                (All-weaker (λ (at : ℕ). Contains (sub_reach old state.tree) at × ((block_at old at).state ≢ LetGo)) (λ (at : ℕ). (block_at new at).state ≢ LetGo) (λ at h. current_now at (there at h.0) h.1) (sub_reach old state.tree)
                (λ i e inside. (All-contains_itself (sub_reach old state.tree) i e inside, part.gives.current i e inside)));
          }

      pub volume_now : (now : RunVolume) → GiveVolume old states now → GiveVolume new states now
      volume_now now given = record {
        rising = given.rising;
        each = part_now now given;
        only = given.only;
        once = subst NoneTwice (sym same_reach) given.once;
      }

      -- ---- what was handed out
      all_pairs : after.pairs ≡ map (as_handed new) (first.part.handed.order ++ handed.order)
      all_pairs =
          handed.pairs ∙ ap (λ (l : List AtBlock). l ++ map (as_handed new) handed.order) (first.part.handed.pairs ∙ ap (λ (l : List AtBlock). l ++ map (as_handed one) first.part.handed.order) nothing ∙ handed_same one new first.part.handed.order (λ at here. stay_new at (first.part.handed.reached at here)))
          ∙ sym (map_append (as_handed new) first.part.handed.order handed.order)

      root_to : (at : ℕ) → Contains (tree_reach two root) at → Contains (tree_reach new root) at
      root_to at here = subst (λ (l : List ℕ). Contains l at) (sym reach) here

      root_from : (at : ℕ) → Contains (tree_reach new root) at → Contains (tree_reach two root) at
      root_from at here = subst (λ (l : List ℕ). Contains l at) reach here

      pub written_now : AreWritten old new (tree_reach new root) (states_reach old states) after.pairs
      written_now = record {
        order = first.part.handed.order ++ handed.order;
        handed = all_pairs;
        once = once_append first.part.handed.order handed.order first.part.handed.once handed.once (λ at here there. apart at (first.part.handed.reached at here) (handed.reached at there));
        each = λ at. (
          λ there. elim (Contains-append_cases first.part.handed.order handed.order at there) [
            | inl here ↦ inr (first.part.handed.reached at here, first.part.handed.dirty at here)
            | inr here ↦ inl (root_to at (handed.reached at here))
          ],
          λ either. elim either [
            | inl here ↦ Contains-append_right first.part.handed.order handed.order at (handed.each at (root_from at here) (All-contains (λ (a : ℕ). (block_at two a).state ≡ Dirty) (tree_reach two root) at root_dirty (root_from at here)))
            | inr here ↦ Contains-append_left first.part.handed.order handed.order at (first.part.handed.each at here.0 here.1)
          ],
        );
      }

      -- ---- the blocks of the table
      pub kept_now : IsKept old new (tree_reach new root ++ states_reach old states)
      kept_now = record {
        size = sealing.size ∙ made.size ∙ first.part.sealing.size;
        lists = sealing.lists ∙ made.lists ∙ first.part.sealing.lists;
        others = λ at none.
            let not_root : Contains (tree_reach two root) at → ⊥ = λ here. none (Contains-append_left (tree_reach new root) (states_reach old states) at (root_to at here)) in
            let not_states : Contains (states_reach old states) at → ⊥ = λ here. none (Contains-append_right (tree_reach new root) (states_reach old states) at here) in
            let last : block_at new at ≡ block_at two at = sealing.others at not_root in
            let before_it : block_at one at ≡ block_at old at = first.part.sealing.others at not_states in
            elim (made.others at (λ nothing_there. in_nothing at nothing_there) not_root) [
              | inl same ↦ inl (last ∙ same ∙ before_it)
              | inr free ↦ inr (record {
                before = ap (λ (slot : BlockSlot). slot.state) (sym before_it) ∙ free.before;
                after = ap (λ (slot : BlockSlot). slot.state) last ∙ free.after;
              })
            ];
      }

      pub taken_now : TakesAtMost one two (length (tree_reach two root)) → TakesAtMost old new (length (tree_reach new root))
      taken_now taken =
          let spare_first = first.part.sealing.spare in
          let spare_last = sealing.spare in
          let free_first = free_same old one (states_reach old states) first.part.sealing in
          let free_last = free_same two new (tree_reach two root) sealing in
          let same = ap length reach in
          record { spare = omega (arith, spare_first, spare_last, taken.spare, same); free = omega (arith, free_first, free_last, taken.free, same) }

      clean_root : AreClean new (tree_reach new root)
      clean_root =
          subst (AreClean new) (sym reach) (all_sealed two new (tree_reach two root) sealing)

      clean_states : AreClean new (states_reach new states)
      clean_states =
          subst (AreClean new) (sym same_reach) (clean_alike_too one new (states_reach old states) stay_alike clean_one)

      -- the entries say what they said
      entry_same : (state : SubState) → block_at new state.tree.root.0 ≡ block_at one state.tree.root.0 → state_entry one state ≡ state_entry new state
      entry_same state same =
          ap (λ (slot : BlockSlot). (make_key (id_of state) root_item 0, root_bytes (record { generation = field 8 slot.bytes 80; at = state.tree.root.0; level = state.tree.level }))) (sym same)

      root_in : (s : SubState) → Contains states s → Contains (states_reach old states) s.tree.root.0
      root_in s is_one =
          flat_map_in (λ (x : SubState). sub_reach old x.tree) states s s.tree.root.0 is_one (Contains-append_left (tree_reach old s.tree) (tree_data old s.tree) s.tree.root.0 (reach_itself s.tree.level old s.tree.root.0))

      pub entries_same : state_entries one states ≡ state_entries new states
      entries_same =
          map_same (state_entry one) (state_entry new) states (λ k d within. entry_same (slice_index_or states k d) (stay_new (slice_index_or states k d).tree.root.0 (root_in (slice_index_or states k d) (All-contains_itself states k d within))))

      pub sealed_now_all : tree_items two root ≡ state_entries one states → root.owner ≡ ROOT_TREE → IsSealedTree new root fsid generation → length (tree_reach two root) ≤ 3 → (length states ≤ 8 → length (tree_reach two root) ≡ 1) → All (λ (s : SubState). (root_of one s.tree).generation < 2 ^ 64) states → IsVolumeSealed old new states root fsid generation after.pairs
      sealed_now_all listed owner written few small fits = record {
        given = volume_now;
        reach = same_reach;
        ready = λ k d within. (whole k d within).ready;
        whole = whole;
        made = record {
          tree = stands;
          owner = owner;
          items = items ∙ listed ∙ entries_same;
          sealed = written;
          fits = λ k d within. subst (λ (slot : BlockSlot). field 8 slot.bytes 80 < 2 ^ 64) (sym (stay_new (slice_index_or states k d).tree.root.0 (root_in (slice_index_or states k d) (All-contains_itself states k d within)))) (fits k d within);
          fresh = subst (All (λ (at : ℕ). (block_at old at).state ≡ Free)) (sym reach) (All-weaker (Contains (tree_reach two root)) (λ (at : ℕ). (block_at old at).state ≡ Free) (λ at here. root_was_free at here) (tree_reach two root) (All-contains_itself (tree_reach two root)));
          now = All-weaker (Contains (tree_reach new root)) (λ (at : ℕ). (block_at new at).state ≡ Sealed) (λ at here. ap (λ (slot : BlockSlot). slot.state) ((sealing.slots at (root_from at here)).dirty (All-contains (λ (a : ℕ). (block_at two a).state ≡ Dirty) (tree_reach two root) at root_dirty (root_from at here)))) (tree_reach new root) (All-contains_itself (tree_reach new root));
          few = subst (λ (l : List ℕ). length l ≤ 3) (sym reach) few;
          small = λ least. ap length reach ∙ small least;
        };
        once = subst NoneTwice (ap (λ (l : List ℕ). l ++ states_reach old states) (sym reach) ∙ ap (λ (l : List ℕ). tree_reach new root ++ l) (sym same_reach)) both_once;
        clean = All-append (λ (at : ℕ). (block_at new at).state ≢ Dirty) (tree_reach new root) (states_reach new states) clean_root clean_states;
        slots = λ at there. subst (IsSealedSlot (block_at old at)) (sym (stay_new at there)) (first.part.sealing.slots at there);
        written = written_now;
        kept = kept_now;
      }
        where
          root_was_free : (at : ℕ) → Contains (tree_reach two root) at → (block_at old at).state ≡ Free
          root_was_free at here =
              state_stays old one (states_reach old states) at Free first.part.sealing (λ e. let wrong : Free ≡ Sealed = e in cc) (fresh_was_free one two (tree_reach two root) at made here) (λ e. let wrong : Free ≡ Dirty = e in cc)
