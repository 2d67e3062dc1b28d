-- The trees of all states, one behind the other.
use Rattle.std.proofs.Common.{◌≡◌, ◌∙◌, ◌≤◌, ◌+◌, ℕ, true, List, [], ◌∷◌, ◌++◌, length, take, drop, slice_get, Some, sym, ap, subst, arith, length-append}
use Rattle.std.specs.Prelude.{All, Contains, slice_index_or}
use Rattle.std.proofs.lemmas.List.Elements.{All-append, All-contains, All-contains_itself, All-cons, All-nil, All-weaker, Contains-append_left}
use Rattle.blk_base.specs.Leaf.{Item}
use Rattle.blk_base.specs.Trees.{NoneTwice}
use Rattle.blk_base.proofs.Members.{once_apart}
use Rattle.block_table.specs.declared.tree.SubState.{SubState}
use Rattle.block_table.specs.declared.tree.Tree.{Tree}
use Rattle.block_table.specs.Blocks.{BlockList}
use Rattle.block_table.specs.Slot.{BlockSlot}
use Rattle.block_table.specs.Table.{Table}
use Rattle.block_table.specs.TreeIn.{IsSealedTree, IsTaken, block_at}
use Rattle.tree_range.specs.Shape.{AreAlike, IsTree, tree_items, tree_reach}
use Rattle.tree_range.proofs.Local.{taken_alike, tree_alike}
use Rattle.tree_range.proofs.Rise.{All-left, All-right}
use Rattle.tree_frame.proofs.Places.{taken_fit}
use Rattle.tree_frame.proofs.Reading.{all_joined, reach_taken}
use Rattle.tree_frame.proofs.Sealed.{sealed_alike}
use Rattle.tree_seal.specs.OnImage.{AreClean, root_want}
use Rattle.tree_seal.proofs.Above.{above_alike}
use Rattle.tree_seal.proofs.Cuts.{IsCut, all_at, cut_at, joined_more, joined_whole, take_whole}
use Rattle.tree_seal.proofs.Walk.{reach_itself}
use Rattle.tree_seal.proofs.Edited.{KeepsStates, kept_dirty_above}
use Rattle.flat_model.specs.Volume.{RunSub, RunVolume}
use Rattle.volume_image.specs.Subvolume.{data_addresses}
use Rattle.table_volume.specs.Edited.{IsSubEdit}
use Rattle.table_volume.specs.Gives.{GivesSubvolume, sub_reach, tree_data}
use Rattle.table_volume.specs.Running.{GiveVolume, GivesPart, GivesRun}
use Rattle.table_volume.proofs.Giving.{subvolume_taken}
use Rattle.volume_seal.specs.Sealed.{IsPartSealed, IsReady, IsWhole, states_reach}
use Rattle.volume_seal.proofs.Parts.{clean_alike, lent_still, part_join, part_none, room_left}

-- ---- a tree whose blocks stay as they are

pub record IsSameTree (old new : Table) (tree : Tree) : Type 0 where
  pub items : tree_items new tree ≡ tree_items old tree
  pub files : tree_data new tree ≡ tree_data old tree
  pub tree_reach_is : tree_reach new tree ≡ tree_reach old tree
  pub reach : sub_reach new tree ≡ sub_reach old tree
  pub stands : IsTree old tree → IsTree new tree

pub same_tree : (old new : Table) (tree : Tree) → AreAlike old new (tree_reach old tree) → IsSameTree old new tree
same_tree old new tree alike =
    let t = tree_alike old new tree alike in
    let same : tree_data new tree ≡ tree_data old tree = ap (λ (l : List Item). data_addresses l) t.0 in
    record {
      items = t.0;
      files = same;
      tree_reach_is = t.1;
      reach = ap (λ (l : List ℕ). l ++ tree_data new tree) t.1 ∙ ap (λ (l : List ℕ). tree_reach old tree ++ l) same;
      stands = t.2;
    }

pub alike_tree : (old new : Table) (tree : Tree) → AreAlike old new (sub_reach old tree) → AreAlike old new (tree_reach old tree)
alike_tree old new tree alike =
    All-left (λ (at : ℕ). block_at new at ≡ block_at old at) (tree_reach old tree) (tree_data old tree) alike

pub ready_alike : (old new : Table) (tree : Tree) (fsid : List ℕ) → AreAlike old new (tree_reach old tree) → IsReady old tree fsid → IsReady new tree fsid
ready_alike old new tree fsid alike ready = record {
  above = above_alike tree.level old new tree.root.0 alike ready.above;
  written = (ready.written.0, sealed_alike tree.level old new (root_want tree fsid ready.written.0) alike ready.written.1);
}

-- an operation keeps that the tree may be sealed
pub operated_ready : (old new : Table) (before after : SubState) (was is : RunSub) (most : ℕ) (fsid : List ℕ) → GivesRun old before was → IsSubEdit old new before after most → GivesRun new after is → IsReady old before.tree fsid → IsReady new after.tree fsid
operated_ready old new before after was is most fsid gave edit gives ready =
    let now : (g : ℕ) × IsSealedTree new after.tree fsid g = edit.sealed fsid ready.written.0 ready.written.1 in
    let kept : KeepsStates old new (tree_reach old before.tree) (tree_reach new after.tree) = record {
      clean = edit.kept;
      states = λ at there here. edit.edit.kept at (Contains-append_left (tree_reach old before.tree) (tree_data old before.tree) at there) (Contains-append_left (tree_reach new after.tree) (tree_data new after.tree) at here);
    } in
    record {
      above = kept_dirty_above old new before.tree after.tree fsid ready.written.0 now.0 kept gave.gives.tree_in gives.gives.tree_in ready.written.1 now.1 ready.above;
      written = now;
    }

pub clean_alike_too : (old new : Table) (reach : List ℕ) → AreAlike old new reach → AreClean old reach → AreClean new reach
clean_alike_too old new reach alike clean =
    λ k d within dirty. clean k d within (ap (λ (slot : BlockSlot). slot.state) (sym (alike k d within)) ∙ dirty)

-- a tree that was sealed stays so
pub whole_later : (old mid new : Table) (tree : Tree) (fsid : List ℕ) → IsWhole old mid tree fsid → AreAlike mid new (sub_reach old tree) → IsWhole old new tree fsid
whole_later old mid new tree fsid h alike =
    let here : AreAlike mid new (sub_reach mid tree) = subst (AreAlike mid new) (sym h.reach) alike in
    let trees : AreAlike mid new (tree_reach mid tree) = alike_tree mid new tree here in
    let same : IsSameTree mid new tree = same_tree mid new tree trees in
    let files : AreAlike mid new (tree_data old tree) = All-right (λ (at : ℕ). block_at new at ≡ block_at mid at) (tree_reach old tree) (tree_data old tree) alike in
    record {
      stands = same.stands h.stands;
      items = same.items ∙ h.items;
      reach = same.reach ∙ h.reach;
      bytes = λ k d within. ap (λ (slot : BlockSlot). slot.bytes) (files k d within) ∙ h.bytes k d within;
      clean = clean_alike_too mid new (sub_reach old tree) alike h.clean;
      ready = ready_alike mid new tree fsid trees h.ready;
    }

-- a tree whose blocks stayed is sealed
pub whole_before : (old mid new : Table) (tree : Tree) (fsid : List ℕ) → AreAlike old mid (sub_reach old tree) → IsWhole mid new tree fsid → IsWhole old new tree fsid
whole_before old mid new tree fsid alike h =
    let same : IsSameTree old mid tree = same_tree old mid tree (alike_tree old mid tree alike) in
    let files : AreAlike old mid (tree_data old tree) = All-right (λ (at : ℕ). block_at mid at ≡ block_at old at) (tree_reach old tree) (tree_data old tree) alike in
    let bytes : All (λ (at : ℕ). (block_at new at).bytes ≡ (block_at mid at).bytes) (tree_data old tree) = subst (All (λ (at : ℕ). (block_at new at).bytes ≡ (block_at mid at).bytes)) same.files h.bytes in
    record {
      stands = h.stands;
      items = h.items ∙ same.items;
      reach = h.reach ∙ same.reach;
      bytes = λ k d within. bytes k d within ∙ ap (λ (slot : BlockSlot). slot.bytes) (files k d within);
      clean = subst (AreClean new) same.reach h.clean;
      ready = h.ready;
    }

-- ---- the first so many states

pub record AreSealed (old now : Table) (states : List SubState) (count : ℕ) (fsid : List ℕ) (before out : BlockList) : Type 0 where
  pub part : IsPartSealed old now (states_reach old (take count states)) before out
  pub whole : All (λ state. IsWhole old now state.tree fsid) (take count states)

pub sealed_none : (table : Table) (states : List SubState) (fsid : List ℕ) (out : BlockList) → AreSealed table table states 0 fsid out out
sealed_none table states fsid out = record { part = part_none table out; whole = All-nil _ }

module _ (old : Table) (states : List SubState) (run : RunVolume) (volume : GiveVolume old states run) where
  pub all_taken : All (IsTaken old) (states_reach old states)
  all_taken =
      all_joined (IsTaken old) (λ (state : SubState). sub_reach old state.tree) states (λ k d within. subvolume_taken old _ (volume.each k d within).sub.sub (volume.each k d within).gives.gives)

  pub all_fit : length (states_reach old states) ≤ length old.slots
  all_fit = taken_fit old (states_reach old states) all_taken volume.once

  module _ (now : Table) (count : ℕ) (fsid : List ℕ) (before out : BlockList) (h : AreSealed old now states count fsid before out) (state : SubState) (there : slice_get states count ≡ Some state) where
    cut : IsCut states count state
    cut = cut_at states count state there

    joined : states_reach old states ≡ states_reach old (take count states) ++ (sub_reach old state.tree ++ states_reach old (drop (count + 1) states))
    joined = joined_whole (λ (s : SubState). sub_reach old s.tree) states count state cut

    once : NoneTwice (states_reach old (take count states) ++ (sub_reach old state.tree ++ states_reach old (drop (count + 1) states)))
    once = subst NoneTwice joined volume.once

    -- none of its blocks was sealed before
    apart : (at : ℕ) → Contains (sub_reach old state.tree) at → Contains (states_reach old (take count states)) at → ⊥
    apart at here sealed =
        once_apart (states_reach old (take count states)) (sub_reach old state.tree ++ states_reach old (drop (count + 1) states)) once at sealed (Contains-append_left (sub_reach old state.tree) (states_reach old (drop (count + 1) states)) at here)

    pub state_alike : AreAlike old now (sub_reach old state.tree)
    state_alike =
        All-weaker (Contains (sub_reach old state.tree)) (λ (at : ℕ). block_at now at ≡ block_at old at) (λ at here. h.part.sealing.others at (λ sealed. apart at here sealed)) (sub_reach old state.tree) (All-contains_itself (sub_reach old state.tree))

    part_of : GivesPart old run state
    part_of = all_at (GivesPart old run) states count state there volume.each

    gives : GivesSubvolume old state.tree part_of.sub.sub
    gives = part_of.gives.gives

    same : IsSameTree old now state.tree
    same = same_tree old now state.tree (alike_tree old now state.tree state_alike)

    pub state_tree : IsTree now state.tree
    state_tree = same.stands gives.tree_in

    pub state_taken : All (IsTaken now) (tree_data now state.tree)
    state_taken =
        subst (All (IsTaken now)) (sym same.files) (λ k d within. taken_alike old now _ (All-right (λ (at : ℕ). block_at now at ≡ block_at old at) (tree_reach old state.tree) (tree_data old state.tree) state_alike k d within) (gives.data_taken k d within))

    pub state_once : NoneTwice (sub_reach now state.tree)
    state_once = subst NoneTwice (sym same.reach) gives.once

    pub state_ready : IsReady old state.tree fsid → IsReady now state.tree fsid
    state_ready ready = ready_alike old now state.tree fsid (alike_tree old now state.tree state_alike) ready

    pub state_lent : before.room ≡ length old.slots → out.room ≡ length now.slots
    state_lent lent = lent_still old now (states_reach old (take count states)) before out h.part lent

    pub state_room : length before.pairs ≡ 0 → length out.pairs + length (sub_reach now state.tree) ≤ length now.slots
    state_room none =
        let all = ap length joined in
        let parts = length-append (states_reach old (take count states)) (sub_reach old state.tree ++ states_reach old (drop (count + 1) states)) in
        let both = length-append (sub_reach old state.tree) (states_reach old (drop (count + 1) states)) in
        let size = ap length same.reach in
        let fit = all_fit in
        room_left old now (states_reach old (take count states)) before out (length (states_reach old states)) (length (sub_reach now state.tree)) h.part (omega (arith, none, fit)) (omega (arith, all, parts, both, size))

    pub sealed_more : (next : Table) (after : BlockList) → IsWhole now next state.tree fsid → IsPartSealed now next (sub_reach now state.tree) out after → AreSealed old next states (count + 1) fsid before after
    sealed_more next after whole part = record {
      part = subst (λ (l : List ℕ). IsPartSealed old next l before after) (sym (joined_more (λ (s : SubState). sub_reach old s.tree) states count state cut)) (part_join old now next (states_reach old (take count states)) (sub_reach old state.tree) before out after h.part (subst (λ (l : List ℕ). IsPartSealed now next l out after) same.reach part));
      whole = subst (All (λ (s : SubState). IsWhole old next s.tree fsid)) (sym cut.more) (All-append (λ (s : SubState). IsWhole old next s.tree fsid) (take count states) (state ∷ [])
          (All-weaker (λ (s : SubState). IsWhole old now s.tree fsid) (λ (s : SubState). IsWhole old next s.tree fsid) (λ s w. whole_later old now next s.tree fsid w (clean_alike now next (sub_reach now state.tree) (sub_reach old s.tree) part.sealing w.clean)) (take count states) h.whole)
          (All-cons (λ (s : SubState). IsWhole old next s.tree fsid) state [] (whole_before old now next state.tree fsid state_alike whole) (All-nil _)));
    }

-- ---- all states

pub record AreAllSealed (old now : Table) (states : List SubState) (fsid : List ℕ) (before out : BlockList) : Type 0 where
  pub part : IsPartSealed old now (states_reach old states) before out
  pub whole : All (λ state. IsWhole old now state.tree fsid) states

pub sealed_all : (old now : Table) (states : List SubState) (count : ℕ) (fsid : List ℕ) (before out : BlockList) → length states ≤ count → AreSealed old now states count fsid before out → AreAllSealed old now states fsid before out
sealed_all old now states count fsid before out all h =
    let whole : take count states ≡ states = take_whole states count all in
    record {
      part = subst (λ (l : List SubState). IsPartSealed old now (states_reach old l) before out) whole h.part;
      whole = subst (All (λ (s : SubState). IsWhole old now s.tree fsid)) whole h.whole;
    }

-- the roots of all trees are there
pub all_state_roots : (old now : Table) (states : List SubState) (run : RunVolume) (fsid : List ℕ) (before out : BlockList) → GiveVolume old states run → AreAllSealed old now states fsid before out → All (λ (state : SubState). IsTaken now state.tree.root.0) states
all_state_roots old now states run fsid before out volume h = λ k d within.
    let state : SubState = slice_index_or states k d in
    let stands : IsTree now state.tree = (h.whole k d within).stands in
    All-contains (IsTaken now) (tree_reach now state.tree) state.tree.root.0 (reach_taken state.tree.level now true state.tree.root.0 stands.shape) (reach_itself state.tree.level now state.tree.root.0)
