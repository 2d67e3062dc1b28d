-- Which blocks below a node pass their headers' checks.
use Rattle.std.proofs.Common.{◌≡◌, ◌≢◌, ℕ, zero, suc, List, [], refl, sym, subst, Result, Ok, Err}
use Rattle.std.specs.Prelude.{All, slice_index_or}
use Rattle.std.specs.List.{flat_map}
use Rattle.std.proofs.lemmas.List.Elements.{All-head, All-nil, All-same, All-tail}
use Rattle.blk_base.specs.declared.fault.BlockFault.{BlockFault}
use Rattle.blk_base.specs.declared.key.Want.{Want}
use Rattle.blk_base.specs.Leaf.{Pointer, HeaderFits, IsNodeBody, node_body_of}
use Rattle.block_table.specs.declared.state.SlotState.TheVariants.{Dirty}
use Rattle.block_table.specs.Slot.{BlockSlot}
use Rattle.block_table.specs.Table.{Table}
use Rattle.blk_base.specs.Trees.{child_want}
use Rattle.block_table.specs.TreeIn.{IsSealedBlock, IsSealedSubtree, block_at}
use Rattle.leaf_view.proofs.NodeLaws.{node_body_from, node_body_means}
use Rattle.tree_range.specs.Shape.{AreAlike, listed, node_pointers, reach_below}
use Rattle.tree_range.proofs.Bodies.{node_pointers_are}
use Rattle.tree_frame.proofs.Reading.{all_parts}
use Rattle.tree_delete.specs.Rows.{row_reach}
use Rattle.tree_delete.specs.Seals.{IsSealedRow, want_of}

-- the pointers of a node's body are those that the table shows
pointers_shown : (table : Table) (at : ℕ) (pointers : List Pointer) → IsNodeBody (block_at table at).bytes pointers → node_pointers table at ≡ pointers
pointers_shown table at pointers body = node_pointers_are table at pointers (node_body_from (block_at table at).bytes pointers body)

-- ---- two tables that are alike

block_alike : (old new : Table) (want : Want) → block_at new want.at.0 ≡ block_at old want.at.0 → IsSealedBlock old want → IsSealedBlock new want
block_alike old new want same h = subst (λ (slot : BlockSlot). slot.state ≢ Dirty → HeaderFits want slot.bytes) (sym same) h

pub sealed_alike : (level : ℕ) (old new : Table) (want : Want) → AreAlike old new (reach_below level old want.at.0) → IsSealedSubtree level old want → IsSealedSubtree level new want
sealed_alike zero old new want alike h =
    block_alike old new want (All-head (λ (place : ℕ). block_at new place ≡ block_at old place) want.at.0 [] alike) h
sealed_alike (suc level) old new want alike h =
    let P : ℕ → Type 0 = λ (place : ℕ). block_at new place ≡ block_at old place in
    let g : Pointer → List ℕ = λ (pointer : Pointer). reach_below level old pointer.at in
    let at = want.at.0 in
    let here : block_at new at ≡ block_at old at = All-head P at (flat_map g (node_pointers old at)) alike in
    let children : (pointers : List Pointer) → IsNodeBody (block_at new at).bytes pointers → All (λ (pointer : Pointer). IsSealedSubtree level new (child_want want pointer level)) pointers =
    λ pointers body i d within.
    let was : IsNodeBody (block_at old at).bytes pointers = subst (λ (slot : BlockSlot). IsNodeBody slot.bytes pointers) here body in
    let parts : All (λ (pointer : Pointer). All P (g pointer)) pointers = all_parts P g pointers (subst (λ (l : List Pointer). All P (flat_map g l)) (pointers_shown old at pointers was) (All-tail P at (flat_map g (node_pointers old at)) alike)) in
    sealed_alike level old new (child_want want (slice_index_or pointers i d) level) (parts i d within) (h.1 pointers was i d within) in
    (block_alike old new want here h.0, children)

pub row_sealed_alike : (fsid : List ℕ) (owner level : ℕ) (old new : Table) (pointers : List Pointer) → AreAlike old new (row_reach level old pointers) → IsSealedRow fsid owner level old pointers → IsSealedRow fsid owner level new pointers
row_sealed_alike fsid owner level old new pointers alike h =
    let P : ℕ → Type 0 = λ (place : ℕ). block_at new place ≡ block_at old place in
    let parts = all_parts P (λ (pointer : Pointer). reach_below level old pointer.at) pointers alike in
    λ i d within. sealed_alike level old new (want_of fsid owner level (slice_index_or pointers i d)) (parts i d within) (h i d within)

-- ---- a node and its children

dirty_passes : (table : Table) (want : Want) → (block_at table want.at.0).state ≡ Dirty → IsSealedBlock table want
dirty_passes table want dirty = λ other. absurd (other dirty)

pub dirty_leaf_sealed : (table : Table) (want : Want) → (block_at table want.at.0).state ≡ Dirty → IsSealedSubtree 0 table want
dirty_leaf_sealed table want dirty = dirty_passes table want dirty

pub dirty_node_sealed : (level : ℕ) (table : Table) (want : Want) → (block_at table want.at.0).state ≡ Dirty → IsSealedRow want.fsid want.owner level table (node_pointers table want.at.0) → IsSealedSubtree (suc level) table want
dirty_node_sealed level table want dirty h =
    let S : Pointer → Type 0 = λ (pointer : Pointer). IsSealedSubtree level table (child_want want pointer level) in
    (dirty_passes table want dirty, λ pointers body. All-same S pointers (node_pointers table want.at.0) (sym (pointers_shown table want.at.0 pointers body)) h)

row_given : (level : ℕ) (table : Table) (want : Want) (r : Result (List Pointer) BlockFault) → node_body_of (block_at table want.at.0).bytes ≡ r → IsSealedSubtree (suc level) table want → IsSealedRow want.fsid want.owner level table (listed r)
row_given level table want (Ok pointers) is h = h.1 pointers (node_body_means (block_at table want.at.0).bytes pointers is)
row_given level table want (Err fault) is h = All-nil (λ (pointer : Pointer). IsSealedSubtree level table (want_of want.fsid want.owner level pointer))

pub sealed_children : (level : ℕ) (table : Table) (want : Want) → IsSealedSubtree (suc level) table want → IsSealedRow want.fsid want.owner level table (node_pointers table want.at.0)
unfolding node_pointers
sealed_children level table want h = row_given level table want (node_body_of (block_at table want.at.0).bytes) refl h
