-- Whether blocks pass their headers' checks depends on the blocks below alone.
use Rattle.std.proofs.Common.{◌≡◌, ◌≢◌, ℕ, zero, suc, List, [], sym, subst}
use Rattle.std.specs.Prelude.{All, slice_index_or}
use Rattle.std.specs.List.{flat_map}
use Rattle.std.proofs.lemmas.List.Elements.{All-head, All-tail}
use Rattle.blk_base.specs.declared.key.Want.{Want}
use Rattle.blk_base.specs.Leaf.{Pointer, HeaderFits, IsNodeBody}
use Rattle.block_table.specs.declared.state.SlotState.TheVariants.{Dirty}
use Rattle.block_table.specs.Slot.{BlockSlot}
use Rattle.block_table.specs.Table.{Table}
use Rattle.blk_base.specs.Trees.{child_want}
use Rattle.block_table.specs.TreeIn.{IsSealedBlock, IsSealedSubtree, block_at}
use Rattle.leaf_view.proofs.NodeLaws.{node_body_from}
use Rattle.tree_range.specs.Shape.{AreAlike, node_pointers, reach_below}
use Rattle.tree_range.proofs.Bodies.{node_pointers_are}
use Rattle.tree_frame.proofs.Reading.{all_parts}

-- the pointers of a node's body are those that the table shows
pub pointers_shown : (table : Table) (at : ℕ) (pointers : List Pointer) → IsNodeBody (block_at table at).bytes pointers → node_pointers table at ≡ pointers
pointers_shown table at pointers body =
    node_pointers_are table at pointers (node_body_from (block_at table at).bytes pointers body)

block_alike : (old new : Table) (want : Want) → block_at new want.at.0 ≡ block_at old want.at.0 → IsSealedBlock old want → IsSealedBlock new want
block_alike old new want same h =
    subst (λ (slot : BlockSlot). slot.state ≢ Dirty → HeaderFits want slot.bytes) (sym same) h

pub sealed_alike : (level : ℕ) (old new : Table) (want : Want) → AreAlike old new (reach_below level old want.at.0) → IsSealedSubtree level old want → IsSealedSubtree level new want
sealed_alike zero old new want alike h =
    block_alike old new want (All-head (λ (place : ℕ). block_at new place ≡ block_at old place) want.at.0 [] alike) h
sealed_alike (suc level) old new want alike h =
    let P : ℕ → Type 0 = λ (place : ℕ). block_at new place ≡ block_at old place in
    let g : Pointer → List ℕ = λ (pointer : Pointer). reach_below level old pointer.at in
    let at = want.at.0 in
    let here : block_at new at ≡ block_at old at = All-head P at (flat_map g (node_pointers old at)) alike in
    let children : (pointers : List Pointer) → IsNodeBody (block_at new at).bytes pointers → All (λ (pointer : Pointer). IsSealedSubtree level new (child_want want pointer level)) pointers =
    λ pointers body i d within.
    let was : IsNodeBody (block_at old at).bytes pointers = subst (λ (slot : BlockSlot). IsNodeBody slot.bytes pointers) here body in
    let parts : All (λ (pointer : Pointer). All P (g pointer)) pointers = all_parts P g pointers (subst (λ (l : List Pointer). All P (flat_map g l)) (pointers_shown old at pointers was) (All-tail P at (flat_map g (node_pointers old at)) alike)) in
    sealed_alike level old new (child_want want (slice_index_or pointers i d) level) (parts i d within) (h.1 pointers was i d within) in
    (block_alike old new want here h.0, children)
