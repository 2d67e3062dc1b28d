-- Where Dirty blocks stand below Dirty ones alone.
use Rattle.std.proofs.Common.{◌≡◌, ◌≢◌, ℕ, zero, suc, List, [], ap, ◌∙◌, sym, subst}
use Rattle.std.specs.Prelude.{All, slice_index_or}
use Rattle.std.specs.List.{flat_map}
use Rattle.std.proofs.lemmas.List.Elements.{All-nil, All-cons, All-head, All-tail, All-weaker}
use Rattle.blk_base.specs.Leaf.{Pointer}
use Rattle.block_table.specs.declared.state.SlotState.TheVariants.{Dirty}
use Rattle.block_table.specs.Slot.{BlockSlot}
use Rattle.block_table.specs.Table.{Table}
use Rattle.block_table.specs.TreeIn.{block_at}
use Rattle.tree_range.specs.Shape.{AreAlike, node_pointers, reach_below}
use Rattle.tree_range.proofs.Local.{node_pointers_alike}
use Rattle.tree_frame.proofs.Reading.{all_parts, all_joined}
use Rattle.tree_seal.specs.Above.{DirtyIsAbove}
use Rattle.tree_seal.specs.OnImage.{AreClean}

-- what a node's child is
abbrev pub Under : ℕ → Table → ℕ → Pointer → Type 0
Under level table at pointer = ((block_at table pointer.at).state ≡ Dirty → (block_at table at).state ≡ Dirty) × DirtyIsAbove level table pointer.at

abbrev IsClean : Table → ℕ → Type 0
IsClean table at = (block_at table at).state ≢ Dirty

-- below a block that isn't Dirty none is
pub clean_below : (level : ℕ) (table : Table) (at : ℕ) → DirtyIsAbove level table at → (block_at table at).state ≢ Dirty → AreClean table (reach_below level table at)
clean_below zero table at above clean = All-cons (IsClean table) at [] clean (All-nil (IsClean table))
clean_below (suc level) table at above clean =
    let g : Pointer → List ℕ = λ (pointer : Pointer). reach_below level table pointer.at in
    All-cons (IsClean table) at (flat_map g (node_pointers table at)) clean (all_joined (IsClean table) g (node_pointers table at) (All-weaker (Under level table at) (λ (pointer : Pointer). AreClean table (g pointer)) (λ pointer k. clean_below level table pointer.at k.1 (λ dirty. clean (k.0 dirty))) (node_pointers table at) above))

-- where none is Dirty, none is below one that isn't
pub above_clean : (level : ℕ) (table : Table) (at : ℕ) → AreClean table (reach_below level table at) → DirtyIsAbove level table at
above_clean zero table at clean = tt
above_clean (suc level) table at clean =
    let g : Pointer → List ℕ = λ (pointer : Pointer). reach_below level table pointer.at in
    let pointers = node_pointers table at in
    let parts : All (λ (pointer : Pointer). AreClean table (g pointer)) pointers = all_parts (IsClean table) g pointers (All-tail (IsClean table) at (flat_map g pointers) clean) in
    All-weaker (λ (pointer : Pointer). AreClean table (g pointer)) (Under level table at) (λ pointer k. (λ dirty. absurd (clean_first level table pointer.at k dirty), above_clean level table pointer.at k)) pointers parts
  where
    clean_first : (level : ℕ) (table : Table) (at : ℕ) → AreClean table (reach_below level table at) → (block_at table at).state ≢ Dirty
    clean_first zero table at h = All-head (IsClean table) at [] h
    clean_first (suc level) table at h = All-head (IsClean table) at (flat_map (λ (pointer : Pointer). reach_below level table pointer.at) (node_pointers table at)) h

-- it depends on the blocks below alone
pub above_alike : (level : ℕ) (old new : Table) (at : ℕ) → AreAlike old new (reach_below level old at) → DirtyIsAbove level old at → DirtyIsAbove level new at
above_alike zero old new at alike above = tt
above_alike (suc level) old new at alike above =
    let P : ℕ → Type 0 = λ (place : ℕ). block_at new place ≡ block_at old place in
    let g : Pointer → List ℕ = λ (pointer : Pointer). reach_below level old pointer.at in
    let pointers = node_pointers old at in
    let here : block_at new at ≡ block_at old at = All-head P at (flat_map g pointers) alike in
    let parts : All (λ (pointer : Pointer). All P (g pointer)) pointers = all_parts P g pointers (All-tail P at (flat_map g pointers) alike) in
    let each : All (Under level new at) pointers = λ i d within.
    let part : AreAlike old new (reach_below level old (slice_index_or pointers i d).at) = parts i d within in
    let was : Under level old at (slice_index_or pointers i d) = above i d within in
    let first : block_at new (slice_index_or pointers i d).at ≡ block_at old (slice_index_or pointers i d).at = first_alike level old new (slice_index_or pointers i d).at part in
    (λ dirty. ap (λ (slot : BlockSlot). slot.state) here ∙ was.0 (sym (ap (λ (slot : BlockSlot). slot.state) first) ∙ dirty), above_alike level old new (slice_index_or pointers i d).at part was.1) in
    subst (All (Under level new at)) (sym (node_pointers_alike old new at here)) each
  where
    first_alike : (level : ℕ) (old new : Table) (at : ℕ) → AreAlike old new (reach_below level old at) → block_at new at ≡ block_at old at
    first_alike zero old new at h = All-head (λ (place : ℕ). block_at new place ≡ block_at old place) at [] h
    first_alike (suc level) old new at h = All-head (λ (place : ℕ). block_at new place ≡ block_at old place) at (flat_map (λ (pointer : Pointer). reach_below level old pointer.at) (node_pointers old at)) h
