-- What stands below a block depends on the blocks that it reaches alone.
use Rattle.std.proofs.Common.{◌≡◌, ◌≢◌, ◌≤◌, ℕ, zero, suc, Bool, true, false, List, [], ◌∷◌, ◌++◌, length, refl, ap, ◌∙◌, sym, subst, Some, IsOk}
use Rattle.std.specs.Prelude.{All}
use Rattle.std.specs.List.{flat_map}
use Rattle.std.proofs.lemmas.List.Elements.{All-nil, All-cons, All-head, All-tail, All-weaker}
use Rattle.blk_base.specs.Leaf.{Item, Pointer, leaf_body_of, node_body_of}
use Rattle.block_table.specs.declared.state.SlotState.{SlotState}
use Rattle.block_table.specs.declared.state.SlotState.TheVariants.{Free, Dirty, Sealed, Live, LetGo}
use Rattle.block_table.specs.declared.tree.Tree.{Tree}
use Rattle.block_table.specs.Slot.{BlockSlot, is_free}
use Rattle.block_table.specs.Table.{Table}
use Rattle.blk_base.specs.Trees.{ItemsRise, NoneTwice, first_key, least_items, least_pointers}
use Rattle.block_table.specs.TreeIn.{IsTaken, block_at}
use Rattle.block_table.proofs.Kept.{found}
use Rattle.std.specs.Prelude.{slice_index_or}
use Rattle.tree_range.specs.Shape.{IsSubtree, IsTree, AreAlike, listed, items_below, reach_below, leaf_items, node_pointers, tree_items, tree_reach}
use Rattle.tree_range.proofs.Rise.{All-left, All-right}
use Rattle.tree_range.proofs.Law.{Child}

-- what holds of each element of each list holds of all
all_parts : {X A : Type 0} (P : A → Type 0) (g : X → List A) (xs : List X) → All P (flat_map g xs) → All (λ x. All P (g x)) xs
all_parts P g [] h = All-nil (λ x. All P (g x))
all_parts P g (x ∷ xs) h = All-cons (λ y. All P (g y)) x xs (All-left P (g x) (flat_map g xs) h) (all_parts P g xs (All-right P (g x) (flat_map g xs) h))

flat_map_same : {X A : Type 0} (f g : X → List A) (xs : List X) → All (λ x. f x ≡ g x) xs → flat_map f xs ≡ flat_map g xs
flat_map_same f g [] h = refl
flat_map_same f g (x ∷ xs) h =
    ap (λ l. l ++ flat_map f xs) (All-head (λ y. f y ≡ g y) x xs h) ∙ ap (λ l. g x ++ l) (flat_map_same f g xs (All-tail (λ y. f y ≡ g y) x xs h))

not_free : (state : SlotState) → state ≢ Free → is_free state ≡ false
not_free Free h = absurd (h refl)
not_free Dirty h = refl
not_free Sealed h = refl
not_free Live h = refl
not_free LetGo h = refl

-- a block that is taken is taken wherever it is alike
pub taken_alike : (old new : Table) (at : ℕ) → block_at new at ≡ block_at old at → IsTaken old at → IsTaken new at
taken_alike old new at same h =
    let taken : (block_at new at).state ≢ Free = subst (λ (slot : BlockSlot). slot.state ≢ Free) (sym same) h.taken in
    let there = found new (record { 0 = at }) (not_free (block_at new at).state taken) in
    record { allowed = record { aligned = h.allowed.aligned; inside = there.inside; behind_super = h.allowed.behind_super; no_copy = h.allowed.no_copy }; taken = taken }

pub leaf_items_alike : (old new : Table) (at : ℕ) → block_at new at ≡ block_at old at → leaf_items new at ≡ leaf_items old at
unfolding leaf_items
leaf_items_alike old new at same = ap (λ (slot : BlockSlot). listed (leaf_body_of slot.bytes)) same

pub node_pointers_alike : (old new : Table) (at : ℕ) → block_at new at ≡ block_at old at → node_pointers new at ≡ node_pointers old at
unfolding node_pointers
node_pointers_alike old new at same = ap (λ (slot : BlockSlot). listed (node_body_of slot.bytes)) same

-- what stands below a block in two tables that are alike there
pub record IsAlikeBelow (level : ℕ) (old new : Table) (at : ℕ) : Type 0 where
  pub items : items_below level new at ≡ items_below level old at
  pub reach : reach_below level new at ≡ reach_below level old at
  pub shape : (is_root : Bool) → IsSubtree level old is_root at → IsSubtree level new is_root at

pub alike_below : (level : ℕ) (old new : Table) (at : ℕ) → AreAlike old new (reach_below level old at) → IsAlikeBelow level old new at
alike_below zero old new at h =
    let here : block_at new at ≡ block_at old at = All-head (λ (place : ℕ). block_at new place ≡ block_at old place) at [] h in
    let same = leaf_items_alike old new at here in
    record {
      items = same;
      reach = refl;
      shape = λ is_root k. (taken_alike old new at here k.0, subst (λ (slot : BlockSlot). IsOk (leaf_body_of slot.bytes)) (sym here) k.1, subst (λ (l : List Item). least_items is_root ≤ length l) (sym same) k.2);
    }
alike_below (suc level) old new at h =
    let P : ℕ → Type 0 = λ (place : ℕ). block_at new place ≡ block_at old place in
    let pointers = node_pointers old at in
    let behind = flat_map (λ pointer. reach_below level old pointer.at) pointers in
    let here : block_at new at ≡ block_at old at = All-head P at behind h in
    let same = node_pointers_alike old new at here in
    let parts : All (λ (pointer : Pointer). All P (reach_below level old pointer.at)) pointers = all_parts P (λ (pointer : Pointer). reach_below level old pointer.at) pointers (All-tail P at behind h) in
    let each : All (λ (pointer : Pointer). IsAlikeBelow level old new pointer.at) pointers = All-weaker (λ (pointer : Pointer). All P (reach_below level old pointer.at)) (λ (pointer : Pointer). IsAlikeBelow level old new pointer.at) (λ pointer k. alike_below level old new pointer.at k) pointers parts in
    record {
      items = ap (flat_map (λ (pointer : Pointer). items_below level new pointer.at)) same ∙ flat_map_same (λ (pointer : Pointer). items_below level new pointer.at) (λ (pointer : Pointer). items_below level old pointer.at) pointers (All-weaker (λ (pointer : Pointer). IsAlikeBelow level old new pointer.at) (λ (pointer : Pointer). items_below level new pointer.at ≡ items_below level old pointer.at) (λ pointer k. k.items) pointers each);
      reach = ap (λ (l : List ℕ). at ∷ l) (ap (flat_map (λ (pointer : Pointer). reach_below level new pointer.at)) same ∙ flat_map_same (λ (pointer : Pointer). reach_below level new pointer.at) (λ (pointer : Pointer). reach_below level old pointer.at) pointers (All-weaker (λ (pointer : Pointer). IsAlikeBelow level old new pointer.at) (λ (pointer : Pointer). reach_below level new pointer.at ≡ reach_below level old pointer.at) (λ pointer k. k.reach) pointers each));
      shape = λ is_root k.
          let children : All (Child level new) pointers = λ i d within.
          let one : IsAlikeBelow level old new (slice_index_or pointers i d).at = each i d within in
          let was = k.3 i d within in
          (one.shape false was.0, subst (λ (l : List Item). first_key l ≡ Some (slice_index_or pointers i d).key) (sym one.items) was.1) in
          (taken_alike old new at here k.0, subst (λ (slot : BlockSlot). IsOk (node_body_of slot.bytes)) (sym here) k.1, subst (λ (l : List Pointer). least_pointers is_root ≤ length l) (sym same) k.2, subst (λ (l : List Pointer). All (Child level new) l) (sym same) children);
    }

-- a tree in two tables that are alike in its blocks
pub tree_alike : (old new : Table) (tree : Tree) → AreAlike old new (tree_reach old tree) → (tree_items new tree ≡ tree_items old tree) × (tree_reach new tree ≡ tree_reach old tree) × (IsTree old tree → IsTree new tree)
tree_alike old new tree h =
    let below = alike_below tree.level old new tree.root.0 h in
    (below.items, below.reach, λ was. record { low = was.low; shape = below.shape true was.shape; order = subst ItemsRise (sym below.items) was.order; once = subst NoneTwice (sym below.reach) was.once })
