-- A sealed tree without Dirty blocks is the tree of an image that has its blocks.
use Rattle.std.proofs.Common.{◌≡◌, ◌≢◌, ◌/◌, ℕ, zero, suc, Bool, true, false, List, [], ◌∷◌, length, refl, ◌∙◌, sym, subst, Some}
use Rattle.std.specs.Prelude.{All, slice_get}
use Rattle.std.specs.List.{flat_map}
use Rattle.std.proofs.lemmas.List.Elements.{All-head, All-tail}
use Rattle.std.proofs.lemmas.Option.{get_or_from_slice_get}
use Rattle.blk_base.specs.declared.key.Want.{Want}
use Rattle.blk_base.specs.Bytes.{Image}
use Rattle.blk_base.specs.Leaf.{Item, Pointer, IsLeaf, IsNode, IsNodeBody}
use Rattle.block_table.specs.declared.state.SlotState.TheVariants.{Dirty}
use Rattle.block_table.specs.declared.tree.Tree.{Tree}
use Rattle.block_table.specs.Table.{Table}
use Rattle.blk_base.specs.Trees.{ItemsRise, NoneTwice, child_want, first_key}
use Rattle.block_table.specs.TreeIn.{IsSealedSubtree, IsSealedTree, block_at}
use Rattle.leaf_view.proofs.LeafLaws.{leaf_body_means}
use Rattle.leaf_view.proofs.NodeLaws.{node_body_means}
use Rattle.tree_range.specs.Shape.{IsSubtree, IsTree, items_below, reach_below, leaf_items, node_pointers, tree_items, tree_reach}
use Rattle.tree_range.proofs.Bodies.{leaf_body_is, node_body_is}
use Rattle.tree_range.proofs.Law.{Child}
use Rattle.tree_range.proofs.Rise.{All-left, All-right}
use Rattle.volume_image.specs.Tree as of_image
use Rattle.tree_seal.specs.OnImage.{AreClean, HasBlocks, root_want}

-- a block that isn't Dirty, and which the image has
pub record IsThere (image : Image) (table : Table) (at : ℕ) : Type 0 where
  pub clean : (block_at table at).state ≢ Dirty
  pub has : slice_get image (at / 4096) ≡ Some (block_at table at).bytes

bytes_there : (image : Image) (table : Table) (at : ℕ) → IsThere image table at → of_image.block_of image at ≡ (block_at table at).bytes
bytes_there image table at h = get_or_from_slice_get image (at / 4096) (block_at table at).bytes [] h.has

abbrev ChildOn : ℕ → Image → Table → Want → Pointer → List Item → List ℕ → Type 0
ChildOn level image table want pointer part near =
    of_image.IsSubtree level image (length table.slots) false (of_image.child_want want pointer level) part near × (of_image.first_key part ≡ Some pointer.key)

first_same : (items : List Item) → of_image.first_key items ≡ first_key items
first_same [] = refl
first_same (item ∷ items) = refl

-- what is known of a child
abbrev Below : ℕ → Image → Table → Want → Pointer → Type 0
Below level image table want pointer =
    Child level table pointer × IsSealedSubtree level table (child_want want pointer level) × All (IsThere image table) (reach_below level table pointer.at)

children_on : (level : ℕ) (image : Image) (table : Table) (want : Want)
    → ((pointer : Pointer) → Below level image table want pointer → ChildOn level image table want pointer (items_below level table pointer.at) (reach_below level table pointer.at))
    → (pointers : List Pointer) → All (Child level table) pointers → All (λ (pointer : Pointer). IsSealedSubtree level table (child_want want pointer level)) pointers → All (IsThere image table) (flat_map (λ (pointer : Pointer). reach_below level table pointer.at) pointers)
    → of_image.AreChildren (ChildOn level image table want) pointers (flat_map (λ (pointer : Pointer). items_below level table pointer.at) pointers) (flat_map (λ (pointer : Pointer). reach_below level table pointer.at) pointers)
children_on level image table want each [] shapes seals there = (refl, refl)
children_on level image table want each (pointer ∷ pointers) shapes seals there =
    let P : ℕ → Type 0 = IsThere image table in
    let S : Pointer → Type 0 = λ (other : Pointer). IsSealedSubtree level table (child_want want other level) in
    let near = reach_below level table pointer.at in
    let far = flat_map (λ (other : Pointer). reach_below level table other.at) pointers in (
      items_below level table pointer.at,
      flat_map (λ (other : Pointer). items_below level table other.at) pointers,
      near,
      far,
      each pointer (All-head (Child level table) pointer pointers shapes, All-head S pointer pointers seals, All-left P near far there),
      children_on level image table want each pointers (All-tail (Child level table) pointer pointers shapes) (All-tail S pointer pointers seals) (All-right P near far there),
      refl,
      refl,
    )

pub subtree_on : (level : ℕ) (image : Image) (table : Table) (is_root : Bool) (want : Want) → IsSubtree level table is_root want.at.0 → IsSealedSubtree level table want → All (IsThere image table) (reach_below level table want.at.0)
    → of_image.IsSubtree level image (length table.slots) is_root want (items_below level table want.at.0) (reach_below level table want.at.0)
subtree_on zero image table is_root want shape seals there =
    let at = want.at.0 in
    let here : IsThere image table at = All-head (IsThere image table) at [] there in
    let leaf : IsLeaf want (block_at table at).bytes (leaf_items table at) = record { header = seals here.clean; body = leaf_body_means (block_at table at).bytes (leaf_items table at) (leaf_body_is table at shape.1) } in
    (shape.0.allowed, subst (λ (bytes : List ℕ). IsLeaf want bytes (leaf_items table at)) (sym (bytes_there image table at here)) leaf, shape.2, refl)
subtree_on (suc level) image table is_root want shape seals there =
    let at = want.at.0 in
    let pointers = node_pointers table at in
    let below = flat_map (λ (pointer : Pointer). reach_below level table pointer.at) pointers in
    let here : IsThere image table at = All-head (IsThere image table) at below there in
    let body : IsNodeBody (block_at table at).bytes pointers = node_body_means (block_at table at).bytes pointers (node_body_is table at shape.1) in
    let node : IsNode want (block_at table at).bytes pointers = record { header = seals.0 here.clean; body = body } in
    let each : (pointer : Pointer) → Below level image table want pointer → ChildOn level image table want pointer (items_below level table pointer.at) (reach_below level table pointer.at) =
    λ pointer k. (subtree_on level image table false (child_want want pointer level) k.0.0 k.1 k.2, first_same (items_below level table pointer.at) ∙ k.0.1) in (
      pointers,
      below,
      shape.0.allowed,
      subst (λ (bytes : List ℕ). IsNode want bytes pointers) (sym (bytes_there image table at here)) node,
      shape.2,
      children_on level image table want each pointers shape.3 (seals.1 pointers body) (All-tail (IsThere image table) at below there),
      refl,
    )

rises_same : (items : List Item) → ItemsRise items → of_image.ItemsRise items
rises_same [] h = tt
rises_same (one ∷ []) h = tt
rises_same (one ∷ two ∷ items) h = (h.0, rises_same (two ∷ items) h.1)

once_same : (reach : List ℕ) → NoneTwice reach → of_image.NoneTwice reach
once_same [] h = tt
once_same (at ∷ others) h = (h.0, once_same others h.1)

both_there : (image : Image) (table : Table) (reach : List ℕ) → AreClean table reach → HasBlocks image table reach → All (IsThere image table) reach
both_there image table reach clean has i d within = record { clean = clean i d within; has = has i d within }

pub tree_on : (table : Table) (tree : Tree) (fsid : List ℕ) (generation : ℕ) (image : Image) → IsTree table tree → AreClean table (tree_reach table tree) → IsSealedTree table tree fsid generation → HasBlocks image table (tree_reach table tree)
    → of_image.IsTree image (length table.slots) (root_want tree fsid generation) (tree_items table tree) (tree_reach table tree)
tree_on table tree fsid generation image is_tree clean seals has = record {
  low = is_tree.low;
  shape = subtree_on tree.level image table true (root_want tree fsid generation) is_tree.shape seals (both_there image table (tree_reach table tree) clean has);
  order = rises_same (tree_items table tree) is_tree.order;
  once = once_same (tree_reach table tree) is_tree.once;
}
