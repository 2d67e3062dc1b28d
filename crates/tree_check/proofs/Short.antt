-- Items of a tree are as short as a leaf has room for one.
use Rattle.std.proofs.Common.{◌≡◌, ◌≤◌, ◌<◌, ◌+◌, ℕ, zero, suc, Bool, true, false, List, [], ◌∷◌, length, take, drop, slice_get, Contains, Some, sym, ap, subst, ◌∙◌, arith, inl, inr}
use Rattle.std.specs.Prelude.{All, slice_index_or}
use Rattle.std.specs.List.{flat_map}
use Rattle.std.proofs.lemmas.List.Elements.{All-head, All-tail, Contains-append_cases}
use Rattle.std.proofs.lemmas.Option.{slice_get-get_or}
use Rattle.blk_base.specs.declared.format.TheConstants.{MOST_ITEM_BYTES}
use Rattle.blk_base.specs.declared.key.Key.{Key}
use Rattle.blk_base.specs.Leaf.{IsLeafBody, Item, Pointer, item_of, item_offset, item_size}
use Rattle.block_table.specs.declared.tree.Tree.{Tree}
use Rattle.block_table.specs.Table.{Table}
use Rattle.block_table.specs.TreeIn.{block_at}
use Rattle.leaf_view.proofs.LeafLaws.{leaf_body_means}
use Rattle.tree_range.specs.Shape.{IsSubtree, IsTree, items_below, leaf_items, node_pointers, tree_items}
use Rattle.tree_range.proofs.Bodies.{leaf_body_is}
use Rattle.tree_range.proofs.Law.{Child}
use Rattle.volume_image.proofs.Lists.{in_nothing}

abbrev AreShort : List Item → Type 0
AreShort items = (key : Key) (bytes : List ℕ) → Contains items (key, bytes) → length bytes ≤ MOST_ITEM_BYTES

taken : (n : ℕ) (xs : List ℕ) → length (take n xs) ≤ n
taken zero xs = omega arith
taken (suc n) [] = omega arith
taken (suc n) (x ∷ xs) = let rest = taken n xs in omega arith

there : (items : List Item) (place : ℕ) (item : Item) → place < length items → slice_index_or items place item ≡ item → slice_get items place ≡ Some item
there items place item inside is = slice_get-get_or items place item inside ∙ ap (λ (i : Item). Some i) is

same_item : (one two : Item) → Some one ≡ Some two → one ≡ two
same_item one two h = cc

leaf_short : (block : List ℕ) (items : List Item) → IsLeafBody block items → AreShort items
leaf_short block items body key bytes c =
    let i = c.0 in
    let is : item_of block i ≡ (key, bytes) = same_item (item_of block i) (key, bytes) (sym (body.each i c.1) ∙ there items i (key, bytes) c.1 c.2) in
    let long : length (item_of block i).1 ≤ item_size block i = taken (item_size block i) (drop (101 + item_offset block i) block) in
    let room = body.inside i c.1 in
    let headers = body.behind_headers i c.1 in
    let some : i < length items = c.1 in
    let size : item_size block i ≤ 3970 = omega arith in
    subst (λ (item : Item). length item.1 ≤ 3970) is (omega arith)

children_short : (level : ℕ) (table : Table) (pointers : List Pointer) → ((at : ℕ) → IsSubtree level table false at → AreShort (items_below level table at)) → All (Child level table) pointers
    → AreShort (flat_map (λ (pointer : Pointer). items_below level table pointer.at) pointers)
children_short level table [] below all key bytes c = absurd (in_nothing (key, bytes) c)
children_short level table (pointer ∷ pointers) below all key bytes c =
    elim (Contains-append_cases (items_below level table pointer.at) (flat_map (λ (p : Pointer). items_below level table p.at) pointers) (key, bytes) c) [
      | inl here ↦ (let child : Child level table pointer = All-head (Child level table) pointer pointers all in below pointer.at child.0 key bytes here)
      | inr later ↦ children_short level table pointers below (All-tail (Child level table) pointer pointers all) key bytes later
    ]

below_short : (level : ℕ) (table : Table) (is_root : Bool) (at : ℕ) → IsSubtree level table is_root at → AreShort (items_below level table at)
below_short zero table is_root at shape = leaf_short (block_at table at).bytes (leaf_items table at) (leaf_body_means (block_at table at).bytes (leaf_items table at) (leaf_body_is table at shape.1))
below_short (suc level) table is_root at shape = children_short level table (node_pointers table at) (λ child is. below_short level table false child is) shape.3

pub tree_short : (table : Table) (tree : Tree) (key : Key) (bytes : List ℕ) → IsTree table tree → Contains (tree_items table tree) (key, bytes) → length bytes ≤ MOST_ITEM_BYTES
tree_short table tree key bytes is c = below_short tree.level table true tree.root.0 is.shape key bytes c
