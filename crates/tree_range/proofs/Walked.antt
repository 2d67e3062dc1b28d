-- A step of a range, where the leaf is read from the bytes of its block.
use Rattle.std.proofs.Common.{◌≡◌, ◌+◌, ℕ, true, false, List, [], ◌∷◌, slice_get, ap, ◌∙◌, sym, subst, Some}
use Rattle.blk_base.specs.declared.key.Key.{Key}
use Rattle.blk_base.specs.Keys.{key_below}
use Rattle.blk_base.specs.Leaf.{Item}
use Rattle.block_table.specs.declared.tree.Tree.{Tree}
use Rattle.block_table.specs.Table.{Table}
use Rattle.leaf_view.specs.Search.{contents_of, keys_of}
use Rattle.leaf_view.proofs.Rising.{key_below_means}
use Rattle.tree_range.specs.Shape.{IsTree, leaf_items}
use Rattle.tree_range.specs.Between.{items_up_to}
use Rattle.tree_range.specs.Spot.{IsItemSpot, IsSpot, spot_items}
use Rattle.tree_range.specs.declared.spot.Spot.{Spot}
use Rattle.tree_range.proofs.Cuts.{mapped_at}
use Rattle.tree_range.proofs.Found.{key_of}
use Rattle.tree_range.proofs.Looked.{item_there}
use Rattle.tree_range.proofs.Spots.{further, none_up_to, one_up_to}

item_at : (table : Table) (spot : Spot) (leaf : List Item) (key : Key) (bytes : List ℕ) → leaf_items table spot.leaf.0 ≡ leaf → slice_get (keys_of leaf) spot.place ≡ Some key → slice_get (contents_of leaf) spot.place ≡ Some bytes
    → slice_get (leaf_items table spot.leaf.0) spot.place ≡ Some (key, bytes)
item_at table spot leaf key bytes is found content = ap (λ (l : List Item). slice_get l spot.place) is ∙ item_there leaf spot.place key bytes found content

pub further_at : (table : Table) (tree : Tree) (spot : Spot) (leaf : List Item) (key : Key) (bytes : List ℕ) → leaf_items table spot.leaf.0 ≡ leaf → IsSpot table tree spot → slice_get (keys_of leaf) spot.place ≡ Some key → slice_get (contents_of leaf) spot.place ≡ Some bytes
    → IsSpot table tree (record { leaf = spot.leaf; place = spot.place + 1; next = spot.next })
further_at table tree spot leaf key bytes is s found content = further table tree spot (key, bytes) s (item_at table spot leaf key bytes is found content)

pub ends_at : (table : Table) (tree : Tree) (old spot : Spot) (leaf : List Item) (last key : Key) → leaf_items table spot.leaf.0 ≡ leaf → IsTree table tree → IsItemSpot table tree (spot_items table tree old) spot → slice_get (keys_of leaf) spot.place ≡ Some key → key_below last key ≡ true
    → items_up_to last (spot_items table tree old) ≡ []
ends_at table tree old spot leaf last key is is_tree s found above =
    let there = mapped_at key_of leaf spot.place key found in
    let x = there.element in
    let item : slice_get (leaf_items table spot.leaf.0) spot.place ≡ Some x = ap (λ (l : List Item). slice_get l spot.place) is ∙ there.at_place in
    ap (items_up_to last) (sym s.same) ∙ none_up_to table tree spot x last is_tree s.is item (key_below_means last x.0 (subst (λ (k : Key). key_below last k ≡ true) (sym there.value_is) above))

pub goes_on : (table : Table) (tree : Tree) (old spot : Spot) (leaf : List Item) (last key : Key) (bytes : List ℕ) → leaf_items table spot.leaf.0 ≡ leaf → IsTree table tree → IsItemSpot table tree (spot_items table tree old) spot → slice_get (keys_of leaf) spot.place ≡ Some key → slice_get (contents_of leaf) spot.place ≡ Some bytes → key_below last key ≡ false
    → items_up_to last (spot_items table tree old) ≡ (key, bytes) ∷ items_up_to last (spot_items table tree (record { leaf = spot.leaf; place = spot.place + 1; next = spot.next }))
goes_on table tree old spot leaf last key bytes is is_tree s found content low =
    ap (items_up_to last) (sym s.same) ∙ one_up_to table tree spot (key, bytes) last is_tree s.is (item_at table spot leaf key bytes is found content) low
