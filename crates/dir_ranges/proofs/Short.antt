-- An item of a tree has at most 3970 bytes.
use Rattle.std.proofs.Common.{◌≡◌, ◌≤◌, ◌+◌, ℕ, zero, suc, Bool, true, false, List, [], ◌∷◌, length, get_or, drop, flat_map, Some, Result, Ok, Err, sym, subst, arith}
use Rattle.std.specs.Prelude.{All}
use Rattle.std.proofs.lemmas.List.{length-take}
use Rattle.std.proofs.lemmas.List.Elements.{All-append, All-contains, All-head, All-nil, All-tail}
use Rattle.std.proofs.lemmas.Option.{get_or_from_slice_get}
use Rattle.blk_base.specs.declared.fault.BlockFault.{BlockFault}
use Rattle.blk_base.specs.declared.key.Key.{Key}
use Rattle.blk_base.specs.Leaf.{IsLeafBody, Item, Pointer, item_of, item_offset, item_size, leaf_body_of}
use Rattle.blk_base.specs.Trees.{first_key}
use Rattle.block_table.specs.declared.tree.Tree.{Tree}
use Rattle.block_table.specs.Table.{Table}
use Rattle.block_table.specs.TreeIn.{block_at}
use Rattle.leaf_view.proofs.LeafLaws.{leaf_body_means}
use Rattle.tree_range.specs.Between.{data_under}
use Rattle.tree_range.specs.Shape.{IsSubtree, IsTree, items_below, leaf_items, listed, node_pointers, tree_items}
use Rattle.tree_range.proofs.Found.{contains_under}

abbrev IsShort : Item → Type 0
IsShort item = length item.1 ≤ 3970

leaf_short : (bytes : List ℕ) (items : List Item) → IsLeafBody bytes items → All IsShort items
leaf_short bytes items is k d inside =
    let same : get_or items k d ≡ item_of bytes k = get_or_from_slice_get items k (item_of bytes k) d (is.each k inside) in
    let behind = is.behind_headers k inside in
    let end = is.inside k inside in
    let cut = length-take (item_size bytes k) (drop (101 + item_offset bytes k) bytes) in
    let short : length (item_of bytes k).1 ≤ 3970 = omega (arith, behind, end, cut, inside) in
    subst (λ (x : Item). length x.1 ≤ 3970) (sym same) short

listed_short : (bytes : List ℕ) (r : Result (List Item) BlockFault) → leaf_body_of bytes ≡ r → All IsShort (listed r)
listed_short bytes (Ok items) h = leaf_short bytes items (leaf_body_means bytes items h)
listed_short bytes (Err fault) h = All-nil IsShort

all_short : (level : ℕ) (table : Table) → ((at : ℕ) → IsSubtree level table false at → All IsShort (items_below level table at)) → (pointers : List Pointer)
    → All (λ pointer. IsSubtree level table false pointer.at × (first_key (items_below level table pointer.at) ≡ Some pointer.key)) pointers → All IsShort (flat_map (λ pointer. items_below level table pointer.at) pointers)
all_short level table each [] h = All-nil IsShort
all_short level table each (p ∷ ps) h =
    let P : Pointer → Type 0 = λ pointer. IsSubtree level table false pointer.at × (first_key (items_below level table pointer.at) ≡ Some pointer.key) in
    All-append IsShort (items_below level table p.at) (flat_map (λ pointer. items_below level table pointer.at) ps) (each p.at (All-head P p ps h).0) (all_short level table each ps (All-tail P p ps h))

below_short : (level : ℕ) (table : Table) (is_root : Bool) (at : ℕ) → IsSubtree level table is_root at → All IsShort (items_below level table at)
unfolding leaf_items
below_short zero table is_root at is = listed_short (block_at table at).bytes (leaf_body_of (block_at table at).bytes) (λ i. leaf_body_of (block_at table at).bytes)
below_short (suc level) table is_root at is =
    all_short level table (λ child shape. below_short level table false child shape) (node_pointers table at) is.3

pub tree_short : (table : Table) (tree : Tree) (key : Key) (bytes : List ℕ) → IsTree table tree → data_under key (tree_items table tree) ≡ Some bytes → length bytes ≤ 3970
tree_short table tree key bytes is h =
    All-contains IsShort (tree_items table tree) (key, bytes) (below_short tree.level table true tree.root.0 is.shape) (contains_under (tree_items table tree) key bytes h)
