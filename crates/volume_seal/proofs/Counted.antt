-- How many blocks stand below some pointers, with their data.
use Rattle.std.proofs.Common.{◌≡◌, ◌∙◌, ◌≤◌, ◌+◌, ℕ, zero, suc, Bool, true, false, List, ◌∷◌, length, drop, slice_get, Some, sym, ap, subst, arith, add-one, length-append}
use Rattle.std.specs.Prelude.{All}
use Rattle.std.specs.List.{flat_map}
use Rattle.std.proofs.lemmas.List.{drop_all}
use Rattle.std.proofs.lemmas.List.Elements.{All-append}
use Rattle.blk_base.specs.declared.key.Key.{Key}
use Rattle.blk_base.specs.Leaf.{Item, Pointer}
use Rattle.blk_base.specs.Trees.{NoneTwice, first_key}
use Rattle.block_table.specs.declared.tree.Tree.{Tree}
use Rattle.block_table.specs.Table.{Table}
use Rattle.block_table.specs.TreeIn.{IsTaken, block_at}
use Rattle.leaf_view.specs.Search.{children_of, contents_of, keys_of}
use Rattle.tree_range.specs.Shape.{IsSubtree, IsTree, items_below, leaf_items, node_pointers, reach_below, tree_reach}
use Rattle.tree_range.proofs.Cuts.{IsAt, drop_here, mapped_at}
use Rattle.tree_blocks.specs.Steps.{IsLeafAt, leaf_at, node_at}
use Rattle.tree_blocks.proofs.Listing.{leaf_from_ok}
use Rattle.tree_frame.proofs.Places.{taken_fit}
use Rattle.tree_frame.proofs.Reading.{reach_taken}
use Rattle.tree_seal.proofs.Cuts.{all_at}
use Rattle.tree_seal.proofs.Half.{node_at_shown}
use Rattle.volume_image.specs.Subvolume.{data_addresses, item_addresses, run_addresses}
use Rattle.table_volume.specs.Gives.{sub_reach, tree_data}
use Rattle.volume_seal.proofs.DataParts.{below_pointer, data_here, data_joined, item_there, leaf_items_there, length_run}

-- the blocks below one block, and their data
abbrev pub one_count : ℕ → Table → ℕ → ℕ
one_count level table at = length (reach_below level table at) + length (data_addresses (items_below level table at))

abbrev pub below_count : ℕ → Table → List Pointer → ℕ
below_count level table pointers =
    length (flat_map (λ (p : Pointer). reach_below level table p.at) pointers) + length (data_addresses (flat_map (below_pointer level table) pointers))

cons_count : (level : ℕ) (table : Table) (pointer : Pointer) (pointers : List Pointer) → below_count level table (pointer ∷ pointers) ≡ one_count level table pointer.at + below_count level table pointers
cons_count level table pointer pointers =
    let reach = length-append (reach_below level table pointer.at) (flat_map (λ (p : Pointer). reach_below level table p.at) pointers) in
    let files = ap length (data_joined (below_pointer level table) pointer pointers) in
    let both = length-append (data_addresses (items_below level table pointer.at)) (data_addresses (flat_map (below_pointer level table) pointers)) in
    omega (arith, reach, files, both)

pub count_here : (level : ℕ) (table : Table) (pointers : List Pointer) (place : ℕ) (pointer : Pointer) → slice_get pointers place ≡ Some pointer → below_count level table (drop place pointers) ≡ one_count level table pointer.at + below_count level table (drop (suc place) pointers)
count_here level table pointers place pointer there =
    ap (below_count level table) (drop_here pointers place pointer there) ∙ cons_count level table pointer (drop (suc place) pointers)

pub node_count : (level : ℕ) (table : Table) (at : ℕ) → one_count (suc level) table at ≡ 1 + below_count level table (node_pointers table at)
node_count level table at = omega arith

-- ---- an item of a leaf

module _ (table : Table) (at place : ℕ) (leaf : IsLeafAt table at) (key : Key) (bytes : List ℕ) (run_at blocks : ℕ) (k : slice_get (keys_of (leaf_at table at)) place ≡ Some key) (b : slice_get (contents_of (leaf_at table at)) place ≡ Some bytes) (run : run_addresses run_at blocks ≡ item_addresses (key, bytes)) where
  item_is : slice_get (leaf_items table at) place ≡ Some (key, bytes)
  item_is =
      ap (λ (l : List Item). slice_get l place) (leaf_items_there table at leaf) ∙ item_there (leaf_at table at) place key bytes k b

  pub run_count : length (data_addresses (drop place (leaf_items table at))) ≡ blocks + length (data_addresses (drop (place + 1) (leaf_items table at)))
  run_count =
      let here = ap length (data_here (leaf_items table at) place (key, bytes) item_is) in
      let both = length-append (item_addresses (key, bytes)) (data_addresses (drop (suc place) (leaf_items table at))) in
      let long = length_run run_at blocks in
      let same = ap length run in
      let next = ap (λ (n : ℕ). length (data_addresses (drop n (leaf_items table at)))) (add-one place) in
      omega (arith, here, both, long, same, next)

pub leaf_end_count : (table : Table) (at place count : ℕ) → IsLeafAt table at → count ≡ length (leaf_at table at) → count ≤ place → length (data_addresses (drop place (leaf_items table at))) ≡ 0
leaf_end_count table at place count leaf is past =
    let size = ap length (leaf_items_there table at leaf) in
    ap (λ (l : List Item). length (data_addresses l)) (drop_all place (leaf_items table at) (omega (arith, size, is, past)))

pub leaf_of_shape : (level : ℕ) (table : Table) (is_root : Bool) (at : ℕ) → level ≡ 0 → IsSubtree level table is_root at → IsLeafAt table at
leaf_of_shape zero table is_root at e shape = leaf_from_ok (block_at table at).bytes shape.1
leaf_of_shape (suc level) table is_root at e shape = absurd (omega (arith, e))

-- ---- a child of a node

module _ (level : ℕ) (table : Table) (at place : ℕ) (is_root : Bool) (shape : IsSubtree (suc level) table is_root at) (child generation : ℕ) (listed : slice_get (children_of (node_at table at)) place ≡ Some (child, generation)) where
  found : IsAt {B = ℕ × ℕ} (λ (p : Pointer). (p.at, p.generation)) (node_at table at) place (child, generation)
  found = mapped_at (λ (p : Pointer). (p.at, p.generation)) (node_at table at) place (child, generation) listed

  child_is : found.element.at ≡ child
  child_is = ap (λ (pair : ℕ × ℕ). pair.0) found.value_is

  pointer_there : slice_get (node_pointers table at) place ≡ Some found.element
  pointer_there = ap (λ (l : List Pointer). slice_get l place) (sym (node_at_shown table at)) ∙ found.at_place

  pub child_count : below_count level table (drop place (node_pointers table at)) ≡ one_count level table child + below_count level table (drop (place + 1) (node_pointers table at))
  child_count =
      count_here level table (node_pointers table at) place found.element pointer_there
      ∙ ap (λ (a : ℕ). one_count level table a + below_count level table (drop (suc place) (node_pointers table at))) child_is
      ∙ ap (λ (n : ℕ). one_count level table child + below_count level table (drop n (node_pointers table at))) (sym (add-one place))

  pub child_shaped : IsSubtree level table false child
  child_shaped =
      subst (IsSubtree level table false) child_is (all_at (λ (p : Pointer). IsSubtree level table false p.at × (first_key (items_below level table p.at) ≡ Some p.key)) (node_pointers table at) place found.element pointer_there shape.3).0

pub node_end_count : (level : ℕ) (table : Table) (at place count : ℕ) → count ≡ length (node_at table at) → count ≤ place → below_count level table (drop place (node_pointers table at)) ≡ 0
node_end_count level table at place count is past =
    let shown = ap length (node_at_shown table at) in
    ap (below_count level table) (drop_all place (node_pointers table at) (omega (arith, shown, is, past)))

-- a tree with its files' data has no more blocks than the table
pub sub_fits : (table : Table) (tree : Tree) → IsTree table tree → All (IsTaken table) (tree_data table tree) → NoneTwice (sub_reach table tree) → length (tree_reach table tree) + length (tree_data table tree) ≤ length table.slots
sub_fits table tree stands taken once =
    let fit = taken_fit table (sub_reach table tree) (All-append (IsTaken table) (tree_reach table tree) (tree_data table tree) (reach_taken tree.level table true tree.root.0 stands.shape) taken) once in
    let both = length-append (tree_reach table tree) (tree_data table tree) in
    omega (arith, fit, both)
