-- Trees in a table of blocks as functions of the table: which items stand below a block, and which blocks it reaches.
use Rattle.std.specs.Prelude.{◌≡◌, ◌≤◌, ℕ, zero, suc, Bool, true, false, List, [], ◌∷◌, length, All, Some, Result, Ok, Err, IsOk}
use Rattle.std.specs.List.{flat_map}
use Rattle.blk_base.specs.declared.fault.BlockFault.{BlockFault}
use Rattle.blk_base.specs.Leaf.{Item, Pointer, leaf_body_of, node_body_of}
use Rattle.block_table.specs.declared.tree.Tree.{Tree}
use Rattle.block_table.specs.Table.{Table}
use Rattle.blk_base.specs.Trees.{ItemsRise, NoneTwice, first_key, least_items, least_pointers}
use Rattle.block_table.specs.TreeIn.{IsTaken, block_at}

-- the list of a body, and none where it has a fault
abbrev pub listed : {A : Type 0} → Result (List A) BlockFault → List A
listed (Ok list) = list
listed (Err fault) = []

-- the items of the leaf in a block's body; none where it has no such body
unfoldable pub leaf_items : Table → ℕ → List Item
leaf_items table at = listed (leaf_body_of (block_at table at).bytes)

-- the pointers of the node in a block's body; none where it has no such body
unfoldable pub node_pointers : Table → ℕ → List Pointer
node_pointers table at = listed (node_body_of (block_at table at).bytes)

-- the items of the leaves below a block on this level, from left to right
abbrev pub items_below : ℕ → Table → ℕ → List Item
items_below zero table at = leaf_items table at
items_below (suc level) table at = flat_map (λ pointer. items_below level table pointer.at) (node_pointers table at)

-- a block on this level and all below it, a parent before its children
abbrev pub reach_below : ℕ → Table → ℕ → List ℕ
reach_below zero table at = at ∷ []
reach_below (suc level) table at = at ∷ flat_map (λ pointer. reach_below level table pointer.at) (node_pointers table at)

-- A block on this level and those below it are a subtree: each is taken, has the body of its level and enough in it, and a
-- child's first key is its pointer's ("Internal Node").
abbrev pub IsSubtree : ℕ → Table → Bool → ℕ → Type 0
IsSubtree zero table is_root at =
    IsTaken table at × IsOk (leaf_body_of (block_at table at).bytes) × (least_items is_root ≤ length (leaf_items table at))
IsSubtree (suc level) table is_root at =
    IsTaken table at × IsOk (node_body_of (block_at table at).bytes) × (least_pointers is_root ≤ length (node_pointers table at))
    × All (λ pointer. IsSubtree level table false pointer.at × (first_key (items_below level table pointer.at) ≡ Some pointer.key)) (node_pointers table at)

abbrev pub tree_items : Table → Tree → List Item
tree_items table tree = items_below tree.level table tree.root.0

abbrev pub tree_reach : Table → Tree → List ℕ
tree_reach table tree = reach_below tree.level table tree.root.0

-- the tree stands in the table: a subtree below its root, whose items rise, and which reaches no block twice
pub record IsTree (table : Table) (tree : Tree) : Type 0 where
  pub low : tree.level ≤ 7
  pub shape : IsSubtree tree.level table true tree.root.0
  pub order : ItemsRise (tree_items table tree)
  pub once : NoneTwice (tree_reach table tree)

-- two tables have the same blocks at these byte addresses
abbrev pub AreAlike : Table → Table → List ℕ → Type 0
AreAlike old new reach = All (λ (at : ℕ). block_at new at ≡ block_at old at) reach
