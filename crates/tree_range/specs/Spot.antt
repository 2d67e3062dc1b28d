-- Places of items in leaves of a tree.
use Rattle.std.specs.Prelude.{◌≡◌, ◌≤◌, ◌<◌, Bool, List, ◌++◌, length, drop}
use Rattle.blk_base.specs.Leaf.{Item}
use Rattle.block_table.specs.declared.tree.Tree.{Tree}
use Rattle.block_table.specs.Table.{Table}
use Rattle.blk_base.specs.Trees.{first_key}
use Rattle.tree_range.specs.Shape.{IsSubtree, leaf_items, tree_items}
use Rattle.tree_range.specs.Between.{items_from_some}
use Rattle.tree_range.specs.Path.{key_here}
use Rattle.tree_range.specs.declared.spot.Spot.{Spot}

-- the items of its leaf from there on
abbrev pub leaf_rest : Table → Spot → List Item
leaf_rest table spot = drop spot.place (leaf_items table spot.leaf.0)

-- a place of an item in a leaf of the tree, or a leaf's end: the first key behind the leaf is the one that it has
pub record IsSpot (table : Table) (tree : Tree) (spot : Spot) : Type 0 where
  pub is_root : Bool
  pub shape : IsSubtree 0 table is_root spot.leaf.0
  pub inside : spot.place ≤ length (leaf_items table spot.leaf.0)
  pub front : List Item
  pub after : List Item
  pub items : tree_items table tree ≡ front ++ (leaf_rest table spot ++ after)
  pub next_is : spot.next ≡ first_key after

-- the tree's items from a place on
abbrev pub spot_items : Table → Tree → Spot → List Item
spot_items table tree spot = items_from_some (key_here (leaf_rest table spot) spot.next) (tree_items table tree)

-- it is a place of an item, and the tree's items from there on are these
pub record IsItemSpot (table : Table) (tree : Tree) (items : List Item) (spot : Spot) : Type 0 where
  pub is : IsSpot table tree spot
  pub holds : spot.place < length (leaf_items table spot.leaf.0)
  pub same : spot_items table tree spot ≡ items
