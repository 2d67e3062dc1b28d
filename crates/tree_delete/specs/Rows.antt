-- Nodes and what is below their pointers.
use Rattle.std.specs.Prelude.{◌≡◌, ◌≤◌, ◌+◌, ◌*◌, ℕ, suc, List, [], ◌∷◌, length, All, Option, Some, None, IsSome, IsOk, false}
use Rattle.std.specs.List.{flat_map, sum_by}
use Rattle.blk_base.specs.declared.key.Addr.{Addr}
use Rattle.blk_base.specs.declared.key.Key.{Key}
use Rattle.blk_base.specs.Leaf.{Item, Pointer, node_body_of}
use Rattle.block_table.specs.declared.state.SlotState.TheVariants.{Dirty}
use Rattle.block_table.specs.declared.tree.Tree.{Tree}
use Rattle.block_table.specs.Table.{Table}
use Rattle.blk_base.specs.Trees.{ItemsRise, NoneTwice, first_key}
use Rattle.block_table.specs.TreeIn.{IsSealedTree, IsTaken, block_at}
use Rattle.tree_range.specs.Shape.{IsSubtree, IsTree, items_below, node_pointers, reach_below, tree_items, tree_reach}
use Rattle.tree_range.specs.Between.{data_under}
use Rattle.tree_frame.specs.Frame.{AreCurrent, IsEdit, TakesAtMost, leaves_below, tree_leaves, without_item}
use Rattle.tree_delete.specs.Seals.{IsSealedRow}
use Rattle.tree_delete.specs.Ahead.{IsBetween, TakesAhead, nodes_ahead, tree_ahead}
use Rattle.tree_delete.specs.Balance.{AreBalanced}

-- the items below these pointers, whose children stand on this level, the blocks, and how many leaves
abbrev pub row_items : ℕ → Table → List Pointer → List Item
row_items level table pointers = flat_map (λ (pointer : Pointer). items_below level table pointer.at) pointers

abbrev pub row_reach : ℕ → Table → List Pointer → List ℕ
row_reach level table pointers = flat_map (λ (pointer : Pointer). reach_below level table pointer.at) pointers

abbrev pub row_leaves : ℕ → Table → List Pointer → ℕ
row_leaves level table pointers = sum_by (λ (pointer : Pointer). leaves_below level table pointer.at) pointers

-- a subtree that begins with the pointer's key ("Internal Node")
abbrev pub IsChildOf : ℕ → Table → Pointer → Type 0
IsChildOf level table pointer = IsSubtree level table false pointer.at × (first_key (items_below level table pointer.at) ≡ Some pointer.key)

-- a node whose children are subtrees on this level, however few they are (own)
pub record IsNodeOver (level : ℕ) (table : Table) (at : ℕ) : Type 0 where
  pub taken : IsTaken table at
  pub body : IsOk (node_body_of (block_at table at).bytes)
  pub children : All (IsChildOf level table) (node_pointers table at)

-- a current node of two pointers at least, and an item under the key is below it (own)
pub record HasItemBelow (level : ℕ) (table : Table) (at : ℕ) (key : Key) : Type 0 where
  pub shape : IsNodeOver level table at
  pub least : 2 ≤ length (node_pointers table at)
  pub rises : ItemsRise (items_below (suc level) table at)
  pub present : IsSome (data_under key (items_below (suc level) table at))
  pub once : NoneTwice (reach_below (suc level) table at)
  pub current : AreCurrent table (reach_below (suc level) table at)

-- The node that stood at a byte address stands at another one without the item under a key, and has one pointer fewer at
-- most. Within a range it takes one block and buffer for each node that is no longer ahead, and one more where it
-- keeps its pointers (own).
pub record IsLessNode (level : ℕ) (old new : Table) (at result : ℕ) (key : Key) : Type 0 where
  pub shape : IsNodeOver level new result
  pub dirty : (block_at new result).state ≡ Dirty
  pub count : length (node_pointers old at) ≤ length (node_pointers new result) + 1
  pub fewer : length (node_pointers new result) ≤ length (node_pointers old at)
  pub items : items_below (suc level) new result ≡ without_item key (items_below (suc level) old at)
  pub once : NoneTwice (reach_below (suc level) new result)
  pub edit : IsEdit old new (reach_below (suc level) old at) (reach_below (suc level) new result)
  pub blocks : TakesAtMost old new (2 * level + 2)
  pub balance : AreBalanced old new
  pub ahead : (first last : Key) → IsBetween first last key → TakesAhead old new (nodes_ahead first last (suc level) old at + length (node_pointers new result)) (nodes_ahead first last (suc level) new result + length (node_pointers old at))
  pub leaves : leaves_below (suc level) new result ≤ leaves_below (suc level) old at
  pub sealed : (fsid : List ℕ) (owner : ℕ) → IsSealedRow fsid owner level old (node_pointers old at) → IsSealedRow fsid owner level new (node_pointers new result)

-- the byte address, where there is one
abbrev pub kept_of : Option Addr → List ℕ
kept_of None = []
kept_of (Some at) = at.0 ∷ []

-- a tree from which the item under a key was taken (own)
pub record IsLessTree (old new : Table) (tree result : Tree) (key : Key) : Type 0 where
  pub is_tree : IsTree new result
  pub items : tree_items new result ≡ without_item key (tree_items old tree)
  pub owner : result.owner ≡ tree.owner
  pub edit : IsEdit old new (tree_reach old tree) (tree_reach new result)
  pub current : AreCurrent new (tree_reach new result)
  pub blocks : TakesAtMost old new 17
  pub balance : AreBalanced old new
  pub ahead : (first last : Key) → IsBetween first last key → TakesAhead old new (tree_ahead first last old tree) (tree_ahead first last new result)
  pub leaves : tree_leaves new result ≤ tree_leaves old tree
  pub sealed : (fsid : List ℕ) (was : ℕ) → IsSealedTree old tree fsid was → (now : ℕ) × IsSealedTree new result fsid now
