-- An item put into a tree.
use Rattle.std.specs.Prelude.{◌≡◌, ◌≤◌, ◌+◌, ℕ, List, length, Some}
use Rattle.blk_base.specs.declared.key.Key.{Key}
use Rattle.block_table.specs.declared.tree.Tree.{Tree}
use Rattle.block_table.specs.Table.{Table}
use Rattle.block_table.specs.TreeIn.{IsSealedTree}
use Rattle.tree_range.specs.Between.{data_under}
use Rattle.tree_range.specs.Shape.{IsTree, tree_items, tree_reach}
use Rattle.tree_frame.specs.Frame.{AreCurrent, IsEdit, TakesAtMost, tree_leaves, with_item}
use Rattle.tree_delete.specs.Balance.{AreBalanced}

-- the tree has the item in place of the one of its key, where there was one (own)
pub record IsTreeWritten (old new : Table) (was is : Tree) (key : Key) (bytes : List ℕ) : Type 0 where
  pub tree : IsTree new is
  pub items : tree_items new is ≡ with_item key bytes (tree_items old was)
  pub owner : is.owner ≡ was.owner
  pub edit : IsEdit old new (tree_reach old was) (tree_reach new is)
  pub current : AreCurrent new (tree_reach new is)
  pub sealed : (fsid : List ℕ) (before : ℕ) → IsSealedTree old was fsid before → (after : ℕ) × IsSealedTree new is fsid after
  pub blocks : TakesAtMost old new 17
  pub balance : AreBalanced old new
  pub leaves : tree_leaves new is ≤ tree_leaves old was + 2
  pub no_leaf : (stood : List ℕ) → data_under key (tree_items old was) ≡ Some stood → length bytes ≤ length stood → tree_leaves new is ≡ tree_leaves old was
