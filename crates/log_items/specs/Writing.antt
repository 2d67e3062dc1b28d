-- A log's tree written from a subvolume's tree: what is given, and what stays.
use Rattle.std.specs.Prelude.{◌≡◌, ℕ, List}
use Rattle.blk_base.specs.Trees.{AreApart}
use Rattle.block_table.specs.declared.tree.Tree.{Tree}
use Rattle.block_table.specs.Table.{Table}
use Rattle.block_table.specs.TreeIn.{IsSealedTree}
use Rattle.tree_range.specs.Shape.{AreAlike, IsTree, tree_items, tree_reach}
use Rattle.tree_frame.specs.Frame.{AreCurrent, IsEdit}
use Rattle.tree_check.specs.Items.{HaveKeys}
use Rattle.log_edit.specs.Room.{room_of_tree, spare_of_tree}

-- a log's tree that is current, and a subvolume's tree that shares no block with it; keys fit their fields (own)
pub record MayWrite (table : Table) (log from : Tree) : Type 0 where
  pub tree : IsTree table log
  pub current : AreCurrent table (tree_reach table log)
  pub keys : HaveKeys (tree_items table log)
  pub stands : IsTree table from
  pub their_keys : HaveKeys (tree_items table from)
  pub apart : AreApart (tree_reach table log) (tree_reach table from)

-- an edit of the log's tree that leaves the subvolume's as it was, in the room that is there (own)
pub record IsWriting (old : Table) (before from : Tree) (new : Table) (after : Tree) : Type 0 where
  pub tree : IsTree new after
  pub current : AreCurrent new (tree_reach new after)
  pub keys : HaveKeys (tree_items new after)
  pub owner : after.owner ≡ before.owner
  pub edit : IsEdit old new (tree_reach old before) (tree_reach new after)
  pub alike : AreAlike old new (tree_reach old from)
  pub sealed : (fsid : List ℕ) (was : ℕ) → IsSealedTree old before fsid was → (now : ℕ) × IsSealedTree new after fsid now
  pub blocks : room_of_tree new after ≡ room_of_tree old before
  pub buffers : spare_of_tree new after ≡ spare_of_tree old before
