-- What an edit of a subvolume's tree alone leaves, and an item that has no entry left.
use Rattle.std.specs.Prelude.{◌≡◌, ℕ, List}
use Rattle.block_table.specs.declared.tree.Tree.{Tree}
use Rattle.block_table.specs.Table.{Table}
use Rattle.block_table.specs.TreeIn.{IsSealedTree}
use Rattle.tree_frame.specs.Frame.{AreCurrent, IsEdit, TakesAtMost}
use Rattle.tree_range.specs.Shape.{IsTree, tree_items, tree_reach}
use Rattle.table_volume.specs.Edited.{BearGeneration}

-- An edit of one tree, behind which the root stands elsewhere: the tree stands then, of the same owner and current; where the
-- headers of its blocks were right they are; what is new among its items bears this generation; and it takes at most so many
-- blocks and buffers more than it gives back (own).
pub record IsTreeEdit (old new : Table) (before after : Tree) (running most : ℕ) : Type 0 where
  pub tree : IsTree new after
  pub owner : after.owner ≡ before.owner
  pub edit : IsEdit old new (tree_reach old before) (tree_reach new after)
  pub current : AreCurrent new (tree_reach new after)
  pub sealed : (fsid : List ℕ) (was : ℕ) → IsSealedTree old before fsid was → (now : ℕ) × IsSealedTree new after fsid now
  pub bear : BearGeneration running (tree_items old before) (tree_items new after)
  pub taken : TakesAtMost old new most
