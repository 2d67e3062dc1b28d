-- The room that a tree has for edits of its items, one at a time.
use Rattle.std.specs.Prelude.{◌≡◌, ◌≤◌, ◌+◌, ◌*◌, ℕ, List, length}
use Rattle.std.specs.List.{sum_by}
use Rattle.blk_base.specs.declared.key.Key.{Key}
use Rattle.block_table.specs.declared.state.SlotState.{SlotState}
use Rattle.block_table.specs.declared.state.SlotState.TheVariants.{Dirty}
use Rattle.block_table.specs.declared.tree.Tree.{Tree}
use Rattle.block_table.specs.Table.{Table, free_blocks}
use Rattle.block_table.specs.TreeIn.{block_at}
use Rattle.tree_range.specs.Between.{items_between}
use Rattle.tree_range.specs.Shape.{IsTree, tree_items, tree_reach}
use Rattle.tree_frame.specs.Frame.{IsEdit}
use Rattle.tree_delete.specs.Balance.{AreBalanced}

-- how many of the blocks at these byte addresses are being edited
abbrev pub dirty_one : SlotState → ℕ
dirty_one Dirty = 1
dirty_one other = 0

abbrev pub dirty_among : Table → List ℕ → ℕ
dirty_among table ats = sum_by (λ at. dirty_one (block_at table at).state) ats

-- The blocks that edits of a tree may use: those that are Free, and those of the tree that are being edited. An edit takes
-- the one in place of the other (own).
abbrev pub room_of_tree : Table → Tree → ℕ
room_of_tree table tree = free_blocks table + dirty_among table (tree_reach table tree)

-- the buffers that they may use: those that are spare, and those of the tree's blocks that are being edited (own)
abbrev pub spare_of_tree : Table → Tree → ℕ
spare_of_tree table tree = table.spare + dirty_among table (tree_reach table tree)

-- how many blocks and buffers are enough for a tree of so many items more: a tree has at most twice as many blocks as
-- items, and one more, and an edit takes 17 at most (own)
abbrev pub room_needed : Table → Tree → ℕ → ℕ
room_needed table tree more = 2 * (length (tree_items table tree) + more) + 18

-- there is room for so many items more (own)
pub record HasRoomFor (table : Table) (tree : Tree) (more : ℕ) : Type 0 where
  pub blocks : room_needed table tree more ≤ room_of_tree table tree
  pub buffers : room_needed table tree more ≤ spare_of_tree table tree

-- an edit makes one tree that stands of another one (own)
pub record IsTreeEdit (old new : Table) (before after : Tree) : Type 0 where
  pub was : IsTree old before
  pub is : IsTree new after
  pub edit : IsEdit old new (tree_reach old before) (tree_reach new after)

-- an edit of a tree keeps the blocks that edits of it may use
abbrev pub EditKeepsBlocks : Type 0
EditKeepsBlocks =
    (old new : Table) (before after : Tree) → IsTreeEdit old new before after → room_of_tree new after ≡ room_of_tree old before

-- and where it takes and gives back as many buffers as blocks, the buffers too
abbrev pub EditKeepsBuffers : Type 0
EditKeepsBuffers =
    (old new : Table) (before after : Tree) → IsTreeEdit old new before after → AreBalanced old new → spare_of_tree new after ≡ spare_of_tree old before

-- how many items of a tree have keys from one to another one, both included
abbrev pub count_between : Key → Key → Table → Tree → ℕ
count_between first last table tree = length (items_between first last (tree_items table tree))
