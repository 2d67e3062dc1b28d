-- Which subvolume a tree in a table of blocks gives, with the data of its files.
use Rattle.std.specs.Prelude.{◌≢◌, ℕ, List, ◌++◌, All, Contains, Option, Some, None, if◌then◌else◌}
use Rattle.blk_base.specs.Trees.{NoneTwice}
use Rattle.block_table.specs.declared.state.SlotState.TheVariants.{Free, LetGo}
use Rattle.block_table.specs.declared.tree.Tree.{Tree}
use Rattle.block_table.specs.Slot.{BlockSlot, is_free}
use Rattle.block_table.specs.Table.{Table}
use Rattle.block_table.specs.TreeIn.{IsTaken, block_at}
use Rattle.tree_range.specs.Shape.{IsTree, tree_items, tree_reach}
use Rattle.flat_model.specs.Volume.{Subvolume}
use Rattle.volume_image.specs.Subvolume.{AreItemsOf, Data, data_addresses}

-- the bytes of a block that isn't Free
abbrev pub bytes_there : BlockSlot → Option (List ℕ)
bytes_there slot = if is_free slot.state then None else Some slot.bytes

-- what stands at a byte address of the table, where something does
abbrev pub data_in : Table → Data
data_in table at = bytes_there (block_at table at)

-- the byte addresses of the data blocks of a tree's files ("EXTENT_DATA")
abbrev pub tree_data : Table → Tree → List ℕ
tree_data table tree = data_addresses (tree_items table tree)

-- all that a subvolume has: the blocks of its tree, and the data blocks of its files
abbrev pub sub_reach : Table → Tree → List ℕ
sub_reach table tree = tree_reach table tree ++ tree_data table tree

-- The tree stands in the table and gives this subvolume: its items, with what stands at the addresses that they lead to, are
-- the subvolume's; its data blocks are taken, at addresses that a volume may use; and none of all its blocks stands twice.
pub record GivesSubvolume (table : Table) (tree : Tree) (sub : Subvolume) : Type 0 where
  pub tree_in : IsTree table tree
  pub items : AreItemsOf (tree_items table tree) (data_in table) sub
  pub data_taken : All (IsTaken table) (tree_data table tree)
  pub once : NoneTwice (sub_reach table tree)

-- each block that has a buffer and wasn't let go is one of these: no block is lost (own)
abbrev pub AreAccounted : Table → List ℕ → Type 0
AreAccounted table reach = (at : ℕ) → (block_at table at).state ≢ Free → (block_at table at).state ≢ LetGo → Contains reach at
