-- Blocks of a tree in the table, and the same blocks on an image.
use Rattle.std.specs.Prelude.{◌≡◌, ◌≢◌, ◌/◌, ℕ, List, All, Some, slice_get}
use Rattle.blk_base.specs.declared.key.Want.{Want}
use Rattle.blk_base.specs.Bytes.{Image}
use Rattle.block_table.specs.declared.state.SlotState.TheVariants.{Dirty}
use Rattle.block_table.specs.declared.tree.Tree.{Tree}
use Rattle.block_table.specs.Table.{Table}
use Rattle.block_table.specs.TreeIn.{block_at}

-- what a tree's root is read with
abbrev pub root_want : Tree → List ℕ → ℕ → Want
root_want tree fsid generation =
    record { fsid = fsid; at = tree.root; generation = generation; owner = tree.owner; level = tree.level }

-- none of these blocks is Dirty (own)
abbrev pub AreClean : Table → List ℕ → Type 0
AreClean table reach = All (λ (at : ℕ). (block_at table at).state ≢ Dirty) reach

-- the image has each of these blocks, with the bytes that the table has for it (own)
abbrev pub HasBlocks : Image → Table → List ℕ → Type 0
HasBlocks image table reach = All (λ (at : ℕ). slice_get image (at / 4096) ≡ Some (block_at table at).bytes) reach
