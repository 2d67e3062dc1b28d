-- When the blocks of a run keep the limits of a file's blocks.
use Rattle.std.specs.Prelude.{◌≡◌, ◌<◌, ◌+◌, ◌*◌, ◌/◌, ℕ, List, Option, Some, None, Result, Ok, Err}
use Rattle.std.specs.Borrow.{Bor}
use Rattle.std.specs.Option.{option_map}
use Rattle.blk_base.specs.declared.fault.ItemFault.{ItemFault}
use Rattle.blk_base.specs.declared.format.TheConstants.{BLOCK_SIZE}
use Rattle.blk_base.specs.declared.key.Key.{Key}
use Rattle.blk_base.specs.Extents.{ExtentValue, Regular}
use Rattle.blk_base.specs.Items.{InodeValue, inode_of}
use Rattle.block_table.specs.Table.{Table}
use Rattle.flat_model.specs.Coherent.{KeepsBlockLimits}
use Rattle.table_volume.specs.Gives.{data_in}

-- the bytes of a block that is lent
abbrev pub block_view : Option (Bor (List ℕ)) → Option (List ℕ)
block_view block = option_map (λ lent. lent.now) block

-- each block of a run of so many keeps the limits of a file's block, from this number on
abbrev pub KeepRunLimits : Table → ℕ → ℕ → ℕ → ℕ → Type 0
KeepRunLimits table at number count size = (i : ℕ) → i < count → (block : List ℕ) → data_in table (at + BLOCK_SIZE * i) ≡ Some block → KeepsBlockLimits size (number + i) block

-- the extent is no run, or its blocks do ("EXTENT_DATA")
abbrev pub KeepsExtentLimits : Table → Key → Result ExtentValue ItemFault → ℕ → Type 0
KeepsExtentLimits table key (Ok (Regular at offset len)) size = KeepRunLimits table at (key.offset / BLOCK_SIZE) (len / BLOCK_SIZE) size
KeepsExtentLimits table key other size = Unit {0}

abbrev pub size_read : Result InodeValue ItemFault → Option ℕ
size_read (Ok value) = Some value.size
size_read (Err fault) = None

-- the size that the item under an inode's key says, where there is one ("INODE_ITEM")
abbrev pub size_under : Option (List ℕ) → Option ℕ
size_under None = None
size_under (Some bytes) = size_read (inode_of bytes)
