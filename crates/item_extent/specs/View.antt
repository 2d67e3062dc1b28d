-- What a reader's answer says, apart from where it lies in memory.
use Rattle.std.specs.Prelude.{Result, Ok, Err}
use Rattle.blk_base.specs.declared.fault.ItemFault.{ItemFault}
use Rattle.blk_base.specs.Extents.{ExtentValue, Inline, Regular, Hole}
use Rattle.item_extent.specs.declared.extent.Extent.{Extent}
use Rattle.item_extent.specs.declared.extent.Extent.TheVariants as read

-- what an extent says
abbrev pub extent_view : Extent → ExtentValue
extent_view (read.Inline content) = Inline content.now
extent_view (read.Regular at offset len) = Regular at.0 offset len
extent_view (read.Hole len) = Hole len

-- the answer of a reader, with what its extent says
abbrev pub answer_view : Result Extent ItemFault → Result ExtentValue ItemFault
answer_view (Ok extent) = Ok (extent_view extent)
answer_view (Err fault) = Err fault
