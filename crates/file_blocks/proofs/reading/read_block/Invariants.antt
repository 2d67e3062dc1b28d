-- The bytes so far are those of the file.
use Rattle.std.proofs.Common.{◌≡◌, ◌≤◌, ◌-◌, ◌++◌, Some, map}
use Rattle.std.specs.List.{range_with_len}
use Rattle.std.specs.FinMap.{get}
use Rattle.flat_model.specs.Contents.{byte_at}
use Rattle.flat_model.specs.Records.{FileInode, FileRecord}
use Rattle.flat_model.specs.Volume.{Subvolume}
use Rattle.table_volume.specs.Gives.{GivesSubvolume}
use Rattle.file_blocks.proofs.reading.read_block.Given as goal

abbrev pub invariant-loop-offset : goal.invariant-loop-offset
invariant-loop-offset l =
    ((given : Subvolume) (file : FileRecord) → GivesSubvolume l.table l.tree given → get given.inodes l.fn.ino.0 ≡ Some (FileInode file)
    → l.bytes.items ≡ l.fn.bytes.items ++ map (byte_at file.blocks) (range_with_len l.from (l.offset - l.from))) × (l.from ≤ l.offset)
