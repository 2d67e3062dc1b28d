-- The bytes so far are those of the file from the offset on.
use Rattle.std.proofs.Common.{◌≡◌, ◌≤◌, ◌-◌, Some, map, max}
use Rattle.std.specs.List.{range_with_len}
use Rattle.std.specs.FinMap.{get}
use Rattle.flat_model.specs.Contents.{byte_at}
use Rattle.flat_model.specs.Records.{FileInode, FileRecord}
use Rattle.flat_model.specs.Volume.{Subvolume}
use Rattle.name_walk.specs.Given.{GivesCoherent}
use Rattle.file_blocks.proofs.reading.read.Given as goal

abbrev pub invariant-loop-at : goal.invariant-loop-at
invariant-loop-at l =
    ((given : Subvolume) (file : FileRecord) → GivesCoherent l.table l.tree given → get given.inodes l.ino.0 ≡ Some (FileInode file)
    → l.bytes.items ≡ map (byte_at file.blocks) (range_with_len l.offset (l.at - l.offset)))
    × (l.offset ≤ l.at)
    × (l.at ≤ max l.offset l.end)

abbrev pub decreases-loop-at : goal.decreases-loop-at
decreases-loop-at l = l.end - l.at
