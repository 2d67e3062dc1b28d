-- The register so far is that of the blocks so far.
use Rattle.std.proofs.Common.{◌≡◌, ◌*◌, Some, map}
use Rattle.std.specs.List.{range_with_len}
use Rattle.std.specs.FinMap.{get}
use Rattle.blk_base.specs.Crc.{register_after}
use Rattle.flat_model.specs.Contents.{byte_at}
use Rattle.flat_model.specs.Records.{FileInode, FileRecord}
use Rattle.flat_model.specs.Volume.{Subvolume}
use Rattle.table_volume.specs.Gives.{GivesSubvolume}
use Rattle.inode_shown.proofs.contents.sum_of.Given as goal

abbrev pub invariant-loop-number : goal.invariant-loop-number
invariant-loop-number l =
    (given : Subvolume) (file : FileRecord) → GivesSubvolume l.table l.tree given → get given.inodes l.ino.0 ≡ Some (FileInode file)
    → l.register ≡ register_after 0xFFFF_FFFF (map (byte_at file.blocks) (range_with_len 0 (4096 * l.number)))
