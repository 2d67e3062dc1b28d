-- What is read of a record, and one block put into a file.
use Rattle.std.specs.Prelude.{ℕ, List, Option, Some, None}
use Rattle.std.specs.FinMap.{insert}
use Rattle.flat_model.specs.Records.{FileRecord, InodeRecord, FileInode, DirInode, LinkInode}

-- the target of a symlink, and none of another inode
abbrev pub target_of : InodeRecord → Option (List ℕ)
target_of (FileInode file) = None
target_of (DirInode dir) = None
target_of (LinkInode link) = Some link.target

-- a file with these bytes of a block
abbrev pub with_block : FileRecord → ℕ → List ℕ → FileRecord
with_block file number bytes = record file { blocks = insert file.blocks number bytes }
