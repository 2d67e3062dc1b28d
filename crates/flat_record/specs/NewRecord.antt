-- What kind of record a new inode has.
use Rattle.std.specs.Prelude.{ℕ, List}
use Rattle.std.specs.FinMap.{empty}
use Rattle.flat_model.specs.declared.view.Kind.{Kind}
use Rattle.flat_model.specs.declared.view.Kind.TheVariants.{File, Dir, Link}
use Rattle.flat_model.specs.Records.{InodeRecord, FileInode, DirInode, LinkInode}

-- a record of this kind without attributes and blocks; the size counts for a file alone, the target for a symlink alone
abbrev pub record_of_kind : Kind → ℕ → List ℕ → InodeRecord
record_of_kind File size target = FileInode (record { attributes = empty; size = size; blocks = empty })
record_of_kind Dir size target = DirInode (record { attributes = empty })
record_of_kind Link size target = LinkInode (record { attributes = empty; target = target })
