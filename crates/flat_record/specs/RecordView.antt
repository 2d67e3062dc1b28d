-- How an inode's fields are seen.
use Rattle.flat_model.specs.Records.{Attributes, InodeRecord, FileInode, DirInode, LinkInode}
use Rattle.flat_record.specs.declared.record.Contents.{Contents}
use Rattle.flat_record.specs.declared.record.Contents.TheVariants as contents
use Rattle.flat_record.specs.SizedBlocks.{file_of}

-- what an inode's attributes and contents make its record
abbrev pub record_view : Attributes → Contents → InodeRecord
record_view attributes (contents.File sized) = FileInode (file_of attributes sized)
record_view attributes contents.Dir = DirInode (record { attributes = attributes })
record_view attributes (contents.Link target) = LinkInode (record { attributes = attributes; target = target })
