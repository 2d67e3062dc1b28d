-- What an inode is apart from its names: the record of a file, of a directory and of a symlink.
use Rattle.std.specs.Prelude.{ℕ, Bool, true, false, List}
use Rattle.std.specs.Ordering.{nat_cmp}
use Rattle.std.specs.Cmp.Lexicographic.{slice_cmp}
use Rattle.std.specs.FinMap.{FinMap, empty}
use Rattle.flat_model.specs.declared.view.Kind.{Kind}
use Rattle.flat_model.specs.declared.view.Kind.TheVariants.{File, Dir, Link}

-- attributes: from the bytes of an attribute's name to those of its value ("XATTR_ITEM")
abbrev pub Attributes : Type 0
Attributes = FinMap (slice_cmp nat_cmp) (List ℕ)

-- the blocks of a file that are no holes: from the block's number within the file to its 4096 bytes ("EXTENT_DATA")
abbrev pub Blocks : Type 0
Blocks = FinMap nat_cmp (List ℕ)

-- a file: its attributes, its size in bytes, and its blocks; a block that isn't there reads as zeros ("INODE_ITEM", "EXTENT_DATA")
pub record FileRecord : Type 0 where
  pub attributes : Attributes
  pub size : ℕ
  pub blocks : Blocks

-- a directory, whose names stand in the subvolume's list of names ("INODE_ITEM")
pub record DirRecord : Type 0 where
  pub attributes : Attributes

-- a symlink: its attributes and the bytes of its target ("INODE_ITEM", inline "EXTENT_DATA")
pub record LinkRecord : Type 0 where
  pub attributes : Attributes
  pub target : List ℕ

-- the record of an inode, of one of the three kinds ("INODE_ITEM": mode)
pub data InodeRecord : Type 0 where
  FileInode : FileRecord → InodeRecord
  DirInode : DirRecord → InodeRecord
  LinkInode : LinkRecord → InodeRecord

-- what kind of inode a record is of ("INODE_ITEM": mode)
abbrev pub kind_of : InodeRecord → Kind
kind_of (FileInode file) = File
kind_of (DirInode dir) = Dir
kind_of (LinkInode link) = Link

-- whether a record is a directory's ("INODE_ITEM": mode)
abbrev pub is_dir_record : InodeRecord → Bool
is_dir_record (FileInode file) = false
is_dir_record (DirInode dir) = true
is_dir_record (LinkInode link) = false

-- whether a record is a symlink's ("INODE_ITEM": mode)
abbrev pub is_link_record : InodeRecord → Bool
is_link_record (FileInode file) = false
is_link_record (DirInode dir) = false
is_link_record (LinkInode link) = true

-- the attributes in a record ("XATTR_ITEM")
abbrev pub attributes_of : InodeRecord → Attributes
attributes_of (FileInode file) = file.attributes
attributes_of (DirInode dir) = dir.attributes
attributes_of (LinkInode link) = link.attributes

-- a record with these attributes in place of its own ("XATTR_ITEM")
abbrev pub with_attributes : InodeRecord → Attributes → InodeRecord
with_attributes (FileInode file) attributes = FileInode (record file { attributes = attributes })
with_attributes (DirInode dir) attributes = DirInode (record { attributes = attributes })
with_attributes (LinkInode link) attributes = LinkInode (record link { attributes = attributes })

-- a file as it is made: no attributes, size 0 and no blocks (own)
abbrev pub new_file : InodeRecord
new_file = FileInode (record { attributes = empty; size = 0; blocks = empty })

-- a directory as it is made: no attributes (own)
abbrev pub new_dir : InodeRecord
new_dir = DirInode (record { attributes = empty })

-- a symlink as it is made: its target and no attributes (own)
abbrev pub new_link : List ℕ → InodeRecord
new_link target = LinkInode (record { attributes = empty; target = target })

-- the record that an inode had when it was made: a symlink's target never changes (own)
abbrev pub at_creation : InodeRecord → InodeRecord
at_creation (FileInode file) = new_file
at_creation (DirInode dir) = new_dir
at_creation (LinkInode link) = new_link link.target
