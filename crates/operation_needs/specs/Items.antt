-- The items of an inode that are counted ("XATTR_ITEM", "EXTENT_DATA").
use Rattle.std.specs.Prelude.{ℕ, List, Option, Some, None}
use Rattle.blk_base.specs.Keys.{xattr_item}
use Rattle.blk_base.specs.Leaf.{Item}
use Rattle.flat_model.specs.Needs.{attribute_items}
use Rattle.flat_model.specs.Records.{DirInode, FileInode, InodeRecord, LinkInode, attributes_of}
use Rattle.tree_range.specs.Between.{items_between}
use Rattle.volume_image.specs.Subvolume.{make_key}

-- the items of an inode's attributes; the offset of a key is the hash of the names, which has 32 bits ("XATTR_ITEM")
abbrev pub attributes_between : List Item → ℕ → List Item
attributes_between items ino = items_between (make_key ino xattr_item 0) (make_key ino xattr_item 4294967295) items

-- how many XATTR items an inode has, where there is one
abbrev pub attribute_items_there : Option InodeRecord → ℕ
attribute_items_there None = 0
attribute_items_there (Some inode) = attribute_items (attributes_of inode)

-- how many inline extents an inode has, where there is one: a symlink's target ("EXTENT_DATA")
abbrev pub inline_extents_there : Option InodeRecord → ℕ
inline_extents_there None = 0
inline_extents_there (Some (FileInode file)) = 0
inline_extents_there (Some (DirInode dir)) = 0
inline_extents_there (Some (LinkInode link)) = 1
