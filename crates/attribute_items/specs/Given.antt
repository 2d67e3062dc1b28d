-- The attributes of an inode in a tree, and the bytes that the item of one takes.
use Rattle.std.specs.Prelude.{◌+◌, ℕ, List, length, sum_by}
use Rattle.blk_base.specs.Crc.{name_hash_of}
use Rattle.blk_base.specs.Entries.{EntryValue}
use Rattle.blk_base.specs.Keys.{xattr_item}
use Rattle.block_table.specs.declared.tree.Tree.{Tree}
use Rattle.block_table.specs.Table.{Table}
use Rattle.tree_range.specs.Between.{data_under}
use Rattle.tree_range.specs.Shape.{tree_items}
use Rattle.volume_image.specs.Subvolume.{make_key}
use Rattle.attribute_items.specs.Found.{entries_there, entry_size, others}

-- the entries of the inode's item that has the attribute of this name, if one has it ("XATTR_ITEM": key offset)
abbrev pub entries_at : Table → Tree → ℕ → List ℕ → List EntryValue
entries_at table tree ino name = entries_there (data_under (make_key ino xattr_item (name_hash_of name)) (tree_items table tree))

-- the bytes of that item with this value of the attribute
abbrev pub size_with : Table → Tree → ℕ → List ℕ → List ℕ → ℕ
size_with table tree ino name value = sum_by entry_size (others name (entries_at table tree ino name)) + (30 + length name + length value)
