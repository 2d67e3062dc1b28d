-- Numbers that a check adds up item by item: the bytes of a file's extents, and the refs of an inode.
use Rattle.std.specs.Prelude.{ℕ, length, filter, if◌then◌else◌}
use Rattle.blk_base.specs.Keys.{extent_data}
use Rattle.blk_base.specs.Leaf.{Item}
use Rattle.flat_model.specs.Names.{leads_to}
use Rattle.volume_image.specs.Subvolume.{extent_len}
use Rattle.image_faults.specs.Said.{is_item_of, names_in}

-- how many bytes of the inode's file an item covers ("EXTENT_DATA")
abbrev pub extent_bytes : ℕ → Item → ℕ
extent_bytes ino item = if is_item_of extent_data ino item.0 then extent_len item.0 item.1 else 0

-- how many names of the inode an item says ("INODE_REF", "INODE_EXTREF")
abbrev pub names_said : ℕ → Item → ℕ
names_said ino item = length (filter (leads_to ino) (names_in item))
