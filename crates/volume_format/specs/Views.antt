-- What the structs of this crate say, as the values of the grammar.
use Rattle.blk_base.specs.Superblock.{SuperValue}
use Rattle.blk_base.specs.Items.{RootValue}
use Rattle.volume_format.specs.declared.superblock.Super.{Super}
use Rattle.volume_format.specs.declared.root_item.RootItem.{RootItem}

-- what a superblock says ("Superblock")
abbrev pub super_view : Super → SuperValue
super_view s = record {
  fsid = s.fsid;
  generation = s.generation;
  root = s.root.0;
  root_level = s.root_level;
  log_root = s.log_root.0;
  log_root_level = s.log_root_level;
  blocks = s.blocks;
  used = s.used;
}

-- what a root item says ("ROOT_ITEM")
abbrev pub root_view : RootItem → RootValue
root_view r = record { generation = r.generation; at = r.at.0; level = r.level }
