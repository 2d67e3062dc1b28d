use Rattle.blk_base.specs.Keys.{inode_item}
use Rattle.tree_range.specs.Shape.{tree_items}
use Rattle.volume_image.specs.Subvolume.{make_key}
use Rattle.inode_lines.proofs.Kinded.{key_there}
use Rattle.inode_lines.proofs.lines.has_inode_item.Goals as goal

pub returns : goal.returns
returns c = key_there (tree_items c.args.table.now c.args.tree.now) (make_key c.args.ino.0 inode_item 0) c.get.result c.is_some.result c.requires.order c.is_some.ensures c.get.ensures
