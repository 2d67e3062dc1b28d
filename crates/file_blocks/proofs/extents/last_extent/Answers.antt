use Rattle.tree_range.specs.Shape.{tree_items}
use Rattle.file_blocks.proofs.Found.{last_found}
use Rattle.file_blocks.proofs.extents.last_extent.Goals as goal

pub returns : goal.returns
returns c = last_found (tree_items c.args.table.now c.args.tree.now) c.args.ino.0 c.last_begin-begin.result c.args.number c.first_extent.result c.last_begin-begin.ensures.within c.last_begin-begin.ensures.some c.last_begin-begin.ensures.none c.first_extent.ensures
