use Rattle.tree_range.specs.Shape.{tree_items}
use Rattle.inode_lines.proofs.Own.{own_absent, own_there}
use Rattle.inode_lines.proofs.lines.has_own_ref.Goals as goal

pub returns-in-Some : goal.returns-in-Some
returns-in-Some c = own_there (tree_items c.args.table.now c.args.tree.now) c.in-Some.bytes.now c.has_dots.result c.requires.order c.in-Some.ensures c.has_dots.ensures

pub returns-in-None : goal.returns-in-None
returns-in-None c = own_absent (tree_items c.args.table.now c.args.tree.now) c.requires.order c.in-None.ensures
