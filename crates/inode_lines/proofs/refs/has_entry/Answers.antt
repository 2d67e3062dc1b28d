use Rattle.tree_range.specs.Shape.{tree_items}
use Rattle.inode_lines.proofs.Fellows.{entry_absent, entry_there}
use Rattle.inode_lines.proofs.refs.has_entry.Goals as goal

pub returns-in-Some : goal.returns-in-Some
returns-in-Some c = entry_there (tree_items c.args.table.now c.args.tree.now) c.args.key.now c.args.name.now c.in-Some.bytes.now c.args.ino.0 c.has_named.result c.requires.order c.in-Some.ensures c.has_named.ensures

pub returns-in-None : goal.returns-in-None
returns-in-None c = entry_absent (tree_items c.args.table.now c.args.tree.now) c.args.key.now c.args.name.now c.args.ino.0 c.requires.order c.in-None.ensures
