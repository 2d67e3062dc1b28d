use Rattle.std.proofs.Common.{ap, ◌∙◌}
use Rattle.tree_range.specs.Shape.{tree_items}
use Rattle.inode_lines.specs.Kinds.{kind_under}
use Rattle.inode_lines.proofs.Kinded.{kind_said}
use Rattle.inode_lines.proofs.kinds.kind_at.Goals as goal

pub returns-in-Some : goal.returns-in-Some
returns-in-Some c = λ blocks. c.kind_in.ensures ∙ ap kind_under c.in-Some.ensures ∙ kind_said (tree_items c.args.table.now c.args.tree.now) blocks c.args.ino.0 c.requires.order

pub returns-in-None : goal.returns-in-None
returns-in-None c = λ blocks. ap kind_under c.in-None.ensures ∙ kind_said (tree_items c.args.table.now c.args.tree.now) blocks c.args.ino.0 c.requires.order
