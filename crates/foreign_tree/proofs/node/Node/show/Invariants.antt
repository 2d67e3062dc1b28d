use Rattle.std.proofs.Common.{map}
use Rattle.blk_base.specs.Leaf.{below}
use Rattle.foreign_tree.specs.Answers.{HasMetMore}
use Rattle.foreign_tree.specs.Tree.{item_found}
use Rattle.foreign_tree.proofs.node.Node.show.Given as goal

abbrev pub invariant-loop-i : goal.invariant-loop-i
invariant-loop-i g l = HasMetMore g.V.Visit.has_met l.fn.visitor l.visitor (map (item_found l.leaf l.self.place l.self.bytes.items) (below l.i))
