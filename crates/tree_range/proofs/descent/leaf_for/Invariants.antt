use Rattle.tree_range.specs.Path.{IsPath}
use Rattle.tree_range.proofs.descent.leaf_for.Given as goal

abbrev pub invariant-loop-level : goal.invariant-loop-level
invariant-loop-level l = IsPath l.table l.tree l.level l.key l.way.at.0 l.way.next

abbrev pub decreases-loop-level : goal.decreases-loop-level
decreases-loop-level l = l.level
