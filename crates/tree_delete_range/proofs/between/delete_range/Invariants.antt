use Rattle.tree_delete_range.proofs.Steps.{IsOnTheWay, left_between}
use Rattle.tree_delete_range.proofs.between.delete_range.Given as goal

abbrev pub invariant-loop-key : goal.invariant-loop-key
invariant-loop-key l = IsOnTheWay l.fn.first l.fn.last l.fn.table l.fn.tree l.table l.tree

abbrev pub decreases-loop-key : goal.decreases-loop-key
decreases-loop-key l = left_between l.first l.last l.table l.tree
