use Rattle.log_edit.specs.Room.{count_between}
use Rattle.log_edit.proofs.Steps.{IsOnTheWay}
use Rattle.log_edit.proofs.between.delete_items.Given as goal

abbrev pub invariant-loop-key : goal.invariant-loop-key
invariant-loop-key l = IsOnTheWay l.fn.first l.fn.last l.fn.table l.fn.tree l.table l.tree

abbrev pub decreases-loop-key : goal.decreases-loop-key
decreases-loop-key l = count_between l.first l.last l.table l.tree
