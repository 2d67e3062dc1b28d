use Rattle.tree_frame.specs.Frame.{AreCurrent}
use Rattle.tree_range.specs.Shape.{IsTree, tree_reach}
use Rattle.tree_tests.proofs.rows.put_row.Given as goal

abbrev pub invariant-loop-place : goal.invariant-loop-place
invariant-loop-place g l = IsTree l.table l.tree × AreCurrent l.table (tree_reach l.table l.tree)
