-- The blocks below the children from a place on are still to go.
use Rattle.std.proofs.Common.{◌-◌}
use Rattle.tree_frame.specs.Frame.{IsLeft}
use Rattle.table_commit.specs.Commit.{dirty_one}
use Rattle.table_commit.proofs.Below.{IsGoneTo, all_below, still_below}
use Rattle.table_commit.proofs.trees.+let_go_below.Given as goal

abbrev pub decreases-let_go_below : goal.decreases-let_go_below
decreases-let_go_below l = l.level

abbrev pub invariant-loop-place : goal.invariant-loop-place
invariant-loop-place l =
    IsGoneTo IsLeft dirty_one l.initial.table l.table (all_below IsLeft dirty_one (l.level - 1) l.initial.table l.at.0) (still_below IsLeft dirty_one (l.level - 1) l.initial.table l.at.0 l.place)
