-- The blocks below the children from a place on are still to go.
use Rattle.std.proofs.Common.{◌-◌}
use Rattle.table_commit.specs.Commit.{IsReleased}
use Rattle.table_commit.proofs.Below.{IsGoneTo, all_below, one_each, still_below}
use Rattle.table_commit.proofs.trees.+release_below.Given as goal

abbrev pub decreases-release_below : goal.decreases-release_below
decreases-release_below l = l.level

abbrev pub invariant-loop-place : goal.invariant-loop-place
invariant-loop-place l =
    IsGoneTo IsReleased one_each l.initial.table l.table (all_below IsReleased one_each (l.level - 1) l.initial.table l.at.0) (still_below IsReleased one_each (l.level - 1) l.initial.table l.at.0 l.place)
