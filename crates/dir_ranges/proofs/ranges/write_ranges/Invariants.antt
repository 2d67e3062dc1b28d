-- The ranges up to where the next interval begins.
use Rattle.dir_ranges.proofs.Ranged.{IsRanging, still_above}
use Rattle.dir_ranges.proofs.ranges.write_ranges.Given as goal

abbrev pub invariant-loop-low : goal.invariant-loop-low
invariant-loop-low l = IsRanging l.dir.0 l.committed l.current l.low l.fn.table l.fn.log l.table l.log

abbrev pub decreases-loop-low : goal.decreases-loop-low
decreases-loop-low l = still_above l.low
