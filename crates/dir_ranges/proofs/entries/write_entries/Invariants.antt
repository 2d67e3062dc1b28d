-- The entries up to where the next one may stand.
use Rattle.dir_ranges.proofs.Listed.{IsListing}
use Rattle.dir_ranges.proofs.Ranged.{still_above}
use Rattle.dir_ranges.proofs.entries.write_entries.Given as goal

abbrev pub invariant-loop-low : goal.invariant-loop-low
invariant-loop-low l = IsListing l.dir.0 l.current l.low l.fn.table l.fn.log l.table l.log

abbrev pub decreases-loop-low : goal.decreases-loop-low
decreases-loop-low l = still_above l.low
