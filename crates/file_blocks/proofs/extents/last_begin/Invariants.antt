-- An extent begins from the lower block on, and none behind the upper one.
use Rattle.std.proofs.Common.{◌≡◌, ◌≢◌, ◌≤◌, ◌<◌, ◌+◌, ◌-◌, []}
use Rattle.tree_range.specs.Shape.{tree_items}
use Rattle.file_blocks.specs.Runs.{extents_between}
use Rattle.file_blocks.proofs.extents.last_begin.Given as goal

abbrev pub invariant-loop-low : goal.invariant-loop-low
invariant-loop-low l =
    (l.low ≤ l.high) × (l.high ≤ l.number)
    × (extents_between (tree_items l.table l.tree) l.ino.0 l.low l.number ≢ [])
    × (l.high < l.number → extents_between (tree_items l.table l.tree) l.ino.0 (l.high + 1) l.number ≡ [])

abbrev pub decreases-loop-low : goal.decreases-loop-low
decreases-loop-low l = l.high - l.low
