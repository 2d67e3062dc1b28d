use Rattle.std.proofs.Common.{◌<◌, ◌-◌, ℕ}
use Rattle.tree_range.specs.Part.{IsChildPart}
use Rattle.tree_range.proofs.check.+is_part.Given as goal

abbrev pub invariant-loop-place : goal.invariant-loop-place
invariant-loop-place l = (k : ℕ) → k < l.place → IsChildPart (l.level - 1) l.table l.node l.next k

abbrev pub decreases-is_part : goal.decreases-is_part
decreases-is_part l = l.level
