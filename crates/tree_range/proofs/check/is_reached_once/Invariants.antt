use Rattle.std.proofs.Common.{◌≤◌, ◌<◌, ◌*◌, ℕ}
use Rattle.tree_range.specs.Shape.{tree_reach}
use Rattle.tree_range.specs.Part.{times_in}
use Rattle.tree_range.proofs.check.is_reached_once.Given as goal

abbrev pub invariant-loop-number : goal.invariant-loop-number
invariant-loop-number l = (k : ℕ) → k < l.number → times_in (k * 4096) (tree_reach l.table l.tree) ≤ 1
