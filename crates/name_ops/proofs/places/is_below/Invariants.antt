use Rattle.std.proofs.Common.{◌≡◌, ◌≤◌, ◌-◌, length, drop}
use Rattle.flat_model.specs.Walk.{is_below}
use Rattle.name_ops.proofs.places.is_below.Given as goal

abbrev pub invariant-loop-at : goal.invariant-loop-at
invariant-loop-at l = (is_below l.uppers l.lowers ≡ is_below (drop l.at l.uppers) (drop l.at l.lowers)) × (l.at ≤ length l.uppers) × (l.at ≤ length l.lowers)

abbrev pub decreases-loop-at : goal.decreases-loop-at
decreases-loop-at l = length l.uppers - l.at
