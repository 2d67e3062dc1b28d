use Rattle.std.proofs.Common.{◌≡◌, ◌+◌, ◌-◌, min, take, [], ◌∷◌}
use Rattle.std.specs.List.{flat_map}
use Rattle.tree_range.specs.Shape.{reach_below}
use Rattle.tree_range.specs.Part.{times_in}
use Rattle.tree_range.proofs.check.+times_below.Given as goal

abbrev pub invariant-loop-place : goal.invariant-loop-place
invariant-loop-place l = l.times ≡ min 2 (times_in l.wanted.0 (l.fn.at.0 ∷ []) + times_in l.wanted.0 (flat_map (λ pointer. reach_below (l.level - 1) l.table pointer.at) (take l.place l.node)))

abbrev pub decreases-times_below : goal.decreases-times_below
decreases-times_below l = l.level
