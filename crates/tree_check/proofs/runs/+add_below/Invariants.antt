use Rattle.std.proofs.Common.{◌≡◌, ◌++◌, ◌-◌}
use Rattle.tree_range.specs.Shape.{items_below}
use Rattle.volume_image.specs.Subvolume.{data_addresses}
use Rattle.tree_check.specs.Blocks.{runs_of}
use Rattle.tree_check.proofs.RunSteps.{left_to_add}
use Rattle.tree_check.proofs.runs.+add_below.Given as goal

abbrev pub decreases-add_below : goal.decreases-add_below
decreases-add_below l = l.level

abbrev pub invariant-loop-place : goal.invariant-loop-place
invariant-loop-place l = runs_of l.runs.items ++ left_to_add (l.level - 1) l.table l.node l.place ≡ runs_of l.fn.runs.items ++ data_addresses (items_below l.level l.table l.fn.at.0)
