use Rattle.std.proofs.Common.{◌≡◌, ◌++◌, drop}
use Rattle.volume_image.specs.Subvolume.{data_addresses}
use Rattle.tree_check.specs.Blocks.{runs_of}
use Rattle.tree_check.proofs.runs.add_leaf.Given as goal

abbrev pub invariant-loop-place : goal.invariant-loop-place
invariant-loop-place l = runs_of l.runs.items ++ data_addresses (drop l.place l.leaf) ≡ runs_of l.fn.runs.items ++ data_addresses l.leaf
