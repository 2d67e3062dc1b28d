-- With those below the children from a place on, they are all below the node.
use Rattle.std.proofs.Common.{◌≡◌, ◌+◌, ◌-◌, drop}
use Rattle.tree_range.specs.Shape.{node_pointers}
use Rattle.volume_seal.proofs.Counted.{below_count}
use Rattle.volume_seal.proofs.count.+count_below.Given as goal

abbrev pub invariant-loop-place : goal.invariant-loop-place
invariant-loop-place l =
    l.count + below_count (l.level - 1) l.table (drop l.place (node_pointers l.table l.at.0)) ≡ 1 + below_count (l.level - 1) l.table (node_pointers l.table l.at.0)

abbrev pub decreases-count_below : goal.decreases-count_below
decreases-count_below l = l.level
