use Rattle.std.proofs.Common.{take}
use Rattle.std.specs.Prelude.{All}
use Rattle.tree_blocks.specs.Steps.{node_at}
use Rattle.tree_seal.proofs.Ready.{PointsToDirty}
use Rattle.tree_seal.proofs.tests.are_dirty.Given as goal

abbrev pub invariant-loop-place : goal.invariant-loop-place
invariant-loop-place l = All (PointsToDirty l.table) (take l.place (node_at l.table l.at.0))
