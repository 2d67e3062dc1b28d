-- The blocks of the run from the next one on are still to be sealed.
use Rattle.volume_image.specs.Subvolume.{run_addresses}
use Rattle.volume_seal.proofs.DataParts.{IsSealedUpTo}
use Rattle.volume_seal.proofs.data.seal_run.Given as goal

abbrev pub invariant-loop-left : goal.invariant-loop-left
invariant-loop-left l =
    IsSealedUpTo l.initial.table l.table (run_addresses l.fn.run.at.0 l.fn.run.blocks) (run_addresses l.next l.left) l.initial.out l.out

abbrev pub decreases-loop-left : goal.decreases-loop-left
decreases-loop-left l = l.left
