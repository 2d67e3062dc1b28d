-- The blocks that are left are the run from the next one on.
use Rattle.volume_image.specs.Subvolume.{run_addresses}
use Rattle.data_release.specs.LetGo.{AreLeft}
use Rattle.data_release.proofs.run.let_go_run.Given as goal

abbrev pub invariant-loop-left : goal.invariant-loop-left
invariant-loop-left l =
    AreLeft l.initial.table l.table (run_addresses l.fn.at.0 l.fn.count) (run_addresses l.next l.left)

abbrev pub decreases-loop-left : goal.decreases-loop-left
decreases-loop-left l = l.left
