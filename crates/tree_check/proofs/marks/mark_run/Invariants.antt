use Rattle.std.proofs.Common.{◌≡◌, ◌+◌, ◌*◌}
use Rattle.volume_image.specs.Subvolume.{run_addresses}
use Rattle.tree_check.specs.Blocks.{AreMore}
use Rattle.tree_check.proofs.marks.mark_run.Given as goal

abbrev pub invariant-loop-place : goal.invariant-loop-place
invariant-loop-place l = record {
  more : AreMore l.fn.blocks l.fn.marks l.marks (run_addresses l.fn.run.at.0 l._place);
  at_is : l.at.0 ≡ l.fn.run.at.0 + 4096 * l._place;
}
