use Rattle.std.proofs.Common.{◌≡◌, ◌≤◌, ◌+◌, ◌*◌}
use Rattle.disk_model.specs.Disk.{known}
use Rattle.volume_image.specs.Subvolume.{run_addresses}
use Rattle.tree_check.specs.Blocks.{AreRead}
use Rattle.tree_check.proofs.blocks.read_run.Given as goal

abbrev pub invariant-loop-place : goal.invariant-loop-place
invariant-loop-place g l = record {
  read : AreRead (known (g.D.Disk.seen l.fn.disk) (g.D.Disk.lost l.fn.disk)) l.fn.table l.table (run_addresses l.fn.run.at.0 l._place);
  at_is : l.at.0 ≡ l.fn.run.at.0 + 4096 * l._place;
  size : g.D.Disk.count l.disk ≡ g.D.Disk.count l.fn.disk;
  seen : g.D.Disk.seen l.disk ≡ g.D.Disk.seen l.fn.disk;
  lost : g.D.Disk.lost l.disk ≡ g.D.Disk.lost l.fn.disk;
  told : g.D.Disk.told l.disk ≡ g.D.Disk.told l.fn.disk;
  counted : g.D.Disk.faults l.fn.disk ≤ g.D.Disk.faults l.disk;
}
