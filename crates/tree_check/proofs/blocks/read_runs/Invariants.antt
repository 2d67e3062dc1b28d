use Rattle.std.proofs.Common.{◌≡◌, ◌≤◌, take}
use Rattle.disk_model.specs.Disk.{known}
use Rattle.tree_check.specs.Blocks.{AreRead, runs_of}
use Rattle.tree_check.proofs.blocks.read_runs.Given as goal

abbrev pub invariant-loop-run : goal.invariant-loop-run
invariant-loop-run g l = record {
  read : AreRead (known (g.D.Disk.seen l.fn.disk) (g.D.Disk.lost l.fn.disk)) l.fn.table l.table (runs_of (take l.run-index l.runs));
  size : g.D.Disk.count l.disk ≡ g.D.Disk.count l.fn.disk;
  seen : g.D.Disk.seen l.disk ≡ g.D.Disk.seen l.fn.disk;
  lost : g.D.Disk.lost l.disk ≡ g.D.Disk.lost l.fn.disk;
  told : g.D.Disk.told l.disk ≡ g.D.Disk.told l.fn.disk;
  counted : g.D.Disk.faults l.fn.disk ≤ g.D.Disk.faults l.disk;
}
