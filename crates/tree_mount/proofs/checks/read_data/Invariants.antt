use Rattle.std.proofs.Common.{◌≡◌, ◌≤◌, true, take}
use Rattle.disk_model.specs.Disk.{IfTold, known}
use Rattle.tree_load.specs.Loaded.{HasBytes, IsLoad}
use Rattle.tree_mount.specs.Checks.{AreReachable}
use Rattle.tree_mount.specs.Trees.{wants_data}
use Rattle.tree_mount.proofs.checks.read_data.Given as goal

abbrev pub invariant-loop-want : goal.invariant-loop-want
invariant-loop-want g l = record {
  load : IsLoad true l.fn.table l.table (wants_data l.fn.table (take l.want-index l.wants));
  reachable : AreReachable l.fn.table (wants_data l.fn.table (take l.want-index l.wants));
  bytes : IfTold (known (g.D.Disk.seen l.fn.disk) (g.D.Disk.lost l.fn.disk)) (λ image. HasBytes image l.table (wants_data l.fn.table (take l.want-index l.wants)));
  size : g.D.Disk.count l.disk ≡ g.D.Disk.count l.fn.disk;
  seen : g.D.Disk.seen l.disk ≡ g.D.Disk.seen l.fn.disk;
  lost : g.D.Disk.lost l.disk ≡ g.D.Disk.lost l.fn.disk;
  told : g.D.Disk.told l.disk ≡ g.D.Disk.told l.fn.disk;
  counted : g.D.Disk.faults l.fn.disk ≤ g.D.Disk.faults l.disk;
}
