use Rattle.std.proofs.Common.{◌≡◌, ◌≤◌, take}
use Rattle.disk_model.specs.Disk.{IfTold, known}
use Rattle.tree_mount.specs.Trees.{AreLoaded, AreWalked}
use Rattle.tree_mount.proofs.trees.load_trees.Given as goal

abbrev pub invariant-loop-want : goal.invariant-loop-want
invariant-loop-want g l = record {
  loaded : AreLoaded l.fn.table l.table (take l.want-index l.wants);
  walked : IfTold (known (g.D.Disk.seen l.fn.disk) (g.D.Disk.lost l.fn.disk)) (λ image. AreWalked image l.fn.table l.table (take l.want-index l.wants));
  size : g.D.Disk.count l.disk ≡ g.D.Disk.count l.fn.disk;
  seen : g.D.Disk.seen l.disk ≡ g.D.Disk.seen l.fn.disk;
  lost : g.D.Disk.lost l.disk ≡ g.D.Disk.lost l.fn.disk;
  told : g.D.Disk.told l.disk ≡ g.D.Disk.told l.fn.disk;
  counted : g.D.Disk.faults l.fn.disk ≤ g.D.Disk.faults l.disk;
}
