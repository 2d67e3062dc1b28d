use Rattle.std.proofs.Common.{◌≡◌, ◌≤◌}
use Rattle.disk_model.specs.Disk.{IfTold, known}
use Rattle.foreign_tree.specs.Tree.{disk_bytes, volume_value}
use Rattle.foreign_tree.proofs.Walking.{IsWalking, rest_of}
use Rattle.foreign_tree.proofs.tree.+walk_below.Given as goal

abbrev pub decreases-walk_below : goal.decreases-walk_below
decreases-walk_below g l = l.wanted.now.level

abbrev pub invariant-loop-i : goal.invariant-loop-i
invariant-loop-i g l = record {
  walking : IfTold (known (g.D.Disk.seen l.fn.disk) (g.D.Disk.lost l.fn.disk))
      (λ image. IsWalking g.V.Visit.has_met (volume_value l.volume) (disk_bytes image) l.wanted l.fn.reached l.reached l.fn.visitor l.visitor (rest_of l.node.bytes.items l.i));
  size : g.D.Disk.count l.disk ≡ g.D.Disk.count l.fn.disk;
  seen : g.D.Disk.seen l.disk ≡ g.D.Disk.seen l.fn.disk;
  lost : g.D.Disk.lost l.disk ≡ g.D.Disk.lost l.fn.disk;
  told : g.D.Disk.told l.disk ≡ g.D.Disk.told l.fn.disk;
  counted : g.D.Disk.faults l.fn.disk ≤ g.D.Disk.faults l.disk;
}
