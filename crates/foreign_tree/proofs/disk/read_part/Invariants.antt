use Rattle.std.proofs.Common.{◌≡◌, ◌≤◌, ◌-◌, length}
use Rattle.blk_base.specs.Bytes.{bytes_at}
use Rattle.disk_model.specs.Disk.{IfTold, known}
use Rattle.foreign_tree.specs.Tree.{disk_bytes}
use Rattle.foreign_tree.proofs.disk.read_part.Given as goal

abbrev pub decreases-loop-read : goal.decreases-loop-read
decreases-loop-read g l = l.count - l.read

abbrev pub invariant-loop-read : goal.invariant-loop-read
invariant-loop-read g l = record {
  most : l.read ≤ l.count;
  length : length l.part.items ≡ l.read;
  bytes : IfTold (known (g.D.Disk.seen l.fn.disk) (g.D.Disk.lost l.fn.disk)) (λ image. l.part.items ≡ bytes_at l.read (disk_bytes image) l.place);
  size : g.D.Disk.count l.disk ≡ g.D.Disk.count l.fn.disk;
  seen : g.D.Disk.seen l.disk ≡ g.D.Disk.seen l.fn.disk;
  lost : g.D.Disk.lost l.disk ≡ g.D.Disk.lost l.fn.disk;
  told : g.D.Disk.told l.disk ≡ g.D.Disk.told l.fn.disk;
  counted : g.D.Disk.faults l.fn.disk ≤ g.D.Disk.faults l.disk;
}
