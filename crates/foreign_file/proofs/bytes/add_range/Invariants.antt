use Rattle.std.proofs.Common.{◌≡◌, ◌≤◌, ◌-◌}
use Rattle.blk_base.specs.Bytes.{bytes_at}
use Rattle.blk_base.specs.Crc.{register_after}
use Rattle.disk_model.specs.Disk.{IfTold, known}
use Rattle.foreign_tree.specs.Tree.{disk_bytes}
use Rattle.foreign_file.proofs.bytes.add_range.Given as goal

abbrev pub decreases-loop-done : goal.decreases-loop-done
decreases-loop-done g l = l.count - l.done

abbrev pub invariant-loop-done : goal.invariant-loop-done
invariant-loop-done g l = record {
  most : l.done ≤ l.count;
  bytes : IfTold (known (g.D.Disk.seen l.fn.disk) (g.D.Disk.lost l.fn.disk)) (λ image. l.after ≡ register_after l.register (bytes_at l.done (disk_bytes image) l.place));
  size : g.D.Disk.count l.disk ≡ g.D.Disk.count l.fn.disk;
  seen : g.D.Disk.seen l.disk ≡ g.D.Disk.seen l.fn.disk;
  lost : g.D.Disk.lost l.disk ≡ g.D.Disk.lost l.fn.disk;
  told : g.D.Disk.told l.disk ≡ g.D.Disk.told l.fn.disk;
  counted : g.D.Disk.faults l.fn.disk ≤ g.D.Disk.faults l.disk;
}
