use Rattle.std.proofs.Common.{◌≡◌, ◌≤◌, drop}
use Rattle.disk_model.specs.Disk.{IfTold, known}
use Rattle.foreign_tree.specs.Tree.{disk_bytes, volume_value}
use Rattle.foreign_file.proofs.Files.{IsSumming}
use Rattle.foreign_file.proofs.file.register_of.Given as goal

abbrev pub invariant-loop-extent : goal.invariant-loop-extent
invariant-loop-extent g l = record {
  summing : IfTold (known (g.D.Disk.seen l.fn.disk) (g.D.Disk.lost l.fn.disk)) (λ image. IsSumming (volume_value l.volume) (disk_bytes image) l.size l.extents l.register l.from (drop l.extent-index l.extents));
  blocks : g.D.Disk.count l.disk ≡ g.D.Disk.count l.fn.disk;
  seen : g.D.Disk.seen l.disk ≡ g.D.Disk.seen l.fn.disk;
  lost : g.D.Disk.lost l.disk ≡ g.D.Disk.lost l.fn.disk;
  told : g.D.Disk.told l.disk ≡ g.D.Disk.told l.fn.disk;
  counted : g.D.Disk.faults l.fn.disk ≤ g.D.Disk.faults l.disk;
}
