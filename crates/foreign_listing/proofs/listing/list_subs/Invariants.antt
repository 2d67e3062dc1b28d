use Rattle.std.proofs.Common.{◌≡◌, ◌≤◌, ◌*◌, ◌^◌, drop}
use Rattle.disk_model.specs.Disk.{IfTold, known}
use Rattle.foreign_tree.specs.Tree.{disk_bytes, volume_value}
use Rattle.foreign_listing.specs.Listing.{nothing_listed, subs_listed}
use Rattle.foreign_listing.specs.View.{listed_view}
use Rattle.foreign_listing.proofs.listing.list_subs.Given as goal

abbrev pub invariant-loop-sub : goal.invariant-loop-sub
invariant-loop-sub g l = record {
  left : IfTold (known (g.D.Disk.seen l.fn.disk) (g.D.Disk.lost l.fn.disk))
      (λ image. subs_listed (volume_value l.volume) (disk_bytes image) l.subs nothing_listed ≡ subs_listed (volume_value l.volume) (disk_bytes image) (drop l.sub-index l.subs) (listed_view l.listed));
  lines : l.listed.lines ≤ l.sub-index * 2 ^ 64;
  size : g.D.Disk.count l.disk ≡ g.D.Disk.count l.fn.disk;
  seen : g.D.Disk.seen l.disk ≡ g.D.Disk.seen l.fn.disk;
  lost : g.D.Disk.lost l.disk ≡ g.D.Disk.lost l.fn.disk;
  told : g.D.Disk.told l.disk ≡ g.D.Disk.told l.fn.disk;
  counted : g.D.Disk.faults l.fn.disk ≤ g.D.Disk.faults l.disk;
}
