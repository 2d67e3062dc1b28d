use Rattle.std.proofs.Common.{◌≡◌, ◌≤◌, ◌-◌, drop}
use Rattle.disk_model.specs.Disk.{known}
use Rattle.tree_load.proofs.Loading.{IsLoading}
use Rattle.tree_load.proofs.below.+load_below.Given as goal

abbrev pub decreases-load_below : goal.decreases-load_below
decreases-load_below g l = l.want.now.level

abbrev pub invariant-loop-place : goal.invariant-loop-place
invariant-loop-place g l = record {
  loading : IsLoading (l.want.level - 1) (known (g.D.Disk.seen l.fn.disk) (g.D.Disk.lost l.fn.disk)) l.fn.table l.table l.want l.fn.under l.fn.last l.met (drop l.place l.node);
  size : g.D.Disk.count l.disk ≡ g.D.Disk.count l.fn.disk;
  seen : g.D.Disk.seen l.disk ≡ g.D.Disk.seen l.fn.disk;
  lost : g.D.Disk.lost l.disk ≡ g.D.Disk.lost l.fn.disk;
  told : g.D.Disk.told l.disk ≡ g.D.Disk.told l.fn.disk;
  counted : g.D.Disk.faults l.fn.disk ≤ g.D.Disk.faults l.disk;
}
