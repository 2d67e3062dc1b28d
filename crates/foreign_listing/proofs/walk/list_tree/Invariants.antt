use Rattle.std.proofs.Common.{◌≡◌, ◌≤◌, ◌+◌, map, vec_len}
use Rattle.disk_model.specs.Disk.{IfTold, known}
use Rattle.foreign_items.specs.View.{name_view}
use Rattle.foreign_tree.specs.Tree.{disk_bytes, volume_value}
use Rattle.foreign_listing.specs.View.{left_of_walk, listed_view, pending_view, tree_value}
use Rattle.foreign_listing.proofs.Walking.{IsLeft}
use Rattle.foreign_listing.proofs.walk.list_tree.Given as goal

abbrev pub invariant-loop-place : goal.invariant-loop-place
invariant-loop-place g l = record {
  left : IfTold (known (g.D.Disk.seen l.fn.disk) (g.D.Disk.lost l.fn.disk))
      (λ image. IsLeft (volume_value l.volume) (disk_bytes image) (tree_value l.tree) (map name_view l.tree.names.items) (listed_view l.fn.listed) (left_of_walk l.tree l.walk) (pending_view l.walk.pending.items) l.walk);
  lines : l.walk.listed.lines + left_of_walk l.tree l.walk ≡ l.fn.listed.lines + (vec_len l.tree.names + 1);
  size : g.D.Disk.count l.disk ≡ g.D.Disk.count l.fn.disk;
  seen : g.D.Disk.seen l.disk ≡ g.D.Disk.seen l.fn.disk;
  lost : g.D.Disk.lost l.disk ≡ g.D.Disk.lost l.fn.disk;
  told : g.D.Disk.told l.disk ≡ g.D.Disk.told l.fn.disk;
  counted : g.D.Disk.faults l.fn.disk ≤ g.D.Disk.faults l.disk;
}

abbrev pub decreases-loop-place : goal.decreases-loop-place
decreases-loop-place g l = left_of_walk l.tree l.walk
