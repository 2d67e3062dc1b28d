use Rattle.std.proofs.lemmas.Result.{err_from_is_err_and}
use Rattle.blk_base.specs.Bytes.{IsImage}
use Rattle.disk_model.specs.Disk.{known}
use Rattle.disk_model.proofs.CrashLaws.{known_told}
use Rattle.tree_check.proofs.Places.{on_ok}
use Rattle.volume_format.specs.Views.{super_view}
use Rattle.volume_image.specs.Roots.{root_want}
use Rattle.volume_image.proofs.Reaches.{tail_in}
use Rattle.tree_mount.specs.Checks.{IsInodeFault}
use Rattle.tree_mount.specs.Faults.{IsToldFault}
use Rattle.tree_mount.proofs.Checkable.{checkable}
use Rattle.tree_mount.proofs.Judging.{told_data_fail, told_inodes_fail, told_items_fail, told_leads_on}
use Rattle.tree_mount.proofs.Lists.{if_err}
use Rattle.tree_mount.proofs.mounting.check_volume.Goals as goal

pub check_items-requires : goal.check_items-requires
check_items-requires g c = record { trees = λ want there. c.requires.loaded.each want (tail_in (root_want (super_view c.args.superblock.now)) want c.args.wants.now there) }

pub returns-in_err-check_items-clause-fault : goal.returns-in_err-check_items-clause-fault
returns-in_err-check_items-clause-fault g c =
    let p = err_from_is_err_and c.from_residual.result c.from_residual.ensures.1 in
    rw (p.1, p.2) (told_items_fail (known (g.D.Disk.seen c.args.disk.now) (g.D.Disk.lost c.args.disk.now)) (super_view c.args.superblock.now) c.args.table.now c.args.wants.now c.in_err-check_items.field-0.0
    (known_told (g.D.Disk.seen c.args.disk.now) (g.D.Disk.lost c.args.disk.now) IsImage (g.met.D.Disk.reads_blocks c.args.disk.now)) c.requires.loaded c.requires.found c.in_err-check_items.ensures.fault)

pub read_data-requires-clause-trees : goal.read_data-requires-clause-trees
read_data-requires-clause-trees g c = λ want there. c.requires.loaded.each want (tail_in (root_want (super_view c.args.superblock.now)) want c.args.wants.now there)

pub returns-in_err-read_data-clause-fault : goal.returns-in_err-read_data-clause-fault
returns-in_err-read_data-clause-fault g c =
    let p = err_from_is_err_and c.from_residual-in_err-read_data.result c.from_residual-in_err-read_data.ensures.1 in
    rw (p.1, p.2) (told_data_fail (known (g.D.Disk.seen c.args.disk.now) (g.D.Disk.lost c.args.disk.now)) (super_view c.args.superblock.now) c.args.table.now c.args.wants.now c.in_err-read_data.field-0.0
    (known_told (g.D.Disk.seen c.args.disk.now) (g.D.Disk.lost c.args.disk.now) IsImage (g.met.D.Disk.reads_blocks c.args.disk.now)) c.requires.loaded c.requires.found c.in_ok-check_items.ensures.ok c.in_err-read_data.ensures.fault)

pub check_inodes-requires : goal.check_inodes-requires
check_inodes-requires g c = record {
  checked = checkable (super_view c.args.superblock.now) c.args.table.now c.read_data.new.table c.args.wants.now c.requires.loaded c.in_ok-check_items.ensures.ok c.in_ok-read_data.ensures.loaded c.in_ok-read_data.ensures.reachable;
}

pub returns-clause-whole : goal.returns-clause-whole
returns-clause-whole g c = on_ok c.check_inodes.result (λ right. record {
  load = c.in_ok-read_data.ensures.loaded;
  reachable = c.in_ok-read_data.ensures.reachable;
  checkable = checkable (super_view c.args.superblock.now) c.args.table.now c.read_data.new.table c.args.wants.now c.requires.loaded c.in_ok-check_items.ensures.ok c.in_ok-read_data.ensures.loaded c.in_ok-read_data.ensures.reachable;
  right = right;
}) c.check_inodes.ensures.ok

pub returns-clause-found : goal.returns-clause-found
returns-clause-found g c = on_ok c.check_inodes.result (λ right. told_leads_on (super_view c.args.superblock.now) c.args.table.now c.read_data.new.table c.args.wants.now c.requires.loaded c.in_ok-check_items.ensures.ok c.in_ok-read_data.ensures.loaded c.in_ok-read_data.ensures.reachable
    (known (g.D.Disk.seen c.args.disk.now) (g.D.Disk.lost c.args.disk.now)) (known_told (g.D.Disk.seen c.args.disk.now) (g.D.Disk.lost c.args.disk.now) IsImage (g.met.D.Disk.reads_blocks c.args.disk.now)) c.requires.found c.in_ok-read_data.ensures.bytes right) c.check_inodes.ensures.ok

pub returns-clause-fault : goal.returns-clause-fault
returns-clause-fault g c = if_err (IsInodeFault c.read_data.new.table c.args.wants.now) (IsToldFault (known (g.D.Disk.seen c.args.disk.now) (g.D.Disk.lost c.args.disk.now))) c.check_inodes.result
    (λ fault h. told_inodes_fail (super_view c.args.superblock.now) c.args.table.now c.read_data.new.table c.args.wants.now c.requires.loaded c.in_ok-check_items.ensures.ok c.in_ok-read_data.ensures.loaded c.in_ok-read_data.ensures.reachable
    (known (g.D.Disk.seen c.args.disk.now) (g.D.Disk.lost c.args.disk.now)) fault (known_told (g.D.Disk.seen c.args.disk.now) (g.D.Disk.lost c.args.disk.now) IsImage (g.met.D.Disk.reads_blocks c.args.disk.now)) c.requires.found c.in_ok-read_data.ensures.bytes h) c.check_inodes.ensures.fault
