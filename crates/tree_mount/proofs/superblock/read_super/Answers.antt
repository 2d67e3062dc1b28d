use Rattle.std.proofs.Common.{sym, ap, ◌∙◌, arith}
use Rattle.blk_base.specs.Superblock.{super_of}
use Rattle.format_laws.specs.Superblock.{IsSuper-from_read}
use Rattle.volume_format.specs.Views.{super_view}
use Rattle.tree_load.proofs.Loading.{at_ok}
use Rattle.tree_mount.proofs.Order.{super_fails}
use Rattle.disk_model.specs.Disk.{known}
use Rattle.disk_model.proofs.CrashLaws.{known_told}
use Rattle.tree_mount.proofs.superblock.read_super.Goals as goal

pub returns-in-Ok-clause-least : goal.returns-in-Ok-clause-least
returns-in-Ok-clause-least g c = (IsSuper-from_read c.read_super_block.new.into c.blocks-2.result (super_view c.in-Ok.superblock) (sym c.in-Ok.ensures)).smallest

pub returns-in-Ok-clause-most : goal.returns-in-Ok-clause-most
returns-in-Ok-clause-most g c = (IsSuper-from_read c.read_super_block.new.into c.blocks-2.result (super_view c.in-Ok.superblock) (sym c.in-Ok.ensures)).greatest

pub returns-in-Ok-clause-on_disk : goal.returns-in-Ok-clause-on_disk
returns-in-Ok-clause-on_disk g c =
    let most = (IsSuper-from_read c.read_super_block.new.into c.blocks-2.result (super_view c.in-Ok.superblock) (sym c.in-Ok.ensures)).on_disk in
    let now = c.blocks-2.ensures in
    let same = c.read_super_block.ensures.size in
    omega arith

pub returns-in-Err-clause-fault : goal.returns-in-Err-clause-fault
returns-in-Err-clause-fault g c =
    let disk = c.args.disk.now in
    let bytes = c.read_super_block.new.into in
    super_fails (known (g.D.Disk.seen disk) (g.D.Disk.lost disk)) bytes (g.D.Disk.count disk) c.in-Err.fault
    (at_ok c.read_super_block.result (sym c.is_err.ensures.value ∙ c.if-is_err.false) c.read_super_block.ensures.bytes)
    (known_told (g.D.Disk.seen disk) (g.D.Disk.lost disk) _ (g.met.D.Disk.reads_all disk)) (ap (super_of bytes) (sym (c.blocks-2.ensures ∙ c.read_super_block.ensures.size)) ∙ sym c.in-Err.ensures)
