use Rattle.volume_seal.proofs.Super.{super_spelled}
use Rattle.volume_seal.proofs.superblock.superblock_of.Goals as goal

pub returns-clause-spelled : goal.returns-clause-spelled
returns-clause-spelled c = λ disk_blocks tree least most on_disk.
    super_spelled c.args.table.now c.args.root.now c.args.fsid.now c.copy_of.result c.args.generation c.args.used c.blocks-2.result c.copy_of.ensures.same c.blocks-2.ensures c.copy_of.ensures.size c.copy_of.ensures.bytes c.ranges.generation.fits c.ranges.used.fits disk_blocks tree least most on_disk
