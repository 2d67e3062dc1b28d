use Rattle.std.proofs.Common.{◌≤◌, arith}
use Rattle.tree_mount.proofs.Order.{super_past}
use Rattle.disk_model.specs.Disk.{known}
use Rattle.disk_model.proofs.CrashLaws.{known_told}
use Rattle.tree_mount.proofs.superblock.read_super_block.Goals as goal

pub returns-then-blocks-le-SUPER_BLOCK-clause-bytes :
    goal.returns-then-blocks-le-SUPER_BLOCK-clause-bytes
returns-then-blocks-le-SUPER_BLOCK-clause-bytes g c =
    let disk = c.args.disk.now in
    let few : g.D.Disk.count disk ≤ 16 = let test = c.if-blocks-le-SUPER_BLOCK.true in let same = c.blocks-2.ensures in omega arith in
    super_past (known (g.D.Disk.seen disk) (g.D.Disk.lost disk)) (g.D.Disk.count disk) (known_told (g.D.Disk.seen disk) (g.D.Disk.lost disk) _ (g.met.D.Disk.reads_all disk)) few
