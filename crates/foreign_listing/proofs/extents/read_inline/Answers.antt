use Rattle.std.proofs.Common.{◌*◌, arith}
use Rattle.disk_model.specs.Disk.{known}
use Rattle.disk_model.proofs.CrashLaws.{known_told}
use Rattle.foreign_listing.proofs.Inline.{inline_read}
use Rattle.foreign_listing.proofs.extents.read_inline.Goals as goal

pub returns-clause-answer : goal.returns-clause-answer
returns-clause-answer g c =
    let disk = c.args.disk.now in
    let size = c.from-disk_size.result * 4096 in
    let blocks = c.blocks-2.ensures in
    let wide = c.from-disk_size.ensures in
    let left = c.saturating_sub.ensures in
    let there = c.min-there.ensures in
    let place = c.min.ensures in
    inline_read (λ bytes. bytes.items) (known (g.D.Disk.seen disk) (g.D.Disk.lost disk)) (g.D.Disk.count disk) size c.args.at c.args.length c.min-there.result c.min.result c.read_part.result
    (known_told (g.D.Disk.seen disk) (g.D.Disk.lost disk) _ (g.met.D.Disk.reads_blocks disk)) (known_told (g.D.Disk.seen disk) (g.D.Disk.lost disk) _ (g.met.D.Disk.reads_all disk))
    (omega arith) (omega arith) (omega arith) c.read_part.ensures.bytes c.read_part.ensures.no_check
