use Rattle.std.proofs.Common.{◌*◌, arith}
use Rattle.disk_model.specs.Disk.{known}
use Rattle.disk_model.proofs.CrashLaws.{known_told}
use Rattle.foreign_tree.specs.Tree.{volume_value}
use Rattle.foreign_file.proofs.Summing.{inline_answers}
use Rattle.foreign_file.proofs.bytes.add_source.Goals as goal

pub returns-in-Inline-clause-answer : goal.returns-in-Inline-clause-answer
returns-in-Inline-clause-answer g c =
    let disk = c.args.disk.now in
    let size = c.from-disk_size.result * 4096 in
    let blocks = c.blocks-2.ensures in
    let wide = c.from-disk_size.ensures in
    let left = c.saturating_sub.ensures in
    let there = c.min-there.ensures in
    let place = c.min.ensures in
    inline_answers (known (g.D.Disk.seen disk) (g.D.Disk.lost disk)) (g.D.Disk.count disk) size c.args.register c.in-Inline.at c.in-Inline.length c.args.count c.min-there.result c.min.result (volume_value c.args.volume.now) c.args.source c.add_range.result
    (known_told (g.D.Disk.seen disk) (g.D.Disk.lost disk) _ (g.met.D.Disk.reads_blocks disk)) (known_told (g.D.Disk.seen disk) (g.D.Disk.lost disk) _ (g.met.D.Disk.reads_all disk)) c.in-Inline.is
    (omega arith) (omega arith) (omega arith) c.add_range.ensures.bytes c.add_range.ensures.no_check
