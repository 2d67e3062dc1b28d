use Rattle.std.proofs.Common.{[]}
use Rattle.batch_write.proofs.MomentLemmas.{IsRead}
use Rattle.device_side.specs.Written.{Known}
use Rattle.device_side.proofs.Joining.{changes_more, changes_none}
use Rattle.device_side.proofs.device.DeviceSide.write_unwritten.Goals as goal

pub returns-then-is_kept-clause-changes : goal.returns-then-is_kept-clause-changes
returns-then-is_kept-clause-changes g c =
    let disk = c.args.disk.now in
    let known : Known = record { count = g.D.Disk.count disk; seen = g.D.Disk.seen disk; lost = g.D.Disk.lost disk; told = g.D.Disk.told disk } in
    let read : IsRead (g.D.Disk.told disk) (g.D.Disk.seen disk) (g.D.Disk.count disk) = record { as_told = g.met.D.Disk.reads_as_told disk; blocks = g.met.D.Disk.reads_blocks disk; all = g.met.D.Disk.reads_all disk } in
    changes_more known known [] _ (changes_none known read)
