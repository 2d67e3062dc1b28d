use Rattle.std.proofs.Common.{is_ok, ◌∙◌}
use Rattle.batch_write.proofs.ImageLemmas.{to_on_ok}
use Rattle.batch_write.proofs.MomentLemmas.{IsRead, super_moments, super_done_at}
use Rattle.batch_write.proofs.superblock.write_super_again.Goals as goal

pub returns-clause-crash : goal.returns-clause-crash
returns-clause-crash g c =
    let disk = c.args.disk.now in
    let new = c.write_super.new.self in
    let read : IsRead (g.D.Disk.told disk) (g.D.Disk.seen disk) (g.D.Disk.count disk) = record { as_told = g.met.D.Disk.reads_as_told disk; blocks = g.met.D.Disk.reads_blocks disk; all = g.met.D.Disk.reads_all disk } in
    super_moments (g.D.Disk.told disk) (g.D.Disk.told new) (g.D.Disk.seen disk) (g.D.Disk.seen new) (g.D.Disk.count disk) c.args.superblock.now (is_ok c.write_super.result) read (g.met.D.Disk.reads_as_left disk) c.requires c.write_super.ensures.told

pub returns-clause-done : goal.returns-clause-done
returns-clause-done g c =
    let disk = c.args.disk.now in
    let new = c.write_super.new.self in
    let read : IsRead (g.D.Disk.told disk) (g.D.Disk.seen disk) (g.D.Disk.count disk) = record { as_told = g.met.D.Disk.reads_as_told disk; blocks = g.met.D.Disk.reads_blocks disk; all = g.met.D.Disk.reads_all disk } in
    to_on_ok c.map_err.result
    (λ ok. super_done_at (g.D.Disk.told disk) (g.D.Disk.told new) (g.D.Disk.seen disk) (g.D.Disk.seen new) (g.D.Disk.count disk) c.args.superblock.now (is_ok c.write_super.result) read (g.met.D.Disk.reads_as_left disk) c.requires c.write_super.ensures.told
    (ok ∙ c.map_err.ensures.variant))
