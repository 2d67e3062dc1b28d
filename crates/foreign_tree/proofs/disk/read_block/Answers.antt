use Rattle.std.proofs.Common.{◌/◌}
use Rattle.std.proofs.lemmas.Result.{on_ok_weaker}
use Rattle.foreign_tree.proofs.Bytes.{read_bytes}
use Rattle.foreign_tree.proofs.disk.read_block.Goals as goal

pub returns-clause-bytes : goal.returns-clause-bytes
returns-clause-bytes g c =
    on_ok_weaker c.read.result (read_bytes (g.D.Disk.seen c.args.disk.now) (g.D.Disk.lost c.args.disk.now) (c.args.at / 4096) c.read.new.into (g.met.D.Disk.reads_blocks c.args.disk.now)) c.read.ensures.bytes
