use Rattle.tree_blocks.proofs.Put.{taken_free}
use Rattle.file_extents.proofs.fresh.fresh.Goals as goal

pub returns-clause-free : goal.returns-clause-free
returns-clause-free c =
    taken_free c.args.table.now c.take-at.new.self c.take-at.result c.args.bytes.now c.take-at.ensures.table c.take-at.ensures.allowed c.take-at.ensures.free
