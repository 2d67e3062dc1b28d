use Rattle.std.proofs.Common.{sym, subst}
use Rattle.block_table.specs.Table.{Table}
use Rattle.commit_blocks.specs.Keeps.{KeepsBlocks}
use Rattle.commit_blocks.proofs.Spares.{buffers_keep, reserved}
use Rattle.commit_blocks.proofs.kept.Kept.reserve.Goals as goal

-- src/buffers.rt:16:5
pub returns-clause-keeps : goal.returns-clause-keeps
returns-clause-keeps c image run scene keeps =
    let old = c.args.self.now in
    let made = reserved old.table c.reserve.new.self c.args.buffers c.reserve.result c.reserve.ensures.ok c.reserve.ensures.err in
    subst (λ (t : Table). KeepsBlocks (record old { table = t }) image run scene) (sym made.2) (buffers_keep old made.0 image run scene made.1 keeps)
