use Rattle.std.proofs.Common.{true≢false, sym, ◌∙◌}
use Rattle.volume_seal.proofs.DataParts.{no_data, one_data}
use Rattle.volume_seal.proofs.data.seal_data_block.Goals as goal

pub returns-then-not-is_dirty : goal.returns-then-not-is_dirty
returns-then-not-is_dirty c =
    no_data c.args.table.now c.args.at.0 c.args.out.now (λ dirty. true≢false (sym (c.is_dirty.ensures.1 dirty) ∙ c.if-not-is_dirty.true))

pub returns : goal.returns
returns c =
    one_data c.args.table.now c.seal.new.self c.args.at c.args.out.now c.seal.new.out (c.is_dirty.ensures.0 c.if-not-is_dirty.false) c.seal.ensures.table c.seal.ensures.out
