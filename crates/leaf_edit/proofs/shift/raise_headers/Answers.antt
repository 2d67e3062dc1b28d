use Rattle.std.proofs.Common.{◌-◌, arith, ◌∙◌}
use Rattle.blk_base.specs.Leaf.{header_at}
use Rattle.leaf_edit.specs.Parts.{back_in_back}
use Rattle.leaf_edit.proofs.shift.raise_headers.Goals as goal

pub returns-clause-back : goal.returns-clause-back
returns-clause-back c =
    back_in_back c.raise_offsets.new.block c.args.block.now (header_at (c.args.count - 1)) (header_at c.args.count) (c.raise_offsets.ensures.back ∙ c.copy_down.ensures.back) (omega arith)
