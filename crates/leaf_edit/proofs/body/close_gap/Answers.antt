use Rattle.std.proofs.Common.{◌+◌, arith, ◌∙◌}
use Rattle.leaf_edit.specs.Parts.{copied}
use Rattle.leaf_edit.proofs.body.close_gap.Goals as goal

pub returns : goal.returns
returns c = c.copy_within.ensures.after ∙ copied c.args.block.now c.args.low c.args.bound (c.args.low + c.args.by) (omega (arith, c.told-block))
