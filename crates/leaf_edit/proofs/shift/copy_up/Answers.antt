use Rattle.std.proofs.Common.{◌+◌, arith}
use Rattle.leaf_edit.specs.Shifts.{headers_copied}
use Rattle.leaf_edit.proofs.shift.copy_up.Goals as goal

pub returns-clause-moved : goal.returns-clause-moved
returns-clause-moved c i upper within =
    headers_copied c.args.block.now c.copy_within.new.self c.args.at c.args.count (c.args.at + 1) i (i + 1) c.copy_within.ensures.after upper within (omega arith) (omega (arith, c.told-block)) (omega (arith, c.told-block))
