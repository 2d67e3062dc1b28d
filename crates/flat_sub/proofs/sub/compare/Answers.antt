use Rattle.std.proofs.Common.{rules}
use Rattle.flat_model.specs.Names.{name_cmp}
use Rattle.flat_sub.proofs.sub.compare.Goals as goal

pub returns : goal.returns
unfolding name_cmp
returns c = grind rules
