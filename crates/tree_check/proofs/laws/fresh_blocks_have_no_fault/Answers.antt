use Rattle.tree_check.proofs.Fresh.{fresh_are}
use Rattle.tree_check.proofs.laws.fresh_blocks_have_no_fault.Goals as goal

pub returns : goal.returns
returns c = fresh_are
