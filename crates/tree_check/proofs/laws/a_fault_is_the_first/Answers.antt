use Rattle.tree_check.proofs.First.{first_is}
use Rattle.tree_check.proofs.laws.a_fault_is_the_first.Goals as goal

pub returns : goal.returns
returns c = first_is
