use Rattle.tree_check.proofs.Apart.{right_are}
use Rattle.tree_check.proofs.laws.right_items_have_no_fault.Goals as goal

pub returns : goal.returns
returns c = right_are
