use Rattle.tree_check.proofs.Short.{tree_short}
use Rattle.tree_check.proofs.laws.items_are_short.Goals as goal

pub returns : goal.returns
returns c = tree_short
