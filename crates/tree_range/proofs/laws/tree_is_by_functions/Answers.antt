use Rattle.tree_range.proofs.Law.{tree_to, tree_from}
use Rattle.tree_range.proofs.laws.tree_is_by_functions.Goals as goal

pub returns : goal.returns
returns c = λ table tree items reach. (tree_to table tree items reach, tree_from table tree items reach)
