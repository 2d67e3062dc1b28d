use Rattle.foreign_tree.proofs.Trees.{tree_is_one_lem}
use Rattle.foreign_tree.proofs.laws.tree_is_one.Goals as goal

pub returns : goal.returns
returns c = tree_is_one_lem
