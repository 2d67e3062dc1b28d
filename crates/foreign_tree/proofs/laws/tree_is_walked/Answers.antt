use Rattle.foreign_tree.proofs.Trees.{tree_is_walked_lem}
use Rattle.foreign_tree.proofs.laws.tree_is_walked.Goals as goal

pub returns : goal.returns
returns c = tree_is_walked_lem
