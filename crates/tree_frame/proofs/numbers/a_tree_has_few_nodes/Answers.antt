use Rattle.tree_frame.proofs.Counting.{few_nodes_in_tree}
use Rattle.tree_frame.proofs.numbers.a_tree_has_few_nodes.Goals as goal

pub returns : goal.returns
returns c = λ table tree is_tree. few_nodes_in_tree tree.level table tree.root.0 is_tree.shape
