use Rattle.tree_frame.proofs.Counting.{blocks_are_leaves_and_nodes, few_blocks_in_tree}
use Rattle.tree_frame.proofs.numbers.a_tree_has_few_blocks.Goals as goal

pub returns-clause-number : goal.returns-clause-number
returns-clause-number c = λ table tree is_tree. blocks_are_leaves_and_nodes tree.level table tree.root.0

pub returns-clause-most : goal.returns-clause-most
returns-clause-most c = λ table tree is_tree. few_blocks_in_tree tree.level table tree.root.0 is_tree.shape
