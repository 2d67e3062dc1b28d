use Rattle.tree_frame.proofs.OtherTrees.{an_edit_keeps_other_trees}
use Rattle.tree_frame.proofs.others.an_edit_keeps_other_trees.Goals as goal

pub returns : goal.returns
returns c = an_edit_keeps_other_trees
