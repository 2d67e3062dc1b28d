use Rattle.volume_image.proofs.Filled.{two_leaves}
use Rattle.volume_image.proofs.laws.trees.two_leaves_are_a_tree.Goals as goal

pub returns : goal.returns
returns c = two_leaves
