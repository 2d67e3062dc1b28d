use Rattle.volume_image.proofs.Trees.{tree_is_one_lem}
use Rattle.volume_image.proofs.laws.trees.tree_is_one.Goals as goal

pub returns : goal.returns
returns c = tree_is_one_lem
