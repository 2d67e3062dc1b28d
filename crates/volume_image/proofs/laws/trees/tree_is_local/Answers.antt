use Rattle.volume_image.proofs.Trees.{tree_local}
use Rattle.volume_image.proofs.laws.trees.tree_is_local.Goals as goal

pub returns : goal.returns
returns c = tree_local
