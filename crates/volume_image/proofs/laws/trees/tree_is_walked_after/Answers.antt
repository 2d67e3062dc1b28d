use Rattle.volume_image.proofs.Walk.{walked_lem}
use Rattle.volume_image.proofs.laws.trees.tree_is_walked_after.Goals as goal

pub returns : goal.returns
returns c = walked_lem
