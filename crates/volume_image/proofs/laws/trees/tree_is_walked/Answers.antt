use Rattle.volume_image.proofs.Walk.{walked_alone}
use Rattle.volume_image.proofs.laws.trees.tree_is_walked.Goals as goal

pub returns : goal.returns
returns c = walked_alone
