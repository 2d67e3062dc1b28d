use Rattle.volume_image.proofs.Filled.{tall_tree_is_wide}
use Rattle.volume_image.proofs.laws.trees.tall_tree_is_wide.Goals as goal

pub returns : goal.returns
returns c = tall_tree_is_wide
