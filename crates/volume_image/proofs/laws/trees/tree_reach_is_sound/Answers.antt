use Rattle.volume_image.proofs.Trees.{tree_allowed, tree_none_twice}
use Rattle.volume_image.proofs.laws.trees.tree_reach_is_sound.Goals as goal

pub returns : goal.returns
returns c = record { none_twice = tree_none_twice; allowed = tree_allowed }
