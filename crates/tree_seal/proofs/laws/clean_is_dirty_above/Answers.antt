use Rattle.tree_seal.proofs.Above.{above_clean}
use Rattle.tree_seal.proofs.laws.clean_is_dirty_above.Goals as goal

pub returns : goal.returns
returns c = above_clean
