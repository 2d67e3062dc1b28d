use Rattle.tree_seal.proofs.Above.{above_alike}
use Rattle.tree_seal.proofs.laws.dirty_above_is_local.Goals as goal

pub returns : goal.returns
returns c = above_alike
