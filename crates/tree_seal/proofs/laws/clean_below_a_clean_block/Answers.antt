use Rattle.tree_seal.proofs.Above.{clean_below}
use Rattle.tree_seal.proofs.laws.clean_below_a_clean_block.Goals as goal

pub returns : goal.returns
returns c = clean_below
