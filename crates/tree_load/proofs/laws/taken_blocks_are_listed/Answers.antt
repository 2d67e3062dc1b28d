use Rattle.tree_load.proofs.Taken.{taken_are}
use Rattle.tree_load.proofs.laws.taken_blocks_are_listed.Goals as goal

pub returns : goal.returns
returns c = taken_are
