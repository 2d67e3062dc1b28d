use Rattle.tree_frame.proofs.Places.{a_high_root_is_not_full}
use Rattle.tree_frame.proofs.numbers.a_high_root_is_not_full.Goals as goal

pub returns : goal.returns
returns c = a_high_root_is_not_full
