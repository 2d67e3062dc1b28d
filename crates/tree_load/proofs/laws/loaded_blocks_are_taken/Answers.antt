use Rattle.tree_load.proofs.Tables.{taken_more}
use Rattle.tree_load.proofs.laws.loaded_blocks_are_taken.Goals as goal

pub returns : goal.returns
returns c = λ is_data. taken_more {is_data = is_data}
