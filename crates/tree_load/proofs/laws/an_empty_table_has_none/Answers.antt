use Rattle.tree_load.proofs.Taken.{none_taken}
use Rattle.tree_load.proofs.laws.an_empty_table_has_none.Goals as goal

pub returns : goal.returns
returns c = none_taken
