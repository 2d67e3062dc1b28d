use Rattle.tree_delete_range.proofs.Few.{few_nodes_are_ahead}
use Rattle.tree_delete_range.proofs.laws.few_nodes_are_ahead.Goals as goal

pub returns : goal.returns
returns c = few_nodes_are_ahead
