use Rattle.current_view.proofs.Once.{seen_is_coherent, tree_is_seen}
use Rattle.current_view.proofs.view.CurrentView.of_tree.Goals as goal

pub invariant_of-result : goal.invariant_of-result
invariant_of-result c = seen_is_coherent c.args.table.now c.args.tree.now c.requires.0 c.requires.1

pub returns : goal.returns
returns c = λ sub given. tree_is_seen c.args.table.now c.args.tree.now sub given
