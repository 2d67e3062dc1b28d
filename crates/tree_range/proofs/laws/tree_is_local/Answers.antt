use Rattle.tree_range.proofs.Local.{tree_alike}
use Rattle.tree_range.proofs.laws.tree_is_local.Goals as goal

pub returns-clause-items : goal.returns-clause-items
returns-clause-items c = λ old new tree h. (tree_alike old new tree h).0

pub returns-clause-reach : goal.returns-clause-reach
returns-clause-reach c = λ old new tree h. (tree_alike old new tree h).1

pub returns-clause-stands : goal.returns-clause-stands
returns-clause-stands c = λ old new tree h was. (tree_alike old new tree h).2 was
