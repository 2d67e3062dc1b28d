use Rattle.tree_frame.proofs.Reading.{read_tree}
use Rattle.tree_frame.proofs.others.a_tree_is_by_bytes.Goals as goal

pub returns-clause-items : goal.returns-clause-items
returns-clause-items c = λ old new tree h. (read_tree old new tree h).items

pub returns-clause-reach : goal.returns-clause-reach
returns-clause-reach c = λ old new tree h. (read_tree old new tree h).reach

pub returns-clause-stands : goal.returns-clause-stands
returns-clause-stands c = λ old new tree h was. (read_tree old new tree h).stands was
