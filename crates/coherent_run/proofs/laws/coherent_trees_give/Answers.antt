use Rattle.coherent_run.proofs.Checks.{coherent, current, gives}
use Rattle.coherent_run.proofs.laws.coherent_trees_give.Goals as goal

pub returns-clause-gives : goal.returns-clause-gives
returns-clause-gives c = gives

pub returns-clause-coherent : goal.returns-clause-coherent
returns-clause-coherent c = coherent

pub returns-clause-current : goal.returns-clause-current
returns-clause-current c = current
