use Rattle.coherent_run.proofs.Checks.{data_there, ready}
use Rattle.coherent_run.proofs.laws.checked_trees_are_ready.Goals as goal

pub returns-clause-readable : goal.returns-clause-readable
returns-clause-readable c = ready

pub returns-clause-there : goal.returns-clause-there
returns-clause-there c = data_there
