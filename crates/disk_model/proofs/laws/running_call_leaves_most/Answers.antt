use Rattle.disk_model.proofs.CrashLaws.{Leaves-before, Leaves-after}
use Rattle.disk_model.proofs.laws.running_call_leaves_most.Goals as goal

pub returns-clause-before : goal.returns-clause-before
returns-clause-before c = Leaves-before

pub returns-clause-after : goal.returns-clause-after
returns-clause-after c = Leaves-after
