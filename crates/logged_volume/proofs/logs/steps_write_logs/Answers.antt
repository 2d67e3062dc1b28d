use Rattle.logged_volume.proofs.LogSteps.{step_writes_log, members_come, targets_come}
use Rattle.logged_volume.proofs.logs.steps_write_logs.Goals as goal

pub returns-clause-log : goal.returns-clause-log
returns-clause-log c = step_writes_log

pub returns-clause-members : goal.returns-clause-members
returns-clause-members c = members_come

pub returns-clause-targets : goal.returns-clause-targets
returns-clause-targets c = targets_come
