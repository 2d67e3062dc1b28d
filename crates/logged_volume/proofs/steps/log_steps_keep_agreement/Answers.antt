use Rattle.logged_volume.proofs.Agreements.{step_agrees, step_alike}
use Rattle.logged_volume.proofs.steps.log_steps_keep_agreement.Goals as goal

pub returns-clause-agree : goal.returns-clause-agree
returns-clause-agree c third current logged target datasync step = step_agrees third current logged target step datasync

pub returns-clause-alike : goal.returns-clause-alike
returns-clause-alike c third current logged target datasync step = step_alike third current logged target step datasync
