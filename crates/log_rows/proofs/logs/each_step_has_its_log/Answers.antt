use Rattle.log_rows.proofs.StepLogs.{step_has_log}
use Rattle.log_rows.proofs.logs.each_step_has_its_log.Goals as goal

pub returns : goal.returns
returns c = step_has_log
