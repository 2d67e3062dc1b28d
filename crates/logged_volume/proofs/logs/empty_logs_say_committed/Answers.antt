use Rattle.logged_volume.proofs.DataLogs.{empty_is_log}
use Rattle.logged_volume.proofs.logs.empty_logs_say_committed.Goals as goal

pub returns : goal.returns
returns c = empty_is_log
