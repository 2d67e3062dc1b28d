use Rattle.disk_model.proofs.CrashLaws.{lost_after_flush}
use Rattle.disk_model.proofs.laws.failed_flush_loses.Goals as goal

pub returns : goal.returns
returns c = lost_after_flush
