use Rattle.disk_model.proofs.CrashLaws.{leaves_after_flush}
use Rattle.disk_model.proofs.laws.flush_settles.Goals as goal

pub returns : goal.returns
returns c = leaves_after_flush
