use Rattle.disk_model.proofs.CrashLaws.{super_after_ok}
use Rattle.disk_model.proofs.laws.super_is_durable.Goals as goal

pub returns : goal.returns
returns c = super_after_ok
