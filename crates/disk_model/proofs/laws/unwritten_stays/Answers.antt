use Rattle.disk_model.proofs.CrashLaws.{EveryMoment-stays}
use Rattle.disk_model.proofs.laws.unwritten_stays.Goals as goal

pub returns : goal.returns
returns c = EveryMoment-stays
