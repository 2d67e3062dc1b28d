use Rattle.disk_model.proofs.CrashLaws.{EveryMoment-settled}
use Rattle.disk_model.proofs.laws.settled_stays.Goals as goal

pub returns : goal.returns
returns c = EveryMoment-settled
