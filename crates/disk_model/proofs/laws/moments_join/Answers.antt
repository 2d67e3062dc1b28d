use Rattle.disk_model.proofs.CrashLaws.{EveryMoment-joins}
use Rattle.disk_model.proofs.laws.moments_join.Goals as goal

pub returns : goal.returns
returns g c = EveryMoment-joins g.P.Property.holds
