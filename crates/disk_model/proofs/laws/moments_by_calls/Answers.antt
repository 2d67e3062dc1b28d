use Rattle.disk_model.proofs.CrashLaws.{every_moment_from_throughout, throughout_from_every_moment_of}
use Rattle.disk_model.proofs.laws.moments_by_calls.Goals as goal

pub returns : goal.returns
returns g c = λ old new added goes.
    (throughout_from_every_moment_of g.P.Property.holds old new added goes, every_moment_from_throughout g.P.Property.holds old new added goes)
