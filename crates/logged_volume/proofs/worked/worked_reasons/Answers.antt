use Rattle.std.proofs.Common.{refl}
use Rattle.logged_volume.proofs.worked.worked_reasons.Goals as goal

pub returns-clause-short : goal.returns-clause-short
returns-clause-short c = refl

pub returns-clause-failed : goal.returns-clause-failed
returns-clause-failed c = refl

pub returns-clause-none : goal.returns-clause-none
returns-clause-none c = refl
