use Rattle.batch_write.proofs.MomentLemmas.{HasBatch-later, IsTried-later}
use Rattle.batch_write.proofs.laws.tried_again.Goals as goal

pub returns-clause-either : goal.returns-clause-either
returns-clause-either c = IsTried-later

pub returns-clause-new : goal.returns-clause-new
returns-clause-new c = HasBatch-later
