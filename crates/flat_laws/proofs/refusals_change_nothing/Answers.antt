use Rattle.flat_laws.proofs.Refusals.{step_refused}
use Rattle.flat_laws.proofs.refusals_change_nothing.Goals as goal

pub returns : goal.returns
returns c run op indexes = step_refused run op indexes
