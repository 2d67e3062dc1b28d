use Rattle.flat_laws.proofs.Answered.{step_says}
use Rattle.flat_laws.proofs.operations_are_done_or_refused.Goals as goal

pub returns : goal.returns
returns c run op indexes = step_says run op indexes
