use Rattle.flat_laws.proofs.Shown.{step_shown}
use Rattle.flat_laws.proofs.choices_are_shown.Goals as goal

pub returns : goal.returns
returns c run op indexes sound spelled limits next = step_shown run op indexes sound next
