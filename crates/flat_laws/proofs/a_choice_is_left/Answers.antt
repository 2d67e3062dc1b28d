use Rattle.flat_laws.proofs.Shown.{step_choice}
use Rattle.flat_laws.proofs.a_choice_is_left.Goals as goal

pub returns : goal.returns
returns c run op sound spelled limits = step_choice run op sound
