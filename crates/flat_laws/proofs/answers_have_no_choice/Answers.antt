use Rattle.flat_laws.proofs.Shown.{step_answer}
use Rattle.flat_laws.proofs.answers_have_no_choice.Goals as goal

pub returns : goal.returns
returns c run op one two sound spelled limits = step_answer run op one two sound
