use Rattle.flat_model.proofs.Steps.{step_sound}
use Rattle.flat_model.proofs.laws.operations_keep_soundness.Goals as goal

pub returns : goal.returns
returns c run op indexes sound spelled limits choice = step_sound run sound op spelled limits indexes choice.next
