use Rattle.flat_laws.proofs.Advances.{step_advances}
use Rattle.flat_laws.proofs.operations_advance.Goals as goal

pub returns : goal.returns
returns c run op indexes sound spelled limits choice = step_advances run sound op indexes choice.next
