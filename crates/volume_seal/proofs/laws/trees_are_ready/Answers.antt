use Rattle.volume_seal.proofs.States.{ready_alike}
use Rattle.volume_seal.proofs.Whole.{dirty_ready}
use Rattle.volume_seal.proofs.laws.trees_are_ready.Goals as goal

pub returns-clause-new : goal.returns-clause-new
returns-clause-new c = dirty_ready

pub returns-clause-alike : goal.returns-clause-alike
returns-clause-alike c = ready_alike
