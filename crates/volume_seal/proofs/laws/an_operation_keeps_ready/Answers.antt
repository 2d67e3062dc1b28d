use Rattle.volume_seal.proofs.States.{operated_ready}
use Rattle.volume_seal.proofs.laws.an_operation_keeps_ready.Goals as goal

pub returns : goal.returns
returns c = operated_ready
