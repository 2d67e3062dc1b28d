use Rattle.item_laws.proofs.FaultLaws.{same_faults}
use Rattle.item_laws.proofs.faults.faults_in_logs.Goals as goal

pub returns : goal.returns
returns c = same_faults
