use Rattle.fault_laws.proofs.Agreeing.{data_fault_is_first}
use Rattle.fault_laws.proofs.laws.a_data_fault_is_the_first.Goals as goal

pub returns : goal.returns
returns c = data_fault_is_first
