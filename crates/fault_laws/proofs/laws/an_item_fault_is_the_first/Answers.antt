use Rattle.fault_laws.proofs.Named.{item_fault_is_first}
use Rattle.fault_laws.proofs.laws.an_item_fault_is_the_first.Goals as goal

pub returns : goal.returns
returns c = item_fault_is_first
