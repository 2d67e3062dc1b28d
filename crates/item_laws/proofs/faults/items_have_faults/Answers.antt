use Rattle.item_laws.proofs.FaultLaws.{item_spelled, item_faultless}
use Rattle.item_laws.proofs.faults.items_have_faults.Goals as goal

pub returns : goal.returns
returns c key bytes b = (item_spelled key bytes b, item_faultless key bytes)
