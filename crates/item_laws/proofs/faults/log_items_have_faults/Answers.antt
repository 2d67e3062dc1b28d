use Rattle.item_laws.proofs.FaultLaws.{log_item_spelled, log_item_faultless}
use Rattle.item_laws.proofs.faults.log_items_have_faults.Goals as goal

pub returns : goal.returns
returns c key bytes b = (log_item_spelled key bytes b, log_item_faultless key bytes)
