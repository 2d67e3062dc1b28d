use Rattle.log_image.proofs.Refused.{fault_is_first, broken_is_lowest}
use Rattle.log_image.proofs.faults.logs_are_refused.Goals as goal

pub returns : goal.returns
returns c = record { item = fault_is_first; rule = broken_is_lowest }
