use Rattle.log_image.proofs.Exact.{accepted_is_exact}
use Rattle.log_image.proofs.faults.logs_are_accepted.Goals as goal

pub returns : goal.returns
returns c = accepted_is_exact
