use Rattle.log_stands.proofs.One.{stands_for_one}
use Rattle.log_stands.proofs.stands.stands_by_log_for_one.Goals as goal

pub returns : goal.returns
returns c = stands_for_one
