use Rattle.log_stands.proofs.Local.{stands_is_local}
use Rattle.log_stands.proofs.stands.stands_by_log_is_local.Goals as goal

pub returns : goal.returns
returns c = stands_is_local
