use Rattle.log_image.proofs.OneLog.{log_is_local}
use Rattle.log_image.proofs.items.log_items_are_local.Goals as goal

pub returns : goal.returns
returns c = log_is_local
