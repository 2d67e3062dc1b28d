use Rattle.log_image.proofs.OneLog.{log_is_one}
use Rattle.log_image.proofs.items.log_items_have_one_log.Goals as goal

pub returns : goal.returns
returns c = log_is_one
