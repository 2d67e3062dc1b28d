use Rattle.std.proofs.Common.{◌++◌}
use Rattle.image_order.proofs.Reached.{data_found, found_data}
use Rattle.image_order.proofs.checks.data_are_checked.Goals as goal

pub returns : goal.returns
returns c blocks addresses before once = (
  λ e. let is = data_found blocks addresses before (before ++ addresses) e in (is.allowed, is.once once),
  λ both. found_data blocks addresses before both.0 both.1,
)
