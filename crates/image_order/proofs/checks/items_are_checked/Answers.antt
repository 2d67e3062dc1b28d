use Rattle.image_order.proofs.Items.{items_have_none, have_none_faultless, have_none_apart}
use Rattle.image_order.proofs.checks.items_are_checked.Goals as goal

pub returns : goal.returns
returns c items rise = (λ e. (have_none_faultless items e, have_none_apart items rise e), λ both. items_have_none items rise both.0 both.1)
