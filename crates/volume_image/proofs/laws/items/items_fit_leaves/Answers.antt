use Rattle.volume_image.proofs.ItemLengths.{own_item_has_length, item_fits}
use Rattle.volume_image.proofs.laws.items.items_fit_leaves.Goals as goal

pub returns : goal.returns
returns c = record { own_name = own_item_has_length; all = item_fits }
