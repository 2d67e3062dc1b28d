use Rattle.volume_image.proofs.SameItems.{items_have_one_subvolume}
use Rattle.volume_image.proofs.laws.items.items_have_one_subvolume.Goals as goal

pub returns : goal.returns
returns c = items_have_one_subvolume
