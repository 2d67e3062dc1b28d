use Rattle.volume_image.proofs.Standing.{items_local}
use Rattle.volume_image.proofs.laws.items.items_are_local.Goals as goal

pub returns : goal.returns
returns c = items_local
