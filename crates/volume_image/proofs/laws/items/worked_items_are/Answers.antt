use Rattle.volume_image.proofs.Worked.{worked_items_are}
use Rattle.volume_image.proofs.laws.items.worked_items_are.Goals as goal

pub returns : goal.returns
returns c = worked_items_are
