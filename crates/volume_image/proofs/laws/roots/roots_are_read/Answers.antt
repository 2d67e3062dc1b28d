use Rattle.volume_image.proofs.RootItems.{roots_are_read}
use Rattle.volume_image.proofs.laws.roots.roots_are_read.Goals as goal

pub returns : goal.returns
returns c = roots_are_read
