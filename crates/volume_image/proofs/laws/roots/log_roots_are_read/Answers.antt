use Rattle.volume_image.proofs.RootItems.{log_roots_are_read}
use Rattle.volume_image.proofs.laws.roots.log_roots_are_read.Goals as goal

pub returns : goal.returns
returns c = log_roots_are_read
