use Rattle.volume_image.proofs.Standing.{stands_local}
use Rattle.volume_image.proofs.laws.stands.stands_is_local.Goals as goal

pub returns : goal.returns
returns c = stands_local
