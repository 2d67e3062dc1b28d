use Rattle.volume_image.proofs.Standing.{stands_once}
use Rattle.volume_image.proofs.laws.stands.stands_for_one_volume.Goals as goal

pub returns : goal.returns
returns c = stands_once
