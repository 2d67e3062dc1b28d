use Rattle.volume_image.proofs.Standing.{one_reach}
use Rattle.volume_image.proofs.laws.stands.stands_by_one_reach.Goals as goal

pub returns : goal.returns
returns c = one_reach
