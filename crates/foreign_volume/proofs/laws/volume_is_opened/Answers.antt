use Rattle.foreign_volume.proofs.Law.{volume_is_opened_lem}
use Rattle.foreign_volume.proofs.laws.volume_is_opened.Goals as goal

pub returns : goal.returns
returns c = volume_is_opened_lem
