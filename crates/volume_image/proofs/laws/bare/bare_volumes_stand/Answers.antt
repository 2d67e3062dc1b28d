use Rattle.volume_image.proofs.BareVolumes.{bare_volumes_stand_lem}
use Rattle.volume_image.proofs.laws.bare.bare_volumes_stand.Goals as goal

pub returns : goal.returns
returns c = bare_volumes_stand_lem
