use Rattle.volume_image.proofs.BareVolume.{bare_volume_read}
use Rattle.volume_image.proofs.laws.bare.bare_volume_stands.Goals as goal

pub returns : goal.returns
returns c = bare_volume_read
