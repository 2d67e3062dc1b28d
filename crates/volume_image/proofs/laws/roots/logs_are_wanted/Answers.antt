use Rattle.std.proofs.Common.{refl}
use Rattle.volume_image.proofs.laws.roots.logs_are_wanted.Goals as goal

pub returns : goal.returns
returns c = record { root = λ super. refl; log = λ super root. refl }
