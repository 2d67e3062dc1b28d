use Rattle.std.proofs.Common.{refl}
use Rattle.std.proofs.Math.Nat.{mod-eq_of_lt}
use Rattle.volume_image.proofs.laws.roots.generations_go_round.Goals as goal

pub returns : goal.returns
returns c = record { more = λ generation below. mod-eq_of_lt below; last = refl }
