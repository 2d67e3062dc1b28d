use Rattle.volume_seal.proofs.Standing.{stands_now}
use Rattle.volume_seal.proofs.laws.a_sealed_volume_stands.Goals as goal

pub returns : goal.returns
returns c = stands_now
