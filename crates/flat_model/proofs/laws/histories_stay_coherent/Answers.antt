use Rattle.flat_model.proofs.Histories.{volume_at_coherent}
use Rattle.flat_model.proofs.laws.histories_stay_coherent.Goals as goal

pub returns : goal.returns
returns c volume history point coherent legal = volume_at_coherent volume coherent history legal point
