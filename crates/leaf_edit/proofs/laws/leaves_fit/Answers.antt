use Rattle.leaf_edit.proofs.Crowd.{body_fits}
use Rattle.leaf_edit.proofs.laws.leaves_fit.Goals as goal

pub returns : goal.returns
returns c = body_fits
