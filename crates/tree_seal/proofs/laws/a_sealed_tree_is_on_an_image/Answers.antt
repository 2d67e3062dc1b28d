use Rattle.tree_seal.proofs.OnImage.{tree_on}
use Rattle.tree_seal.proofs.laws.a_sealed_tree_is_on_an_image.Goals as goal

pub returns : goal.returns
returns c = tree_on
