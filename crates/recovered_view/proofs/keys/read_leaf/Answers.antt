use Rattle.tree_check.proofs.Each.{keys_fit}
use Rattle.recovered_view.proofs.keys.read_leaf.Goals as goal

pub returns : goal.returns
returns c = λ leaf is. keys_fit c.args.block.now leaf c.fits-block is
