use Rattle.format_laws.specs.Blocks.{IsLeafBody-same}
use Rattle.format_laws.proofs.leaf_has_one_list.Goals as goal

pub returns : goal.returns
returns c = λ bytes one other h g. IsLeafBody-same bytes one other h g
