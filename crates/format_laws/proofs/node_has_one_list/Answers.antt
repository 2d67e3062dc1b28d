use Rattle.format_laws.specs.Blocks.{IsNodeBody-same}
use Rattle.format_laws.proofs.node_has_one_list.Goals as goal

pub returns : goal.returns
returns c = λ bytes one other h g. IsNodeBody-same bytes one other h g
