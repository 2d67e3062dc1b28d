use Rattle.format_laws.specs.Blocks.{IsNodeBody-from_read, node_body_of-Ok}
use Rattle.format_laws.proofs.node_body_is_read.Goals as goal

pub returns : goal.returns
returns c = λ bytes list. (IsNodeBody-from_read bytes list, node_body_of-Ok bytes list)
