use Rattle.format_laws.specs.Blocks.{IsLeafBody-from_read, leaf_body_of-Ok}
use Rattle.format_laws.proofs.leaf_body_is_read.Goals as goal

pub returns : goal.returns
returns c = λ bytes list. (IsLeafBody-from_read bytes list, leaf_body_of-Ok bytes list)
