use Rattle.format_laws.specs.Blocks.{IsNode-from_read, node_of-Ok}
use Rattle.format_laws.proofs.node_is_read.Goals as goal

pub returns : goal.returns
returns c = λ want bytes list. (IsNode-from_read want bytes list, node_of-Ok want bytes list)
