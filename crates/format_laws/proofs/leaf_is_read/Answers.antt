use Rattle.format_laws.specs.Blocks.{IsLeaf-from_read, leaf_of-Ok}
use Rattle.format_laws.proofs.leaf_is_read.Goals as goal

pub returns : goal.returns
returns c = λ want bytes list. (IsLeaf-from_read want bytes list, leaf_of-Ok want bytes list)
