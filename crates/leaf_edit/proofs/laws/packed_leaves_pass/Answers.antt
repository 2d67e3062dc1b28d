use Rattle.leaf_edit.specs.Passing.{packed_passes}
use Rattle.leaf_edit.proofs.laws.packed_leaves_pass.Goals as goal

pub returns : goal.returns
returns c = packed_passes
