use Rattle.tree_frame.proofs.StepLaws.{taken_is_an_edit}
use Rattle.tree_frame.proofs.steps.taken_is_an_edit.Goals as goal

pub returns : goal.returns
returns c = taken_is_an_edit
