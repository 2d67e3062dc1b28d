use Rattle.tree_frame.proofs.StepLaws.{join_is_an_edit}
use Rattle.tree_frame.proofs.steps.join_is_an_edit.Goals as goal

pub returns : goal.returns
returns c = join_is_an_edit
