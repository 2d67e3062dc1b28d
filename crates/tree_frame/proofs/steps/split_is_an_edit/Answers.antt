use Rattle.tree_frame.proofs.StepLaws.{split_is_an_edit}
use Rattle.tree_frame.proofs.steps.split_is_an_edit.Goals as goal

pub returns : goal.returns
returns c = split_is_an_edit
