use Rattle.tree_frame.proofs.StepLaws.{copied_is_an_edit}
use Rattle.tree_frame.proofs.steps.copied_is_an_edit.Goals as goal

pub returns : goal.returns
returns c = copied_is_an_edit
