use Rattle.tree_frame.proofs.StepLaws.{let_go_is_an_edit}
use Rattle.tree_frame.proofs.steps.let_go_is_an_edit.Goals as goal

pub returns : goal.returns
returns c = let_go_is_an_edit
