use Rattle.tree_frame.proofs.StepLaws.{new_bytes_are_an_edit}
use Rattle.tree_frame.proofs.steps.new_bytes_are_an_edit.Goals as goal

pub returns : goal.returns
returns c = new_bytes_are_an_edit
