use Rattle.tree_frame.proofs.EditLaws.{nothing_is_an_edit}
use Rattle.tree_frame.proofs.edits.nothing_is_an_edit.Goals as goal

pub returns : goal.returns
returns c = nothing_is_an_edit
