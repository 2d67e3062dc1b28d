use Rattle.tree_frame.proofs.Among.{an_edit_keeps_more}
use Rattle.tree_frame.proofs.edits.an_edit_keeps_more.Goals as goal

pub returns : goal.returns
returns c = an_edit_keeps_more
