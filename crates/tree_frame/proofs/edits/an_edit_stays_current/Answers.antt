use Rattle.tree_frame.proofs.OtherTrees.{an_edit_stays_current}
use Rattle.tree_frame.proofs.edits.an_edit_stays_current.Goals as goal

pub returns : goal.returns
returns c = an_edit_stays_current
