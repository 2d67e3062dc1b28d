use Rattle.tree_seal.proofs.Edited.{an_edit_keeps_dirty_above}
use Rattle.tree_seal.proofs.laws.an_edit_keeps_dirty_above.Goals as goal

pub returns : goal.returns
returns c = an_edit_keeps_dirty_above
