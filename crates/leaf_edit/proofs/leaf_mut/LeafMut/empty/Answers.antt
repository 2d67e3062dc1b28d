use Rattle.leaf_edit.proofs.Editing.{passes_itself}
use Rattle.leaf_edit.proofs.leaf_mut.LeafMut.empty.Goals as goal

pub returns-clause-body : goal.returns-clause-body
returns-clause-body c = passes_itself _ _ c.clear.ensures
