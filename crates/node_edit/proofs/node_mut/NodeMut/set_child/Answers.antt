use Rattle.node_edit.proofs.Editing.{passes_itself}
use Rattle.node_edit.proofs.Parts.{has_listed, has_itself}
use Rattle.node_edit.proofs.node_mut.NodeMut.set_child.Goals as goal

pub invariant_of-self : goal.invariant_of-self
invariant_of-self c = record { known = has_itself _ _ c.put_child.ensures }

pub returns-clause-pointers : goal.returns-clause-pointers
returns-clause-pointers c = has_listed _ _ c.put_child.ensures

pub returns-clause-body : goal.returns-clause-body
returns-clause-body c = passes_itself _ _ c.put_child.ensures
