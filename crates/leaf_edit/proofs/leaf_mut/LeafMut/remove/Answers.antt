use Rattle.leaf_edit.proofs.Editing.{passes_itself}
use Rattle.leaf_edit.specs.Passing.{packed_items, packed_itself}
use Rattle.leaf_edit.proofs.leaf_mut.LeafMut.remove.Goals as goal

pub invariant_of-self : goal.invariant_of-self
invariant_of-self c = record { packed = packed_itself _ _ c.remove_item.ensures }

pub returns-clause-items : goal.returns-clause-items
returns-clause-items c = packed_items _ _ c.remove_item.ensures

pub returns-clause-body : goal.returns-clause-body
returns-clause-body c = passes_itself _ _ c.remove_item.ensures
