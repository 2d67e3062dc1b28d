use Rattle.std.proofs.Common.{◌∙◌, ap, sym, Ok}
use Rattle.leaf_edit.proofs.Editing.{passes_itself}
use Rattle.leaf_edit.proofs.Packing.{ok_listed}
use Rattle.leaf_edit.specs.Passing.{packed_items, packed_itself}
use Rattle.leaf_edit.proofs.leaf_mut.LeafMut.edit.Goals as goal

pub invariant_of-result : goal.invariant_of-result
invariant_of-result c = record { packed = packed_itself _ _ c.pack.ensures }

pub returns-clause-items : goal.returns-clause-items
returns-clause-items c = ok_listed _ c.requires ∙ ap (λ list. Ok list) (sym (packed_items _ _ c.pack.ensures))

pub returns-clause-body : goal.returns-clause-body
returns-clause-body c = passes_itself _ _ c.pack.ensures
