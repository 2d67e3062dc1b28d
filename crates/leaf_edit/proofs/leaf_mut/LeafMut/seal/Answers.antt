use Rattle.std.proofs.Common.{◌∙◌, ap, sym, Ok}
use Rattle.leaf_edit.specs.Passing.{packed_items, packed_itself}
use Rattle.leaf_edit.proofs.leaf_mut.LeafMut.seal.Goals as goal

pub invariant_of-self : goal.invariant_of-self
invariant_of-self c = record { packed = packed_itself _ _ c.seal_leaf.ensures.packed }

pub returns-clause-items : goal.returns-clause-items
returns-clause-items c = packed_items _ _ c.seal_leaf.ensures.packed

pub returns-clause-read_back : goal.returns-clause-read_back
returns-clause-read_back c = c.seal_leaf.ensures.read_back ∙ ap (λ list. Ok list) (sym (packed_items _ _ c.seal_leaf.ensures.packed))
