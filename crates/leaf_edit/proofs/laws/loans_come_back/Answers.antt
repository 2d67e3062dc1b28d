use Rattle.std.proofs.Common.{refl}
use Rattle.leaf_edit.specs.Rewriting.{items_written, packed_written}
use Rattle.leaf_edit.proofs.Editing.{passes_itself}
use Rattle.leaf_edit.proofs.laws.loans_come_back.Goals as goal

pub returns-clause-items : goal.returns-clause-items
returns-clause-items c = λ leaf at content within long. items_written leaf.block.now at content leaf.packed within long

pub returns-clause-body : goal.returns-clause-body
returns-clause-body c = λ leaf at content. passes_itself _ _ (packed_written leaf.block.now at content leaf.packed)

pub returns-clause-lender : goal.returns-clause-lender
returns-clause-lender c = λ leaf at content. refl
