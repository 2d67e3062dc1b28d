use Rattle.node_edit.proofs.Parts.{ok_has, ok_listed}
use Rattle.node_edit.proofs.node_mut.NodeMut.edit.Goals as goal

pub invariant_of-result : goal.invariant_of-result
invariant_of-result c = record { known = ok_has c.args.block.now c.told-block c.requires }

pub returns-clause-pointers : goal.returns-clause-pointers
returns-clause-pointers c = ok_listed c.args.block.now c.requires

pub returns-clause-body : goal.returns-clause-body
returns-clause-body c = ok_listed c.args.block.now c.requires
