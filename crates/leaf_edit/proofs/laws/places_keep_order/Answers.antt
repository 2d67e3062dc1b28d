use Rattle.leaf_edit.proofs.Placing.{order-insert, pointer_order-insert}
use Rattle.leaf_edit.proofs.laws.places_keep_order.Goals as goal

pub returns-clause-items : goal.returns-clause-items
returns-clause-items c = order-insert

pub returns-clause-pointers : goal.returns-clause-pointers
returns-clause-pointers c = pointer_order-insert
