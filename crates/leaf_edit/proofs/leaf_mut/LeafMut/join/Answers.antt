use Rattle.leaf_view.specs.Listed.{items_in}
use Rattle.leaf_edit.proofs.Editing.{passes_itself, is_ok, viewed, join_room, join_order, joined}
use Rattle.leaf_edit.specs.Passing.{packed_itself}
use Rattle.leaf_edit.proofs.leaf_mut.LeafMut.join.Goals as goal

pub of_body-requires : goal.of_body-requires
of_body-requires c = is_ok _ _ c.args.other.now.packed

pub append_items-requires-clause-room : goal.append_items-requires-clause-room
append_items-requires-clause-room c = join_room c.of_body.result (items_in c.args.self.now.block.now) (items_in c.args.other.now.block.now) (viewed _ _ c.of_body.ensures) c.requires.room

pub append_items-requires-clause-order : goal.append_items-requires-clause-order
append_items-requires-clause-order c = join_order c.of_body.result (items_in c.args.self.now.block.now) (items_in c.args.other.now.block.now) (viewed _ _ c.of_body.ensures) c.requires.order

pub invariant_of-self : goal.invariant_of-self
invariant_of-self c = record { packed = packed_itself _ _ c.append_items.ensures }

pub returns-clause-items : goal.returns-clause-items
returns-clause-items c = joined _ c.of_body.result (items_in c.args.self.now.block.now) (items_in c.args.other.now.block.now) (viewed _ _ c.of_body.ensures) c.append_items.ensures

pub returns-clause-body : goal.returns-clause-body
returns-clause-body c = passes_itself _ _ c.append_items.ensures

pub returns-clause-other_body : goal.returns-clause-other_body
returns-clause-other_body c = passes_itself _ _ c.clear.ensures
