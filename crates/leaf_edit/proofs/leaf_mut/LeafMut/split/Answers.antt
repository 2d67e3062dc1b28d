use Rattle.std.proofs.Common.{ap, arith, length}
use Rattle.leaf_view.specs.Listed.{items_in}
use Rattle.leaf_edit.proofs.Editing.{passes_itself, is_ok, viewed, split_room, split_order, split_back}
use Rattle.leaf_edit.specs.Passing.{packed_items, packed_itself}
use Rattle.leaf_edit.proofs.leaf_mut.LeafMut.split.Goals as goal

pub of_body-requires : goal.of_body-requires
of_body-requires c = is_ok _ _ c.args.self.now.packed

pub append_items-requires-clause-within : goal.append_items-requires-clause-within
append_items-requires-clause-within c = omega (arith, ap length (viewed _ _ c.of_body.ensures), c.requires.within)

pub append_items-requires-clause-room : goal.append_items-requires-clause-room
append_items-requires-clause-room c = split_room _ _ c.of_body.result (items_in c.args.other.now.block.now) c.args.at c.args.self.now.packed (viewed _ _ c.of_body.ensures) c.requires.empty

pub append_items-requires-clause-order : goal.append_items-requires-clause-order
append_items-requires-clause-order c = split_order _ _ c.of_body.result (items_in c.args.other.now.block.now) c.args.at c.args.self.now.packed (viewed _ _ c.of_body.ensures) c.requires.empty

pub invariant_of-other : goal.invariant_of-other
invariant_of-other c = record { packed = packed_itself _ _ c.append_items.ensures }

pub invariant_of-self : goal.invariant_of-self
invariant_of-self c = record { packed = packed_itself _ _ c.truncate.ensures }

pub returns-clause-front : goal.returns-clause-front
returns-clause-front c = packed_items _ _ c.truncate.ensures

pub returns-clause-back : goal.returns-clause-back
returns-clause-back c = split_back _ _ c.of_body.result (items_in c.args.other.now.block.now) c.args.at (viewed _ _ c.of_body.ensures) c.requires.empty c.append_items.ensures

pub returns-clause-body : goal.returns-clause-body
returns-clause-body c = passes_itself _ _ c.truncate.ensures

pub returns-clause-other_body : goal.returns-clause-other_body
returns-clause-other_body c = passes_itself _ _ c.append_items.ensures
