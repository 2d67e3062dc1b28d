use Rattle.std.proofs.Common.{ap}
use Rattle.block_table.specs.Slot.{BlockSlot}
use Rattle.tree_blocks.proofs.Listing.{node_shown, node_dirty}
use Rattle.tree_blocks.proofs.fresh.new_node.Goals as goal

pub returns-clause-pointers : goal.returns-clause-pointers
returns-clause-pointers c =
    node_shown c.fresh.new.table c.fresh.result.0 c.put_two.new.block _ c.fresh.ensures.bytes c.put_two.ensures

pub returns-clause-node : goal.returns-clause-node
returns-clause-node c =
    node_dirty c.fresh.new.table c.fresh.result.0 c.put_two.new.block _ (ap (λ (slot : BlockSlot). slot.state) c.fresh.ensures.taken.dirty) c.fresh.ensures.bytes c.put_two.ensures
