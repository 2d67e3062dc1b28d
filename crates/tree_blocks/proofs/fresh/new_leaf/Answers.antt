use Rattle.std.proofs.Common.{ap}
use Rattle.block_table.specs.Slot.{BlockSlot}
use Rattle.tree_blocks.proofs.Listing.{leaf_shown, leaf_dirty}
use Rattle.tree_blocks.proofs.fresh.new_leaf.Goals as goal

pub returns-clause-items : goal.returns-clause-items
returns-clause-items c =
    leaf_shown c.fresh.new.table c.fresh.result.0 c.clear_leaf.new.block _ c.fresh.ensures.bytes c.clear_leaf.ensures

pub returns-clause-leaf : goal.returns-clause-leaf
returns-clause-leaf c =
    leaf_dirty c.fresh.new.table c.fresh.result.0 c.clear_leaf.new.block _ (ap (λ (slot : BlockSlot). slot.state) c.fresh.ensures.taken.dirty) c.fresh.ensures.bytes c.clear_leaf.ensures
