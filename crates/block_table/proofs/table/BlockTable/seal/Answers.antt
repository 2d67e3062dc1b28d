use Rattle.std.proofs.Common.{ap}
use Rattle.block_table.specs.Slot.{BlockSlot, is_free}
use Rattle.block_table.specs.Table.{Table}
use Rattle.block_table.proofs.Kept.{IsTable-kept_at}
use Rattle.block_table.proofs.table.BlockTable.seal.Goals as goal

pub invariant_of-self : goal.invariant_of-self
invariant_of-self c =
    IsTable-kept_at c.self.invariant c.args.self.now c.args.at (ap (λ (table : Table). table.slots) c.self.view_is) c.number_of.result c.number_of.ensures c.seal.new.self (ap is_free c.requires.dirty) (ap (λ (slot : BlockSlot). is_free slot.state) c.seal.ensures.slot)
