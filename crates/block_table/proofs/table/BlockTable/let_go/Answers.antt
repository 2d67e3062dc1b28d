use Rattle.std.proofs.Common.{ap}
use Rattle.block_table.specs.Slot.{BlockSlot, is_free}
use Rattle.block_table.specs.Table.{Table}
use Rattle.block_table.proofs.Kept.{IsTable-kept_at, taken_state}
use Rattle.block_table.proofs.table.BlockTable.let_go.Goals as goal

pub invariant_of-self : goal.invariant_of-self
invariant_of-self c =
    IsTable-kept_at c.self.invariant c.args.self.now c.args.at (ap (λ (table : Table). table.slots) c.self.view_is) c.number_of.result c.number_of.ensures c.let_go.new.self (taken_state _ c.requires.taken) (ap (λ (slot : BlockSlot). is_free slot.state) c.let_go.ensures)
