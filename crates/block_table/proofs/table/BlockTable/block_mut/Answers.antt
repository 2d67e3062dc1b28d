use Rattle.std.proofs.Common.{ap, sym, subst, ◌≡◌, false}
use Rattle.block_table.specs.Slot.{BlockSlot, is_free}
use Rattle.block_table.specs.Table.{Table}
use Rattle.block_table.proofs.Kept.{IsTable-kept_at, read_at}
use Rattle.block_table.proofs.table.BlockTable.block_mut.Goals as goal

pub invariant_of-self-lent : goal.invariant_of-self-lent
invariant_of-self-lent c w =
    IsTable-kept_at c.self.invariant c.args.self.now c.args.at (ap (λ (table : Table). table.slots) c.self.view_is) c.number_of.result c.number_of.ensures _ (ap is_free c.requires) (subst (λ (slot : BlockSlot). is_free slot.state ≡ false) (sym (read_at c.self.invariant c.args.self.now c.args.at (ap (λ (table : Table). table.slots) c.self.view_is) c.number_of.result c.number_of.ensures c.index_mut.result.now (ap is_free c.requires) c.index_mut.ensures.value)) (ap is_free c.requires))
