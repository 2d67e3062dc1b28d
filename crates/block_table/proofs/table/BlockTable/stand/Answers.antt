use Rattle.std.proofs.Common.{ap, sym, ◌≡◌, ◌+◌}
use Rattle.std.specs.Prelude.{vec_len, vec_capacity}
use Rattle.block_table.specs.Slot.{BlockSlot, is_free}
use Rattle.block_table.specs.Table.{Table}
use Rattle.block_table.proofs.Kept.{IsTable-taken_at, some_free_at}
use Rattle.block_table.proofs.table.BlockTable.stand.Goals as goal

pub overflow_sub-self : goal.overflow_sub-self
overflow_sub-self c =
    some_free_at c.self.invariant c.args.self.now c.args.at (ap (λ (table : Table). table.slots) c.self.view_is) c.number_of.result c.number_of.ensures c.stand.result c.requires.allowed (ap is_free c.requires.free)

pub invariant_of-self : goal.invariant_of-self
invariant_of-self c =
    let less : vec_len c.self.inside.spare ≡ vec_len c.pop.new.self + 1 = sym c.in-Some.ensures.len in
    IsTable-taken_at c.self.invariant c.args.self.now c.args.at (ap (λ (table : Table). table.slots) c.self.view_is) c.number_of.result c.number_of.ensures c.stand.result (vec_len c.pop.new.self) (vec_capacity c.pop.new.self) less c.pop.ensures.capacity c.requires.allowed (ap is_free c.requires.free) (ap (λ (slot : BlockSlot). is_free slot.state) c.stand.ensures)
