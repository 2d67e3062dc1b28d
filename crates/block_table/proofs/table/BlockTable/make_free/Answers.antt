use Rattle.std.proofs.Common.{ap, ◌≡◌, ◌∙◌, ◌+◌, ℕ, arith, refl, slice_set}
use Rattle.std.specs.Prelude.{vec_len, vec_capacity}
use Rattle.block_table.specs.Slot.{BlockSlot, is_free, free_slot}
use Rattle.block_table.specs.Table.{Table}
use Rattle.block_table.proofs.Counts.{free_from-le-length}
use Rattle.block_table.proofs.Kept.{IsTable-freed_at, taken_state}
use Rattle.block_table.proofs.table.BlockTable.make_free.Goals as goal

-- the new count is right
pub overflow_add-self : goal.overflow_add-self
overflow_add-self c =
    let t = IsTable-freed_at c.self.invariant c.args.self.now c.args.at (ap (λ (table : Table). table.slots) c.self.view_is) c.number_of-number.result c.number_of-number.ensures free_slot (vec_len c.self.inside.spare + 1) (vec_capacity c.self.inside.spare) (c.self.inside.free + c.count_usable.result) refl refl (ap (λ (n : ℕ). c.self.inside.free + n) c.count_usable.ensures) (taken_state _ c.requires.taken) refl in
    omega (arith, t.free_is, free_from-le-length 0 (slice_set c.self.inside.slots.items c.number_of-number.result free_slot), t.small)

pub invariant_of-self : goal.invariant_of-self
invariant_of-self c =
    let is : c.replace-slot.new.dest ≡ free_slot = c.replace-slot.ensures.after ∙ c.free.ensures in
    rw c.min-self-inside.ensures (IsTable-freed_at c.self.invariant c.args.self.now c.args.at (ap (λ (table : Table). table.slots) c.self.view_is) c.number_of-number.result c.number_of-number.ensures c.replace-slot.new.dest (vec_len c.push_reserved.new.self) (vec_capacity c.push_reserved.new.self) (c.self.inside.free + c.count_usable.result) c.push_reserved.ensures.len c.push_reserved.ensures.capacity (rw is (ap (λ (n : ℕ). c.self.inside.free + n) c.count_usable.ensures)) (taken_state _ c.requires.taken) (ap (λ (slot : BlockSlot). is_free slot.state) is))
