use Rattle.std.proofs.Common.{◌≡◌, ◌≤◌, replicate, vec_len, vec_capacity}
use Rattle.block_table.specs.Slot.{free_slot}
use Rattle.block_table.specs.Table.{free_from}
use Rattle.block_table.proofs.steps.free_slots.Given as goal

abbrev pub invariant-loop-number : goal.invariant-loop-number
invariant-loop-number l =
    (vec_len l.slots ≡ l.number) × (l.blocks ≤ vec_capacity l.slots) × (l.slots.items ≡ replicate l.number free_slot) × (l.free ≡ free_from 0 l.slots.items)
