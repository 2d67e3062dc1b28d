use Rattle.std.proofs.Common.{◌≡◌, length, vec_len}
use Rattle.block_table.specs.Table.{all_back}
use Rattle.block_table.proofs.steps.return_all.Given as goal

abbrev pub invariant-loop-at : goal.invariant-loop-at
invariant-loop-at l =
    (all_back l.slots.items l.blocks.pairs ≡ all_back l.initial.slots.items l.initial.blocks.pairs) × (vec_len l.slots ≡ vec_len l.initial.slots) × (l.blocks.room ≡ l.initial.blocks.room)

abbrev pub decreases-loop-at : goal.decreases-loop-at
decreases-loop-at l = length l.blocks.pairs
