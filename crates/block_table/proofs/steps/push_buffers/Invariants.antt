use Rattle.std.proofs.Common.{◌≡◌, ◌+◌, vec_len, vec_capacity}
use Rattle.block_table.proofs.steps.push_buffers.Given as goal

abbrev pub invariant-loop-index : goal.invariant-loop-index
invariant-loop-index l =
    (vec_len l.spare ≡ vec_len l.initial.spare + l.index) × (vec_capacity l.spare ≡ vec_capacity l.initial.spare)
