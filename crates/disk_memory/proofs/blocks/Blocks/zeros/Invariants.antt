use Rattle.std.proofs.Common.{◌≡◌, ◌≤◌, replicate, vec_capacity}
use Rattle.disk_memory.proofs.blocks.Blocks.zeros.Given as goal

abbrev pub invariant-loop-index : goal.invariant-loop-index
invariant-loop-index l = (l.items.items ≡ replicate l.index (replicate 4096 0)) × (l.count ≤ vec_capacity l.items)
