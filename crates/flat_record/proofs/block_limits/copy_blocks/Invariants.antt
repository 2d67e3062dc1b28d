use Rattle.std.proofs.Common.{◌≡◌, take}
use Rattle.flat_record.proofs.block_limits.copy_blocks.Given as goal

abbrev pub invariant-loop-entry : goal.invariant-loop-entry
invariant-loop-entry l = l.copy.items ≡ take l.entry-index l.blocks.items
