use Rattle.std.proofs.Common.{◌≡◌}
use Rattle.blk_base.specs.Bytes.{zeros}
use Rattle.blk_base.specs.Crc.{register_after}
use Rattle.foreign_file.proofs.bytes.add_zeros.Given as goal

abbrev pub decreases-loop-left : goal.decreases-loop-left
decreases-loop-left l = l.left

abbrev pub invariant-loop-left : goal.invariant-loop-left
invariant-loop-left l = register_after l.after (zeros l.left) ≡ register_after l.register (zeros l.count)
