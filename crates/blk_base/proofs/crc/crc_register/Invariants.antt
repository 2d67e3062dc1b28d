use Rattle.std.proofs.Common.{◌≡◌, length, drop}
use Rattle.blk_base.specs.Crc.{register_after}
use Rattle.blk_base.proofs.crc.crc_register.Given as goal

abbrev pub invariant-loop-chunk : goal.invariant-loop-chunk
invariant-loop-chunk l = register_after l.register l.rest ≡ register_after l.fn.start l.fn.bytes

abbrev pub decreases-loop-chunk : goal.decreases-loop-chunk
decreases-loop-chunk l = length l.rest

abbrev pub invariant-loop-byte : goal.invariant-loop-byte
invariant-loop-byte l = register_after l.register (drop l.byte-index l.byte-items) ≡ register_after l.fn.start l.fn.bytes
