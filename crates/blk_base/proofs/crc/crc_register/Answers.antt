use Rattle.std.proofs.Common.{sym, ◌∙◌, arith}
use Rattle.blk_base.proofs.CrcLemmas.{register_after-split, register_after-next, register_after-end}
use Rattle.blk_base.proofs.crc.crc_register.Goals as goal

pub loop-chunk-preserved : goal.loop-chunk-preserved
loop-chunk-preserved c =
    rw (c.eight_more-register.ensures, c.in-Some.ensures.cases.0, c.in-Some.ensures.cases.1) (register_after-split c.loop-chunk.register 8 c.loop-chunk.rest.now ∙ c.loop-chunk.invariant)

pub loop-byte-init : goal.loop-byte-init
loop-byte-init c = c.loop-chunk.invariant

pub loop-byte-preserved : goal.loop-byte-preserved
loop-byte-preserved c =
    rw c.one_more-register.ensures (register_after-next c.loop-byte.register c.loop-byte.byte-index c.loop-chunk.rest.now c.loop-byte-test.true ∙ c.loop-byte.invariant)

pub returns : goal.returns
returns c =
    sym (register_after-end c.loop-byte.register c.loop-byte.byte-index c.loop-chunk.rest.now (omega arith)) ∙ c.loop-byte.invariant
