use Rattle.std.proofs.Common.{◌<◌, ◌^◌, bit_xor, ap, ◌∙◌, arith}
use Rattle.std.proofs.lemmas.Nat.{xor_lt}
use Rattle.blk_base.proofs.CrcLemmas.{all_below, eight_by_tables}
use Rattle.blk_base.proofs.crc.eight_more.Goals as goal

pub returns : goal.returns
returns c =
    let read = c.from_le_bytes.result in
    let begun : c.from.result < 2 ^ 64 = omega arith in
    let word = eight_by_tables c.args.register c.args.bytes.now (bit_xor read c.from.result) c.to_le_bytes.result c.told-bytes (all_below c.args.bytes.now c.fits-bytes) (ap (bit_xor read) c.from.ensures ∙ ap (λ x. bit_xor x c.args.register) c.from_le_bytes.ensures) (xor_lt 64 read c.from.result (omega arith) begun) c.to_le_bytes.ensures in
    rw (c.advanced.ensures, c.advanced-2.ensures, c.advanced-3.ensures, c.advanced-4.ensures, c.advanced-5.ensures, c.advanced-6.ensures, c.advanced-7.ensures, c.advanced-8.ensures) word
