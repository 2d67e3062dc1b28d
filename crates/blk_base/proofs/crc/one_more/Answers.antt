use Rattle.std.proofs.Common.{◌/◌, bit_xor, ap, ◌∙◌, arith}
use Rattle.blk_base.proofs.CrcLemmas.{one_by_table}
use Rattle.blk_base.proofs.crc.one_more.Goals as goal

pub returns : goal.returns
returns c =
    ap (λ x. bit_xor x (c.args.register / 256)) c.advanced.ensures ∙ one_by_table c.args.register c.args.byte (omega arith)
