use Rattle.std.proofs.Common.{bit_xor, ap}
use Rattle.blk_base.specs.Crc.{crc32c_of}
use Rattle.blk_base.proofs.crc.crc32c.Goals as goal

pub returns : goal.returns
unfolding crc32c_of
returns c = ap (λ x. bit_xor x 0xFFFF_FFFF) c.crc_register.ensures
