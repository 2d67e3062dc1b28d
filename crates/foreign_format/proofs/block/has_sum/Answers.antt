use Rattle.std.proofs.Common.{ap, arith, ◌-◌, drop, length, length-drop}
use Rattle.std.proofs.lemmas.List.{take_all}
use Rattle.blk_base.specs.Bytes.{field}
use Rattle.blk_base.specs.Crc.{block_sum, crc32c_of}
use Rattle.std.specs.Prelude.{◌==◌}
use Rattle.foreign_format.proofs.block.has_sum.Goals as goal

pub returns : goal.returns
unfolding block_sum
returns c =
    rw (c.u32_at.ensures, c.crc32c.ensures) (
    ap (λ bytes. field 4 c.args.bytes.now 0 == crc32c_of bytes) (take_all (length c.args.bytes.now - 32) (drop 32 c.args.bytes.now) (omega (arith, length-drop 32 c.args.bytes.now))))
