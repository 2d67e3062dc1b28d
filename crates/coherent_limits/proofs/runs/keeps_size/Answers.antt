use Rattle.std.proofs.Common.{◌-◌, ◌*◌, arith}
use Rattle.coherent_limits.proofs.Blocks.{bytes_from, keeps_is}
use Rattle.coherent_limits.proofs.runs.keeps_size.Goals as goal

pub returns : goal.returns
returns c =
    keeps_is c.args.size c.args.number (c.from-2.result - c.from-begin.result * 4096) c.args.block.now c.are_zeros.result (omega (arith, c.from-begin.ensures, c.from.ensures)) (omega (arith, c.from-begin.ensures, c.from.ensures, c.from-2.ensures))
    c.told-block (bytes_from c.args.block.now c.fits-block) c.are_zeros.ensures
