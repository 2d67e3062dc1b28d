use Rattle.std.proofs.Common.{arith}
use Rattle.coherent_limits.proofs.Zeros.{are_zeros_is}
use Rattle.coherent_limits.proofs.runs.are_zeros.Goals as goal

pub returns : goal.returns
returns c = are_zeros_is c.args.block.now c.args.from c.are_same.result c.told-block (omega (arith, c.if-from-ge4096.false)) c.are_same.ensures
