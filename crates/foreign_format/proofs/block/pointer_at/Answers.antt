use Rattle.std.proofs.Common.{arith}
use Rattle.foreign_format.proofs.Bodies.{node_fits}
use Rattle.foreign_format.proofs.block.pointer_at.Goals as goal

pub overflow_mul-i : goal.overflow_mul-i
overflow_mul-i c = omega (arith, node_fits c.args.bytes.now c.requires.checked)

pub overflow_add-i : goal.overflow_add-i
overflow_add-i c = omega (arith, node_fits c.args.bytes.now c.requires.checked)

pub u64_at-requires : goal.u64_at-requires
u64_at-requires c = omega (arith, node_fits c.args.bytes.now c.requires.checked)

pub overflow_mul-i-2 : goal.overflow_mul-i-2
overflow_mul-i-2 c = omega (arith, node_fits c.args.bytes.now c.requires.checked)

pub overflow_add-i-2 : goal.overflow_add-i-2
overflow_add-i-2 c = omega (arith, node_fits c.args.bytes.now c.requires.checked)

pub u64_at-requires-2 : goal.u64_at-requires-2
u64_at-requires-2 c = omega (arith, node_fits c.args.bytes.now c.requires.checked)
