use Rattle.block_table.specs.Table.{NoneFree}
use Rattle.block_table.proofs.steps.free_between.Given as goal

abbrev pub invariant-loop-place : goal.invariant-loop-place
invariant-loop-place l = NoneFree l.slots l.fn.from l.place
