use Rattle.std.proofs.Common.{◌-◌, arith}
use Rattle.tree_load.proofs.Checked.{last_key_at}
use Rattle.tree_load.proofs.steps.last_key_of.Goals as goal

pub returns-else-count-eq0 : goal.returns-else-count-eq0
returns-else-count-eq0 c = last_key_at c.args.leaf.now c.args.last c.key.result (c.len-count.result - 1) (let count = c.len-count.ensures.value in let some = c.if-count-eq0.false in omega arith) c.key.ensures
