use Rattle.std.proofs.Common.{arith}
use Rattle.tree_delete.proofs.Pairs.{node_some}
use Rattle.tree_delete.proofs.pair.put_right.Goals as goal

pub node_key-first-requires-clause-within : goal.node_key-first-requires-clause-within
node_key-first-requires-clause-within c = omega (arith, node_some c.args.table.now c.args.right.0 c.requires.pair.right_node.body)
