use Rattle.std.proofs.Common.{length, ap, arith}
use Rattle.tree_blocks.specs.Steps.{node_at}
use Rattle.tree_delete.proofs.Pairs.{length_with_child, node_most}
use Rattle.tree_delete.proofs.pair.point_left.Goals as goal

pub overflow_add-place : goal.overflow_add-place
overflow_add-place c = omega (arith, node_most c.args.table.now c.args.at.0 c.requires.node.body, c.requires.within)

pub node_remove-requires-clause-within : goal.node_remove-requires-clause-within
node_remove-requires-clause-within c =
    omega (arith, ap length c.node_set_child.ensures.pointers, length_with_child (node_at c.args.table.now c.args.at.0) c.args.place c.args.left.0 0, c.requires.within)

pub node_remove-requires-clause-least : goal.node_remove-requires-clause-least
node_remove-requires-clause-least c =
    omega (arith, ap length c.node_set_child.ensures.pointers, length_with_child (node_at c.args.table.now c.args.at.0) c.args.place c.args.left.0 0, c.requires.within)
