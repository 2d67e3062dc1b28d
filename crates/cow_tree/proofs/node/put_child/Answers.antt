use Rattle.tree_blocks.specs.Lists.{pointer_to}
use Rattle.tree_blocks.specs.Steps.{node_at}
use Rattle.cow_tree.proofs.Pointers.{insert_place}
use Rattle.cow_tree.proofs.Steps.{rewritten}
use Rattle.cow_tree.proofs.node.put_child.Goals as goal

pub node_insert-requires-clause-order : goal.node_insert-requires-clause-order
node_insert-requires-clause-order c =
    insert_place (node_at c.args.table.now c.args.at.0) (pointer_to c.args.child) c.args.place c.requires.within c.requires.order

pub returns-clause-changes : goal.returns-clause-changes
returns-clause-changes c =
    let put = c.node_insert.ensures in
    rewritten c.args.table.now c.node_insert.new.table c.args.at.0 c.requires.node.dirty put.kept put.others put.spare put.free
