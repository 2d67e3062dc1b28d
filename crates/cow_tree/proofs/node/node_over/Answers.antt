use Rattle.std.proofs.Common.{[], ◌∷◌}
use Rattle.cow_tree.proofs.Changes.{join_lists}
use Rattle.cow_tree.proofs.Steps.{taken}
use Rattle.cow_tree.proofs.node.node_over.Goals as goal

pub returns-in-Three-clause-changes : goal.returns-in-Three-clause-changes
returns-in-Three-clause-changes c =
    let old = c.args.table.now in
    let mid = c.new_node-at.new.table in
    let at = c.new_node-at.result.0 in
    let made = c.new_node-at.ensures in
    join_lists old mid c.put_child.new.table [] (at ∷ []) (at ∷ []) 1 0 (taken old mid at made.taken made.others made.spare made.free) c.put_child.ensures.changes
