use Rattle.std.proofs.Common.{◌∙◌}
use Rattle.tree_range.proofs.Bodies.{leaf_items_are}
use Rattle.tree_blocks.proofs.Listing.{leaf_to_ok}
use Rattle.tree_blocks.specs.Steps.{leaf_at}
use Rattle.block_table.specs.TreeIn.{block_at}
use Rattle.bare_state.proofs.Leaf.{new_tree, taken_here}
use Rattle.bare_state.proofs.empty.empty_tree.Goals as goal

pub returns-clause-tree : goal.returns-clause-tree
returns-clause-tree c =
    let table = c.new_leaf.new.table in
    let at = c.new_leaf.result.0 in
    let none = leaf_items_are table at (leaf_at table at) c.new_leaf.ensures.leaf.body ∙ c.new_leaf.ensures.items in
    new_tree table at c.args.owner (taken_here c.args.table.now table at c.new_leaf.ensures.taken c.new_leaf.ensures.others.size) (leaf_to_ok (block_at table at).bytes c.new_leaf.ensures.leaf.body) none

pub returns-clause-items : goal.returns-clause-items
returns-clause-items c = leaf_items_are c.new_leaf.new.table c.new_leaf.result.0 (leaf_at c.new_leaf.new.table c.new_leaf.result.0) c.new_leaf.ensures.leaf.body ∙ c.new_leaf.ensures.items
