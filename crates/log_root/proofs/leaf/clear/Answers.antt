use Rattle.tree_blocks.proofs.Listing.{leaf_shown, leaf_dirty}
use Rattle.tree_blocks.proofs.Put.{rebytes, written_bytes, written_state}
use Rattle.log_root.proofs.Filled.{rewritten_once}
use Rattle.log_root.proofs.leaf.clear.Goals as goal

pub returns-clause-items : goal.returns-clause-items
returns-clause-items c =
    leaf_shown (rebytes c.args.table.now c.args.at c.clear_leaf.new.block) c.args.at.0 c.clear_leaf.new.block _ (written_bytes c.args.table.now c.args.at c.clear_leaf.new.block c.requires.dirty) c.clear_leaf.ensures

pub returns-clause-leaf : goal.returns-clause-leaf
returns-clause-leaf c =
    leaf_dirty (rebytes c.args.table.now c.args.at c.clear_leaf.new.block) c.args.at.0 c.clear_leaf.new.block _ (written_state c.args.table.now c.args.at c.clear_leaf.new.block c.requires.dirty) (written_bytes c.args.table.now c.args.at c.clear_leaf.new.block c.requires.dirty) c.clear_leaf.ensures

pub returns-clause-written : goal.returns-clause-written
returns-clause-written c = rewritten_once c.args.table.now c.args.at c.clear_leaf.new.block c.requires.dirty
