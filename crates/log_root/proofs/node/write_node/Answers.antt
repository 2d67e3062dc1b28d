use Rattle.tree_blocks.proofs.Listing.{node_shown, node_dirty}
use Rattle.tree_blocks.proofs.Put.{rebytes, written_bytes, written_state}
use Rattle.log_root.proofs.Filled.{rewritten_once}
use Rattle.log_root.proofs.node.write_node.Goals as goal

pub returns-clause-pointers : goal.returns-clause-pointers
returns-clause-pointers c =
    node_shown (rebytes c.args.table.now c.args.at c.put_two.new.block) c.args.at.0 c.put_two.new.block _ (written_bytes c.args.table.now c.args.at c.put_two.new.block c.requires.dirty) c.put_two.ensures

pub returns-clause-node : goal.returns-clause-node
returns-clause-node c =
    node_dirty (rebytes c.args.table.now c.args.at c.put_two.new.block) c.args.at.0 c.put_two.new.block _ (written_state c.args.table.now c.args.at c.put_two.new.block c.requires.dirty) (written_bytes c.args.table.now c.args.at c.put_two.new.block c.requires.dirty) c.put_two.ensures

pub returns-clause-written : goal.returns-clause-written
returns-clause-written c = rewritten_once c.args.table.now c.args.at c.put_two.new.block c.requires.dirty
