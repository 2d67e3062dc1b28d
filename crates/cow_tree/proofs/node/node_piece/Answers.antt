use Rattle.block_table.specs.TreeIn.{block_at}
use Rattle.tree_blocks.specs.Steps.{node_at}
use Rattle.tree_blocks.proofs.Listing.{node_least}
use Rattle.cow_tree.proofs.Leaves.{dirty_taken}
use Rattle.cow_tree.proofs.Nodes.{behind_from}
use Rattle.cow_tree.proofs.node.node_piece.Goals as goal

pub node_key-requires : goal.node_key-requires
node_key-requires c = record {
  taken = dirty_taken c.args.table.now c.args.at.0 c.requires.node.dirty;
  node = c.requires.node.body;
  within = node_least (block_at c.args.table.now c.args.at.0).bytes c.requires.node.body;
}

pub returns-clause-piece : goal.returns-clause-piece
returns-clause-piece c =
    record { node = c.requires.node; key = behind_from (node_at c.args.table.now c.args.at.0) c.node_key.result c.node_key.ensures }
