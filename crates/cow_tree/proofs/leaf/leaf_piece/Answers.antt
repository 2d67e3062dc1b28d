use Rattle.tree_blocks.specs.Steps.{leaf_at}
use Rattle.cow_tree.proofs.Leaves.{dirty_taken, first_from}
use Rattle.cow_tree.proofs.leaf.leaf_piece.Goals as goal

pub leaf_key-requires-clause-taken : goal.leaf_key-requires-clause-taken
leaf_key-requires-clause-taken c = dirty_taken c.args.table.now c.args.at.0 c.requires.leaf.dirty

pub returns-clause-piece : goal.returns-clause-piece
returns-clause-piece c =
    record { leaf = c.requires.leaf; key = first_from (leaf_at c.args.table.now c.args.at.0) c.leaf_key.result c.leaf_key.ensures }
