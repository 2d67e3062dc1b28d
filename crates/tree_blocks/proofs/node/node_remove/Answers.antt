use Rattle.std.proofs.Common.{◌∙◌, ap}
use Rattle.std.specs.Prelude.{remove}
use Rattle.tree_blocks.specs.Lists.{node_list}
use Rattle.tree_blocks.proofs.Listing.{node_shown, node_dirty}
use Rattle.tree_blocks.proofs.Put.{rebytes, written_bytes, written_state, written_free}
use Rattle.tree_blocks.proofs.node.node_remove.Goals as goal

pub returns-clause-pointers : goal.returns-clause-pointers
returns-clause-pointers c =
    node_shown (rebytes c.args.table.now c.args.at c.remove_pointer.new.block) c.args.at.0 c.remove_pointer.new.block _ (written_bytes c.args.table.now c.args.at c.remove_pointer.new.block c.requires.node.dirty) c.remove_pointer.ensures ∙ ap (λ list. remove list c.args.place) (ap node_list c.block_mut.ensures.value)

pub returns-clause-node : goal.returns-clause-node
returns-clause-node c =
    node_dirty (rebytes c.args.table.now c.args.at c.remove_pointer.new.block) c.args.at.0 c.remove_pointer.new.block _ (written_state c.args.table.now c.args.at c.remove_pointer.new.block c.requires.node.dirty) (written_bytes c.args.table.now c.args.at c.remove_pointer.new.block c.requires.node.dirty) c.remove_pointer.ensures

pub returns-clause-free : goal.returns-clause-free
returns-clause-free c = written_free c.args.table.now c.args.at c.remove_pointer.new.block c.requires.node.dirty
