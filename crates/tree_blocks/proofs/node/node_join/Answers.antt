use Rattle.std.proofs.Common.{◌∙◌, ◌++◌, ap}
use Rattle.block_table.specs.Table.{slot_at}
use Rattle.tree_blocks.specs.Lists.{node_list}
use Rattle.tree_blocks.proofs.Listing.{node_shown, node_dirty}
use Rattle.tree_blocks.proofs.Apart.{joined_bytes, joined_state, joined_kept, joined_free}
use Rattle.tree_blocks.proofs.node.node_join.Goals as goal

pub returns-clause-pointers : goal.returns-clause-pointers
returns-clause-pointers c =
    node_shown c.let_go.new.self c.args.left.0 c.join_pointers.new.block _ (joined_bytes c.args.table.now c.let_go.new.self c.args.left c.args.right c.join_pointers.new.block c.requires.node.dirty c.requires.other_node.dirty c.requires.apart c.let_go.ensures.dirty) c.join_pointers.ensures ∙ (ap (λ list. list ++ node_list c.block.result.now) (ap node_list c.block_mut.ensures.value) ∙ ap (λ list. node_list (slot_at c.args.table.now c.args.left).bytes ++ list) (ap node_list c.block.ensures))

pub returns-clause-node : goal.returns-clause-node
returns-clause-node c =
    node_dirty c.let_go.new.self c.args.left.0 c.join_pointers.new.block _ (joined_state c.args.table.now c.let_go.new.self c.args.left c.args.right c.join_pointers.new.block c.requires.node.dirty c.requires.other_node.dirty c.requires.apart c.let_go.ensures.dirty) (joined_bytes c.args.table.now c.let_go.new.self c.args.left c.args.right c.join_pointers.new.block c.requires.node.dirty c.requires.other_node.dirty c.requires.apart c.let_go.ensures.dirty) c.join_pointers.ensures

pub returns-clause-kept : goal.returns-clause-kept
returns-clause-kept c = joined_kept c.args.table.now c.let_go.new.self c.args.left c.args.right c.join_pointers.new.block c.requires.node.dirty c.requires.other_node.dirty c.requires.apart c.let_go.ensures.dirty

pub returns-clause-free : goal.returns-clause-free
returns-clause-free c = joined_free c.args.table.now c.let_go.new.self c.args.left c.args.right c.join_pointers.new.block c.requires.node.dirty c.requires.other_node.dirty c.requires.apart c.let_go.ensures.dirty c.requires.allowed
