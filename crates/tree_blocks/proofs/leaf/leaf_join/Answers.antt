use Rattle.std.proofs.Common.{◌∙◌, ◌++◌, ap}
use Rattle.block_table.specs.Table.{slot_at}
use Rattle.tree_blocks.specs.Lists.{leaf_list}
use Rattle.tree_blocks.proofs.Listing.{leaf_shown, leaf_dirty}
use Rattle.tree_blocks.proofs.Apart.{joined_bytes, joined_state, joined_kept, joined_free}
use Rattle.tree_blocks.proofs.leaf.leaf_join.Goals as goal

pub returns-clause-items : goal.returns-clause-items
returns-clause-items c =
    leaf_shown c.let_go.new.self c.args.left.0 c.join_items.new.block _ (joined_bytes c.args.table.now c.let_go.new.self c.args.left c.args.right c.join_items.new.block c.requires.leaf.dirty c.requires.other_leaf.dirty c.requires.apart c.let_go.ensures.dirty) c.join_items.ensures ∙ (ap (λ list. list ++ leaf_list c.block.result.now) (ap leaf_list c.block_mut.ensures.value) ∙ ap (λ list. leaf_list (slot_at c.args.table.now c.args.left).bytes ++ list) (ap leaf_list c.block.ensures))

pub returns-clause-leaf : goal.returns-clause-leaf
returns-clause-leaf c =
    leaf_dirty c.let_go.new.self c.args.left.0 c.join_items.new.block _ (joined_state c.args.table.now c.let_go.new.self c.args.left c.args.right c.join_items.new.block c.requires.leaf.dirty c.requires.other_leaf.dirty c.requires.apart c.let_go.ensures.dirty) (joined_bytes c.args.table.now c.let_go.new.self c.args.left c.args.right c.join_items.new.block c.requires.leaf.dirty c.requires.other_leaf.dirty c.requires.apart c.let_go.ensures.dirty) c.join_items.ensures

pub returns-clause-kept : goal.returns-clause-kept
returns-clause-kept c = joined_kept c.args.table.now c.let_go.new.self c.args.left c.args.right c.join_items.new.block c.requires.leaf.dirty c.requires.other_leaf.dirty c.requires.apart c.let_go.ensures.dirty

pub returns-clause-free : goal.returns-clause-free
returns-clause-free c = joined_free c.args.table.now c.let_go.new.self c.args.left c.args.right c.join_items.new.block c.requires.leaf.dirty c.requires.other_leaf.dirty c.requires.apart c.let_go.ensures.dirty c.requires.allowed
