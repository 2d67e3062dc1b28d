use Rattle.std.proofs.Common.{◌∙◌, ap}
use Rattle.std.specs.Prelude.{insert}
use Rattle.tree_blocks.specs.Lists.{leaf_list}
use Rattle.tree_blocks.proofs.Listing.{leaf_shown, leaf_dirty}
use Rattle.tree_blocks.proofs.Put.{rebytes, written_bytes, written_state, written_free}
use Rattle.tree_blocks.proofs.leaf.leaf_insert.Goals as goal

pub returns-clause-items : goal.returns-clause-items
returns-clause-items c =
    leaf_shown (rebytes c.args.table.now c.args.at c.insert_item.new.block) c.args.at.0 c.insert_item.new.block _ (written_bytes c.args.table.now c.args.at c.insert_item.new.block c.requires.leaf.dirty) c.insert_item.ensures ∙ ap (λ list. insert list c.args.place (c.args.key, c.args.bytes.now)) (ap leaf_list c.block_mut.ensures.value)

pub returns-clause-leaf : goal.returns-clause-leaf
returns-clause-leaf c =
    leaf_dirty (rebytes c.args.table.now c.args.at c.insert_item.new.block) c.args.at.0 c.insert_item.new.block _ (written_state c.args.table.now c.args.at c.insert_item.new.block c.requires.leaf.dirty) (written_bytes c.args.table.now c.args.at c.insert_item.new.block c.requires.leaf.dirty) c.insert_item.ensures

pub returns-clause-free : goal.returns-clause-free
returns-clause-free c = written_free c.args.table.now c.args.at c.insert_item.new.block c.requires.leaf.dirty
