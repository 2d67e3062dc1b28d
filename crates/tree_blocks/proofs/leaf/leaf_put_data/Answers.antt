use Rattle.std.proofs.Common.{◌∙◌, ap}
use Rattle.blk_base.specs.Bytes.{with_bytes}
use Rattle.leaf_edit.specs.Written.{data_at, with_data}
use Rattle.tree_blocks.specs.Lists.{leaf_list}
use Rattle.tree_blocks.proofs.Listing.{leaf_shown, leaf_dirty}
use Rattle.tree_blocks.proofs.Put.{rebytes, written_bytes, written_state, written_free}
use Rattle.tree_blocks.proofs.leaf.leaf_put_data.Goals as goal

pub returns-clause-items : goal.returns-clause-items
returns-clause-items c =
    leaf_shown (rebytes c.args.table.now c.args.at c.put_data.new.block) c.args.at.0 c.put_data.new.block _ (written_bytes c.args.table.now c.args.at c.put_data.new.block c.requires.leaf.dirty) c.put_data.ensures ∙ ap (λ list. with_data list c.args.place (with_bytes (data_at list c.args.place) c.args.from c.args.bytes.now)) (ap leaf_list c.block_mut.ensures.value)

pub returns-clause-leaf : goal.returns-clause-leaf
returns-clause-leaf c =
    leaf_dirty (rebytes c.args.table.now c.args.at c.put_data.new.block) c.args.at.0 c.put_data.new.block _ (written_state c.args.table.now c.args.at c.put_data.new.block c.requires.leaf.dirty) (written_bytes c.args.table.now c.args.at c.put_data.new.block c.requires.leaf.dirty) c.put_data.ensures

pub returns-clause-free : goal.returns-clause-free
returns-clause-free c = written_free c.args.table.now c.args.at c.put_data.new.block c.requires.leaf.dirty
