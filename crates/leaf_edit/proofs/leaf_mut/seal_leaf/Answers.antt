use Rattle.std.proofs.Common.{◌∙◌}
use Rattle.blk_base.specs.Leaf.{leaf_body_of}
use Rattle.leaf_view.specs.Listed.{items_in}
use Rattle.leaf_edit.proofs.Editing.{header_passes, sealed_packed}
use Rattle.leaf_edit.specs.Passing.{packed_passes}
use Rattle.leaf_edit.proofs.leaf_mut.seal_leaf.Goals as goal

pub returns-clause-packed : goal.returns-clause-packed
returns-clause-packed c = sealed_packed c.args.block.now c.seal_block.new.block (items_in c.args.block.now) c.seal_block.array_long c.seal_block.ensures.count c.seal_block.ensures.body c.requires

pub returns-clause-read_back : goal.returns-clause-read_back
returns-clause-read_back c =
    let new = c.seal_block.new.block in
    let packed = sealed_packed c.args.block.now new (items_in c.args.block.now) c.seal_block.array_long c.seal_block.ensures.count c.seal_block.ensures.body c.requires in
    header_passes c.args.want.now new (leaf_body_of new) c.seal_block.ensures.header ∙ packed_passes new (items_in c.args.block.now) packed
