use Rattle.std.proofs.Common.{◌∙◌}
use Rattle.blk_base.specs.Leaf.{node_body_of}
use Rattle.leaf_view.specs.Listed.{pointers_in}
use Rattle.leaf_edit.proofs.Editing.{header_passes}
use Rattle.node_edit.proofs.Editing.{sealed_has}
use Rattle.node_edit.proofs.Parts.{has_passes}
use Rattle.node_edit.proofs.node_mut.seal_node.Goals as goal

pub returns-clause-known : goal.returns-clause-known
returns-clause-known c = sealed_has c.args.block.now c.seal_block.new.block (pointers_in c.args.block.now) c.seal_block.array_long c.seal_block.ensures.count c.seal_block.ensures.body c.requires.known

pub returns-clause-read_back : goal.returns-clause-read_back
returns-clause-read_back c =
    let new = c.seal_block.new.block in
    let known = sealed_has c.args.block.now new (pointers_in c.args.block.now) c.seal_block.array_long c.seal_block.ensures.count c.seal_block.ensures.body c.requires.known in
    header_passes c.args.want.now new (node_body_of new) c.seal_block.ensures.header ∙ has_passes new (pointers_in c.args.block.now) known c.requires.least
