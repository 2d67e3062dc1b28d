use Rattle.std.proofs.Common.{◌+◌, ◌∙◌, arith}
use Rattle.blk_base.specs.Leaf.{pointer_at}
use Rattle.leaf_view.specs.Listed.{pointers_in}
use Rattle.leaf_edit.specs.Parts.{copied}
use Rattle.node_edit.proofs.Edits.{removed}
use Rattle.node_edit.proofs.body.remove_pointer.Goals as goal

pub returns : goal.returns
returns c =
    removed c.args.block.now c.copy_within.new.self c.put_u32.new.bytes (pointers_in c.args.block.now) c.args.at c.count_of-count.result c.requires.known (c.count_of-count.ensures ∙ c.requires.known.count) c.requires.within
    (c.copy_within.ensures.after ∙ copied c.args.block.now (pointer_at (c.args.at + 1)) (pointer_at c.count_of-count.result) (pointer_at c.args.at) (omega (arith, c.requires.known.most, c.requires.known.count, c.count_of-count.ensures, c.told-block))) c.put_u32.ensures
