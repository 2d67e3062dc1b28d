use Rattle.std.proofs.Common.{◌+◌, ◌∙◌, arith}
use Rattle.blk_base.specs.Leaf.{pointer_at}
use Rattle.leaf_view.specs.Listed.{pointers_in}
use Rattle.leaf_edit.specs.Parts.{copied}
use Rattle.node_edit.proofs.Edits.{inserted}
use Rattle.node_edit.proofs.body.insert_pointer.Goals as goal

pub returns : goal.returns
returns c =
    inserted c.args.block.now c.copy_within.new.self c.put_pointer.new.block c.put_u32.new.bytes (pointers_in c.args.block.now) c.args.at c.count_of-count.result (record { key = c.args.key.now; at = c.args.child.0; generation = c.args.generation })
    c.requires.known (c.count_of-count.ensures ∙ c.requires.known.count) c.requires.within c.requires.room (record { key = c.put_pointer.ensures.fits; at = c.put_pointer.ensures.fits_child; generation = c.put_pointer.ensures.fits_generation }) c.requires.order
    (c.copy_within.ensures.after ∙ copied c.args.block.now (pointer_at c.args.at) (pointer_at c.count_of-count.result) (pointer_at (c.args.at + 1)) (omega (arith, c.requires.known.most, c.requires.known.count, c.count_of-count.ensures, c.told-block))) c.put_pointer.ensures.written c.put_u32.ensures
