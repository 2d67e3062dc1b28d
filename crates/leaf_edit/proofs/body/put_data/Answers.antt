use Rattle.std.proofs.Common.{arith}
use Rattle.blk_base.specs.Leaf.{item_of}
use Rattle.leaf_view.specs.Listed.{items_in}
use Rattle.leaf_edit.specs.Rewriting.{data_inside, written_within}
use Rattle.leaf_edit.proofs.body.put_data.Goals as goal

pub overflow_add-start-2 : goal.overflow_add-start-2
overflow_add-start-2 c =
    record { fits = omega (arith, c.bound_of-start.ensures.value, c.requires.inside, data_inside c.args.block.now (items_in c.args.block.now) c.args.at (item_of c.args.block.now 0) c.requires.packed c.requires.within) }

pub put_bytes-requires : goal.put_bytes-requires
put_bytes-requires c =
    omega (arith, c.bound_of-start.ensures.value, c.requires.inside, data_inside c.args.block.now (items_in c.args.block.now) c.args.at (item_of c.args.block.now 0) c.requires.packed c.requires.within)

pub returns : goal.returns
returns c =
    written_within c.args.block.now c.put_bytes.new.bytes (items_in c.args.block.now) c.args.at c.args.from c.bound_of-start.result c.args.content.now (item_of c.args.block.now 0)
    c.requires.packed c.requires.within c.requires.inside c.bound_of-start.ensures.value c.put_bytes.ensures
