use Rattle.std.proofs.Common.{◌+◌, refl, arith}
use Rattle.blk_base.specs.Bytes.{number_bytes}
use Rattle.blk_base.specs.Leaf.{pointer_at}
use Rattle.leaf_edit.specs.Images.{key_image}
use Rattle.leaf_edit.specs.Parts.{three_writes}
use Rattle.node_edit.specs.Pointers.{pointer_image}
use Rattle.node_edit.proofs.body.put_pointer.Goals as goal

pub returns-clause-written : goal.returns-clause-written
unfolding pointer_image key_image
returns-clause-written c =
    three_writes c.args.block.now c.put_key.new.block c.put_u64.new.bytes c.put_u64-2.new.bytes (pointer_at c.args.i) (pointer_at c.args.i + 17) (pointer_at c.args.i + 25) (key_image c.args.key.now) (number_bytes 8 c.args.child) (number_bytes 8 c.args.generation)
    c.put_key.ensures.written c.put_u64.ensures c.put_u64-2.ensures refl (omega arith) (omega (arith, c.told-block))
