use Rattle.std.proofs.Common.{◌+◌, refl, arith}
use Rattle.blk_base.specs.Bytes.{number_bytes}
use Rattle.blk_base.specs.Leaf.{header_at}
use Rattle.leaf_edit.specs.Images.{key_image}
use Rattle.leaf_edit.specs.Packed.{header_bytes}
use Rattle.leaf_edit.specs.Parts.{three_writes}
use Rattle.leaf_edit.proofs.header.Header.write.Goals as goal

pub returns-clause-written : goal.returns-clause-written
unfolding header_bytes key_image
returns-clause-written c =
    let header = c.args.self.now in
    three_writes c.args.block.now c.put_key.new.block c.put_u32.new.bytes c.put_u32-2.new.bytes (header_at c.args.i) (header_at c.args.i + 17) (header_at c.args.i + 21) (key_image header.key) (number_bytes 4 header.offset) (number_bytes 4 header.size)
    c.put_key.ensures.written c.put_u32.ensures c.put_u32-2.ensures refl (omega arith) (omega (arith, c.told-block))
