use Rattle.std.proofs.Common.{◌+◌, [], ◌∷◌, refl, arith}
use Rattle.blk_base.specs.Bytes.{number_bytes}
use Rattle.leaf_edit.specs.Images.{key_image}
use Rattle.leaf_edit.specs.Parts.{three_writes}
use Rattle.leaf_edit.proofs.header.put_key.Goals as goal

pub returns-clause-written : goal.returns-clause-written
unfolding key_image
returns-clause-written c =
    let key = c.args.key.now in
    three_writes c.args.block.now c.put_u64.new.bytes c.put_bytes.new.bytes c.put_u64-2.new.bytes c.args.at (c.args.at + 8) (c.args.at + 9) (number_bytes 8 key.objectid) (key.kind ∷ []) (number_bytes 8 key.offset)
    c.put_u64.ensures c.put_bytes.ensures c.put_u64-2.ensures refl (omega arith) (omega (arith, c.told-block))
