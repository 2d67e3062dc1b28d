use Rattle.std.proofs.Common.{arith}
use Rattle.leaf_edit.proofs.Headers.{fields_written}
use Rattle.leaf_edit.proofs.seal.write_fields.Goals as goal

pub returns-clause-written : goal.returns-clause-written
returns-clause-written c =
    fields_written c.args.block.now c.put_bytes.new.bytes c.put_bytes-2.new.bytes c.put_u64.new.bytes c.put_u64-2.new.bytes c.put_bytes-3.new.bytes c.put_u64-3.new.bytes c.put_u64-4.new.bytes c.put_bytes-4.new.bytes
    c.args.fsid.now c.args.address c.args.generation c.args.owner c.args.level (omega arith)
    c.put_bytes.ensures c.put_bytes-2.ensures c.put_u64.ensures c.put_u64-2.ensures c.put_bytes-3.ensures c.put_u64-3.ensures c.put_u64-4.ensures c.put_bytes-4.ensures
