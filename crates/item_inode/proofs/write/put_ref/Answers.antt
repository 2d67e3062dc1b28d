-- The fields are written one behind the other.
use Rattle.std.proofs.Common.{refl, arith, length}
use Rattle.blk_base.specs.Bytes.{number_bytes}
use Rattle.item_laws.specs.Writing.{written_none, written_more, written_all}
use Rattle.item_inode.proofs.write.put_ref.Goals as goal

pub returns : goal.returns
returns c =
    let index = written_more (number_bytes 8 c.args.index) 0 (written_none c.args.into.now) c.put_u64.ensures refl in
    let count = written_more (number_bytes 2 (length c.args.name.now)) 8 index c.put_u16.ensures refl in
    let all = written_more (c.args.name.now) 10 count c.put_bytes.ensures refl in
    written_all all (omega arith)
