-- The fields are written one behind the other.
use Rattle.std.proofs.Common.{refl, arith, length, length-append, ◌+◌}
use Rattle.blk_base.specs.Bytes.{number_bytes}
use Rattle.item_laws.specs.Writing.{written_none, written_more, written_all}
use Rattle.item_dir.proofs.write.put_entry.Goals as goal

pub returns : goal.returns
returns c =
    let target = written_more (number_bytes 8 c.args.entry.now.target.objectid) 0 (written_none c.args.into.now) c.put_u64.ensures refl in
    let kind = written_more (number_bytes 1 c.args.entry.now.target.kind) 8 target c.put_u8.ensures refl in
    let offset = written_more (number_bytes 8 c.args.entry.now.target.offset) 9 kind c.put_u64-2.ensures refl in
    let transid = written_more (number_bytes 8 c.args.entry.now.transid) 17 offset c.put_u64-3.ensures refl in
    let value_count = written_more (number_bytes 2 (length c.args.entry.now.value.now)) 25 transid c.put_u16.ensures refl in
    let name_count = written_more (number_bytes 2 (length c.args.entry.now.name.now)) 27 value_count c.put_u16-2.ensures refl in
    let type = written_more (number_bytes 1 c.args.entry.now.kind) 29 name_count c.put_u8-2.ensures refl in
    let name = written_more (c.args.entry.now.name.now) 30 type c.put_bytes.ensures refl in
    let all = written_more (c.args.entry.now.value.now) (30 + length c.args.entry.now.name.now) name c.put_bytes-2.ensures (omega arith) in
    written_all all (omega (arith, length-append c.args.entry.now.name.now c.args.entry.now.value.now))
