-- The fields are written one behind the other.
use Rattle.std.proofs.Common.{refl, arith}
use Rattle.blk_base.specs.Bytes.{number_bytes}
use Rattle.item_laws.specs.Writing.{written_none, written_more, written_all}
use Rattle.item_dir.proofs.write.put_range.Goals as goal

pub returns : goal.returns
returns c =
    let all = written_more (number_bytes 8 c.args.end) 0 (written_none c.args.into.now) c.put_u64.ensures refl in
    written_all all (omega arith)
