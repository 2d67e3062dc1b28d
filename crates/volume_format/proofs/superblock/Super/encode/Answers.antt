use Rattle.volume_format.specs.Views.{super_view}
use Rattle.volume_format.proofs.Written.{super_written}
use Rattle.volume_format.proofs.superblock.Super.encode.Goals as goal

pub returns : goal.returns
returns c =
    let blocks = rw c.from.ensures at c.put_u64-6.ensures in
    let used = rw c.from-2.ensures at c.put_u64-7.ensures in
    super_written (super_view c.args.self.now)
    c.put_bytes.ensures c.put_u64.ensures c.put_u64-2.ensures c.put_bytes-2.ensures c.put_u64-3.ensures c.put_u64-4.ensures c.put_u64-5.ensures
    blocks used c.put_u64-8.ensures c.put_u32.ensures c.put_u32-2.ensures c.put_u64-9.ensures c.put_u8.ensures c.put_u8-2.ensures c.put_sum.ensures
