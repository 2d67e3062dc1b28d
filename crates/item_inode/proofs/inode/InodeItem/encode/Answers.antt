-- The fields are written one behind the other.
use Rattle.std.proofs.Common.{refl, arith}
use Rattle.blk_base.specs.Bytes.{number_bytes, zeros}
use Rattle.blk_base.specs.Items.{inode_bytes}
use Rattle.item_laws.specs.Writing.{written_none, written_more, written_all}
use Rattle.item_inode.proofs.inode.InodeItem.encode.Goals as goal

pub returns : goal.returns
unfolding inode_bytes
returns c =
    let generation = written_more (number_bytes 8 c.args.self.now.generation) 0 (written_none c.args.into.now) c.put_u64.ensures refl in
    let transid = written_more (number_bytes 8 c.args.self.now.transid) 8 generation c.put_u64-2.ensures refl in
    let size = written_more (number_bytes 8 c.args.self.now.size) 16 transid c.put_u64-3.ensures refl in
    let nbytes = written_more (number_bytes 8 c.args.self.now.nbytes) 24 size c.put_u64-4.ensures refl in
    let group = written_more (zeros 8) 32 nbytes c.put_bytes.ensures refl in
    let nlink = written_more (number_bytes 4 c.args.self.now.nlink) 40 group c.put_u32.ensures refl in
    let owners = written_more (zeros 8) 44 nlink c.put_bytes-2.ensures refl in
    let mode = written_more (number_bytes 4 c.args.self.now.mode) 52 owners c.put_u32-2.ensures refl in
    let all = written_more (zeros 104) 56 mode c.put_bytes-3.ensures refl in
    written_all all (omega arith)
