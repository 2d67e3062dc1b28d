-- The fields are written one behind the other.
use Rattle.std.proofs.Common.{refl, ◌∷◌, []}
use Rattle.blk_base.specs.Bytes.{number_bytes, zeros}
use Rattle.blk_base.specs.Extents.{hole_bytes}
use Rattle.item_laws.specs.Writing.{written_none, written_more, written_all}
use Rattle.item_extent.proofs.write.put_hole.Goals as goal

pub returns : goal.returns
unfolding hole_bytes
returns c =
    let generation = written_more (number_bytes 8 c.args.generation) 0 (written_none c.args.into.now) c.put_u64.ensures refl in
    let count = written_more (number_bytes 8 c.args.size) 8 generation c.put_u64-2.ensures refl in
    let plain = written_more (zeros 4) 16 count c.put_bytes.ensures refl in
    let kind = written_more (1 ∷ []) 20 plain c.put_bytes-2.ensures refl in
    let nowhere = written_more (zeros 24) 21 kind c.put_bytes-3.ensures refl in
    let all = written_more (number_bytes 8 c.args.size) 45 nowhere c.put_u64-3.ensures refl in
    written_all all c.requires.room
