use Rattle.std.proofs.Common.{◌≡◌, ap, arith}
use Rattle.blk_base.specs.Leaf.{item_offset, item_size}
use Rattle.leaf_edit.proofs.Packing.{ok_body, packed_none, packed_more, packed_all}
use Rattle.leaf_edit.proofs.whole.is_packed.Goals as goal

pub loop-i-init : goal.loop-i-init
loop-i-init c = packed_none c.args.block.now

pub read-header-requires : goal.read-header-requires
read-header-requires c = let body = ok_body c.args.block.now c.requires in omega (arith, body.count, body.most, c.count_of-i-end.ensures)

pub loop-i-preserved : goal.loop-i-preserved
loop-i-preserved c =
    let bytes = c.args.block.now in
    let body = ok_body bytes c.requires in
    let offset : c.read-header.result.offset ≡ item_offset bytes c.loop-i.i = ap (λ header. header.offset) c.read-header.ensures.value in
    let size : c.read-header.result.size ≡ item_size bytes c.loop-i.i = ap (λ header. header.size) c.read-header.ensures.value in
    rw offset (packed_more bytes c.loop-i.i c.loop-i.bound c.told-block body (omega (arith, body.count, c.count_of-i-end.ensures)) c.loop-i.invariant (omega arith))

pub returns : goal.returns
returns c =
    let body = ok_body c.args.block.now c.requires in
    packed_all c.args.block.now c.loop-i.i c.loop-i.bound c.told-block c.requires (omega (arith, body.count, c.count_of-i-end.ensures)) c.loop-i.invariant
