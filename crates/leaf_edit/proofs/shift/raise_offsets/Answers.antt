use Rattle.std.proofs.Common.{◌<◌, ◌+◌, ◌^◌, arith, ap, ◌∙◌, refl}
use Rattle.blk_base.specs.Leaf.{item_offset}
use Rattle.leaf_edit.specs.Packed.{raised}
use Rattle.leaf_edit.specs.Shifts.{next_header, one_more_changed}
use Rattle.leaf_edit.proofs.shift.raise_offsets.Goals as goal

pub overflow_add-offset : goal.overflow_add-offset
overflow_add-offset c =
    let same = next_header (raised c.args.by) c.args.block.now c.loop-i.block c.args.from c.loop-i.i c.loop-i.invariant in
    let offsets = c.u32_at.ensures ∙ ap (λ header. header.offset) same in
    let enough : item_offset c.args.block.now c.loop-i.i + c.args.by < 2 ^ 32 = c.requires.enough c.loop-i.i (omega arith) (omega arith) in
    omega arith

pub loop-i-preserved : goal.loop-i-preserved
loop-i-preserved c =
    let same = next_header (raised c.args.by) c.args.block.now c.loop-i.block c.args.from c.loop-i.i c.loop-i.invariant in
    let offsets = c.u32_at.ensures ∙ ap (λ header. header.offset) same in
    let enough : item_offset c.args.block.now c.loop-i.i + c.args.by < 2 ^ 32 = c.requires.enough c.loop-i.i (omega arith) (omega arith) in
    one_more_changed (raised c.args.by) c.args.block.now c.loop-i.block c.put_u32.new.bytes c.args.from c.loop-i.i _ c.loop-i.invariant (omega arith) (omega arith) c.put_u32.ensures (omega arith) (rw offsets refl)
