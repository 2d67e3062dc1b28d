-- The blocks are cleared once, and then put again.
use Rattle.std.proofs.Common.{◌+◌, ◌-◌, ◌*◌, ◌/◌, length, arith}
use Rattle.std.specs.FinMap.{get}
use Rattle.flat_model.specs.Contents.{block_written}
use Rattle.file_extents.specs.Extents.{cleared, held_between}
use Rattle.file_extents.proofs.Held.{content_edit_more, content_edits_join}
use Rattle.file_contents.specs.Written.{end_block}
use Rattle.file_contents.proofs.Counting.{held_most}
use Rattle.file_contents.proofs.Given.{held, holds, offsets}
use Rattle.file_contents.proofs.write.write_blocks.Goals as goal
use Rattle.file_contents.proofs.Writing.{all_put, may_clear, put_now, touches}

pub clear_blocks-requires-clause-held : goal.clear_blocks-requires-clause-held
clear_blocks-requires-clause-held c = let g = c.requires.given in held c.args.table.now c.args.sub.now g.0 c.args.ino.0 g.1 g.2

pub clear_blocks-requires-clause-offsets : goal.clear_blocks-requires-clause-offsets
clear_blocks-requires-clause-offsets c = let g = c.requires.given in offsets c.args.table.now c.args.sub.now g.0 c.args.ino.0 g.1 g.2

pub clear_blocks-requires-clause-holds : goal.clear_blocks-requires-clause-holds
clear_blocks-requires-clause-holds c =
    let g = c.requires.given in
    let first = c.args.offset / 4096 in
    let end = c.end_of-end.result in
    let t = touches c.args.offset (length c.args.text.now) c.requires.some c.requires.short c.requires.few in
    let most = held_most (get g.1.blocks) (end - first) first in
    (get g.1.blocks, may_clear c.args.table.now c.args.sub.now g.0 c.args.ino.0 g.1 g.2 first end 442 c.requires.room (omega (arith, most, t.few, c.end_of-end.ensures)))

pub put_blocks-requires-clause-held : goal.put_blocks-requires-clause-held
put_blocks-requires-clause-held c =
    let g = c.requires.given in
    (c.clear_blocks.ensures.edit (get g.1.blocks) (holds c.args.table.now c.args.sub.now g.0 c.args.ino.0 g.1 g.2)).held

pub put_blocks-requires-clause-may : goal.put_blocks-requires-clause-may
put_blocks-requires-clause-may c =
    let g = c.requires.given in (
      cleared (get g.1.blocks) (c.args.offset / 4096) (end_block c.args.offset (length c.args.text.now)),
      g.1.blocks,
      put_now c.args.table.now c.args.sub.now g.0 c.args.ino.0 g.1 g.2 c.args.offset c.args.text.now c.edge-head.result c.edge-tail.result c.clear_blocks.new.table c.clear_blocks.new.tree c.end_of-end.result c.end_of-end.ensures
          (c.clear_blocks.ensures.contents (get g.1.blocks) (holds c.args.table.now c.args.sub.now g.0 c.args.ino.0 g.1 g.2))
          (c.edge-head.ensures g.0.sub g.1 g.2.gives.gives g.2.there)
          (c.edge-tail.ensures g.0.sub g.1 g.2.gives.gives g.2.there),
    )

pub put_blocks-requires-clause-room : goal.put_blocks-requires-clause-room
put_blocks-requires-clause-room c =
    let g = c.requires.given in
    let first = c.args.offset / 4096 in
    let end = c.end_of-end.result in
    let t = touches c.args.offset (length c.args.text.now) c.requires.some c.requires.short c.requires.few in
    let most = held_most (get g.1.blocks) (end - first) first in
    let edit = c.clear_blocks.ensures.edit (get g.1.blocks) (holds c.args.table.now c.args.sub.now g.0 c.args.ino.0 g.1 g.2) in
    record {
      spare = omega (arith, edit.taken.spare, c.requires.room.spare, most, t.few, c.end_of-end.ensures);
      free = omega (arith, edit.taken.free, c.requires.room.free, most, t.few, c.end_of-end.ensures);
    }

pub returns-clause-edit : goal.returns-clause-edit
returns-clause-edit c =
    let g = c.requires.given in
    let first = c.args.offset / 4096 in
    let end = c.end_of-end.result in
    let t = touches c.args.offset (length c.args.text.now) c.requires.some c.requires.short c.requires.few in
    let held_there = held_between (get g.1.blocks) first (end - first) in
    let most = held_most (get g.1.blocks) (end - first) first in
    let one = c.clear_blocks.ensures.edit (get g.1.blocks) (holds c.args.table.now c.args.sub.now g.0 c.args.ino.0 g.1 g.2) in
    content_edit_more c.args.table.now c.put_blocks.new.table c.args.sub.now.tree c.put_blocks.new.tree c.args.sub.now.running c.args.ino.0 (2 * held_there + 102 + 306) 442
    (content_edits_join c.args.table.now c.clear_blocks.new.table c.put_blocks.new.table c.args.sub.now.tree c.clear_blocks.new.tree c.put_blocks.new.tree c.args.sub.now.running c.args.ino.0 (2 * held_there + 102) 306 one c.put_blocks.ensures.edit)
    (omega (arith, most, t.few, c.end_of-end.ensures))

pub returns-clause-contents : goal.returns-clause-contents
returns-clause-contents c = λ run file is.
    let first = c.args.offset / 4096 in
    let end = end_block c.args.offset (length c.args.text.now) in
    all_put c.put_blocks.new.table c.put_blocks.new.tree c.args.ino.0 (get file.blocks) (block_written file.blocks c.args.offset c.args.text.now) first end
    (c.put_blocks.ensures.contents (cleared (get file.blocks) first end) file.blocks
    (put_now c.args.table.now c.args.sub.now run c.args.ino.0 file is c.args.offset c.args.text.now c.edge-head.result c.edge-tail.result c.clear_blocks.new.table c.clear_blocks.new.tree c.end_of-end.result c.end_of-end.ensures
    (c.clear_blocks.ensures.contents (get file.blocks) (holds c.args.table.now c.args.sub.now run c.args.ino.0 file is))
    (c.edge-head.ensures run.sub file is.gives.gives is.there)
    (c.edge-tail.ensures run.sub file is.gives.gives is.there)))
