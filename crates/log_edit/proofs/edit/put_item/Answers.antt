use Rattle.std.proofs.Common.{◌≡◌, ◌+◌, ◌∙◌, List, length, ap, arith}
use Rattle.blk_base.specs.Leaf.{Item}
use Rattle.tree_range.specs.Shape.{tree_items}
use Rattle.log_edit.proofs.Items.{put_count}
use Rattle.log_edit.proofs.Rooms.{enough_free, enough_spare, for_fewer, keeps_blocks, keeps_buffers, room_moves}
use Rattle.log_edit.proofs.edit.put_item.Goals as goal

pub put-requires-clause-spare : goal.put-requires-clause-spare
put-requires-clause-spare c = enough_spare c.args.table.now c.args.tree.now c.requires.tree (for_fewer c.args.table.now c.args.tree.now 0 1 (omega arith) c.requires.room)

pub put-requires-clause-free : goal.put-requires-clause-free
put-requires-clause-free c = enough_free c.args.table.now c.args.tree.now c.requires.tree (for_fewer c.args.table.now c.args.tree.now 0 1 (omega arith) c.requires.room)

pub returns-clause-blocks : goal.returns-clause-blocks
returns-clause-blocks c = keeps_blocks c.args.table.now c.put.new.table c.args.tree.now c.put.new.tree (record { was = c.requires.tree; is = c.put.ensures.tree; edit = c.put.ensures.edit })

pub returns-clause-buffers : goal.returns-clause-buffers
returns-clause-buffers c = keeps_buffers c.args.table.now c.put.new.table c.args.tree.now c.put.new.tree (record { was = c.requires.tree; is = c.put.ensures.tree; edit = c.put.ensures.edit }) c.put.ensures.balance

pub returns-clause-room : goal.returns-clause-room
returns-clause-room c = λ more room.
    let long : length (tree_items c.put.new.table c.put.new.tree) ≡ length (tree_items c.args.table.now c.args.tree.now) + 1 = ap (λ (l : List Item). length l) c.put.ensures.items ∙ put_count c.args.key c.args.bytes.now (tree_items c.args.table.now c.args.tree.now) c.requires.absent in
    room_moves c.args.table.now c.put.new.table c.args.tree.now c.put.new.tree (more + 1) more (keeps_blocks c.args.table.now c.put.new.table c.args.tree.now c.put.new.tree (record { was = c.requires.tree; is = c.put.ensures.tree; edit = c.put.ensures.edit })) (keeps_buffers c.args.table.now c.put.new.table c.args.tree.now c.put.new.tree (record { was = c.requires.tree; is = c.put.ensures.tree; edit = c.put.ensures.edit }) c.put.ensures.balance) (omega (arith, long)) room
