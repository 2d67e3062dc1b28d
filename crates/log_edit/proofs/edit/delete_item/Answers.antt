use Rattle.std.proofs.Common.{◌≡◌, ◌+◌, ◌∙◌, List, length, ap, arith}
use Rattle.blk_base.specs.Leaf.{Item}
use Rattle.tree_range.specs.Shape.{tree_items}
use Rattle.log_edit.proofs.Items.{delete_count}
use Rattle.log_edit.proofs.Rooms.{enough_free, enough_spare, keeps_blocks, keeps_buffers, room_moves}
use Rattle.log_edit.proofs.edit.delete_item.Goals as goal

pub delete-requires-clause-spare : goal.delete-requires-clause-spare
delete-requires-clause-spare c = enough_spare c.args.table.now c.args.tree.now c.requires.tree c.requires.room

pub delete-requires-clause-free : goal.delete-requires-clause-free
delete-requires-clause-free c = enough_free c.args.table.now c.args.tree.now c.requires.tree c.requires.room

pub returns-clause-blocks : goal.returns-clause-blocks
returns-clause-blocks c = keeps_blocks c.args.table.now c.delete.new.table c.args.tree.now c.delete.new.tree (record { was = c.requires.tree; is = c.delete.ensures.tree; edit = c.delete.ensures.edit })

pub returns-clause-buffers : goal.returns-clause-buffers
returns-clause-buffers c = keeps_buffers c.args.table.now c.delete.new.table c.args.tree.now c.delete.new.tree (record { was = c.requires.tree; is = c.delete.ensures.tree; edit = c.delete.ensures.edit }) c.delete.ensures.balance

pub returns-clause-room : goal.returns-clause-room
returns-clause-room c = λ more room.
    let long : length (tree_items c.delete.new.table c.delete.new.tree) + 1 ≡ length (tree_items c.args.table.now c.args.tree.now) = ap (λ (l : List Item). length l + 1) c.delete.ensures.items ∙ delete_count c.args.key.now (tree_items c.args.table.now c.args.tree.now) c.requires.tree.order c.requires.present in
    room_moves c.args.table.now c.delete.new.table c.args.tree.now c.delete.new.tree more (more + 1) (keeps_blocks c.args.table.now c.delete.new.table c.args.tree.now c.delete.new.tree (record { was = c.requires.tree; is = c.delete.ensures.tree; edit = c.delete.ensures.edit })) (keeps_buffers c.args.table.now c.delete.new.table c.args.tree.now c.delete.new.tree (record { was = c.requires.tree; is = c.delete.ensures.tree; edit = c.delete.ensures.edit }) c.delete.ensures.balance) (omega (arith, long)) room
