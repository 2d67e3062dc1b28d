use Rattle.std.proofs.Common.{◌≡◌, ◌∙◌, List, length, ap, arith}
use Rattle.blk_base.specs.Leaf.{Item}
use Rattle.tree_range.specs.Shape.{tree_items}
use Rattle.log_edit.proofs.Items.{replace_count}
use Rattle.log_edit.proofs.Rooms.{enough_free, enough_spare, keeps_blocks, keeps_buffers, room_moves}
use Rattle.log_edit.proofs.edit.replace_item.Goals as goal

pub replace-requires-clause-spare : goal.replace-requires-clause-spare
replace-requires-clause-spare c = enough_spare c.args.table.now c.args.tree.now c.requires.tree c.requires.room

pub replace-requires-clause-free : goal.replace-requires-clause-free
replace-requires-clause-free c = enough_free c.args.table.now c.args.tree.now c.requires.tree c.requires.room

pub returns-clause-blocks : goal.returns-clause-blocks
returns-clause-blocks c = keeps_blocks c.args.table.now c.replace.new.table c.args.tree.now c.replace.new.tree (record { was = c.requires.tree; is = c.replace.ensures.tree; edit = c.replace.ensures.edit })

pub returns-clause-buffers : goal.returns-clause-buffers
returns-clause-buffers c = keeps_buffers c.args.table.now c.replace.new.table c.args.tree.now c.replace.new.tree (record { was = c.requires.tree; is = c.replace.ensures.tree; edit = c.replace.ensures.edit }) c.replace.ensures.balance

pub returns-clause-room : goal.returns-clause-room
returns-clause-room c = λ more room.
    let long : length (tree_items c.replace.new.table c.replace.new.tree) ≡ length (tree_items c.args.table.now c.args.tree.now) = ap (λ (l : List Item). length l) c.replace.ensures.items ∙ replace_count c.args.key c.args.bytes.now (tree_items c.args.table.now c.args.tree.now) c.requires.tree.order c.requires.present in
    room_moves c.args.table.now c.replace.new.table c.args.tree.now c.replace.new.tree more more (keeps_blocks c.args.table.now c.replace.new.table c.args.tree.now c.replace.new.tree (record { was = c.requires.tree; is = c.replace.ensures.tree; edit = c.replace.ensures.edit })) (keeps_buffers c.args.table.now c.replace.new.table c.args.tree.now c.replace.new.tree (record { was = c.requires.tree; is = c.replace.ensures.tree; edit = c.replace.ensures.edit }) c.replace.ensures.balance) (omega (arith, long)) room
