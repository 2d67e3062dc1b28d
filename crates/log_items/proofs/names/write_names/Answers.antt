use Rattle.std.proofs.Common.{◌+◌, List, ◌∙◌, length, sym, ap, subst, arith}
use Rattle.blk_base.specs.Leaf.{Item}
use Rattle.blk_base.specs.Trees.{ItemsRise}
use Rattle.log_image.specs.LogItems.{AreItemsOfLog}
use Rattle.log_edit.specs.Room.{count_between}
use Rattle.log_edit.proofs.Rooms.{room_moves}
use Rattle.log_items.specs.Names.{first_name, last_name, names_to_log, renamed}
use Rattle.log_items.proofs.Copying.{kept_alike}
use Rattle.log_items.proofs.Named.{keys_with_names, names_count, other_items, root_items}
use Rattle.log_items.proofs.Renamed.{renames}
use Rattle.tree_check.specs.Items.{HaveKeys}
use Rattle.tree_range.specs.Shape.{tree_items}
use Rattle.log_items.proofs.names.write_names.Goals as goal

pub returns-then-ino-eq-FIRST_FREE-clause-items : goal.returns-then-ino-eq-FIRST_FREE-clause-items
returns-then-ino-eq-FIRST_FREE-clause-items c = c.delete_items.ensures.items ∙ root_items c.args.ino.0 (tree_items c.args.table.now c.args.sub.now.tree) (tree_items c.args.table.now c.args.log.now) c.if-ino-eq-FIRST_FREE.true c.requires.tree.order

pub returns-then-ino-eq-FIRST_FREE-clause-keys : goal.returns-then-ino-eq-FIRST_FREE-clause-keys
returns-then-ino-eq-FIRST_FREE-clause-keys c =
    let items = c.delete_items.ensures.items ∙ root_items c.args.ino.0 (tree_items c.args.table.now c.args.sub.now.tree) (tree_items c.args.table.now c.args.log.now) c.if-ino-eq-FIRST_FREE.true c.requires.tree.order in
    subst HaveKeys (sym items) (keys_with_names c.args.ino.0 (tree_items c.args.table.now c.args.sub.now.tree) (tree_items c.args.table.now c.args.log.now) c.requires.from_keys c.requires.keys)

pub returns-then-ino-eq-FIRST_FREE-clause-from : goal.returns-then-ino-eq-FIRST_FREE-clause-from
returns-then-ino-eq-FIRST_FREE-clause-from c = kept_alike c.args.table.now c.args.log.now c.args.sub.now.tree c.delete_items.new.table c.delete_items.new.tree c.requires.from c.requires.apart c.delete_items.ensures.edit

pub returns-then-ino-eq-FIRST_FREE-clause-room : goal.returns-then-ino-eq-FIRST_FREE-clause-room
returns-then-ino-eq-FIRST_FREE-clause-room c = λ was room.
    let items = ap (λ (l : List Item). length l) (c.delete_items.ensures.items ∙ root_items c.args.ino.0 (tree_items c.args.table.now c.args.sub.now.tree) (tree_items c.args.table.now c.args.log.now) c.if-ino-eq-FIRST_FREE.true c.requires.tree.order) in
    room_moves c.args.table.now c.delete_items.new.table c.args.log.now c.delete_items.new.tree (was + length (names_to_log c.args.ino.0 (tree_items c.args.table.now c.args.sub.now.tree))) (was + count_between (first_name c.args.ino.0) (last_name c.args.ino.0) c.args.table.now c.args.log.now)
    c.delete_items.ensures.blocks c.delete_items.ensures.buffers (omega (arith, items, names_count c.args.ino.0 (tree_items c.args.table.now c.args.sub.now.tree) (tree_items c.args.table.now c.args.log.now) c.requires.tree.order)) room

pub returns-else-ino-eq-FIRST_FREE-clause-items : goal.returns-else-ino-eq-FIRST_FREE-clause-items
returns-else-ino-eq-FIRST_FREE-clause-items c = c.write_range.ensures.items ∙ other_items c.args.ino.0 (tree_items c.args.table.now c.args.sub.now.tree) (tree_items c.args.table.now c.args.log.now) c.if-ino-eq-FIRST_FREE.false

pub returns-else-ino-eq-FIRST_FREE-clause-keys : goal.returns-else-ino-eq-FIRST_FREE-clause-keys
returns-else-ino-eq-FIRST_FREE-clause-keys c =
    let items = c.write_range.ensures.items ∙ other_items c.args.ino.0 (tree_items c.args.table.now c.args.sub.now.tree) (tree_items c.args.table.now c.args.log.now) c.if-ino-eq-FIRST_FREE.false in
    subst HaveKeys (sym items) (keys_with_names c.args.ino.0 (tree_items c.args.table.now c.args.sub.now.tree) (tree_items c.args.table.now c.args.log.now) c.requires.from_keys c.requires.keys)

pub returns-else-ino-eq-FIRST_FREE-clause-room : goal.returns-else-ino-eq-FIRST_FREE-clause-room
returns-else-ino-eq-FIRST_FREE-clause-room c = λ was room.
    let items = ap (λ (l : List Item). length l) (c.write_range.ensures.items ∙ other_items c.args.ino.0 (tree_items c.args.table.now c.args.sub.now.tree) (tree_items c.args.table.now c.args.log.now) c.if-ino-eq-FIRST_FREE.false) in
    room_moves c.args.table.now c.write_range.new.table c.args.log.now c.write_range.new.log (was + length (names_to_log c.args.ino.0 (tree_items c.args.table.now c.args.sub.now.tree))) (was + count_between (first_name c.args.ino.0) (last_name c.args.ino.0) c.args.table.now c.args.log.now)
    c.write_range.ensures.blocks c.write_range.ensures.buffers (omega (arith, items, names_count c.args.ino.0 (tree_items c.args.table.now c.args.sub.now.tree) (tree_items c.args.table.now c.args.log.now) c.requires.tree.order)) room

pub returns-then-ino-eq-FIRST_FREE-clause-log : goal.returns-then-ino-eq-FIRST_FREE-clause-log
returns-then-ino-eq-FIRST_FREE-clause-log c = λ blocks theirs flat current h are coherent logged.
    let items = c.delete_items.ensures.items ∙ root_items c.args.ino.0 (tree_items c.args.table.now c.args.sub.now.tree) (tree_items c.args.table.now c.args.log.now) c.if-ino-eq-FIRST_FREE.true c.requires.tree.order in
    let rises = subst ItemsRise items c.delete_items.ensures.tree.order in
    subst (λ (l : List Item). AreItemsOfLog l blocks (renamed c.args.ino.0 current flat)) (sym items)
    (renames c.args.ino.0 (tree_items c.args.table.now c.args.log.now) (tree_items c.args.table.now c.args.sub.now.tree) blocks theirs flat current c.requires.keys c.requires.from_keys h c.requires.from.order are coherent logged rises)

pub returns-else-ino-eq-FIRST_FREE-clause-log : goal.returns-else-ino-eq-FIRST_FREE-clause-log
returns-else-ino-eq-FIRST_FREE-clause-log c = λ blocks theirs flat current h are coherent logged.
    let items = c.write_range.ensures.items ∙ other_items c.args.ino.0 (tree_items c.args.table.now c.args.sub.now.tree) (tree_items c.args.table.now c.args.log.now) c.if-ino-eq-FIRST_FREE.false in
    let rises = subst ItemsRise items c.write_range.ensures.tree.order in
    subst (λ (l : List Item). AreItemsOfLog l blocks (renamed c.args.ino.0 current flat)) (sym items)
    (renames c.args.ino.0 (tree_items c.args.table.now c.args.log.now) (tree_items c.args.table.now c.args.sub.now.tree) blocks theirs flat current c.requires.keys c.requires.from_keys h c.requires.from.order are coherent logged rises)
