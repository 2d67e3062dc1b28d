use Rattle.std.proofs.Common.{◌+◌, ◌∙◌, ℕ, List, cond, length, nat_eq, sym, ap, subst, arith}
use Rattle.blk_base.specs.Items.{inode_bytes, link_mode}
use Rattle.blk_base.specs.Keys.{extent_data, inode_item, xattr_item}
use Rattle.blk_base.specs.Leaf.{Item}
use Rattle.item_inode.specs.Inode.{inode_view}
use Rattle.log_edit.specs.Room.{HasRoomFor}
use Rattle.tree_range.specs.Shape.{tree_items}
use Rattle.volume_image.specs.Subvolume.{make_key}
use Rattle.log_items.specs.Inode.{items_at, own_count, with_attributes, with_target}
use Rattle.log_items.proofs.Writings.{attributes_count, beside, both, item_count, may_again, room_after, same_items}
use Rattle.log_items.proofs.whole.write_own_items.Goals as goal

pub write_attributes-requires-clause-may : goal.write_attributes-requires-clause-may
write_attributes-requires-clause-may c =
    let done = c.write_item.ensures in
    let item = beside c.args.table.now c.write_item.new.table c.args.log.now c.args.from.now c.write_item.new.log c.requires.may done.tree done.current (done.keys c.requires.may.keys) done.owner done.edit done.sealed done.blocks done.buffers in
    may_again c.args.table.now c.write_item.new.table c.args.log.now c.args.from.now c.write_item.new.log c.requires.may item

pub write_attributes-requires-clause-room : goal.write_attributes-requires-clause-room
write_attributes-requires-clause-room c =
    let done = c.write_item.ensures in
    let item = beside c.args.table.now c.write_item.new.table c.args.log.now c.args.from.now c.write_item.new.log c.requires.may done.tree done.current (done.keys c.requires.may.keys) done.owner done.edit done.sealed done.blocks done.buffers in
    let theirs = tree_items c.args.table.now c.args.from.now in
    let some : ℕ = cond c.args.whole (length (items_at c.args.ino.0 xattr_item theirs)) 0 in
    let count = item_count (make_key c.args.ino.0 inode_item 0) (inode_bytes (inode_view c.args.item.now)) (tree_items c.args.table.now c.args.log.now) c.requires.may.tree.order in
    let now = ap (λ (l : List Item). length l) done.items in
    subst (λ (l : List Item). HasRoomFor c.write_item.new.table c.write_item.new.log (cond c.args.whole (length (items_at c.args.ino.0 xattr_item l)) 0)) (sym (same_items c.args.table.now c.write_item.new.table c.args.log.now c.args.from.now c.write_item.new.log item))
    (room_after c.args.table.now c.write_item.new.table c.args.log.now c.write_item.new.log (own_count c.args.ino.0 c.args.whole c.args.item.now.mode theirs) some done.blocks done.buffers (omega (arith, count, now)) c.requires.room)

pub write_target-requires-clause-may : goal.write_target-requires-clause-may
write_target-requires-clause-may c =
    let done = c.write_item.ensures in
    let item = beside c.args.table.now c.write_item.new.table c.args.log.now c.args.from.now c.write_item.new.log c.requires.may done.tree done.current (done.keys c.requires.may.keys) done.owner done.edit done.sealed done.blocks done.buffers in
    may_again c.write_item.new.table c.write_attributes.new.table c.write_item.new.log c.args.from.now c.write_attributes.new.log (may_again c.args.table.now c.write_item.new.table c.args.log.now c.args.from.now c.write_item.new.log c.requires.may item) c.write_attributes.ensures.writing

pub write_target-requires-clause-room : goal.write_target-requires-clause-room
write_target-requires-clause-room c =
    let done = c.write_item.ensures in
    let item = beside c.args.table.now c.write_item.new.table c.args.log.now c.args.from.now c.write_item.new.log c.requires.may done.tree done.current (done.keys c.requires.may.keys) done.owner done.edit done.sealed done.blocks done.buffers in
    let theirs = tree_items c.args.table.now c.args.from.now in
    let item_theirs = same_items c.args.table.now c.write_item.new.table c.args.log.now c.args.from.now c.write_item.new.log item in
    let some : ℕ = cond c.args.whole (length (items_at c.args.ino.0 xattr_item theirs)) 0 in
    let more : ℕ = cond (nat_eq c.args.item.now.mode link_mode) (length (items_at c.args.ino.0 extent_data theirs)) 0 in
    let count = item_count (make_key c.args.ino.0 inode_item 0) (inode_bytes (inode_view c.args.item.now)) (tree_items c.args.table.now c.args.log.now) c.requires.may.tree.order in
    let now = ap (λ (l : List Item). length l) done.items in
    let then_count = attributes_count c.args.ino.0 c.args.whole theirs (tree_items c.write_item.new.table c.write_item.new.log) done.tree.order in
    let then_now = ap (λ (l : List Item). length l) (c.write_attributes.ensures.items ∙ ap (λ (l : List Item). with_attributes c.args.ino.0 c.args.whole l (tree_items c.write_item.new.table c.write_item.new.log)) item_theirs) in
    let room = room_after c.args.table.now c.write_item.new.table c.args.log.now c.write_item.new.log (own_count c.args.ino.0 c.args.whole c.args.item.now.mode theirs) (some + more) done.blocks done.buffers (omega (arith, count, now)) c.requires.room in
    subst (λ (l : List Item). HasRoomFor c.write_attributes.new.table c.write_attributes.new.log (cond (nat_eq c.args.item.now.mode link_mode) (length (items_at c.args.ino.0 extent_data l)) 0))
    (sym (same_items c.write_item.new.table c.write_attributes.new.table c.write_item.new.log c.args.from.now c.write_attributes.new.log c.write_attributes.ensures.writing ∙ item_theirs))
    (room_after c.write_item.new.table c.write_attributes.new.table c.write_item.new.log c.write_attributes.new.log (some + more) more c.write_attributes.ensures.writing.blocks c.write_attributes.ensures.writing.buffers (omega (arith, then_count, then_now)) room)

pub returns-clause-items : goal.returns-clause-items
returns-clause-items c =
    let done = c.write_item.ensures in
    let item = beside c.args.table.now c.write_item.new.table c.args.log.now c.args.from.now c.write_item.new.log c.requires.may done.tree done.current (done.keys c.requires.may.keys) done.owner done.edit done.sealed done.blocks done.buffers in
    let theirs = tree_items c.args.table.now c.args.from.now in
    let item_theirs = same_items c.args.table.now c.write_item.new.table c.args.log.now c.args.from.now c.write_item.new.log item in
    let then_theirs = same_items c.write_item.new.table c.write_attributes.new.table c.write_item.new.log c.args.from.now c.write_attributes.new.log c.write_attributes.ensures.writing ∙ item_theirs in
    c.write_target.ensures.items
    ∙ ap (λ (l : List Item). with_target c.args.ino.0 c.args.item.now.mode l (tree_items c.write_attributes.new.table c.write_attributes.new.log)) then_theirs
    ∙ ap (with_target c.args.ino.0 c.args.item.now.mode theirs)
    (c.write_attributes.ensures.items
    ∙ ap (λ (l : List Item). with_attributes c.args.ino.0 c.args.whole l (tree_items c.write_item.new.table c.write_item.new.log)) item_theirs
    ∙ ap (with_attributes c.args.ino.0 c.args.whole theirs) done.items)

pub returns-clause-writing : goal.returns-clause-writing
returns-clause-writing c =
    let done = c.write_item.ensures in
    let item = beside c.args.table.now c.write_item.new.table c.args.log.now c.args.from.now c.write_item.new.log c.requires.may done.tree done.current (done.keys c.requires.may.keys) done.owner done.edit done.sealed done.blocks done.buffers in
    let may = may_again c.args.table.now c.write_item.new.table c.args.log.now c.args.from.now c.write_item.new.log c.requires.may item in
    both c.args.table.now c.write_item.new.table c.write_target.new.table c.args.log.now c.args.from.now c.write_item.new.log c.write_target.new.log c.requires.may item
    (both c.write_item.new.table c.write_attributes.new.table c.write_target.new.table c.write_item.new.log c.args.from.now c.write_attributes.new.log c.write_target.new.log may c.write_attributes.ensures.writing c.write_target.ensures.writing)
