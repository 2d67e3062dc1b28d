use Rattle.std.proofs.Common.{◌+◌, List, length, sym, subst, arith}
use Rattle.blk_base.specs.Leaf.{Item}
use Rattle.log_edit.specs.Room.{HasRoomFor, count_between}
use Rattle.log_edit.proofs.Rooms.{for_fewer}
use Rattle.tree_range.specs.Shape.{tree_items, tree_reach}
use Rattle.volume_image.specs.Subvolume.{AreItemsOf}
use Rattle.log_items.specs.Inode.{inode_count, with_inode}
use Rattle.log_items.specs.Names.{first_name, last_name, names_to_log}
use Rattle.log_items.specs.Writing.{MayWrite}
use Rattle.log_items.proofs.Copying.{kept_alike}
use Rattle.log_items.proofs.OwnLaw.{inode_logged}
use Rattle.log_items.proofs.Writings.{may_again, room_after, same_items}
use Rattle.tree_frame.proofs.EditLaws.{edits_join}
use Rattle.log_items.proofs.whole.write_inode.Goals as goal

pub write_names-requires-clause-from : goal.write_names-requires-clause-from
write_names-requires-clause-from c =
    let may : MayWrite c.args.table.now c.args.log.now c.args.sub.now.tree = record { tree = c.requires.tree; current = c.requires.current; keys = c.requires.keys; stands = c.requires.from; their_keys = c.requires.from_keys; apart = c.requires.apart } in
    (may_again c.args.table.now c.write_own_items_unless_whole.new.table c.args.log.now c.args.sub.now.tree c.write_own_items_unless_whole.new.log may c.write_own_items_unless_whole.ensures.writing).stands

pub write_names-requires-clause-from_keys : goal.write_names-requires-clause-from_keys
write_names-requires-clause-from_keys c =
    let may : MayWrite c.args.table.now c.args.log.now c.args.sub.now.tree = record { tree = c.requires.tree; current = c.requires.current; keys = c.requires.keys; stands = c.requires.from; their_keys = c.requires.from_keys; apart = c.requires.apart } in
    (may_again c.args.table.now c.write_own_items_unless_whole.new.table c.args.log.now c.args.sub.now.tree c.write_own_items_unless_whole.new.log may c.write_own_items_unless_whole.ensures.writing).their_keys

pub write_names-requires-clause-apart : goal.write_names-requires-clause-apart
write_names-requires-clause-apart c =
    let may : MayWrite c.args.table.now c.args.log.now c.args.sub.now.tree = record { tree = c.requires.tree; current = c.requires.current; keys = c.requires.keys; stands = c.requires.from; their_keys = c.requires.from_keys; apart = c.requires.apart } in
    (may_again c.args.table.now c.write_own_items_unless_whole.new.table c.args.log.now c.args.sub.now.tree c.write_own_items_unless_whole.new.log may c.write_own_items_unless_whole.ensures.writing).apart

pub write_names-requires-clause-room : goal.write_names-requires-clause-room
write_names-requires-clause-room c =
    let own = c.write_own_items_unless_whole in
    let given = c.requires.given in
    let theirs = tree_items c.args.table.now c.args.sub.now.tree in
    let same = same_items c.args.table.now own.new.table c.args.log.now c.args.sub.now.tree own.new.log own.ensures.writing in
    let count = own.ensures.count given.0 given.1 in
    subst (λ (l : List Item). HasRoomFor own.new.table own.new.log (length (names_to_log c.args.ino.0 l))) (sym same)
    (room_after c.args.table.now own.new.table c.args.log.now own.new.log (inode_count c.args.ino.0 c.args.whole given.0.mode theirs) (length (names_to_log c.args.ino.0 theirs)) own.ensures.writing.blocks own.ensures.writing.buffers (omega (arith, count)) given.2)

pub returns-clause-log : goal.returns-clause-log
returns-clause-log c = λ blocks theirs flat current inode h are coherent there kind.
    let own = c.write_own_items_unless_whole in
    let same = same_items c.args.table.now own.new.table c.args.log.now c.args.sub.now.tree own.new.log own.ensures.writing in
    c.write_names.ensures.log blocks theirs (with_inode c.args.ino.0 c.args.whole inode flat) current (own.ensures.log blocks theirs flat current inode h are there kind)
    (subst (λ (l : List Item). AreItemsOf l theirs current) (sym same) are) coherent (inode_logged c.args.ino.0 c.args.whole inode flat)

pub returns-clause-edit : goal.returns-clause-edit
returns-clause-edit c =
    let own = c.write_own_items_unless_whole in
    edits_join c.args.table.now own.new.table c.write_names.new.table (tree_reach c.args.table.now c.args.log.now) (tree_reach own.new.table own.new.log) (tree_reach c.write_names.new.table c.write_names.new.log) own.ensures.writing.edit c.write_names.ensures.edit

pub returns-clause-from : goal.returns-clause-from
returns-clause-from c =
    let own = c.write_own_items_unless_whole in
    kept_alike c.args.table.now c.args.log.now c.args.sub.now.tree c.write_names.new.table c.write_names.new.log c.requires.from c.requires.apart
    (edits_join c.args.table.now own.new.table c.write_names.new.table (tree_reach c.args.table.now c.args.log.now) (tree_reach own.new.table own.new.log) (tree_reach c.write_names.new.table c.write_names.new.log) own.ensures.writing.edit c.write_names.ensures.edit)

pub returns-clause-room : goal.returns-clause-room
returns-clause-room c = λ value more has room.
    let own = c.write_own_items_unless_whole in
    let theirs = tree_items c.args.table.now c.args.sub.now.tree in
    let same = same_items c.args.table.now own.new.table c.args.log.now c.args.sub.now.tree own.new.log own.ensures.writing in
    let count = own.ensures.count value has in
    let mid : HasRoomFor own.new.table own.new.log (more + length (names_to_log c.args.ino.0 theirs)) =
    room_after c.args.table.now own.new.table c.args.log.now own.new.log (more + inode_count c.args.ino.0 c.args.whole value.mode theirs) (more + length (names_to_log c.args.ino.0 theirs)) own.ensures.writing.blocks own.ensures.writing.buffers (omega (arith, count)) room in
    let then = c.write_names.ensures.room more (subst (λ (l : List Item). HasRoomFor own.new.table own.new.log (more + length (names_to_log c.args.ino.0 l))) (sym same) mid) in
    for_fewer c.write_names.new.table c.write_names.new.log more (more + count_between (first_name c.args.ino.0) (last_name c.args.ino.0) own.new.table own.new.log) (omega arith) then
