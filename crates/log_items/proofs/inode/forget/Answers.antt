use Rattle.std.proofs.Common.{◌+◌, ◌∙◌, List, ap, sym, subst, length, arith}
use Rattle.blk_base.specs.Leaf.{Item}
use Rattle.tree_range.specs.Shape.{tree_items, tree_reach}
use Rattle.tree_frame.proofs.EditLaws.{edits_join}
use Rattle.tree_check.specs.Items.{HaveKeys}
use Rattle.log_edit.proofs.Rooms.{room_moves}
use Rattle.log_image.specs.LogItems.{AreItemsOfLog}
use Rattle.log_items.specs.Forgotten.{count_of, forgotten, is_item_of}
use Rattle.log_items.proofs.Law.{forgets}
use Rattle.log_items.proofs.Ranges.{first_of, keys_outside, keys_without, last_of, left, out_and_apart}
use Rattle.log_items.proofs.Walk.{of_both_kinds}
use Rattle.log_items.proofs.inode.forget.Goals as goal

pub delete_entries_to-requires-clause-keys : goal.delete_entries_to-requires-clause-keys
delete_entries_to-requires-clause-keys c =
    subst HaveKeys (sym c.delete_items.ensures.items) (keys_outside (first_of c.args.ino.0) (last_of c.args.ino.0) (tree_items c.args.table.now c.args.log.now) c.requires.keys)

pub returns-clause-items : goal.returns-clause-items
returns-clause-items c =
    c.delete_entries_to.ensures.items ∙ ap (left c.args.ino.0) c.delete_items.ensures.items ∙ out_and_apart c.args.ino.0 (tree_items c.args.table.now c.args.log.now) c.requires.keys

pub returns-clause-log : goal.returns-clause-log
returns-clause-log c = λ blocks flat h.
    subst (λ (l : List Item). AreItemsOfLog l blocks (forgotten c.args.ino.0 flat)) (sym (c.delete_entries_to.ensures.items ∙ ap (left c.args.ino.0) c.delete_items.ensures.items ∙ out_and_apart c.args.ino.0 (tree_items c.args.table.now c.args.log.now) c.requires.keys))
    (forgets (tree_items c.args.table.now c.args.log.now) blocks flat c.args.ino.0 h)

pub returns-clause-keys : goal.returns-clause-keys
returns-clause-keys c =
    subst HaveKeys (sym (c.delete_entries_to.ensures.items ∙ ap (left c.args.ino.0) c.delete_items.ensures.items ∙ out_and_apart c.args.ino.0 (tree_items c.args.table.now c.args.log.now) c.requires.keys))
    (keys_without c.args.ino.0 (tree_items c.args.table.now c.args.log.now) c.requires.keys)

pub returns-clause-edit : goal.returns-clause-edit
returns-clause-edit c =
    edits_join c.args.table.now c.delete_items.new.table c.delete_entries_to.new.table (tree_reach c.args.table.now c.args.log.now) (tree_reach c.delete_items.new.table c.delete_items.new.tree) (tree_reach c.delete_entries_to.new.table c.delete_entries_to.new.log)
    c.delete_items.ensures.edit c.delete_entries_to.ensures.edit

pub returns-clause-room : goal.returns-clause-room
returns-clause-room c = λ was room.
    let items = ap (λ (l : List Item). length l) (c.delete_entries_to.ensures.items ∙ ap (left c.args.ino.0) c.delete_items.ensures.items ∙ out_and_apart c.args.ino.0 (tree_items c.args.table.now c.args.log.now) c.requires.keys) in
    room_moves c.args.table.now c.delete_entries_to.new.table c.args.log.now c.delete_entries_to.new.log was (was + count_of c.args.ino.0 (tree_items c.args.table.now c.args.log.now))
    (c.delete_entries_to.ensures.blocks ∙ c.delete_items.ensures.blocks) (c.delete_entries_to.ensures.buffers ∙ c.delete_items.ensures.buffers)
    (omega (arith, items, of_both_kinds (is_item_of c.args.ino.0) (tree_items c.args.table.now c.args.log.now))) room
