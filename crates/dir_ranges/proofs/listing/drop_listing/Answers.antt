use Rattle.std.proofs.Common.{◌+◌, ◌∙◌, List, ap, sym, subst, length, arith}
use Rattle.blk_base.specs.Leaf.{Item}
use Rattle.tree_range.specs.Shape.{tree_items, tree_reach}
use Rattle.tree_frame.proofs.EditLaws.{edits_join}
use Rattle.tree_check.specs.Items.{HaveKeys}
use Rattle.log_edit.proofs.Rooms.{room_moves}
use Rattle.log_image.specs.LogItems.{AreItemsOfLog}
use Rattle.dir_ranges.specs.Listing.{listing_count, without_listing}
use Rattle.dir_ranges.proofs.Dropped.{drops_a_listing}
use Rattle.dir_ranges.proofs.Outside.{after_both, both_kinds, keys_without}
use Rattle.dir_ranges.proofs.listing.drop_listing.Goals as goal

pub returns-clause-items : goal.returns-clause-items
returns-clause-items c =
    after_both c.args.dir.0 (tree_items c.args.table.now c.args.log.now) (tree_items c.delete_items.new.table c.delete_items.new.tree) (tree_items c.delete_items-2.new.table c.delete_items-2.new.tree)
    c.key_of-first_range.result c.key_of-last_range.result c.key_of-first_entry.result c.key_of-last_entry.result c.requires.keys c.key_of-first_range.ensures c.key_of-last_range.ensures c.key_of-first_entry.ensures c.key_of-last_entry.ensures
    c.delete_items.ensures.items c.delete_items-2.ensures.items

pub returns-clause-log : goal.returns-clause-log
returns-clause-log c = λ blocks flat h.
    let items = after_both c.args.dir.0 (tree_items c.args.table.now c.args.log.now) (tree_items c.delete_items.new.table c.delete_items.new.tree) (tree_items c.delete_items-2.new.table c.delete_items-2.new.tree)
    c.key_of-first_range.result c.key_of-last_range.result c.key_of-first_entry.result c.key_of-last_entry.result c.requires.keys c.key_of-first_range.ensures c.key_of-last_range.ensures c.key_of-first_entry.ensures c.key_of-last_entry.ensures
    c.delete_items.ensures.items c.delete_items-2.ensures.items in
    subst (λ (l : List Item). AreItemsOfLog l blocks (without_listing c.args.dir.0 flat)) (sym items) (drops_a_listing (tree_items c.args.table.now c.args.log.now) blocks flat c.args.dir.0 h)

pub returns-clause-keys : goal.returns-clause-keys
returns-clause-keys c =
    let items = after_both c.args.dir.0 (tree_items c.args.table.now c.args.log.now) (tree_items c.delete_items.new.table c.delete_items.new.tree) (tree_items c.delete_items-2.new.table c.delete_items-2.new.tree)
    c.key_of-first_range.result c.key_of-last_range.result c.key_of-first_entry.result c.key_of-last_entry.result c.requires.keys c.key_of-first_range.ensures c.key_of-last_range.ensures c.key_of-first_entry.ensures c.key_of-last_entry.ensures
    c.delete_items.ensures.items c.delete_items-2.ensures.items in
    subst HaveKeys (sym items) (keys_without c.args.dir.0 (tree_items c.args.table.now c.args.log.now) c.requires.keys)

pub returns-clause-edit : goal.returns-clause-edit
returns-clause-edit c =
    edits_join c.args.table.now c.delete_items.new.table c.delete_items-2.new.table (tree_reach c.args.table.now c.args.log.now) (tree_reach c.delete_items.new.table c.delete_items.new.tree) (tree_reach c.delete_items-2.new.table c.delete_items-2.new.tree)
    c.delete_items.ensures.edit c.delete_items-2.ensures.edit

pub returns-clause-room : goal.returns-clause-room
returns-clause-room c = λ was room.
    let items = after_both c.args.dir.0 (tree_items c.args.table.now c.args.log.now) (tree_items c.delete_items.new.table c.delete_items.new.tree) (tree_items c.delete_items-2.new.table c.delete_items-2.new.tree)
    c.key_of-first_range.result c.key_of-last_range.result c.key_of-first_entry.result c.key_of-last_entry.result c.requires.keys c.key_of-first_range.ensures c.key_of-last_range.ensures c.key_of-first_entry.ensures c.key_of-last_entry.ensures
    c.delete_items.ensures.items c.delete_items-2.ensures.items in
    room_moves c.args.table.now c.delete_items-2.new.table c.args.log.now c.delete_items-2.new.tree was (was + listing_count c.args.dir.0 (tree_items c.args.table.now c.args.log.now))
    (c.delete_items-2.ensures.blocks ∙ c.delete_items.ensures.blocks) (c.delete_items-2.ensures.buffers ∙ c.delete_items.ensures.buffers)
    (omega (arith, ap (λ (l : List Item). length l) items, both_kinds c.args.dir.0 (tree_items c.args.table.now c.args.log.now))) room
