use Rattle.std.proofs.Common.{◌+◌, List, ◌∙◌, length, sym, ap, subst, arith}
use Rattle.blk_base.specs.Leaf.{Item}
use Rattle.log_edit.specs.Room.{HasRoomFor, count_between}
use Rattle.log_edit.proofs.Rooms.{for_fewer}
use Rattle.log_items.specs.Copied.{with_range}
use Rattle.log_items.proofs.Copying.{between, kept_alike, kept_apart, kept_items, kept_stands, none_outside, range_outside}
use Rattle.tree_frame.proofs.EditLaws.{edits_join}
use Rattle.tree_range.specs.Shape.{tree_items, tree_reach}
use Rattle.log_items.proofs.copy.write_range.Goals as goal

pub copy_items-requires-clause-from : goal.copy_items-requires-clause-from
copy_items-requires-clause-from c = kept_stands c.args.table.now c.args.log.now c.args.from.now c.delete_items.new.table c.delete_items.new.tree c.requires.from c.requires.apart c.delete_items.ensures.edit

pub copy_items-requires-clause-apart : goal.copy_items-requires-clause-apart
copy_items-requires-clause-apart c = kept_apart c.args.table.now c.args.log.now c.args.from.now c.delete_items.new.table c.delete_items.new.tree c.requires.from c.requires.apart c.delete_items.ensures.edit

pub copy_items-requires-clause-none : goal.copy_items-requires-clause-none
copy_items-requires-clause-none c = ap (between c.args.first.now c.args.last.now) c.delete_items.ensures.items ∙ none_outside c.args.first.now c.args.last.now (tree_items c.args.table.now c.args.log.now)

pub copy_items-requires-clause-room : goal.copy_items-requires-clause-room
copy_items-requires-clause-room c =
    let same = kept_items c.args.table.now c.args.log.now c.args.from.now c.delete_items.new.table c.delete_items.new.tree c.requires.from c.requires.apart c.delete_items.ensures.edit in
    let count = count_between c.args.first.now c.args.last.now c.args.table.now c.args.from.now in
    let more = c.delete_items.ensures.room count c.requires.room in
    subst (λ (l : List Item). HasRoomFor c.delete_items.new.table c.delete_items.new.tree (length (between c.args.first.now c.args.last.now l))) (sym same) (for_fewer c.delete_items.new.table c.delete_items.new.tree count (count + count_between c.args.first.now c.args.last.now c.args.table.now c.args.log.now) (omega arith) more)

pub returns-clause-items : goal.returns-clause-items
returns-clause-items c =
    let same = kept_items c.args.table.now c.args.log.now c.args.from.now c.delete_items.new.table c.delete_items.new.tree c.requires.from c.requires.apart c.delete_items.ensures.edit in
    c.copy_items.ensures.items
    ∙ ap (λ (l : List Item). with_range c.args.first.now c.args.last.now (between c.args.first.now c.args.last.now l) (tree_items c.delete_items.new.table c.delete_items.new.tree)) same
    ∙ ap (λ (l : List Item). with_range c.args.first.now c.args.last.now (between c.args.first.now c.args.last.now (tree_items c.args.table.now c.args.from.now)) l) c.delete_items.ensures.items
    ∙ range_outside c.args.first.now c.args.last.now (between c.args.first.now c.args.last.now (tree_items c.args.table.now c.args.from.now)) (tree_items c.args.table.now c.args.log.now)

pub returns-clause-edit : goal.returns-clause-edit
returns-clause-edit c = edits_join c.args.table.now c.delete_items.new.table c.copy_items.new.table (tree_reach c.args.table.now c.args.log.now) (tree_reach c.delete_items.new.table c.delete_items.new.tree) (tree_reach c.copy_items.new.table c.copy_items.new.log) c.delete_items.ensures.edit c.copy_items.ensures.edit

pub returns-clause-from : goal.returns-clause-from
returns-clause-from c = kept_alike c.args.table.now c.args.log.now c.args.from.now c.copy_items.new.table c.copy_items.new.log c.requires.from c.requires.apart
    (edits_join c.args.table.now c.delete_items.new.table c.copy_items.new.table (tree_reach c.args.table.now c.args.log.now) (tree_reach c.delete_items.new.table c.delete_items.new.tree) (tree_reach c.copy_items.new.table c.copy_items.new.log) c.delete_items.ensures.edit c.copy_items.ensures.edit)
