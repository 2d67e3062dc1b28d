use Rattle.std.proofs.Common.{◌<◌, length, Option, Some, sym, subst}
use Rattle.blk_base.specs.declared.key.Key.{Key}
use Rattle.tree_range.specs.Between.{items_between, items_from_some}
use Rattle.tree_range.specs.Shape.{tree_items, tree_reach}
use Rattle.tree_range.proofs.Local.{tree_alike}
use Rattle.tree_frame.proofs.EditLaws.{edits_join}
use Rattle.log_items.proofs.Copying.{IsCopying, MayCopy, absent, begins, ends, from_alike, from_stands, goes_on, one_less, room_for_one}
use Rattle.log_items.proofs.copy.copy_items.Goals as goal

pub loop-next-init : goal.loop-next-init
loop-next-init c =
    let may : MayCopy c.args.first.now c.args.last.now c.args.from.now c.args.table.now c.args.log.now = record { tree = c.requires.tree; current = c.requires.current; from_tree = c.requires.from; apart = c.requires.apart; order = c.requires.order; none = c.requires.none; room = c.requires.room } in
    begins c.args.first.now c.args.last.now c.args.from.now c.args.table.now c.args.log.now may c.first_between-next.result c.first_between-next.ensures

pub copy_item-requires-clause-from : goal.copy_item-requires-clause-from
copy_item-requires-clause-from c =
    let may : MayCopy c.args.first.now c.args.last.now c.args.from.now c.args.table.now c.args.log.now = record { tree = c.requires.tree; current = c.requires.current; from_tree = c.requires.from; apart = c.requires.apart; order = c.requires.order; none = c.requires.none; room = c.requires.room } in
    let way : IsCopying c.args.first.now c.args.last.now c.args.from.now c.args.table.now c.args.log.now c.loop-next.table c.loop-next.log (Some c.in-Some.key) = subst (λ (next : Option Key). IsCopying c.args.first.now c.args.last.now c.args.from.now c.args.table.now c.args.log.now c.loop-next.table c.loop-next.log next) c.in-Some.is c.loop-next.invariant in
    from_stands c.args.first.now c.args.last.now c.args.from.now c.args.table.now c.args.log.now may c.loop-next.table c.loop-next.log c.in-Some.key way

pub copy_item-requires-clause-absent : goal.copy_item-requires-clause-absent
copy_item-requires-clause-absent c =
    let may : MayCopy c.args.first.now c.args.last.now c.args.from.now c.args.table.now c.args.log.now = record { tree = c.requires.tree; current = c.requires.current; from_tree = c.requires.from; apart = c.requires.apart; order = c.requires.order; none = c.requires.none; room = c.requires.room } in
    let way : IsCopying c.args.first.now c.args.last.now c.args.from.now c.args.table.now c.args.log.now c.loop-next.table c.loop-next.log (Some c.in-Some.key) = subst (λ (next : Option Key). IsCopying c.args.first.now c.args.last.now c.args.from.now c.args.table.now c.args.log.now c.loop-next.table c.loop-next.log next) c.in-Some.is c.loop-next.invariant in
    absent c.args.first.now c.args.last.now c.args.from.now c.args.table.now c.args.log.now may c.loop-next.table c.loop-next.log c.in-Some.key way

pub copy_item-requires-clause-room : goal.copy_item-requires-clause-room
copy_item-requires-clause-room c =
    let may : MayCopy c.args.first.now c.args.last.now c.args.from.now c.args.table.now c.args.log.now = record { tree = c.requires.tree; current = c.requires.current; from_tree = c.requires.from; apart = c.requires.apart; order = c.requires.order; none = c.requires.none; room = c.requires.room } in
    let way : IsCopying c.args.first.now c.args.last.now c.args.from.now c.args.table.now c.args.log.now c.loop-next.table c.loop-next.log (Some c.in-Some.key) = subst (λ (next : Option Key). IsCopying c.args.first.now c.args.last.now c.args.from.now c.args.table.now c.args.log.now c.loop-next.table c.loop-next.log next) c.in-Some.is c.loop-next.invariant in
    room_for_one c.args.first.now c.args.last.now c.args.from.now c.args.table.now c.args.log.now may c.loop-next.table c.loop-next.log c.in-Some.key way

pub first_behind-next-requires : goal.first_behind-next-requires
first_behind-next-requires c =
    let may : MayCopy c.args.first.now c.args.last.now c.args.from.now c.args.table.now c.args.log.now = record { tree = c.requires.tree; current = c.requires.current; from_tree = c.requires.from; apart = c.requires.apart; order = c.requires.order; none = c.requires.none; room = c.requires.room } in
    (tree_alike c.args.table.now c.copy_item.new.table c.args.from.now (from_alike c.args.first.now c.args.last.now c.args.from.now c.args.table.now c.args.log.now may c.copy_item.new.table c.copy_item.new.log
    (edits_join c.args.table.now c.loop-next.table c.copy_item.new.table (tree_reach c.args.table.now c.args.log.now) (tree_reach c.loop-next.table c.loop-next.log) (tree_reach c.copy_item.new.table c.copy_item.new.log) c.loop-next.invariant.edit c.copy_item.ensures.edit))).2 c.requires.from

pub loop-next-smaller : goal.loop-next-smaller
loop-next-smaller c =
    let may : MayCopy c.args.first.now c.args.last.now c.args.from.now c.args.table.now c.args.log.now = record { tree = c.requires.tree; current = c.requires.current; from_tree = c.requires.from; apart = c.requires.apart; order = c.requires.order; none = c.requires.none; room = c.requires.room } in
    let way : IsCopying c.args.first.now c.args.last.now c.args.from.now c.args.table.now c.args.log.now c.loop-next.table c.loop-next.log (Some c.in-Some.key) = subst (λ (next : Option Key). IsCopying c.args.first.now c.args.last.now c.args.from.now c.args.table.now c.args.log.now c.loop-next.table c.loop-next.log next) c.in-Some.is c.loop-next.invariant in
    let less = one_less c.args.first.now c.args.last.now c.args.from.now c.args.table.now c.args.log.now may c.loop-next.table c.loop-next.log c.in-Some.key way c.copy_item.new.table c.copy_item.new.log
    (record {
      tree = c.copy_item.ensures.tree;
      items = c.copy_item.ensures.items;
      owner = c.copy_item.ensures.owner;
      edit = c.copy_item.ensures.edit;
      current = c.copy_item.ensures.current;
      blocks = c.copy_item.ensures.blocks;
      buffers = c.copy_item.ensures.buffers;
      sealed = c.copy_item.ensures.sealed;
    })
    c.first_behind-next.result c.first_behind-next.ensures in
    subst (λ (next : Option Key). length (items_from_some c.first_behind-next.result (items_between c.args.first.now c.args.last.now (tree_items c.args.table.now c.args.from.now))) < length (items_from_some next (items_between c.args.first.now c.args.last.now (tree_items c.args.table.now c.args.from.now)))) (sym c.in-Some.is) less

pub loop-next-preserved : goal.loop-next-preserved
loop-next-preserved c =
    let may : MayCopy c.args.first.now c.args.last.now c.args.from.now c.args.table.now c.args.log.now = record { tree = c.requires.tree; current = c.requires.current; from_tree = c.requires.from; apart = c.requires.apart; order = c.requires.order; none = c.requires.none; room = c.requires.room } in
    let way : IsCopying c.args.first.now c.args.last.now c.args.from.now c.args.table.now c.args.log.now c.loop-next.table c.loop-next.log (Some c.in-Some.key) = subst (λ (next : Option Key). IsCopying c.args.first.now c.args.last.now c.args.from.now c.args.table.now c.args.log.now c.loop-next.table c.loop-next.log next) c.in-Some.is c.loop-next.invariant in
    goes_on c.args.first.now c.args.last.now c.args.from.now c.args.table.now c.args.log.now may c.loop-next.table c.loop-next.log c.in-Some.key way c.copy_item.new.table c.copy_item.new.log
    (record {
      tree = c.copy_item.ensures.tree;
      items = c.copy_item.ensures.items;
      owner = c.copy_item.ensures.owner;
      edit = c.copy_item.ensures.edit;
      current = c.copy_item.ensures.current;
      blocks = c.copy_item.ensures.blocks;
      buffers = c.copy_item.ensures.buffers;
      sealed = c.copy_item.ensures.sealed;
    })
    c.first_behind-next.result c.first_behind-next.ensures

pub returns-clause-items : goal.returns-clause-items
returns-clause-items c =
    let may : MayCopy c.args.first.now c.args.last.now c.args.from.now c.args.table.now c.args.log.now = record { tree = c.requires.tree; current = c.requires.current; from_tree = c.requires.from; apart = c.requires.apart; order = c.requires.order; none = c.requires.none; room = c.requires.room } in
    ends c.args.first.now c.args.last.now c.args.from.now c.args.table.now c.args.log.now may c.loop-next.table c.loop-next.log (subst (λ (next : Option Key). IsCopying c.args.first.now c.args.last.now c.args.from.now c.args.table.now c.args.log.now c.loop-next.table c.loop-next.log next) c.in_default.is c.loop-next.invariant)

pub returns-clause-from : goal.returns-clause-from
returns-clause-from c =
    let may : MayCopy c.args.first.now c.args.last.now c.args.from.now c.args.table.now c.args.log.now = record { tree = c.requires.tree; current = c.requires.current; from_tree = c.requires.from; apart = c.requires.apart; order = c.requires.order; none = c.requires.none; room = c.requires.room } in
    from_alike c.args.first.now c.args.last.now c.args.from.now c.args.table.now c.args.log.now may c.loop-next.table c.loop-next.log c.loop-next.invariant.edit
