use Rattle.std.proofs.Common.{rules, ◌+◌, ◌∙◌, ℕ, sym, subst, arith}
use Rattle.log_edit.specs.Room.{HasRoomFor}
use Rattle.log_image.specs.LogItems.{ranges_in}
use Rattle.tree_range.specs.Shape.{tree_items}
use Rattle.dir_ranges.specs.Ranges.{log_with}
use Rattle.dir_ranges.proofs.Names.{as_many, gone_written}
use Rattle.dir_ranges.proofs.Walk.{PlaceFits, all_covered, begins, fewer_left, goes_on, items_at_end, no_range, places_left, room_at_end, room_for_one}
use Rattle.dir_ranges.proofs.gone.write_gone.Goals as goal

pub loop-found-init : goal.loop-found-init
loop-found-init c = begins c.args.ino.0 c.args.committed.now c.args.table.now c.args.log.now c.requires.tree c.requires.current c.requires.given.1.gives.tree_in c.requires.apart c.requires.forward

pub put_range-requires-clause-absent : goal.put_range-requires-clause-absent
put_range-requires-clause-absent c =
    let fits : PlaceFits c.in-Some.found.place = record { dir = search rules; index = search rules } in
    no_range c.args.ino.0 c.args.committed.now c.loop-found.first c.args.table.now c.args.log.now c.loop-found.table c.loop-found.log c.loop-found.invariant c.in-Some.found (sym c.in-Some.ensures) fits

pub put_range-requires-clause-room : goal.put_range-requires-clause-room
put_range-requires-clause-room c =
    let fits : PlaceFits c.in-Some.found.place = record { dir = search rules; index = search rules } in
    let links = as_many c.args.table.now c.args.committed.now c.requires.given.0 c.requires.given.1 c.args.ino.0 c.requires.not_root in
    room_for_one c.args.ino.0 c.args.committed.now c.loop-found.first c.args.table.now c.args.log.now c.loop-found.table c.loop-found.log c.loop-found.invariant c.in-Some.found (sym c.in-Some.ensures) fits
    (subst (HasRoomFor c.args.table.now c.args.log.now) (sym links) c.requires.given.2)

pub loop-found-smaller : goal.loop-found-smaller
loop-found-smaller c =
    let fits : PlaceFits c.in-Some.found.place = record { dir = search rules; index = search rules } in
    let less = fewer_left c.args.ino.0 c.args.committed.now c.loop-found.first c.args.table.now c.args.log.now c.loop-found.table c.loop-found.log c.loop-found.invariant c.in-Some.found (sym c.in-Some.ensures) fits
    (tree_items c.put_range.new.table c.put_range.new.log) c.put_range.ensures.items in
    omega (arith, less)

pub loop-found-preserved : goal.loop-found-preserved
loop-found-preserved c =
    let fits : PlaceFits c.in-Some.found.place = record { dir = search rules; index = search rules } in
    goes_on c.args.ino.0 c.args.committed.now c.loop-found.first c.args.table.now c.args.log.now c.loop-found.table c.loop-found.log c.loop-found.invariant c.in-Some.found (sym c.in-Some.ensures) fits
    c.put_range.new.table c.put_range.new.log
    (record {
      tree = c.put_range.ensures.tree;
      items = c.put_range.ensures.items;
      owner = c.put_range.ensures.owner;
      edit = c.put_range.ensures.edit;
      current = c.put_range.ensures.current;
      blocks = c.put_range.ensures.blocks;
      buffers = c.put_range.ensures.buffers;
      sealed = c.put_range.ensures.sealed;
    })

pub returns-clause-items : goal.returns-clause-items
returns-clause-items c =
    items_at_end c.args.ino.0 c.args.committed.now c.loop-found.first c.args.table.now c.args.log.now c.loop-found.table c.loop-found.log c.loop-found.invariant (sym c.first_uncovered.ensures ∙ c.in_default.is)

pub returns-clause-log : goal.returns-clause-log
returns-clause-log c = λ sub blocks flat given log.
    let way = c.loop-found.invariant.way in
    let is = tree_items c.loop-found.table c.loop-found.log in
    let covered = all_covered c.args.ino.0 c.args.committed.now c.loop-found.first c.args.table.now c.args.log.now c.loop-found.table c.loop-found.log c.loop-found.invariant (sym c.first_uncovered.ensures ∙ c.in_default.is) in (
      log_with (ranges_in is) flat,
      way.log blocks flat log,
      gone_written c.args.table.now c.args.committed.now sub given c.args.ino.0 c.requires.not_root (places_left (tree_items c.args.table.now c.args.committed.now) c.loop-found.first c.args.ino.0) (tree_items c.args.table.now c.args.log.now) is way covered
          c.loop-found.invariant.tree.order blocks flat log,
    )

pub returns-clause-room : goal.returns-clause-room
returns-clause-room c = λ sub more given room.
    let links = as_many c.args.table.now c.args.committed.now sub given c.args.ino.0 c.requires.not_root in
    room_at_end c.args.ino.0 c.args.committed.now c.loop-found.first c.args.table.now c.args.log.now c.loop-found.table c.loop-found.log c.loop-found.invariant more
    (subst (λ (n : ℕ). HasRoomFor c.args.table.now c.args.log.now (more + n)) (sym links) room)
