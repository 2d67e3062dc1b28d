use Rattle.std.proofs.Common.{◌+◌, List, refl, arith, sym, ap, ◌∙◌}
use Rattle.std.specs.FinMap.{from_entries}
use Rattle.flat_model.specs.declared.view.NameAt.{NameAt}
use Rattle.flat_model.specs.Names.{FlatName, add_name}
use Rattle.flat_model.specs.Volume.{RunSub}
use Rattle.flat_model.specs.Walk.{WalkEnd, walk}
use Rattle.flat_sub.specs.Lists.{list_view}
use Rattle.flat_sub.specs.View.{name_view, sub_view}
use Rattle.flat_sub.proofs.Renames.{first_collides, second_collides, exchange_finishes, exchanged_slots}
use Rattle.flat_sub.proofs.Marks.{AreMarked, marked_of, marked_more}
use Rattle.flat_sub.proofs.sub.FlatSub.swap_names.Goals as goal

pub returns-then-is_crowded-clause-done : goal.returns-then-is_crowded-clause-done
returns-then-is_crowded-clause-done c =
    let run : RunSub = sub_view c.args.self.now in
    let names : List FlatName = run.sub.names in
    let first : WalkEnd = walk run.sub c.args.one.now in
    let second : WalkEnd = walk run.sub c.args.two.now in
    let twice : List FlatName = list_view c.remove_end-2.new.self in
    let given : FlatName = name_view c.in_ok-here.here c.has_room_near-here_near.result in
    let other : FlatName = name_view c.in_ok-there.there c.has_room_near-there_near.result in
    let slots = exchanged_slots run c.args.one.now c.args.two.now c.requires.open in
    let given_is = c.in_ok-here.ensures names twice first c.requires.first slots.0 ∙ ap (name_view c.in_ok-here.here) (sym c.has_room_near-here_near.ensures) in
    let other_is = c.in_ok-there.ensures names twice second c.requires.second slots.1 ∙ ap (name_view c.in_ok-there.there) (sym c.has_room_near-there_near.ensures) in
    let with_one = c.in_ok-add.ensures.ok ∙ ap (λ (at : NameAt). add_name (name_view at c.has_room_near-here_near.result) twice) c.in_ok-copy.ensures in
    let after = c.in_ok-add-2.ensures.ok ∙ ap (λ (at : NameAt). add_name (name_view at c.has_room_near-there_near.result) (list_view c.add.new.self)) c.in_ok-copy-2.ensures in
    first_collides run c.args.one.now c.args.two.now c.requires.open (list_view c.in_ok-list.list) (list_view c.remove_end.new.self) twice (list_view c.add.new.self) (list_view c.add-2.new.self) c.ino.result c.ino-2.result given other c.in_ok-list.ensures.same
    (c.remove_end.ensures.gone first c.requires.first) (c.remove_end-2.ensures.gone second c.requires.second) (c.ino.ensures names second c.requires.second) (c.ino-2.ensures names first c.requires.first) given_is other_is with_one after (sym c.is_crowded.ensures ∙ c.if-is_crowded.true)

pub returns-then-is_crowded-2-clause-done : goal.returns-then-is_crowded-2-clause-done
returns-then-is_crowded-2-clause-done c =
    let run : RunSub = sub_view c.args.self.now in
    let names : List FlatName = run.sub.names in
    let first : WalkEnd = walk run.sub c.args.one.now in
    let second : WalkEnd = walk run.sub c.args.two.now in
    let twice : List FlatName = list_view c.remove_end-2.new.self in
    let given : FlatName = name_view c.in_ok-here.here c.has_room_near-here_near.result in
    let other : FlatName = name_view c.in_ok-there.there c.has_room_near-there_near.result in
    let slots = exchanged_slots run c.args.one.now c.args.two.now c.requires.open in
    let given_is = c.in_ok-here.ensures names twice first c.requires.first slots.0 ∙ ap (name_view c.in_ok-here.here) (sym c.has_room_near-here_near.ensures) in
    let other_is = c.in_ok-there.ensures names twice second c.requires.second slots.1 ∙ ap (name_view c.in_ok-there.there) (sym c.has_room_near-there_near.ensures) in
    let with_one = c.in_ok-add.ensures.ok ∙ ap (λ (at : NameAt). add_name (name_view at c.has_room_near-here_near.result) twice) c.in_ok-copy.ensures in
    let after = c.in_ok-add-2.ensures.ok ∙ ap (λ (at : NameAt). add_name (name_view at c.has_room_near-there_near.result) (list_view c.add.new.self)) c.in_ok-copy-2.ensures in
    second_collides run c.args.one.now c.args.two.now c.requires.open (list_view c.in_ok-list.list) (list_view c.remove_end.new.self) twice (list_view c.add.new.self) (list_view c.add-2.new.self) c.ino.result c.ino-2.result given other c.in_ok-list.ensures.same
    (c.remove_end.ensures.gone first c.requires.first) (c.remove_end-2.ensures.gone second c.requires.second) (c.ino.ensures names second c.requires.second) (c.ino-2.ensures names first c.requires.first) given_is other_is with_one after (sym c.is_crowded.ensures ∙ c.if-is_crowded.false) (sym c.is_crowded-2.ensures ∙ c.if-is_crowded-2.true)

pub returns-clause-done : goal.returns-clause-done
returns-clause-done c =
    let run : RunSub = sub_view c.args.self.now in
    let names : List FlatName = run.sub.names in
    let first : WalkEnd = walk run.sub c.args.one.now in
    let second : WalkEnd = walk run.sub c.args.two.now in
    let twice : List FlatName = list_view c.remove_end-2.new.self in
    let given : FlatName = name_view c.in_ok-here.here c.has_room_near-here_near.result in
    let other : FlatName = name_view c.in_ok-there.there c.has_room_near-there_near.result in
    let slots = exchanged_slots run c.args.one.now c.args.two.now c.requires.open in
    let given_is = c.in_ok-here.ensures names twice first c.requires.first slots.0 ∙ ap (name_view c.in_ok-here.here) (sym c.has_room_near-here_near.ensures) in
    let other_is = c.in_ok-there.ensures names twice second c.requires.second slots.1 ∙ ap (name_view c.in_ok-there.there) (sym c.has_room_near-there_near.ensures) in
    let with_one = c.in_ok-add.ensures.ok ∙ ap (λ (at : NameAt). add_name (name_view at c.has_room_near-here_near.result) twice) c.in_ok-copy.ensures in
    let after = c.in_ok-add-2.ensures.ok ∙ ap (λ (at : NameAt). add_name (name_view at c.has_room_near-there_near.result) (list_view c.add.new.self)) c.in_ok-copy-2.ensures in
    exchange_finishes run c.args.one.now c.args.two.now c.requires.open (list_view c.in_ok-list.list) (list_view c.remove_end.new.self) twice (list_view c.add.new.self) (list_view c.add-2.new.self) c.ino.result c.ino-2.result given other c.in_ok-list.ensures.same
    (c.remove_end.ensures.gone first c.requires.first) (c.remove_end-2.ensures.gone second c.requires.second) (c.ino.ensures names second c.requires.second) (c.ino-2.ensures names first c.requires.first) given_is other_is with_one after (sym c.is_crowded.ensures ∙ c.if-is_crowded.false) (sym c.is_crowded-2.ensures ∙ c.if-is_crowded-2.false)
    _ (from_entries c.in_ok-indexes.indexes.items) (from_entries c.in_ok-both.both.items) c.in_ok-indexes.ensures.map c.in_ok-both.ensures.map refl

pub returns-clause-kept : goal.returns-clause-kept
returns-clause-kept c =
    let before = c.args.self.now in
    let last = before.last_index in
    let once : AreMarked (from_entries c.in_ok-indexes.indexes.items) (last + 1) = marked_more _ _ c.in_ok-here.here.dir.0 (last + 1) last _ _ (marked_of before c.requires.kept) c.in_ok-indexes.ensures.map refl (omega arith) in
    let both : AreMarked (from_entries c.in_ok-both.both.items) (last + 2) = marked_more _ _ c.in_ok-there.there.dir.0 (last + 2) (last + 1) _ _ once c.in_ok-both.ensures.map refl (omega arith) in
    record {
      marked = c.in_ok-add-2.ensures.kept.marked;
      in_order = c.in_ok-add-2.ensures.kept.in_order;
      inodes_rise = c.requires.kept.inodes_rise;
      indexes_rise = c.in_ok-both.ensures.rising (c.in_ok-indexes.ensures.rising c.requires.kept.indexes_rise);
      covered = both.covered;
      least = both.least;
      each_least = both.each_least;
    }
