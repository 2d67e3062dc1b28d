use Rattle.std.proofs.Common.{List, sym, ap, ◌∙◌}
use Rattle.std.specs.FinMap.{from_entries}
use Rattle.flat_model.specs.Names.{FlatName}
use Rattle.flat_model.specs.Volume.{RunSub}
use Rattle.flat_model.specs.Walk.{WalkEnd, walk}
use Rattle.flat_sub.specs.Lists.{list_view}
use Rattle.flat_sub.specs.Moves.{without_lost}
use Rattle.flat_sub.specs.View.{name_view, sub_view}
use Rattle.flat_sub.proofs.Renames.{rename_collides, rename_finishes, renamed_slot, dropped}
use Rattle.flat_sub.proofs.sub.FlatSub.move_name.Goals as goal

pub returns-then-is_crowded-clause-done : goal.returns-then-is_crowded-clause-done
returns-then-is_crowded-clause-done c =
    let run : RunSub = sub_view c.args.self.now in
    let names : List FlatName = run.sub.names in
    let from : WalkEnd = walk run.sub c.args.old.now in
    let to : WalkEnd = walk run.sub c.args.new.now in
    let two : List FlatName = list_view c.remove_end-2.new.self in
    let given : FlatName = name_view c.in_ok-at.at c.in_ok-near.near in
    let given_is = c.in_ok-at.ensures names two to c.requires.to (renamed_slot run c.args.old.now c.args.new.now c.requires.open) ∙ ap (name_view c.in_ok-at.at) (sym c.in_ok-near.ensures.near) in
    rename_collides run c.args.old.now c.args.new.now c.requires.open (list_view c.in_ok-list.list) (list_view c.remove_end.new.self) two (list_view c.make.new.self) c.ino.result given c.in_ok-list.ensures.same
    (c.remove_end.ensures.gone to c.requires.to) (c.remove_end-2.ensures.gone from c.requires.from) (c.ino.ensures names from c.requires.from) given_is c.in_ok-near.ensures.added (sym c.is_crowded.ensures ∙ c.if-is_crowded.true)

pub returns-clause-done : goal.returns-clause-done
returns-clause-done c =
    let before = c.args.self.now in
    let run : RunSub = sub_view before in
    let names : List FlatName = run.sub.names in
    let from : WalkEnd = walk run.sub c.args.old.now in
    let to : WalkEnd = walk run.sub c.args.new.now in
    let two : List FlatName = list_view c.remove_end-2.new.self in
    let given : FlatName = name_view c.in_ok-at.at c.in_ok-near.near in
    let given_is = c.in_ok-at.ensures names two to c.requires.to (renamed_slot run c.args.old.now c.args.new.now c.requires.open) ∙ ap (name_view c.in_ok-at.at) (sym c.in_ok-near.ensures.near) in
    let dir_indexes = ap from_entries c.reserve.ensures.items in
    let middle : RunSub = sub_view c.settle.new.self in
    rename_finishes run c.args.old.now c.args.new.now c.requires.open (list_view c.in_ok-list.list) (list_view c.remove_end.new.self) two (list_view c.make.new.self) c.ino.result given c.in_ok-list.ensures.same
    (c.remove_end.ensures.gone to c.requires.to) (c.remove_end-2.ensures.gone from c.requires.from) (c.ino.ensures names from c.requires.from) given_is c.in_ok-near.ensures.added (sym c.is_crowded.ensures ∙ c.if-is_crowded.false)
    _ middle (sub_view c.drop_lost.new.self)
    (λ i. record { sub = run.sub; numbers = record { last_ino = before.last_ino; last_index = before.last_index; dir_indexes = dir_indexes i } })
    c.settle.ensures.view
    (c.drop_lost.ensures.view ∙ ap (λ lost. dropped middle (without_lost middle.sub.inodes lost)) (c.lost-lost.ensures names to c.requires.to))
