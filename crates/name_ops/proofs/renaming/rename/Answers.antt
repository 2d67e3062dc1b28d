use Rattle.std.proofs.Common.{◌≡◌, [], ◌∷◌, Some, None, refl, sym, ap, subst, ◌∙◌}
use Rattle.std.specs.Option.{unwrap_or}
use Rattle.flat_model.specs.declared.answer.Answer.TheVariants.{Collide}
use Rattle.flat_model.specs.Names.{FlatName}
use Rattle.flat_model.specs.Operations.{do_collide, first_answer, names_without, new_name, rename, rename_done, rename_rows, rename_tests, without_entry}
use Rattle.flat_model.specs.Walk.{WalkEnd, ino_at, walk}
use Rattle.name_items.specs.Names.{name_of}
use Rattle.name_walk.specs.Ends.{end_view}
use Rattle.name_ops.specs.Drops.{gone_by_move, most_for}
use Rattle.name_ops.specs.Slots.{at_name}
use Rattle.name_ops.proofs.Answered.{place_is, refused, rows_ahead}
use Rattle.name_ops.proofs.renaming.rename.Goals as goal

pub returns-in-Some : goal.returns-in-Some
unfolding rename
returns-in-Some c = λ run gives.
    let from = place_is c.args.table.now c.args.sub.now run c.args.old.now c.walk-from.result c.walk-from.result gives c.walk-from.ensures.end refl in
    let to = place_is c.args.table.now c.args.sub.now run c.args.new.now c.walk-to.result c.walk-to.result gives c.walk-to.ensures.end refl in
    let without = without_entry run.sub (walk run.sub c.args.new.now) in
    let names = names_without without.names (walk run.sub c.args.old.now) in
    let name = new_name names (walk run.sub c.args.new.now) c.args.sub.now.next_index (unwrap_or (ino_at (walk run.sub c.args.old.now)) 0) in
    let tests : first_answer (rename_tests run c.args.old.now c.args.new.now (walk run.sub c.args.old.now) (walk run.sub c.args.new.now)) ≡ Some c.in-Some.answer =
    (λ i. first_answer (rename_tests run c.args.old.now c.args.new.now (from i) (to i))) ∙ sym (c.in-Some.ensures run gives) in
    refused c.args.table.now c.args.sub.now run (rename_rows run c.args.old.now c.args.new.now (walk run.sub c.args.old.now) (walk run.sub c.args.new.now) names name) (rename_done run without names name) c.in-Some.answer
    (most_for (gone_by_move run.sub (walk run.sub c.args.old.now) (walk run.sub c.args.new.now))) gives
    (rows_ahead (rename_tests run c.args.old.now c.args.new.now (walk run.sub c.args.old.now) (walk run.sub c.args.new.now)) ((do_collide names (name ∷ []), Collide) ∷ []) c.in-Some.answer tests)

pub move_name-requires-clause-given : goal.move_name-requires-clause-given
move_name-requires-clause-given c =
    let g = c.requires.given in
    let run = g.0 in
    let n : FlatName = name_of c.entry_held-moved.result in
    let named : end_view c.walk-from.result ≡ at_name n = ap end_view c.in-Taken.is ∙ ap at_name (sym c.entry_held-moved.ensures) in
    let from = place_is c.args.table.now c.args.sub.now run c.args.old.now c.walk-from.result c.walk-from.result g.1 c.walk-from.ensures.end refl ∙ named in
    let to = place_is c.args.table.now c.args.sub.now run c.args.new.now c.walk-to.result c.walk-to.result g.1 c.walk-to.ensures.end refl in
    let none = sym (c.rename_answer.ensures run g.1) ∙ c.in_default.is in
    (run, g.1, from, to, subst (λ (end : WalkEnd). first_answer (rename_tests run c.args.old.now c.args.new.now end (end_view c.walk-to.result)) ≡ None) named none, g.2)
