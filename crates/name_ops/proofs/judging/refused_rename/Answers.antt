use Rattle.std.proofs.Common.{◌≡◌, None, refl, sym, ap, subst, ◌∙◌}
use Rattle.flat_model.specs.Names.{FlatName}
use Rattle.flat_model.specs.Operations.{first_answer, rename_tests}
use Rattle.flat_model.specs.Walk.{WalkEnd}
use Rattle.name_items.specs.Names.{name_of}
use Rattle.name_walk.specs.Ends.{end_view}
use Rattle.name_ops.specs.Slots.{at_name}
use Rattle.name_ops.proofs.Answered.{place_is}
use Rattle.name_ops.proofs.Judged.{rename_tested}
use Rattle.name_ops.proofs.judging.refused_rename.Goals as goal

pub returns-in-Some : goal.returns-in-Some
returns-in-Some c = λ run gives.
    let from = place_is c.args.table.now c.args.sub.now run c.args.old.now c.walk-from.result c.walk-from.result gives c.walk-from.ensures.end refl in
    let to = place_is c.args.table.now c.args.sub.now run c.args.new.now c.walk-to.result c.walk-to.result gives c.walk-to.ensures.end refl in
    c.as_refusal.ensures ∙ rename_tested run c.args.old.now c.args.new.now c.args.sub.now.next_index (end_view c.walk-from.result) (end_view c.walk-to.result) from to c.in-Some.answer (sym (c.in-Some.ensures run gives))

pub move_collision-requires-clause-given : goal.move_collision-requires-clause-given
move_collision-requires-clause-given c =
    let g = c.requires.given in
    let run = g.0 in
    let n : FlatName = name_of c.entry_held-moved.result in
    let named : end_view c.walk-from.result ≡ at_name n = ap end_view c.in-Taken.is ∙ ap at_name (sym c.entry_held-moved.ensures) in
    let from = place_is c.args.table.now c.args.sub.now run c.args.old.now c.walk-from.result c.walk-from.result g.1 c.walk-from.ensures.end refl ∙ named in
    let to = place_is c.args.table.now c.args.sub.now run c.args.new.now c.walk-to.result c.walk-to.result g.1 c.walk-to.ensures.end refl in
    let none = sym (c.rename_answer.ensures run g.1) ∙ c.in_default.is in
    (run, g.1, from, to, subst (λ (end : WalkEnd). first_answer (rename_tests run c.args.old.now c.args.new.now end (end_view c.walk-to.result)) ≡ None) named none)

pub returns : goal.returns
returns c = λ run gives.
    let n : FlatName = name_of c.entry_held-moved.result in
    let named : end_view c.walk-from.result ≡ at_name n = ap end_view c.in-Taken.is ∙ ap at_name (sym c.entry_held-moved.ensures) in
    let from = place_is c.args.table.now c.args.sub.now run c.args.old.now c.walk-from.result c.walk-from.result gives c.walk-from.ensures.end refl ∙ named in
    let to = place_is c.args.table.now c.args.sub.now run c.args.new.now c.walk-to.result c.walk-to.result gives c.walk-to.ensures.end refl in
    let none = sym (c.rename_answer.ensures run gives) ∙ c.in_default.is in
    c.move_collision.ensures run gives from to (subst (λ (end : WalkEnd). first_answer (rename_tests run c.args.old.now c.args.new.now end (end_view c.walk-to.result)) ≡ None) named none)
