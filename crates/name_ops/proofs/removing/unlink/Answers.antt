use Rattle.std.proofs.Common.{◌≡◌, Some, None, refl, sym, ap, subst, ◌∙◌}
use Rattle.flat_model.specs.Needs.{gone_with}
use Rattle.flat_model.specs.Operations.{unlink, unlink_rows, first_answer, removal_done}
use Rattle.flat_model.specs.Names.{FlatName}
use Rattle.flat_model.specs.Walk.{WalkEnd, AtSlot, walk}
use Rattle.flat_model.proofs.Sound.{unlink_sound}
use Rattle.name_walk.specs.Ends.{end_view, name_held}
use Rattle.name_items.specs.Names.{name_of}
use Rattle.name_ops.specs.Drops.{most_for}
use Rattle.name_ops.proofs.Answered.{place_is, refused}
use Rattle.name_ops.proofs.Removed.{removal_operated, removal_room, unlink_is, unlink_may}
use Rattle.name_ops.proofs.removing.unlink.Goals as goal

pub returns-in-Some : goal.returns-in-Some
unfolding unlink
returns-in-Some c = λ run gives.
    let at = place_is c.args.table.now c.args.sub.now run c.args.path.now c.walk-end.result c.walk-end.result gives c.walk-end.ensures.end refl in
    let is : first_answer (unlink_rows run (walk run.sub c.args.path.now)) ≡ Some c.in-Some.answer = ap (λ (end : WalkEnd). first_answer (unlink_rows run end)) at ∙ sym (c.in-Some.ensures run gives) in
    refused c.args.table.now c.args.sub.now run (unlink_rows run (walk run.sub c.args.path.now)) (removal_done run (walk run.sub c.args.path.now)) c.in-Some.answer (most_for (gone_with run.sub (walk run.sub c.args.path.now))) gives is

pub drop_name-requires-clause-may : goal.drop_name-requires-clause-may
drop_name-requires-clause-may c =
    let g = c.requires.given in
    let run = g.0 in
    let n : FlatName = name_of c.entry_held.result in
    let named : AtSlot c.in-Taken.dir c.in-Taken.name.now (Some (name_held c.in-Taken.dir c.in-Taken.name.now c.in-Taken.held)) ≡ AtSlot c.in-Taken.dir c.in-Taken.name.now (Some n) = ap (λ (m : FlatName). AtSlot c.in-Taken.dir c.in-Taken.name.now (Some m)) (sym c.entry_held.ensures) in
    let at = place_is c.args.table.now c.args.sub.now run c.args.path.now c.walk-end.result _ g.1 c.walk-end.ensures.end c.in-Taken.is ∙ named in
    let none = subst (λ (end : WalkEnd). first_answer (unlink_rows run end) ≡ None) (ap end_view c.in-Taken.is ∙ named) (sym (c.unlink_refusal.ensures run g.1) ∙ c.in_default.is) in
    let may = unlink_may run g.1.sound c.args.path.now c.in-Taken.dir c.in-Taken.name.now n at none in
    let room = removal_room run g.1.sound c.args.path.now c.in-Taken.dir c.in-Taken.name.now n at c.args.table.now c.args.sub.now g.1 (unlink run c.args.path.now)
    (unlink_is run g.1.sound c.args.path.now c.in-Taken.dir c.in-Taken.name.now n at none) g.2 in
    (run.sub, g.1.gives, may, room)

pub returns : goal.returns
returns c = λ run gives.
    let n : FlatName = name_of c.entry_held.result in
    let named : AtSlot c.in-Taken.dir c.in-Taken.name.now (Some (name_held c.in-Taken.dir c.in-Taken.name.now c.in-Taken.held)) ≡ AtSlot c.in-Taken.dir c.in-Taken.name.now (Some n) = ap (λ (m : FlatName). AtSlot c.in-Taken.dir c.in-Taken.name.now (Some m)) (sym c.entry_held.ensures) in
    let at = place_is c.args.table.now c.args.sub.now run c.args.path.now c.walk-end.result _ gives c.walk-end.ensures.end c.in-Taken.is ∙ named in
    let none = subst (λ (end : WalkEnd). first_answer (unlink_rows run end) ≡ None) (ap end_view c.in-Taken.is ∙ named) (sym (c.unlink_refusal.ensures run gives) ∙ c.in_default.is) in
    let may = unlink_may run gives.sound c.args.path.now c.in-Taken.dir c.in-Taken.name.now n at none in
    removal_operated run gives.sound c.args.path.now c.in-Taken.dir c.in-Taken.name.now n at c.args.table.now c.args.sub.now gives (unlink run c.args.path.now)
    (unlink_is run gives.sound c.args.path.now c.in-Taken.dir c.in-Taken.name.now n at none) c.drop_name.new.table c.drop_name.new.sub (unlink_sound run gives.sound c.args.path.now)
    (c.drop_name.ensures.made run.sub gives.gives may) c.drop_name.ensures.next_ino c.drop_name.ensures.next_index
