use Rattle.std.proofs.Common.{◌≡◌, None, refl, sym, ap, subst, ◌∙◌}
use Rattle.flat_model.specs.Operations.{first_answer}
use Rattle.flat_model.specs.Walk.{WalkEnd}
use Rattle.name_walk.specs.Ends.{end_view}
use Rattle.name_ops.specs.Tests.{link_tests}
use Rattle.name_ops.proofs.Answered.{place_is}
use Rattle.name_ops.proofs.Judged.{link_tested}
use Rattle.name_ops.proofs.judging.refused_link.Goals as goal

pub returns-in-Some : goal.returns-in-Some
returns-in-Some c = λ run gives.
    let from = place_is c.args.table.now c.args.sub.now run c.args.old.now c.walk-from.result c.walk-from.result gives c.walk-from.ensures.end refl in
    let to = place_is c.args.table.now c.args.sub.now run c.args.new.now c.walk-to.result c.walk-to.result gives c.walk-to.ensures.end refl in
    link_tested run c.args.old.now c.args.new.now c.args.sub.now.next_index (end_view c.walk-from.result) (end_view c.walk-to.result) from to c.in-Some.answer (sym (c.in-Some.ensures run gives))

pub link_collision-requires-clause-given : goal.link_collision-requires-clause-given
link_collision-requires-clause-given c =
    let g = c.requires.given in
    let from = place_is c.args.table.now c.args.sub.now g.0 c.args.old.now c.walk-from.result c.walk-from.result g.1 c.walk-from.ensures.end refl in
    let to = place_is c.args.table.now c.args.sub.now g.0 c.args.new.now c.walk-to.result _ g.1 c.walk-to.ensures.end c.in-Free.is in
    let none = sym (c.link_refusal.ensures g.0 g.1) ∙ c.in_default.is in
    (g.0, g.1, from, to, subst (λ (end : WalkEnd). first_answer (link_tests g.0 (end_view c.walk-from.result) end) ≡ None) (ap end_view c.in-Free.is) none)

pub returns : goal.returns
returns c = λ run gives.
    let from = place_is c.args.table.now c.args.sub.now run c.args.old.now c.walk-from.result c.walk-from.result gives c.walk-from.ensures.end refl in
    let to = place_is c.args.table.now c.args.sub.now run c.args.new.now c.walk-to.result _ gives c.walk-to.ensures.end c.in-Free.is in
    let none = sym (c.link_refusal.ensures run gives) ∙ c.in_default.is in
    c.link_collision.ensures run gives from to (subst (λ (end : WalkEnd). first_answer (link_tests run (end_view c.walk-from.result) end) ≡ None) (ap end_view c.in-Free.is) none)
