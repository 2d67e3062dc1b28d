use Rattle.std.proofs.Common.{◌≡◌, Some, None, refl, sym, ap, subst, ◌∙◌}
use Rattle.flat_model.specs.declared.answer.Answer.TheVariants.{Exists, NoEnt, NotDir}
use Rattle.flat_model.specs.Operations.{first_answer}
use Rattle.flat_model.specs.Walk.{WalkEnd}
use Rattle.name_walk.specs.declared.found.End.{End}
use Rattle.name_walk.specs.Ends.{end_view}
use Rattle.name_ops.specs.Tests.{make_tests}
use Rattle.name_ops.proofs.Answered.{place_is}
use Rattle.name_ops.proofs.Judged.{make_tested}
use Rattle.name_ops.proofs.judging.refused_make.Goals as goal

pub returns-in-Some : goal.returns-in-Some
returns-in-Some c = λ run inode gives.
    let place = place_is c.args.table.now c.args.sub.now run c.args.path.now c.walk-end.result c.walk-end.result gives c.walk-end.ensures.end refl in
    make_tested run c.args.path.now inode c.args.sub.now.next_index (end_view c.walk-end.result) c.in-Some.answer place (sym (c.in-Some.ensures run gives.next_ino gives.next_index))

pub make_collision-requires-clause-given : goal.make_collision-requires-clause-given
make_collision-requires-clause-given c =
    let g = c.requires.given in
    let place = place_is c.args.table.now c.args.sub.now g.0 c.args.path.now c.walk-end.result _ g.1 c.walk-end.ensures.end c.in-Free.is in
    let none = sym (c.make_refusal.ensures g.0 g.1.next_ino g.1.next_index) ∙ c.in_default.is in
    (g.0, g.1, place, subst (λ (end : WalkEnd). first_answer (make_tests g.0 end) ≡ None) (ap end_view c.in-Free.is) none)

pub unreachable-requires : goal.unreachable-requires
unreachable-requires c =
    let g = c.requires.given in
    let none = sym (c.make_refusal.ensures g.0 g.1.next_ino g.1.next_index) ∙ c.in_default.is in
    let no_answer : Some Exists ≡ None = ap (λ (end : End). first_answer (make_tests g.0 (end_view end))) (sym c.in-Root.is) ∙ none in
    absurd cc

pub unreachable-requires-in-Taken : goal.unreachable-requires-in-Taken
unreachable-requires-in-Taken c =
    let g = c.requires.given in
    let none = sym (c.make_refusal.ensures g.0 g.1.next_ino g.1.next_index) ∙ c.in_default.is in
    let no_answer : Some Exists ≡ None = ap (λ (end : End). first_answer (make_tests g.0 (end_view end))) (sym c.in-Taken.is) ∙ none in
    absurd cc

pub unreachable-requires-in-Missing : goal.unreachable-requires-in-Missing
unreachable-requires-in-Missing c =
    let g = c.requires.given in
    let none = sym (c.make_refusal.ensures g.0 g.1.next_ino g.1.next_index) ∙ c.in_default.is in
    let no_answer : Some NoEnt ≡ None = ap (λ (end : End). first_answer (make_tests g.0 (end_view end))) (sym c.in-Missing.is) ∙ none in
    absurd cc

pub unreachable-requires-in-Blocked : goal.unreachable-requires-in-Blocked
unreachable-requires-in-Blocked c =
    let g = c.requires.given in
    let none = sym (c.make_refusal.ensures g.0 g.1.next_ino g.1.next_index) ∙ c.in_default.is in
    let no_answer : Some NotDir ≡ None = ap (λ (end : End). first_answer (make_tests g.0 (end_view end))) (sym c.in-Blocked.is) ∙ none in
    absurd cc

pub returns : goal.returns
returns c = λ run inode gives.
    let place = place_is c.args.table.now c.args.sub.now run c.args.path.now c.walk-end.result _ gives c.walk-end.ensures.end c.in-Free.is in
    let none = sym (c.make_refusal.ensures run gives.next_ino gives.next_index) ∙ c.in_default.is in
    c.make_collision.ensures run inode gives place (subst (λ (end : WalkEnd). first_answer (make_tests run end) ≡ None) (ap end_view c.in-Free.is) none)
