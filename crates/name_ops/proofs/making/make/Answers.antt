use Rattle.std.proofs.Common.{◌≡◌, ◌+◌, [], ◌∷◌, Some, None, refl, sym, ap, subst, ◌∙◌}
use Rattle.flat_model.specs.declared.answer.Answer.TheVariants.{Collide, Exists, NoEnt, NotDir}
use Rattle.flat_model.specs.Operations.{do_collide, first_answer, make, make_done, make_rows, new_name}
use Rattle.flat_model.specs.Walk.{WalkEnd, walk}
use Rattle.name_walk.specs.declared.found.End.{End}
use Rattle.name_walk.specs.Ends.{end_view}
use Rattle.inode_items.specs.Inodes.{new_record}
use Rattle.name_ops.specs.Tests.{make_tests}
use Rattle.name_ops.proofs.Answered.{place_is, refused, rows_ahead}
use Rattle.name_ops.proofs.making.make.Goals as goal

pub returns-in-Some : goal.returns-in-Some
unfolding make
returns-in-Some c = λ run gives.
    let place = place_is c.args.table.now c.args.sub.now run c.args.path.now c.walk-end.result c.walk-end.result gives c.walk-end.ensures.end refl in
    let name = new_name run.sub.names (walk run.sub c.args.path.now) c.args.sub.now.next_index (run.numbers.last_ino + 1) in
    let tests : first_answer (make_tests run (walk run.sub c.args.path.now)) ≡ Some c.in-Some.answer =
    ap (λ (end : WalkEnd). first_answer (make_tests run end)) place ∙ sym (c.in-Some.ensures run gives.next_ino gives.next_index) in
    refused c.args.table.now c.args.sub.now run (make_rows run (walk run.sub c.args.path.now) name) (make_done run (new_record c.args.new) name) c.in-Some.answer 512 gives
    (rows_ahead (make_tests run (walk run.sub c.args.path.now)) ((do_collide run.sub.names (name ∷ []), Collide) ∷ []) c.in-Some.answer tests)

pub make_in_slot-requires-clause-given : goal.make_in_slot-requires-clause-given
make_in_slot-requires-clause-given c =
    let g = c.requires.given in
    let place = place_is c.args.table.now c.args.sub.now g.0 c.args.path.now c.walk-end.result _ g.1 c.walk-end.ensures.end c.in-Free.is in
    let none = sym (c.make_refusal.ensures g.0 g.1.next_ino g.1.next_index) ∙ c.in_default.is in
    (g.0, g.1, place, subst (λ (end : WalkEnd). first_answer (make_tests g.0 end) ≡ None) (ap end_view c.in-Free.is) none)

pub unreachable-requires : goal.unreachable-requires
unreachable-requires c =
    let g = c.requires.given in
    let none = sym (c.make_refusal.ensures g.0 g.1.next_ino g.1.next_index) ∙ c.in_default.is in
    let no_answer : Some Exists ≡ None = ap (λ (end : End). first_answer (make_tests g.0 (end_view end))) (sym c.in-Root.is) ∙ none in
    absurd cc

pub unreachable-requires-in-Taken : goal.unreachable-requires-in-Taken
unreachable-requires-in-Taken c =
    let g = c.requires.given in
    let none = sym (c.make_refusal.ensures g.0 g.1.next_ino g.1.next_index) ∙ c.in_default.is in
    let no_answer : Some Exists ≡ None = ap (λ (end : End). first_answer (make_tests g.0 (end_view end))) (sym c.in-Taken.is) ∙ none in
    absurd cc

pub unreachable-requires-in-Missing : goal.unreachable-requires-in-Missing
unreachable-requires-in-Missing c =
    let g = c.requires.given in
    let none = sym (c.make_refusal.ensures g.0 g.1.next_ino g.1.next_index) ∙ c.in_default.is in
    let no_answer : Some NoEnt ≡ None = ap (λ (end : End). first_answer (make_tests g.0 (end_view end))) (sym c.in-Missing.is) ∙ none in
    absurd cc

pub unreachable-requires-in-Blocked : goal.unreachable-requires-in-Blocked
unreachable-requires-in-Blocked c =
    let g = c.requires.given in
    let none = sym (c.make_refusal.ensures g.0 g.1.next_ino g.1.next_index) ∙ c.in_default.is in
    let no_answer : Some NotDir ≡ None = ap (λ (end : End). first_answer (make_tests g.0 (end_view end))) (sym c.in-Blocked.is) ∙ none in
    absurd cc
