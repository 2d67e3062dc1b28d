use Rattle.std.proofs.Common.{◌≡◌, [], ◌∷◌, Some, None, refl, sym, ap, subst, ◌∙◌}
use Rattle.flat_model.specs.declared.answer.Answer.TheVariants.{Collide}
use Rattle.flat_model.specs.Operations.{do_collide, first_answer, link, link_done, link_rows, new_name}
use Rattle.flat_model.specs.Walk.{WalkEnd, ino_at, walk}
use Rattle.std.specs.Option.{unwrap_or}
use Rattle.name_walk.specs.Ends.{end_view}
use Rattle.name_ops.specs.Tests.{link_tests}
use Rattle.name_ops.proofs.Answered.{place_is, refused, rows_ahead}
use Rattle.name_ops.proofs.linking.link.Goals as goal

pub returns-in-Some : goal.returns-in-Some
unfolding link
returns-in-Some c = λ run gives.
    let from = place_is c.args.table.now c.args.sub.now run c.args.old.now c.walk-from.result c.walk-from.result gives c.walk-from.ensures.end refl in
    let to = place_is c.args.table.now c.args.sub.now run c.args.new.now c.walk-to.result c.walk-to.result gives c.walk-to.ensures.end refl in
    let name = new_name run.sub.names (walk run.sub c.args.new.now) c.args.sub.now.next_index (unwrap_or (ino_at (walk run.sub c.args.old.now)) 0) in
    let tests : first_answer (link_tests run (walk run.sub c.args.old.now) (walk run.sub c.args.new.now)) ≡ Some c.in-Some.answer =
    (λ i. first_answer (link_tests run (from i) (to i))) ∙ sym (c.in-Some.ensures run gives) in
    refused c.args.table.now c.args.sub.now run (link_rows run (walk run.sub c.args.old.now) (walk run.sub c.args.new.now) name) (link_done run name) c.in-Some.answer 512 gives
    (rows_ahead (link_tests run (walk run.sub c.args.old.now) (walk run.sub c.args.new.now)) ((do_collide run.sub.names (name ∷ []), Collide) ∷ []) c.in-Some.answer tests)

pub link_in_slot-requires-clause-given : goal.link_in_slot-requires-clause-given
link_in_slot-requires-clause-given c =
    let g = c.requires.given in
    let from = place_is c.args.table.now c.args.sub.now g.0 c.args.old.now c.walk-from.result c.walk-from.result g.1 c.walk-from.ensures.end refl in
    let to = place_is c.args.table.now c.args.sub.now g.0 c.args.new.now c.walk-to.result _ g.1 c.walk-to.ensures.end c.in-Free.is in
    let none = sym (c.link_refusal.ensures g.0 g.1) ∙ c.in_default.is in
    (g.0, g.1, from, to, subst (λ (end : WalkEnd). first_answer (link_tests g.0 (end_view c.walk-from.result) end) ≡ None) (ap end_view c.in-Free.is) none)
