use Rattle.std.proofs.Common.{◌≡◌, ◌+◌, [], ◌∷◌, Some, None, refl, sym, ◌∙◌}
use Rattle.std.specs.Option.{unwrap_or}
use Rattle.flat_model.specs.declared.answer.Answer.TheVariants.{Collide}
use Rattle.flat_model.specs.Operations.{do_collide, exchange, exchange_done, exchange_rows, exchange_tests, first_answer, names_without, new_name}
use Rattle.flat_model.specs.Walk.{ino_at, walk}
use Rattle.name_walk.specs.Ends.{end_view}
use Rattle.name_ops.specs.Slots.{at_name}
use Rattle.name_items.specs.Names.{name_of}
use Rattle.name_ops.proofs.Exchanged.{both_held}
use Rattle.name_ops.proofs.Answered.{place_is, refused, rows_ahead}
use Rattle.name_ops.proofs.exchanging.exchange.Goals as goal

pub returns-in-Some : goal.returns-in-Some
unfolding exchange
returns-in-Some c = λ run gives.
    let from = place_is c.args.table.now c.args.sub.now run c.args.one.now c.walk-first.result c.walk-first.result gives c.walk-first.ensures.end refl in
    let to = place_is c.args.table.now c.args.sub.now run c.args.two.now c.walk-second.result c.walk-second.result gives c.walk-second.ensures.end refl in
    let first = walk run.sub c.args.one.now in
    let second = walk run.sub c.args.two.now in
    let left = names_without (names_without run.sub.names first) second in
    let made = new_name left first c.args.sub.now.next_index (unwrap_or (ino_at second) 0) ∷ new_name left second (c.args.sub.now.next_index + 1) (unwrap_or (ino_at first) 0) ∷ [] in
    let tests : first_answer (exchange_tests run c.args.one.now c.args.two.now first second) ≡ Some c.in-Some.answer =
    (λ i. first_answer (exchange_tests run c.args.one.now c.args.two.now (from i) (to i))) ∙ sym (c.in-Some.ensures run gives.next_index) in
    refused c.args.table.now c.args.sub.now run (exchange_rows run c.args.one.now c.args.two.now first second left made) (exchange_done run left made) c.in-Some.answer 512 gives
    (rows_ahead (exchange_tests run c.args.one.now c.args.two.now first second) ((do_collide left made, Collide) ∷ []) c.in-Some.answer tests)

pub exchange_names-requires-clause-given : goal.exchange_names-requires-clause-given
exchange_names-requires-clause-given c =
    let g = c.requires.given in
    let a = name_of c.in-Some-Some.first in
    let b = name_of c.in-Some-Some.second in
    let from : walk g.0.sub c.args.one.now ≡ at_name a = place_is c.args.table.now c.args.sub.now g.0 c.args.one.now c.walk-first.result c.walk-first.result g.1 c.walk-first.ensures.end refl ∙ c.in-Some-Some.ensures in
    let to : walk g.0.sub c.args.two.now ≡ at_name b = place_is c.args.table.now c.args.sub.now g.0 c.args.two.now c.walk-second.result c.walk-second.result g.1 c.walk-second.ensures.end refl ∙ c.in-Some-Some.ensures' in
    let same : first_answer (exchange_tests g.0 c.args.one.now c.args.two.now (end_view c.walk-first.result) (end_view c.walk-second.result)) ≡ first_answer (exchange_tests g.0 c.args.one.now c.args.two.now (at_name a) (at_name b)) =
    λ i. first_answer (exchange_tests g.0 c.args.one.now c.args.two.now (c.in-Some-Some.ensures i) (c.in-Some-Some.ensures' i)) in
    (g.0, g.1, from, to, sym same ∙ sym (c.exchange_answer.ensures g.0 g.1.next_index) ∙ c.in_default.is)

pub unreachable-requires : goal.unreachable-requires
unreachable-requires c =
    let g = c.requires.given in
    let from = place_is c.args.table.now c.args.sub.now g.0 c.args.one.now c.walk-first.result c.walk-first.result g.1 c.walk-first.ensures.end refl in
    let to = place_is c.args.table.now c.args.sub.now g.0 c.args.two.now c.walk-second.result c.walk-second.result g.1 c.walk-second.ensures.end refl in
    let none : first_answer (exchange_tests g.0 c.args.one.now c.args.two.now (walk g.0.sub c.args.one.now) (walk g.0.sub c.args.two.now)) ≡ None = (λ i. first_answer (exchange_tests g.0 c.args.one.now c.args.two.now (from i) (to i))) ∙ sym (c.exchange_answer.ensures g.0 g.1.next_index) ∙ c.in_default.is in
    let held = both_held g.0 c.args.one.now c.args.two.now none in
    c.in_default-None.ensures held.1.0 (sym to ∙ held.1.1)

pub unreachable-requires-in-None-default : goal.unreachable-requires-in-None-default
unreachable-requires-in-None-default c =
    let g = c.requires.given in
    let from = place_is c.args.table.now c.args.sub.now g.0 c.args.one.now c.walk-first.result c.walk-first.result g.1 c.walk-first.ensures.end refl in
    let to = place_is c.args.table.now c.args.sub.now g.0 c.args.two.now c.walk-second.result c.walk-second.result g.1 c.walk-second.ensures.end refl in
    let none : first_answer (exchange_tests g.0 c.args.one.now c.args.two.now (walk g.0.sub c.args.one.now) (walk g.0.sub c.args.two.now)) ≡ None = (λ i. first_answer (exchange_tests g.0 c.args.one.now c.args.two.now (from i) (to i))) ∙ sym (c.exchange_answer.ensures g.0 g.1.next_index) ∙ c.in_default.is in
    let held = both_held g.0 c.args.one.now c.args.two.now none in
    c.in-None-default.ensures held.0.0 (sym from ∙ held.0.1)
