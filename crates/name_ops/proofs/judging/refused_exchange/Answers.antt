use Rattle.std.proofs.Common.{◌≡◌, ◌+◌, None, refl, sym, ◌∙◌}
use Rattle.flat_model.specs.Operations.{exchange_tests, first_answer}
use Rattle.flat_model.specs.Walk.{walk}
use Rattle.name_walk.specs.Ends.{end_view}
use Rattle.name_ops.specs.Slots.{at_name}
use Rattle.name_items.specs.Names.{name_of}
use Rattle.name_ops.proofs.Exchanged.{both_held}
use Rattle.name_ops.proofs.Answered.{place_is}
use Rattle.name_ops.proofs.Judged.{exchange_tested}
use Rattle.name_ops.proofs.judging.refused_exchange.Goals as goal

pub returns-in-Some : goal.returns-in-Some
returns-in-Some c = λ run gives.
    let from = place_is c.args.table.now c.args.sub.now run c.args.one.now c.walk-first.result c.walk-first.result gives c.walk-first.ensures.end refl in
    let to = place_is c.args.table.now c.args.sub.now run c.args.two.now c.walk-second.result c.walk-second.result gives c.walk-second.ensures.end refl in
    c.as_refusal.ensures ∙ exchange_tested run c.args.one.now c.args.two.now c.args.sub.now.next_index (c.args.sub.now.next_index + 1) (end_view c.walk-first.result) (end_view c.walk-second.result) from to c.in-Some.answer (sym (c.in-Some.ensures run gives.next_index))

pub exchange_collision-requires-clause-given : goal.exchange_collision-requires-clause-given
exchange_collision-requires-clause-given c =
    let g = c.requires.given in
    let a = name_of c.in-Some-Some.first in
    let b = name_of c.in-Some-Some.second in
    let from : walk g.0.sub c.args.one.now ≡ at_name a = place_is c.args.table.now c.args.sub.now g.0 c.args.one.now c.walk-first.result c.walk-first.result g.1 c.walk-first.ensures.end refl ∙ c.in-Some-Some.ensures in
    let to : walk g.0.sub c.args.two.now ≡ at_name b = place_is c.args.table.now c.args.sub.now g.0 c.args.two.now c.walk-second.result c.walk-second.result g.1 c.walk-second.ensures.end refl ∙ c.in-Some-Some.ensures' in
    let same : first_answer (exchange_tests g.0 c.args.one.now c.args.two.now (end_view c.walk-first.result) (end_view c.walk-second.result)) ≡ first_answer (exchange_tests g.0 c.args.one.now c.args.two.now (at_name a) (at_name b)) =
    λ i. first_answer (exchange_tests g.0 c.args.one.now c.args.two.now (c.in-Some-Some.ensures i) (c.in-Some-Some.ensures' i)) in
    (g.0, g.1, from, to, sym same ∙ sym (c.exchange_answer.ensures g.0 g.1.next_index) ∙ c.in_default.is)

pub unreachable-requires : goal.unreachable-requires
unreachable-requires c =
    let g = c.requires.given in
    let from = place_is c.args.table.now c.args.sub.now g.0 c.args.one.now c.walk-first.result c.walk-first.result g.1 c.walk-first.ensures.end refl in
    let to = place_is c.args.table.now c.args.sub.now g.0 c.args.two.now c.walk-second.result c.walk-second.result g.1 c.walk-second.ensures.end refl in
    let none : first_answer (exchange_tests g.0 c.args.one.now c.args.two.now (walk g.0.sub c.args.one.now) (walk g.0.sub c.args.two.now)) ≡ None = (λ i. first_answer (exchange_tests g.0 c.args.one.now c.args.two.now (from i) (to i))) ∙ sym (c.exchange_answer.ensures g.0 g.1.next_index) ∙ c.in_default.is in
    let held = both_held g.0 c.args.one.now c.args.two.now none in
    c.in_default-None.ensures held.1.0 (sym to ∙ held.1.1)

pub unreachable-requires-in-None-default : goal.unreachable-requires-in-None-default
unreachable-requires-in-None-default c =
    let g = c.requires.given in
    let from = place_is c.args.table.now c.args.sub.now g.0 c.args.one.now c.walk-first.result c.walk-first.result g.1 c.walk-first.ensures.end refl in
    let to = place_is c.args.table.now c.args.sub.now g.0 c.args.two.now c.walk-second.result c.walk-second.result g.1 c.walk-second.ensures.end refl in
    let none : first_answer (exchange_tests g.0 c.args.one.now c.args.two.now (walk g.0.sub c.args.one.now) (walk g.0.sub c.args.two.now)) ≡ None = (λ i. first_answer (exchange_tests g.0 c.args.one.now c.args.two.now (from i) (to i))) ∙ sym (c.exchange_answer.ensures g.0 g.1.next_index) ∙ c.in_default.is in
    let held = both_held g.0 c.args.one.now c.args.two.now none in
    c.in-None-default.ensures held.0.0 (sym from ∙ held.0.1)

pub returns : goal.returns
returns c = λ run gives.
    let a = name_of c.in-Some-Some.first in
    let b = name_of c.in-Some-Some.second in
    let from : walk run.sub c.args.one.now ≡ at_name a = place_is c.args.table.now c.args.sub.now run c.args.one.now c.walk-first.result c.walk-first.result gives c.walk-first.ensures.end refl ∙ c.in-Some-Some.ensures in
    let to : walk run.sub c.args.two.now ≡ at_name b = place_is c.args.table.now c.args.sub.now run c.args.two.now c.walk-second.result c.walk-second.result gives c.walk-second.ensures.end refl ∙ c.in-Some-Some.ensures' in
    let same : first_answer (exchange_tests run c.args.one.now c.args.two.now (end_view c.walk-first.result) (end_view c.walk-second.result)) ≡ first_answer (exchange_tests run c.args.one.now c.args.two.now (at_name a) (at_name b)) =
    λ i. first_answer (exchange_tests run c.args.one.now c.args.two.now (c.in-Some-Some.ensures i) (c.in-Some-Some.ensures' i)) in
    c.exchange_collision.ensures run gives from to (sym same ∙ sym (c.exchange_answer.ensures run gives.next_index) ∙ c.in_default.is)
