use Rattle.std.proofs.Common.{◌≡◌, ℕ, length, sym, subst, inl, inr}
use Rattle.flat_model.specs.declared.answer.Answer.{Answer}
use Rattle.flat_model.specs.declared.request.Request.{Request}
use Rattle.std.specs.Prelude.{IfOk, OnErr}
use Rattle.call_steps.specs.Steps.{IsLast}
use Rattle.volume_calls.specs.Between.{Between, IsBetween}
use Rattle.volume_calls.specs.Calls.{IsCalled, IsLeft}
use Rattle.volume_calls.proofs.Ended.{at_few, at_finished, at_moved, back_answered, back_may_step, back_moved, no_wait, no_work}
use Rattle.volume_calls.proofs.turns.end.Goals as goal

pub step-requires-clause-may : goal.step-requires-clause-may
step-requires-clause-may g c =
    let back = c.requires.back in
    (back.2, back.4.scene, back.6.under.has, back_may_step (g.C.Core.has c.args.core.now) (g.C.Core.out c.args.core.now) (g.C.Core.size c.args.core.now) (g.C.Core.marks c.args.core.now) back.0 back.1 back.2 c.args.call back.3 back.4 back.5 c.args.outcome back.6)

pub try_again-requires-clause-may : goal.try_again-requires-clause-may
try_again-requires-clause-may g c =
    let back = c.requires.back in
    let stepped = c.in_ok-answer.ensures.stepped back.2 back.4.scene back.6.under.has (back_may_step (g.C.Core.has c.args.core.now) (g.C.Core.out c.args.core.now) (g.C.Core.size c.args.core.now) (g.C.Core.marks c.args.core.now) back.0 back.1 back.2 c.args.call back.3 back.4 back.5 c.args.outcome back.6) in
    let moved = at_moved (g.C.Core.has c.args.core.now) (g.C.Core.out c.args.core.now) (g.C.Core.size c.args.core.now) (g.C.Core.marks c.args.core.now) back.0 back.1 back.2 c.args.call back.3 back.4 back.5 c.args.outcome back.6 (g.C.Core.has c.step.new.core) _ c.step.new.self _ _ c.in_ok-answer.field-0 c.in-Moved.is stepped in
    let few = at_few (g.C.Core.has c.args.core.now) (g.C.Core.out c.args.core.now) (g.C.Core.size c.args.core.now) (g.C.Core.marks c.args.core.now) back.0 back.1 back.2 c.args.call back.3 back.4 back.5 c.args.outcome back.6 _ c.in_ok-answer.field-0 c.in-Moved.is
    (c.in_ok-answer.ensures.few back.2 back.4.scene back.6.under.has (back_may_step (g.C.Core.has c.args.core.now) (g.C.Core.out c.args.core.now) (g.C.Core.size c.args.core.now) (g.C.Core.marks c.args.core.now) back.0 back.1 back.2 c.args.call back.3 back.4 back.5 c.args.outcome back.6) back.6.just) in
    (back.0, back.1, back.2, back.3, _, _, back_moved (g.C.Core.has c.args.core.now) (g.C.Core.out c.args.core.now) (g.C.Core.size c.args.core.now) (g.C.Core.marks c.args.core.now) back.0 back.1 back.2 c.args.call back.3 back.4 back.5 c.args.outcome back.6 (g.C.Core.has c.step.new.core) (g.C.Core.size c.step.new.core) (length (g.C.Core.in_use c.step.new.core)) (g.C.Core.marks c.step.new.core) c.step.new.self c.step.ensures.size c.step.ensures.marks c.step.ensures.caller c.step.ensures.request moved few)

pub unreachable-requires : goal.unreachable-requires
unreachable-requires g c =
    let back = c.requires.back in
    let stepped = c.in_ok-answer.ensures.stepped back.2 back.4.scene back.6.under.has (back_may_step (g.C.Core.has c.args.core.now) (g.C.Core.out c.args.core.now) (g.C.Core.size c.args.core.now) (g.C.Core.marks c.args.core.now) back.0 back.1 back.2 c.args.call back.3 back.4 back.5 c.args.outcome back.6) in
    elim c.in-Work.is [
      | inl work ↦ no_work (g.C.Core.has c.args.core.now) (g.C.Core.out c.args.core.now) (g.C.Core.size c.args.core.now) (g.C.Core.marks c.args.core.now) back.0 back.1 back.2 c.args.call back.3 back.4 back.5 c.args.outcome back.6 (g.C.Core.has c.step.new.core) _ c.step.new.self _ _ work.0 c.in_ok-answer.field-0 work.1 stepped
      | inr waits ↦ no_wait (g.C.Core.has c.args.core.now) (g.C.Core.out c.args.core.now) (g.C.Core.size c.args.core.now) (g.C.Core.marks c.args.core.now) back.0 back.1 back.2 c.args.call back.3 back.4 back.5 c.args.outcome back.6 (g.C.Core.has c.step.new.core) _ c.step.new.self _ _ waits.0 waits.1 c.in_ok-answer.field-0 waits.2 stepped
    ]

pub returns-in-Finished-clause-called : goal.returns-in-Finished-clause-called
returns-in-Finished-clause-called g c = λ device count mounted at now happenings back.
    let stepped = c.in_ok-answer.ensures.stepped mounted now.scene back.under.has (back_may_step (g.C.Core.has c.args.core.now) (g.C.Core.out c.args.core.now) (g.C.Core.size c.args.core.now) (g.C.Core.marks c.args.core.now) device count mounted c.args.call at now happenings c.args.outcome back) in
    let answered = at_finished (g.C.Core.has c.args.core.now) (g.C.Core.out c.args.core.now) (g.C.Core.size c.args.core.now) (g.C.Core.marks c.args.core.now) device count mounted c.args.call at now happenings c.args.outcome back (g.C.Core.has c.step.new.core) _ c.step.new.self _ _ c.in-Finished.answer c.in_ok-answer.field-0 c.in-Finished.is stepped in
    back_answered (g.C.Core.has c.args.core.now) (g.C.Core.out c.args.core.now) (g.C.Core.size c.args.core.now) (g.C.Core.marks c.args.core.now) device count mounted c.args.call at now happenings c.args.outcome back (g.C.Core.has c.step.new.core) (g.C.Core.size c.step.new.core) (g.C.Core.marks c.step.new.core) c.step.new.self _ _ c.in-Finished.answer c.step.ensures.size c.step.ensures.marks (c.in_ok-answer.ensures.finished.1 (subst IsLast (sym c.in-Finished.is) tt)) answered

pub returns-in-Moved-clause-called : goal.returns-in-Moved-clause-called
returns-in-Moved-clause-called g c = λ device count mounted at now happenings back.
    let stepped = c.in_ok-answer.ensures.stepped mounted now.scene back.under.has (back_may_step (g.C.Core.has c.args.core.now) (g.C.Core.out c.args.core.now) (g.C.Core.size c.args.core.now) (g.C.Core.marks c.args.core.now) device count mounted c.args.call at now happenings c.args.outcome back) in
    let moved = at_moved (g.C.Core.has c.args.core.now) (g.C.Core.out c.args.core.now) (g.C.Core.size c.args.core.now) (g.C.Core.marks c.args.core.now) device count mounted c.args.call at now happenings c.args.outcome back (g.C.Core.has c.step.new.core) _ c.step.new.self _ _ c.in_ok-answer.field-0 c.in-Moved.is stepped in
    let few = at_few (g.C.Core.has c.args.core.now) (g.C.Core.out c.args.core.now) (g.C.Core.size c.args.core.now) (g.C.Core.marks c.args.core.now) device count mounted c.args.call at now happenings c.args.outcome back _ c.in_ok-answer.field-0 c.in-Moved.is
    (c.in_ok-answer.ensures.few mounted now.scene back.under.has (back_may_step (g.C.Core.has c.args.core.now) (g.C.Core.out c.args.core.now) (g.C.Core.size c.args.core.now) (g.C.Core.marks c.args.core.now) device count mounted c.args.call at now happenings c.args.outcome back) back.just) in
    let committed = back_moved (g.C.Core.has c.args.core.now) (g.C.Core.out c.args.core.now) (g.C.Core.size c.args.core.now) (g.C.Core.marks c.args.core.now) device count mounted c.args.call at now happenings c.args.outcome back (g.C.Core.has c.step.new.core) (g.C.Core.size c.step.new.core) (length (g.C.Core.in_use c.step.new.core)) (g.C.Core.marks c.step.new.core) c.step.new.self c.step.ensures.size c.step.ensures.marks c.step.ensures.caller c.step.ensures.request moved few in
    let P : ℕ → Request → Answer → Type 0 = λ caller request answer. (later : Between) × IsCalled mounted caller request answer at later
    × IsBetween (g.C.Core.has c.try_again.new.core) (g.C.Core.size c.try_again.new.core) (g.C.Core.marks c.try_again.new.core) device count mounted later × (later.told ≡ now.told) × (later.faults ≡ now.faults) in
    subst (λ (caller : ℕ). IfOk c.try_again.result (P caller c.args.call.request)) c.step.ensures.caller
    (subst (λ (request : Request). IfOk c.try_again.result (P c.step.new.self.caller request)) c.step.ensures.request
    (c.try_again.ensures.called device count mounted at _ _ committed))

pub returns-in-Moved-clause-left : goal.returns-in-Moved-clause-left
returns-in-Moved-clause-left g c = λ device count mounted at now happenings back.
    let stepped = c.in_ok-answer.ensures.stepped mounted now.scene back.under.has (back_may_step (g.C.Core.has c.args.core.now) (g.C.Core.out c.args.core.now) (g.C.Core.size c.args.core.now) (g.C.Core.marks c.args.core.now) device count mounted c.args.call at now happenings c.args.outcome back) in
    let moved = at_moved (g.C.Core.has c.args.core.now) (g.C.Core.out c.args.core.now) (g.C.Core.size c.args.core.now) (g.C.Core.marks c.args.core.now) device count mounted c.args.call at now happenings c.args.outcome back (g.C.Core.has c.step.new.core) _ c.step.new.self _ _ c.in_ok-answer.field-0 c.in-Moved.is stepped in
    let few = at_few (g.C.Core.has c.args.core.now) (g.C.Core.out c.args.core.now) (g.C.Core.size c.args.core.now) (g.C.Core.marks c.args.core.now) device count mounted c.args.call at now happenings c.args.outcome back _ c.in_ok-answer.field-0 c.in-Moved.is
    (c.in_ok-answer.ensures.few mounted now.scene back.under.has (back_may_step (g.C.Core.has c.args.core.now) (g.C.Core.out c.args.core.now) (g.C.Core.size c.args.core.now) (g.C.Core.marks c.args.core.now) device count mounted c.args.call at now happenings c.args.outcome back) back.just) in
    let committed = back_moved (g.C.Core.has c.args.core.now) (g.C.Core.out c.args.core.now) (g.C.Core.size c.args.core.now) (g.C.Core.marks c.args.core.now) device count mounted c.args.call at now happenings c.args.outcome back (g.C.Core.has c.step.new.core) (g.C.Core.size c.step.new.core) (length (g.C.Core.in_use c.step.new.core)) (g.C.Core.marks c.step.new.core) c.step.new.self c.step.ensures.size c.step.ensures.marks c.step.ensures.caller c.step.ensures.request moved few in
    let P : ℕ → Request → Type 0 = λ caller request. (later : Between) × IsLeft mounted caller request at later
    × g.C.Core.has c.try_again.new.core mounted later.scene × (later.told ≡ now.told) × (later.faults ≡ now.faults) in
    subst (λ (caller : ℕ). OnErr c.try_again.result (P caller c.args.call.request)) c.step.ensures.caller
    (subst (λ (request : Request). OnErr c.try_again.result (P c.step.new.self.caller request)) c.step.ensures.request
    (c.try_again.ensures.left device count mounted at _ _ committed))
