use Rattle.std.proofs.Common.{◌≡◌, ◌⊎◌, ℕ, length, inl, inr, refl, sym, subst, ◌∙◌}
use Rattle.call_steps.specs.declared.next.Next.{Next}
use Rattle.call_steps.specs.declared.next.Next.TheVariants as nexts
use Rattle.call_steps.specs.Steps.{IsLast}
use Rattle.commit_core.specs.declared.work.Work.{Work}
use Rattle.commit_history.specs.declared.event.Turn.{Turn}
use Rattle.flat_model.specs.declared.answer.Answer.{Answer}
use Rattle.volume_calls.specs.Calls.{IsLeft}
use Rattle.volume_calls.proofs.Begun.{at_err, left_under}
use Rattle.volume_calls.proofs.Retrying.{again_answered, again_finished, again_may_step, again_no_other}
use Rattle.volume_calls.proofs.turns.try_again.Goals as goal

no_answer : (did : Next) → (did ≡ nexts.Moved) ⊎ ((work : Work) × (did ≡ nexts.Work work)) ⊎ ((turn : Turn) × (holder : ℕ) × (did ≡ nexts.Waits turn holder)) → (answer : Answer) → did ≡ nexts.Finished answer → ⊥
no_answer did (inl moved) answer same = absurd (let both : nexts.Moved ≡ nexts.Finished answer = sym moved ∙ same in cc)
no_answer did (inr (inl work)) answer same = absurd (let both : nexts.Work work.0 ≡ nexts.Finished answer = sym work.1 ∙ same in cc)
no_answer did (inr (inr waits)) answer same = absurd (let both : nexts.Waits waits.0 waits.1 ≡ nexts.Finished answer = sym waits.2 ∙ same in cc)

pub step-requires-clause-may : goal.step-requires-clause-may
step-requires-clause-may g c =
    let may = c.requires.may in
    (may.2, may.4.scene, may.6.under.has, again_may_step (g.C.Core.has c.args.core.now) (g.C.Core.size c.args.core.now) (length (g.C.Core.in_use c.args.core.now)) (g.C.Core.marks c.args.core.now) may.0 may.1 may.2 c.args.call may.3 may.4 may.5 may.6 (g.C.Core.out c.args.core.now))

pub unreachable-requires : goal.unreachable-requires
unreachable-requires g c =
    let may = c.requires.may in
    let stepped = c.in_ok-answer.ensures.stepped may.2 may.4.scene may.6.under.has (again_may_step (g.C.Core.has c.args.core.now) (g.C.Core.size c.args.core.now) (length (g.C.Core.in_use c.args.core.now)) (g.C.Core.marks c.args.core.now) may.0 may.1 may.2 c.args.call may.3 may.4 may.5 may.6 (g.C.Core.out c.args.core.now)) in
    again_no_other (g.C.Core.has c.args.core.now) (g.C.Core.size c.args.core.now) (length (g.C.Core.in_use c.args.core.now)) (g.C.Core.marks c.args.core.now) may.0 may.1 may.2 c.args.call may.3 may.4 may.5 may.6 (g.C.Core.has c.step.new.core) _ c.step.new.self _ _ c.in_ok-answer.field-0 (no_answer c.in_ok-answer.field-0 c.in-Moved.is) stepped

pub returns-clause-called : goal.returns-clause-called
returns-clause-called g c = λ device count mounted at now happenings may.
    let stepped = c.in_ok-answer.ensures.stepped mounted now.scene may.under.has (again_may_step (g.C.Core.has c.args.core.now) (g.C.Core.size c.args.core.now) (length (g.C.Core.in_use c.args.core.now)) (g.C.Core.marks c.args.core.now) device count mounted c.args.call at now happenings may (g.C.Core.out c.args.core.now)) in
    let answered = again_finished (g.C.Core.has c.args.core.now) (g.C.Core.size c.args.core.now) (length (g.C.Core.in_use c.args.core.now)) (g.C.Core.marks c.args.core.now) device count mounted c.args.call at now happenings may (g.C.Core.has c.step.new.core) _ c.step.new.self _ _ c.in-Finished.answer c.in_ok-answer.field-0 c.in-Finished.is stepped in
    again_answered (g.C.Core.has c.args.core.now) (g.C.Core.size c.args.core.now) (length (g.C.Core.in_use c.args.core.now)) (g.C.Core.marks c.args.core.now) device count mounted c.args.call at now happenings may (g.C.Core.has c.step.new.core) (g.C.Core.size c.step.new.core) (g.C.Core.marks c.step.new.core) c.step.new.self _ _ c.in-Finished.answer c.step.ensures.size c.step.ensures.marks refl (c.in_ok-answer.ensures.finished.1 (subst IsLast (sym c.in-Finished.is) tt)) answered

pub returns-in_err-answer-clause-left : goal.returns-in_err-answer-clause-left
returns-in_err-answer-clause-left g c = λ device count mounted at now happenings is.
    at_err c.from_residual.result (λ x. IsLeft mounted c.args.call.caller c.args.call.request at x) (λ x. g.C.Core.has c.step.new.core mounted x.scene)
    (λ x. x.told ≡ now.told) (λ x. x.faults ≡ now.faults) now
    (left_under (g.C.Core.has c.args.core.now) (g.C.Core.size c.args.core.now) device count mounted c.args.call at now happenings is.under)
    (c.in_err-answer.ensures.memory mounted now.scene is.under.has) refl refl
