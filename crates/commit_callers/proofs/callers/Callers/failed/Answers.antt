use Rattle.std.proofs.Common.{Some, None, ap, cond, sym, subst, ◌∙◌}
use Rattle.std.proofs.lemmas.Bool.{eq-eqb}
use Rattle.commit_history.specs.declared.event.Event.TheVariants as event
use Rattle.commit_history.specs.declared.event.Turn.TheVariants as turns
use Rattle.commit_history.specs.Calls.{call_of}
use Rattle.commit_history.specs.Effects.{after, full_without, state_of, without}
use Rattle.commit_callers.specs.GoWith.{Runs}
use Rattle.commit_callers.proofs.Behind.{goes_on}
use Rattle.commit_callers.proofs.Known.{failed_known}
use Rattle.commit_callers.proofs.Quiet.{failed_quiet}
use Rattle.commit_callers.proofs.callers.Callers.failed.Goals as goal

pub returns : goal.returns
unfolding after
returns c = λ volume events tried holds goes.
    let state = state_of volume events in
    let by = c.args.caller in
    goes_on _ volume events (event.Failed by turns.Full tried)
    (c.remove.ensures ∙ ap (λ wants. without wants by) goes.wants)
    (subst (λ full. Runs None (full_without full by)) (sym holds.runs) (subst (λ own. Runs None (cond own None (Some holds.commit))) (sym (eq-eqb holds.commit.holder by holds.own)) tt))
    (failed_quiet state goes.quiet by tried)
    (λ caller. failed_known state c.args.self.now.covered by caller (call_of volume events caller) (goes.calls caller) tried)
