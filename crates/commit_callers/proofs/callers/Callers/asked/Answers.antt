use Rattle.std.proofs.Common.{ap, ◌∙◌}
use Rattle.commit_history.specs.declared.event.Event.TheVariants as event
use Rattle.commit_history.specs.Calls.{call_of}
use Rattle.commit_history.specs.Effects.{after, state_of, wanting}
use Rattle.commit_callers.proofs.Behind.{goes_on}
use Rattle.commit_callers.proofs.Known.{asked_known}
use Rattle.commit_callers.proofs.Quiet.{asked_quiet}
use Rattle.commit_callers.proofs.callers.Callers.asked.Goals as goal

pub returns : goal.returns
unfolding after
returns c = λ volume events goes.
    let state = state_of volume events in
    let by = c.args.caller in
    goes_on _ volume events (event.Ask by)
    (c.add.ensures ∙ ap (λ wants. wanting wants by) goes.wants)
    goes.full
    (asked_quiet state goes.quiet by)
    (λ caller. asked_known c.args.self.now.covered c.clear.new.self by (record { own = c.clear.ensures.own; others = c.clear.ensures.others }) state.wants state caller (call_of volume events caller) (goes.calls caller))
