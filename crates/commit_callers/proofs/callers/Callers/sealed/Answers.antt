use Rattle.std.proofs.Common.{refl}
use Rattle.commit_history.specs.declared.event.Event.TheVariants as event
use Rattle.commit_history.specs.Calls.{call_of}
use Rattle.commit_history.specs.Effects.{after, state_of}
use Rattle.commit_callers.proofs.Behind.{goes_on}
use Rattle.commit_callers.proofs.Known.{sealed_known}
use Rattle.commit_callers.proofs.Quiet.{sealed_quiet}
use Rattle.commit_callers.proofs.callers.Callers.sealed.Goals as goal

pub returns : goal.returns
unfolding after
returns c = λ volume events may goes.
    let state = state_of volume events in
    let by = c.args.caller in
    goes_on _ volume events (event.SealFull by)
    goes.wants
    (record { holder = refl; wants = goes.wants; own = may.wanted })
    (sealed_quiet state goes.quiet by)
    (λ caller. sealed_known state c.args.self.now.covered by caller (call_of volume events caller) (goes.calls caller) may.wanted)
