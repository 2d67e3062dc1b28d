use Rattle.std.proofs.Common.{◌||◌, ℕ, List, Some, None, ap, not, subst, sym, ◌∙◌}
use Rattle.std.specs.Bool.{nat_eq}
use Rattle.std.specs.List.{filter, list_any}
use Rattle.commit_history.specs.declared.event.Event.TheVariants as event
use Rattle.commit_history.specs.Calls.{call_of}
use Rattle.commit_history.specs.Effects.{after, state_of}
use Rattle.commit_callers.specs.Covered.{is_covered_in}
use Rattle.commit_callers.specs.GoWith.{IsRunning, Runs}
use Rattle.commit_callers.proofs.Behind.{goes_on}
use Rattle.commit_callers.proofs.Known.{done_known, leaves_others}
use Rattle.commit_callers.proofs.Quiet.{done_quiet}
use Rattle.commit_callers.proofs.callers.Callers.done.Goals as goal

pub returns-in-Some : goal.returns-in-Some
unfolding after
returns-in-Some c = λ volume events holds go.
    let state = state_of volume events in
    let by = c.args.caller in
    let running = c.in-Some.running in
    let same : IsRunning running holds.commit = subst (Runs (Some running)) holds.runs (subst (λ full. Runs full state.full) (sym c.take.ensures.value ∙ c.in-Some.is) go.full) in
    goes_on _ volume events (event.FullDone by)
    (c.remove_all.ensures ∙ ap (λ wants. filter (λ caller. not (list_any (nat_eq caller) wants)) _) same.wants ∙ ap (filter (λ caller. not (list_any (nat_eq caller) holds.commit.wants))) go.wants
    ∙ leaves_others state holds.commit holds.runs go.quiet.no_ticket)
    (subst (λ full. Runs full None) (sym c.take.ensures.after) tt)
    (done_quiet state go.quiet by)
    (λ caller. done_known state c.args.self.now.covered c.cover.new.self by holds.commit holds.runs go.quiet.no_ticket holds.own same.own
    (λ other from. c.cover.ensures other from ∙ ap (λ (wants : List ℕ). list_any (nat_eq other) wants || is_covered_in c.args.self.now.covered other) same.wants)
    caller (call_of volume events caller) (go.calls caller))
