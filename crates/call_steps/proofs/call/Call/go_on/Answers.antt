use Rattle.std.proofs.Common.{sym, ◌∙◌}
use Rattle.commit_core.specs.Coming.{call_in}
use Rattle.call_steps.proofs.Turns.{waiting_wants}
use Rattle.call_steps.proofs.Wanting.{is_full, not_full, want_unfinished}
use Rattle.call_steps.proofs.call.Call.go_on.Goals as goal

pub end_covered-requires-clause-may : goal.end_covered-requires-clause-may
end_covered-requires-clause-may g c =
    let may = c.requires.may in
    let call = c.args.self.now in
    (may.0, may.1, may.2, may.3, sym (c.cover.ensures may.0 may.1 may.2 (want_unfinished call.request (call_in may.0 may.1 call.caller) (waiting_wants may.0 may.1 call may.3.at c.requires.wants))) ∙ is_full c.cover.result (sym c.eq.ensures ∙ c.if-eq.true))

pub seal_or_wait-requires-clause-may : goal.seal_or_wait-requires-clause-may
seal_or_wait-requires-clause-may g c =
    let may = c.requires.may in
    let call = c.args.self.now in
    (may.0, may.1, may.2, may.3, λ full. not_full c.cover.result (sym c.eq.ensures ∙ c.if-eq.false) (c.cover.ensures may.0 may.1 may.2 (want_unfinished call.request (call_in may.0 may.1 call.caller) (waiting_wants may.0 may.1 call may.3.at c.requires.wants)) ∙ full))

pub returns-then-eq-clause-stepped : goal.returns-then-eq-clause-stepped
returns-then-eq-clause-stepped g c mounted scene has may =
    let call = c.args.self.now in
    c.end_covered.ensures.stepped mounted scene has may (sym (c.cover.ensures mounted scene has (want_unfinished call.request (call_in mounted scene call.caller) (waiting_wants mounted scene call may.at c.requires.wants))) ∙ is_full c.cover.result (sym c.eq.ensures ∙ c.if-eq.true))

pub returns-else-eq-clause-stepped : goal.returns-else-eq-clause-stepped
returns-else-eq-clause-stepped g c mounted scene has may =
    let call = c.args.self.now in
    c.seal_or_wait.ensures.stepped mounted scene has may (λ full. not_full c.cover.result (sym c.eq.ensures ∙ c.if-eq.false) (c.cover.ensures mounted scene has (want_unfinished call.request (call_in mounted scene call.caller) (waiting_wants mounted scene call may.at c.requires.wants)) ∙ full))
