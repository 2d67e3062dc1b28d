use Rattle.std.proofs.Common.{◌≡◌, Option, Some, None, false, not, ap, sym, refl, ◌∙◌}
use Rattle.std.specs.Bool.{nat_eq}
use Rattle.std.specs.Option.{is_some}
use Rattle.std.proofs.lemmas.Bool.{true≢false}
use Rattle.std.specs.List.{list_any}
use Rattle.logged_volume.proofs.Members.{in_from, in_gives}
use Rattle.commit_history.specs.Effects.{state_of}
use Rattle.commit_history.specs.State.{FullCommit}
use Rattle.commit_callers.specs.declared.callers.Running.{Running}
use Rattle.commit_callers.specs.GoWith.{Runs}
use Rattle.commit_callers.proofs.callers.Callers.may_seal.Goals as goal

-- none runs on either side
none_runs : (full : Option Running) (commit : Option FullCommit) → is_some full ≡ false → Runs full commit → commit ≡ None
none_runs None None none runs = refl
none_runs None (Some commit) none runs = absurd runs
none_runs (Some running) commit none runs = absurd (true≢false none)

pub returns-then-is_none : goal.returns-then-is_none
returns-then-is_none c = λ volume events go.
    let state = state_of volume events in
    let found : c.contains.result ≡ list_any (nat_eq c.args.caller) state.wants = c.contains.ensures ∙ ap (list_any (nat_eq c.args.caller)) go.wants in (
      (λ is. record {
        wanted = in_gives state.wants c.args.caller (sym found ∙ is);
        no_slot_is_busy = go.quiet.no_slot;
        root_is_free = go.quiet.no_root;
        full_is_free = none_runs c.args.self.now.full state.full (c.is_none.ensures ∙ ap not c.if-is_none.true) go.full;
      }),
      (λ may. found ∙ in_from state.wants c.args.caller may.wanted),
    )
