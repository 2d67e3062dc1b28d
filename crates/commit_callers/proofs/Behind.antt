-- One event more: what is kept of callers goes with the list that has it, too.
use Rattle.std.proofs.Common.{◌≡◌, ℕ, List, [], ◌∷◌, ◌++◌, refl, sym, subst}
use Rattle.std.proofs.lemmas.List.Sums.{fold-append}
use Rattle.flat_model.specs.Volume.{Volume}
use Rattle.commit_history.specs.declared.event.Event.{Event}
use Rattle.commit_history.specs.Calls.{Call, call_after, call_after_all, call_of}
use Rattle.commit_history.specs.Effects.{after, after_events, state_of}
use Rattle.commit_history.specs.State.{State, mounted_state}
use Rattle.commit_callers.specs.declared.callers.Callers.{Callers}
use Rattle.commit_callers.specs.GoWith.{GoWith, IsKnown, IsQuiet, Runs}
use Rattle.commit_callers.specs.Wants.{callers_in}

call_behind : (state : State) (caller : ℕ) (call : Call) (events : List Event) (e : Event)
    → call_after_all state caller call (events ++ e ∷ []) ≡ call_after (after_events state events) caller (call_after_all state caller call events) e
call_behind state caller call [] e = refl
call_behind state caller call (x ∷ events) e = call_behind (after state x) caller (call_after state caller call x) events e

pub goes_on : (new : Callers) (volume : Volume) (events : List Event) (e : Event)
    → callers_in new.wants ≡ (after (state_of volume events) e).wants
    → Runs new.full (after (state_of volume events) e).full
    → IsQuiet (after (state_of volume events) e)
    → ((caller : ℕ) → IsKnown new.covered (after (state_of volume events) e).wants caller (call_after (state_of volume events) caller (call_of volume events caller) e))
    → GoWith new volume (events ++ e ∷ [])
goes_on new volume events e wants full quiet calls =
    let behind : state_of volume (events ++ e ∷ []) ≡ after (state_of volume events) e = fold-append after (mounted_state volume) events (e ∷ []) in
    record {
      wants = subst (λ (state : State). callers_in new.wants ≡ state.wants) (sym behind) wants;
      full = subst (λ (state : State). Runs new.full state.full) (sym behind) full;
      quiet = subst IsQuiet (sym behind) quiet;
      calls = λ caller.
          subst (λ (state : State). IsKnown new.covered state.wants caller (call_of volume (events ++ e ∷ []) caller)) (sym behind)
          (subst (IsKnown new.covered (after (state_of volume events) e).wants caller) (sym (call_behind (mounted_state volume) caller _ events e)) (calls caller));
    }
