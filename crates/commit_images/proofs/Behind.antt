-- One event more: the state behind it, what was tried, and that the list stays legal.
use Rattle.std.proofs.Common.{◌≡◌, List, [], ◌∷◌, ◌++◌, refl}
use Rattle.std.proofs.lemmas.List.Sums.{fold-append}
use Rattle.flat_model.specs.Volume.{Volume}
use Rattle.commit_history.specs.declared.event.Event.{Event}
use Rattle.commit_history.specs.State.{State}
use Rattle.commit_history.specs.Effects.{after, after_events}
use Rattle.commit_history.specs.Legal.{MayCome, IsLegalFrom}
use Rattle.commit_history.specs.Survival.{tried_after, tried_from}

pub state_behind : (state : State) (events : List Event) (e : Event) → after_events state (events ++ e ∷ []) ≡ after (after_events state events) e
state_behind state events e = fold-append after state events (e ∷ [])

pub tried_behind : (state : State) (tried : List Volume) (events : List Event) (e : Event)
    → tried_from state tried (events ++ e ∷ []) ≡ tried_after (after_events state events) (tried_from state tried events) e
tried_behind state tried [] e = refl
tried_behind state tried (x ∷ events) e = tried_behind (after state x) (tried_after state tried x) events e

pub legal_behind : (state : State) (events : List Event) (e : Event) → IsLegalFrom state events → MayCome (after_events state events) e → IsLegalFrom state (events ++ e ∷ [])
legal_behind state [] e legal may = (may, tt)
legal_behind state (x ∷ events) e legal may = (legal.0, legal_behind (after state x) events e legal.1 may)
