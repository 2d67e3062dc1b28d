-- What holds after every legal list of events, and what follows: all that a crash may leave survives, and all states agree.
use Rattle.std.proofs.Common.{◌≡◌, ℕ, zero, suc, List, [], ◌∷◌, ◌++◌, length, take, drop, refl, sym, ap, subst, ◌∙◌, arith, inl, inr}
use Rattle.std.specs.Option.{option_map}
use Rattle.std.specs.List.{Contains}
use Rattle.std.specs.FinMap.{get}
use Rattle.std.proofs.lemmas.List.{append_assoc, append-nil, take-append-drop, take_all}
use Rattle.std.proofs.lemmas.List.Elements.{Contains-append_cases}
use Rattle.flat_model.specs.Volume.{Subvolume, Volume, RunSub, mounted}
use Rattle.flat_model.specs.Coherent.{IsCoherent, IsCoherentVolume}
use Rattle.flat_model.specs.Step.{Operated, after_all}
use Rattle.flat_model.proofs.Lists.{contains_cases, contains_none}
use Rattle.flat_model.proofs.Maps.{some_same, some_none}
use Rattle.flat_model.proofs.Histories.{get_volume_of, volume_of_mounted}
use Rattle.logged_volume.specs.Agreement.{Agree}
use Rattle.commit_history.specs.declared.event.Event.{Event}
use Rattle.commit_history.specs.declared.event.Event.TheVariants as event
use Rattle.commit_history.specs.State.{State, bare_log, mounted_state, durable_volume}
use Rattle.commit_history.specs.Effects.{after, after_events, state_of}
use Rattle.commit_history.specs.Legal.{IsLegalFrom, IsLegal, operated_by}
use Rattle.commit_history.specs.Survival.{IsAtPoint, SubSurvives, Survives, IsStateOf, IsCurrent, IsLogged, operations_of, next_volumes, tried_from, possible_volumes}
use Rattle.commit_history.proofs.Maps.{changed_there, changed_stays}
use Rattle.commit_history.proofs.Lasting.{weaker, longer, point_survives, survivors_agree}
use Rattle.commit_history.proofs.LogHolding.{LogHolds, logged_of, bare_holds}
use Rattle.commit_history.proofs.StateHolding.{LeftSurvives, Holds, durable_survives_now, next_survive, refused_holds, asked_holds, root_sealed_holds, full_sealed_holds, operated_holds}
use Rattle.commit_history.proofs.EventsHold.{written_holds, given_up_holds, sealed_holds, root_done_holds, full_done_holds, failed_holds, logged_holds}

mounted_holds : (volume : Volume) → IsCoherentVolume volume → Holds volume [] [] (mounted_state volume)
unfolding mounted_state
mounted_holds volume coherent = record {
  legal = tt;
  current = refl;
  point = refl;
  committed = omega arith;
  logs = λ id log has.
      let first = changed_there (λ id sub. bare_log sub) volume id log has in
      subst (LogHolds volume [] id 0 []) (sym first.2) (bare_holds volume coherent id first.0 (omega arith, ap (λ v. get v id) (volume_of_mounted volume) ∙ first.1));
  ids = λ id log has. let first = changed_there (λ id sub. bare_log sub) volume id log has in (first.0, first.1);
  ids_back = λ id sub there. (bare_log sub, changed_stays (λ id sub. bare_log sub) volume id sub there);
  root = λ id log number has taken. absurd (some_none number (sym taken));
  full = λ commit runs. absurd (some_none commit (sym runs));
  tried_survive = λ left c. absurd (contains_none left c);
  tried_fails = λ left c. absurd (contains_none left c);
}

module _ (volume : Volume) (coherent : IsCoherentVolume volume) where
  all_hold : (events : List Event) (state : State) (history : List Operated) (tried : List Volume) → Holds volume history tried state → IsLegalFrom state events → Holds volume (history ++ operations_of events) (tried_from state tried events) (after_events state events)
  all_hold [] state history tried holds legal = subst (λ h. Holds volume h tried state) (sym (append-nil history)) holds
  all_hold (event.Op caller op again end indexes ∷ events) state history tried holds legal =
      subst (λ h. Holds volume h (tried_from (after state (event.Op caller op again end indexes)) tried events) (after_events (after state (event.Op caller op again end indexes)) events)) (append_assoc history (operated_by op indexes end ∷ []) (operations_of events))
      (all_hold events _ _ _ (operated_holds volume coherent history tried state holds caller op again end indexes legal.0.0) legal.1)
  all_hold (event.Refused caller target answer ∷ events) state history tried holds legal = all_hold events _ history tried (refused_holds volume coherent history tried state holds caller target answer) legal.1
  all_hold (event.Log caller sub ino end datasync ∷ events) state history tried holds legal = all_hold events _ history tried (logged_holds volume coherent history tried state holds caller sub ino datasync end legal.0) legal.1
  all_hold (event.Ask caller ∷ events) state history tried holds legal = all_hold events _ history tried (asked_holds volume coherent history tried state holds caller) legal.1
  all_hold (event.SealSub caller sub number ∷ events) state history tried holds legal = all_hold events _ history tried (sealed_holds volume coherent history tried state holds caller sub number legal.0) legal.1
  all_hold (event.SubWritten caller sub number ∷ events) state history tried holds legal = all_hold events _ history tried (written_holds volume coherent history tried state holds caller sub number) legal.1
  all_hold (event.SealRoot caller ∷ events) state history tried holds legal = all_hold events _ history tried (root_sealed_holds volume coherent history tried state holds caller legal.0) legal.1
  all_hold (event.RootDone caller ∷ events) state history tried holds legal = all_hold events _ history [] (root_done_holds volume coherent history tried state holds caller legal.0) legal.1
  all_hold (event.SealFull caller ∷ events) state history tried holds legal = all_hold events _ history tried (full_sealed_holds volume coherent history tried state holds caller legal.0) legal.1
  all_hold (event.FullDone caller ∷ events) state history tried holds legal = all_hold events _ history [] (full_done_holds volume coherent history tried state holds caller legal.0) legal.1
  all_hold (event.Failed caller turn was_tried ∷ events) state history tried holds legal = all_hold events _ history _ (failed_holds volume coherent history tried state holds caller turn was_tried legal.0) legal.1
  all_hold (event.GiveUp caller sub number ∷ events) state history tried holds legal = all_hold events _ history tried (given_up_holds volume coherent history tried state holds caller sub number) legal.1

  -- after the events of a mounted volume
  pub holds_after : (events : List Event) → IsLegal volume events → Holds volume (operations_of events) (tried_from (mounted_state volume) [] events) (state_of volume events)
  holds_after events legal = all_hold events (mounted_state volume) [] [] (mounted_holds volume coherent) legal

  -- ---- survival

  of_left : (events : List Event) (left : Volume) → LeftSurvives volume (operations_of events) (state_of volume events) left → Survives volume events left
  of_left events left survives = record {
    there = λ id log has. let own = survives.there id log has in (own.0, own.1);
    each = λ id sub there.
        let log = survives.only id sub there in
        let own = survives.there id log.0 log.1 in
        (log.0, log.1, subst (SubSurvives volume (operations_of events) id (state_of volume events).committed_at log.0.acknowledged) (some_same own.0 sub (sym own.1 ∙ there)) own.2);
  }

  pub all_survive : (events : List Event) → IsLegal volume events → (left : Volume) → Contains (possible_volumes volume events) left → Survives volume events left
  unfolding possible_volumes
  all_survive events legal left c =
      let holds = holds_after events legal in
      of_left events left (elim (contains_cases (durable_volume (state_of volume events)) (next_volumes (state_of volume events) ++ tried_from (mounted_state volume) [] events) left c) [
        | inl same ↦ subst (LeftSurvives volume (operations_of events) (state_of volume events)) same (durable_survives_now volume coherent (operations_of events) _ (state_of volume events) holds)
        | inr more ↦ elim (Contains-append_cases (next_volumes (state_of volume events)) (tried_from (mounted_state volume) [] events) left more) [
          | inl next ↦ next_survive volume coherent (operations_of events) _ (state_of volume events) holds left next
          | inr tried ↦ holds.tried_survive left tried
        ]
      ])

  -- ---- agreement

  legal_front : (count : ℕ) (state : State) (events : List Event) → IsLegalFrom state events → IsLegalFrom state (take count events)
  legal_front zero state events legal = tt
  legal_front (suc count) state [] legal = tt
  legal_front (suc count) state (e ∷ events) legal = (legal.0, legal_front count (after state e) events legal.1)

  operations_more : (one two : List Event) → operations_of (one ++ two) ≡ operations_of one ++ operations_of two
  operations_more [] two = refl
  operations_more (event.Op caller op again end indexes ∷ one) two = ap (λ h. operated_by op indexes end ∷ h) (operations_more one two)
  operations_more (event.Refused caller target answer ∷ one) two = operations_more one two
  operations_more (event.Log caller sub ino end datasync ∷ one) two = operations_more one two
  operations_more (event.Ask caller ∷ one) two = operations_more one two
  operations_more (event.SealSub caller sub number ∷ one) two = operations_more one two
  operations_more (event.SubWritten caller sub number ∷ one) two = operations_more one two
  operations_more (event.SealRoot caller ∷ one) two = operations_more one two
  operations_more (event.RootDone caller ∷ one) two = operations_more one two
  operations_more (event.SealFull caller ∷ one) two = operations_more one two
  operations_more (event.FullDone caller ∷ one) two = operations_more one two
  operations_more (event.Failed caller turn was_tried ∷ one) two = operations_more one two
  operations_more (event.GiveUp caller sub number ∷ one) two = operations_more one two

  -- a current or logged subvolume survives, with nothing acknowledged, the history of its moment and each longer one
  state_survives : (events : List Event) → IsLegal volume events → (id : ℕ) (sub : Subvolume) → IsStateOf (state_of volume events) id sub → SubSurvives volume (operations_of events) id 0 [] sub
  state_survives events legal id _ (IsCurrent run there) =
      let holds = holds_after events legal in
      let history : List Operated = operations_of events in
      let at : IsAtPoint volume history id (length history) run.sub = (
        omega arith,
        get_volume_of (after_all (mounted volume) (take (length history) history)) id
            ∙ ap (λ r. option_map (λ (s : RunSub). s.sub) (get r id)) (ap (after_all (mounted volume)) (take_all (length history) history (omega arith)) ∙ sym holds.current)
            ∙ ap (option_map (λ (s : RunSub). s.sub)) there,
      ) in
      point_survives volume history coherent holds.legal id 0 [] (length history) run.sub at (omega arith) (λ fsync c. absurd (contains_none fsync c))
  state_survives events legal id _ (IsLogged log has) =
      let own = (holds_after events legal).logs id log has in
      weaker volume (operations_of events) id 0 (state_of volume events).committed_at (omega arith) [] (logged_of log) (λ fsync c. absurd (contains_none fsync c)) log.logged own.logged_survives

  in_all : (count : ℕ) (events : List Event) → IsLegal volume events → (id : ℕ) (sub : Subvolume) → IsStateOf (state_of volume (take count events)) id sub → SubSurvives volume (operations_of events) id 0 [] sub
  in_all count events legal id sub is =
      let own = state_survives (take count events) (legal_front count (mounted_state volume) events legal) id sub is in
      let more = longer volume (operations_of (take count events)) (operations_of (drop count events)) id 0 [] (λ fsync c. absurd (contains_none fsync c)) sub own in
      subst (λ h. SubSurvives volume h id 0 [] sub) (sym (operations_more (take count events) (drop count events)) ∙ ap operations_of (take-append-drop count events)) more

  pub state_coherent : (events : List Event) → IsLegal volume events → (id : ℕ) (sub : Subvolume) → IsStateOf (state_of volume events) id sub → IsCoherent sub
  state_coherent events legal id sub is = (state_survives events legal id sub is).coherent

  pub states_agree_always : (events : List Event) → IsLegal volume events → (early late id : ℕ) (one two : Subvolume) → IsStateOf (state_of volume (take early events)) id one → IsStateOf (state_of volume (take late events)) id two → Agree one two
  states_agree_always events legal early late id one two a b =
      survivors_agree volume (operations_of events) coherent (holds_after events legal).legal id 0 [] [] one two (in_all early events legal id one a) (in_all late events legal id two b)
