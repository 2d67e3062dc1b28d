-- Logs as they were at their seals, and those of the superblock that was written last.
use Rattle.std.proofs.Common.{◌≡◌, ℕ, ◌<◌, Bool, cond, List, [], ◌∷◌, ◌++◌, fold, Option, Some, None, refl, sym, ap, subst, ◌∙◌, arith, inl, inr}
use Rattle.std.specs.Bool.{nat_eq}
use Rattle.std.specs.Option.{unwrap_or}
use Rattle.std.specs.FinMap.{get, insert}
use Rattle.std.proofs.lemmas.Bool.{cases_eq, ne_eqb, eq-eqb, and_from, and_left, and_right}
use Rattle.std.proofs.lemmas.List.{append-nil, append_assoc}
use Rattle.flat_model.specs.Volume.{Subvolume, Volume, RunSub}
use Rattle.flat_model.specs.Coherent.{IsCoherentVolume}
use Rattle.flat_model.specs.Step.{Operated}
use Rattle.flat_model.proofs.Lists.{contains_none}
use Rattle.flat_model.proofs.Maps.{some_same, get_insert_same, get_insert_other}
use Rattle.flat_model.proofs.Histories.{volume_at_coherent}
use Rattle.logged_volume.specs.FlatLog.{FlatLog, empty_log}
use Rattle.logged_volume.specs.Standing.{IsLogOf}
use Rattle.logged_volume.specs.Replay.{replay}
use Rattle.logged_volume.specs.Accepted.{IsAccepted}
use Rattle.logged_volume.proofs.DataLogs.{empty_is_log}
use Rattle.logged_volume.proofs.Replays.{replay_is, log_accepted}
use Rattle.logged_volume.proofs.WeightSteps.{made_holds}
use Rattle.commit_history.specs.declared.event.Event.{Event}
use Rattle.commit_history.specs.declared.event.Event.TheVariants as event
use Rattle.commit_history.specs.declared.event.Logged.{Logged}
use Rattle.commit_history.specs.declared.event.Logged.TheVariants as logged
use Rattle.commit_history.specs.State.{SubLog, Synced, State, HasLog, bare_log, mounted_state, number_taken}
use Rattle.commit_history.specs.Effects.{after, state_of, log_after, log_after_step, log_stepped, log_sealed, log_taken, log_with, sub_sealed, slots_written, slots_without}
use Rattle.commit_history.specs.Legal.{MayCome, MaySealSub, IsLegal, HoldsFull}
use Rattle.commit_history.specs.Survival.{SubSurvives, operations_of, tried_from}
use Rattle.commit_history.proofs.Maps.{changed_there}
use Rattle.commit_history.proofs.LogNumbers.{log_before}
use Rattle.commit_history.proofs.Lasting.{weaker, point_survives, survivors_agree}
use Rattle.commit_history.proofs.LogHolding.{IsUncovered, covered_with}
use Rattle.commit_history.proofs.StateHolding.{Holds, either, sub_at}
use Rattle.commit_history.proofs.AllHold.{holds_after}
use Rattle.commit_room.specs.Ledger.{Ledger, mounted_ledger, ledger_after}
use Rattle.commit_room.proofs.Counting.{state_after}
use Rattle.commit_logs.specs.Writes.{FlatLogs, KeptLogs, no_logs, sealed_after, durable_after, AreKept}
use Rattle.commit_logs.proofs.Made.{AllMade, event_made, legal_front, operations_more, events_more, may_at, mounted_made}

-- what was sealed and what is durable is what the logs say
pub record LogIsKept (log : SubLog) (sealed : ℕ → FlatLog) (durable : FlatLog) : Type 0 where
  pub of_sealed : (number : ℕ) (sub : Subvolume) → IsUncovered log number → get log.sealed number ≡ Some sub → IsLogOf log.committed sub (sealed number)
  pub of_durable : IsLogOf log.committed log.durable durable

-- two logs have the same numbers and volumes
pub record IsSameSealed (old new : SubLog) : Type 0 where
  pub committed : new.committed ≡ old.committed
  pub durable : new.durable ≡ old.durable
  pub sealed : new.sealed ≡ old.sealed
  pub covered : new.covered ≡ old.covered
  pub open_same : new.open_number ≡ old.open_number

same_sealed : (log : SubLog) → IsSameSealed log log
same_sealed log = record { committed = refl; durable = refl; sealed = refl; covered = refl; open_same = refl }

step_sealed : (log : SubLog) (current : Subvolume) (caller point ino : ℕ) (end : Logged) (datasync : Bool) → IsSameSealed log (log_after_step log current caller point ino end datasync)
step_sealed log current caller point ino logged.Already datasync = record { committed = refl; durable = refl; sealed = refl; covered = refl; open_same = refl }
step_sealed log current caller point ino (logged.Ticket number) datasync = record { committed = refl; durable = refl; sealed = refl; covered = refl; open_same = refl }
step_sealed log current caller point ino (logged.Full reason) datasync = record { committed = refl; durable = refl; sealed = refl; covered = refl; open_same = refl }

stepped_sealed : (o : Option RunSub) (log : SubLog) (caller point ino : ℕ) (end : Logged) (datasync : Bool) → IsSameSealed log (log_stepped o log caller point ino end datasync)
stepped_sealed None log caller point ino end datasync = same_sealed log
stepped_sealed (Some run) log caller point ino end datasync = step_sealed log run.sub caller point ino end datasync

kept_same : (old new : SubLog) (sealed : ℕ → FlatLog) (durable : FlatLog) → IsSameSealed old new → LogIsKept old sealed durable → LogIsKept new sealed durable
kept_same old new sealed durable same kept = record {
  of_sealed = λ number sub uncovered at.
      let low = uncovered.0 in let high = uncovered.1 in let c = same.covered in let o = same.open_same in
      subst (λ s. IsLogOf s sub (sealed number)) (sym same.committed) (kept.of_sealed number sub (omega (arith, low, c), omega (arith, high, o)) (sym (ap (λ m. get m number) same.sealed) ∙ at));
  of_durable = subst (λ s. IsLogOf s new.durable durable) (sym same.committed) (subst (λ d. IsLogOf old.committed d durable) (sym same.durable) kept.of_durable);
}

abbrev pub AllKept : State → KeptLogs → Type 0
AllKept state kept = (id : ℕ) (log : SubLog) → HasLog state id log → LogIsKept log (λ number. kept.sealed number id) (kept.durable id)

module _ (volume : Volume) (coherent : IsCoherentVolume volume) (history : List Operated) (tried : List Volume) (state : State) (holds : Holds volume history tried state) (ledger : Ledger) (kept : KeptLogs) (made : AllMade volume history ledger state kept.standing) (all : AllKept state kept) where
  abbrev kept_then : Event → FlatLogs → KeptLogs
  kept_then e next = record { standing = next; sealed = sealed_after e kept; durable = durable_after state e kept }

  quiet : (e : Event) (next : FlatLogs) → ((id : ℕ) (log : SubLog) → IsSameSealed log (log_after state e id log)) → ((id : ℕ) (log : SubLog) → LogIsKept log (λ number. kept.sealed number id) (kept.durable id) → LogIsKept log (λ number. sealed_after e kept number id) (durable_after state e kept id))
      → AllKept (after state e) (kept_then e next)
  quiet e next same stays id new has =
      let old = log_before state e id new has in
      stays id new (kept_same old.0 new (λ number. kept.sealed number id) (kept.durable id) (subst (IsSameSealed old.0) (sym old.2) (same id old.0)) (all id old.0 old.1))

  -- the seal of a number
  seal_kept : (caller : ℕ) (sub : Rattle.blk_base.specs.declared.key.SubId.SubId) (number : ℕ) (next : FlatLogs) → MaySealSub state caller sub.0 number → AllKept (after state (event.SealSub caller sub number)) (kept_then (event.SealSub caller sub number) next)
  seal_kept caller sub number next may id new has =
      let old = log_before state (event.SealSub caller sub number) id new has in
      elim (cases_eq id sub.0) [
        | inr other ↦
            let is : new ≡ old.0 = old.2 ∙ ap (λ b. cond b (log_sealed old.0 caller number) old.0) (ne_eqb id sub.0 other) in
            let own = all id old.0 old.1 in
            subst (λ l. LogIsKept l (λ n. sealed_after (event.SealSub caller sub number) kept n id) (kept.durable id)) (sym is) (record {
              of_sealed = λ n s uncovered at. subst (λ b. IsLogOf old.0.committed s (cond b (kept.standing id) (kept.sealed n id))) (sym (and_right (nat_eq n number) (nat_eq id sub.0) (ne_eqb id sub.0 other))) (own.of_sealed n s uncovered at);
              of_durable = own.of_durable;
            })
        | inl same ↦
            let is : new ≡ log_sealed old.0 caller number = old.2 ∙ ap (λ b. cond b (log_sealed old.0 caller number) old.0) (eq-eqb id sub.0 same) in
            let own = all id old.0 old.1 in
            let is_open : old.0.open_number ≡ number = ap (λ (l : SubLog). l.open_number) (some_same old.0 may.log (sym old.1 ∙ ap (get state.logs) same ∙ may.of_sub)) ∙ may.is_open in
            let stands : IsLogOf old.0.committed old.0.logged (kept.standing id) = (made_holds old.0.committed _ old.0.logged (kept.standing id) (made id old.0 old.1).made).0 in
            subst (λ l. LogIsKept l (λ n. sealed_after (event.SealSub caller sub number) kept n id) (kept.durable id)) (sym is) (record {
              of_sealed = λ n s uncovered at. elim (cases_eq n number) [
                | inl this ↦
                    let s_is : s ≡ old.0.logged = some_same s old.0.logged (sym at ∙ ap (λ q. get (insert old.0.sealed number old.0.logged) q) this ∙ get_insert_same old.0.sealed number old.0.logged) in
                    subst (λ b. IsLogOf old.0.committed s (cond b (kept.standing id) (kept.sealed n id))) (sym (and_from (nat_eq n number) (nat_eq id sub.0) (eq-eqb n number this) (eq-eqb id sub.0 same)))
                    (subst (λ x. IsLogOf old.0.committed x (kept.standing id)) (sym s_is) stands)
                | inr apart ↦
                    let low = uncovered.0 in let high = uncovered.1 in
                    subst (λ b. IsLogOf old.0.committed s (cond b (kept.standing id) (kept.sealed n id))) (sym (and_left (nat_eq n number) (nat_eq id sub.0) (ne_eqb n number apart)))
                    (own.of_sealed n s (low, omega (arith, high, apart, is_open)) (sym (get_insert_other old.0.sealed number old.0.logged n apart) ∙ at))
              ];
              of_durable = own.of_durable;
            })
      ]

  -- a root commit that is done
  taken_kept : (id : ℕ) (log : SubLog) → HasLog state id log → (o : Option ℕ) → number_taken state.root id ≡ o → LogIsKept (log_taken o log) (λ number. kept.sealed number id) (elim o as (λ x. FlatLog) [ None ↦ kept.durable id | Some number ↦ kept.sealed number id ])
  taken_kept id log has None e = all id log has
  taken_kept id log has (Some number) e =
      let own = all id log has in
      let uncovered = holds.root id log number has e in
      let sealed = (holds.logs id log has).sealed_survive number uncovered in
      record {
        of_sealed = λ n s later at. let low = later.0 in let here = uncovered.0 in own.of_sealed n s (omega (arith, low, here), later.1) at;
        of_durable = subst (λ d. IsLogOf log.committed d (kept.sealed number id)) (sym (ap (λ o. unwrap_or o log.durable) sealed.1)) (own.of_sealed number sealed.0 uncovered sealed.1);
      }

  root_kept : (caller : ℕ) (next : FlatLogs) → AllKept (after state (event.RootDone caller)) (kept_then (event.RootDone caller) next)
  root_kept caller next id new has =
      let old = log_before state (event.RootDone caller) id new has in
      subst (λ l. LogIsKept l (λ number. kept.sealed number id) (durable_after state (event.RootDone caller) kept id)) (sym old.2) (taken_kept id old.0 old.1 (number_taken state.root id) refl)

  -- a full commit that is done
  full_kept : (caller : ℕ) (next : FlatLogs) → HoldsFull state caller → AllKept (after state (event.FullDone caller)) (kept_then (event.FullDone caller) next)
  full_kept caller next may id new has =
      let old = log_before state (event.FullDone caller) id new has in
      let full = holds.full may.commit may.runs in
      let sub = sub_at volume coherent history tried state holds id old.0 may.commit.point old.1 in
      let sealed : sub_sealed state.full id ≡ Some sub.0 = ap (λ o. sub_sealed o id) may.runs ∙ ap (λ v. get v id) full.is ∙ sub.1 in
      let is : new ≡ log_with (Some sub.0) old.0 = old.2 ∙ ap (λ o. log_with o old.0) sealed in
      subst (λ l. LogIsKept l (λ number. kept.sealed number id) empty_log) (sym is) (record {
        of_sealed = λ number s uncovered at. absurd (let low = uncovered.0 in let high = uncovered.1 in omega (arith, low, high));
        of_durable = empty_is_log sub.0 (volume_at_coherent volume coherent history holds.legal may.commit.point id sub.0 sub.1);
      })

  event_kept : (e : Event) (next : FlatLogs) → MayCome state e → AllKept (after state e) (kept_then e next)
  event_kept (event.SealSub caller sub number) next may = seal_kept caller sub number next may
  event_kept (event.RootDone caller) next may = root_kept caller next
  event_kept (event.FullDone caller) next may = full_kept caller next may
  event_kept (event.Op caller op again end indexes) next may = quiet (event.Op caller op again end indexes) next (λ id log. same_sealed log) (λ id log k. k)
  event_kept (event.Refused caller target answer) next may = quiet (event.Refused caller target answer) next (λ id log. same_sealed log) (λ id log k. k)
  event_kept (event.Log caller sub ino end datasync) next may = quiet (event.Log caller sub ino end datasync) next
      (λ id log. either (IsSameSealed log) (nat_eq id sub.0) (log_stepped (get state.current id) log caller state.point ino.0 end datasync) log (λ _. stepped_sealed (get state.current id) log caller state.point ino.0 end datasync) (λ _. same_sealed log)) (λ id log k. k)
  event_kept (event.Ask caller) next may = quiet (event.Ask caller) next (λ id log. same_sealed log) (λ id log k. k)
  event_kept (event.SubWritten caller sub number) next may = quiet (event.SubWritten caller sub number) next
      (λ id log. either (IsSameSealed log) (nat_eq id sub.0) (record log { slots = slots_written log.slots number }) log (λ _. record { committed = refl; durable = refl; sealed = refl; covered = refl; open_same = refl }) (λ _. same_sealed log)) (λ id log k. k)
  event_kept (event.SealRoot caller) next may = quiet (event.SealRoot caller) next (λ id log. same_sealed log) (λ id log k. k)
  event_kept (event.SealFull caller) next may = quiet (event.SealFull caller) next (λ id log. same_sealed log) (λ id log k. k)
  event_kept (event.Failed caller turn was_tried) next may = quiet (event.Failed caller turn was_tried) next (λ id log. record { committed = refl; durable = refl; sealed = refl; covered = refl; open_same = refl }) (λ id log k. k)
  event_kept (event.GiveUp caller sub number) next may = quiet (event.GiveUp caller sub number) next
      (λ id log. either (IsSameSealed log) (nat_eq id sub.0) (record log { slots = slots_without log.slots number }) log (λ _. record { committed = refl; durable = refl; sealed = refl; covered = refl; open_same = refl }) (λ _. same_sealed log)) (λ id log k. k)

-- ---- all events

module _ (volume : Volume) (coherent : IsCoherentVolume volume) where
  all_kept : (events past : List Event) (ledger : Ledger) (kept left : KeptLogs) → ledger.state ≡ state_of volume past → IsLegal volume (past ++ events) → AreKept (state_of volume past) kept events left
      → AllMade volume (operations_of past) ledger (state_of volume past) kept.standing → AllKept (state_of volume past) kept
      → AllMade volume (operations_of (past ++ events)) (fold ledger_after ledger events) (state_of volume (past ++ events)) left.standing × AllKept (state_of volume (past ++ events)) left
  all_kept [] past ledger kept left is legal written made all =
      subst (λ (p : List Event). AllMade volume (operations_of p) ledger (state_of volume p) left.standing × AllKept (state_of volume p) left) (sym (append-nil past))
      (subst (λ (k : KeptLogs). AllMade volume (operations_of past) ledger (state_of volume past) k.standing × AllKept (state_of volume past) k) (sym written) (made, all))
  all_kept (e ∷ events) past ledger kept left is legal written made all =
      let own : IsLegal volume past = legal_front volume coherent (mounted_state volume) past (e ∷ events) legal in
      let holds = holds_after volume coherent past own in
      let longer : past ++ e ∷ events ≡ (past ++ e ∷ []) ++ events = sym (append_assoc past (e ∷ []) events) in
      let state_is : state_of volume (past ++ e ∷ []) ≡ after (state_of volume past) e = events_more volume coherent (mounted_state volume) past e in
      let may : MayCome (state_of volume past) e = may_at volume coherent (mounted_state volume) past e events legal in
      let then_kept : KeptLogs = record { standing = written.0; sealed = sealed_after e kept; durable = durable_after (state_of volume past) e kept } in
      let one = event_made volume coherent (operations_of past) (tried_from (mounted_state volume) [] past) (state_of volume past) holds ledger is kept.standing made e written.0 may written.1 in
      let two = event_kept volume coherent (operations_of past) (tried_from (mounted_state volume) [] past) (state_of volume past) holds ledger kept made all e written.0 may in
      let made_here : AllMade volume (operations_of (past ++ e ∷ [])) (ledger_after ledger e) (state_of volume (past ++ e ∷ [])) written.0 =
      subst (λ s. AllMade volume (operations_of (past ++ e ∷ [])) (ledger_after ledger e) s written.0) (sym state_is)
      (subst (λ h. AllMade volume h (ledger_after ledger e) (after (state_of volume past) e) written.0) (sym (operations_more volume coherent past (e ∷ []))) one) in
      let rest = all_kept events (past ++ e ∷ []) (ledger_after ledger e) then_kept left (state_after ledger e ∙ ap (λ s. after s e) is ∙ sym state_is) (subst (IsLegal volume) longer legal)
      (subst (λ s. AreKept s then_kept events left) (sym state_is) written.2) made_here (subst (λ s. AllKept s then_kept) (sym state_is) two) in
      subst (λ (p : List Event). AllMade volume (operations_of p) (fold ledger_after (ledger_after ledger e) events) (state_of volume p) left.standing × AllKept (state_of volume p) left) (sym longer) rest

  mounted_kept : AllKept (mounted_state volume) no_logs
  unfolding mounted_state
  mounted_kept id log has =
      let first = changed_there (λ id sub. bare_log sub) volume id log has in
      subst (λ l. LogIsKept l (λ number. empty_log) empty_log) (sym first.2) (record {
        of_sealed = λ number s uncovered at. absurd (let low = uncovered.0 in let high = uncovered.1 in omega (arith, low, high));
        of_durable = empty_is_log first.0 (coherent id first.0 first.1);
      })

  -- what the logs say is accepted, and replayed to it
  module _ (events : List Event) (kept : KeptLogs) (id : ℕ) (log : SubLog) (legal : IsLegal volume events) (written : AreKept (mounted_state volume) no_logs events kept) (has : HasLog (state_of volume events) id log) where
    said_is_replayed : (acknowledged : List Synced) (sub : Subvolume) (flat : FlatLog) → SubSurvives volume (operations_of events) id (state_of volume events).committed_at acknowledged sub → IsLogOf log.committed sub flat
        → (replay log.committed flat ≡ sub) × IsAccepted log.committed flat
    said_is_replayed acknowledged sub flat survives is =
        let holds = holds_after volume coherent events legal in
        let own = (all_kept events [] (mounted_ledger volume) no_logs kept refl legal written (mounted_made volume coherent) mounted_kept).0 id log has in
        let committed = point_survives volume (operations_of events) coherent holds.legal id 0 [] (state_of volume events).committed_at log.committed own.committed (omega arith) (λ fsync c. absurd (contains_none fsync c)) in
        let fewer = weaker volume (operations_of events) id 0 (state_of volume events).committed_at (omega arith) [] acknowledged (λ fsync c. absurd (contains_none fsync c)) sub survives in
        (replay_is log.committed sub flat survives.coherent is, log_accepted log.committed sub flat survives.coherent is (survivors_agree volume (operations_of events) coherent holds.legal id 0 [] [] log.committed sub committed fewer))

    kept_log : LogIsKept log (λ number. kept.sealed number id) (kept.durable id)
    kept_log = (all_kept events [] (mounted_ledger volume) no_logs kept refl legal written (mounted_made volume coherent) mounted_kept).1 id log has

    pub durable_is_replayed : (replay log.committed (kept.durable id) ≡ log.durable) × IsAccepted log.committed (kept.durable id)
    durable_is_replayed = said_is_replayed log.acknowledged log.durable (kept.durable id) ((holds_after volume coherent events legal).logs id log has).durable_survives kept_log.of_durable

    pub sealed_is_replayed : (number : ℕ) (sub : Subvolume) → log.covered < number → number < log.open_number → get log.sealed number ≡ Some sub → (replay log.committed (kept.sealed number id) ≡ sub) × IsAccepted log.committed (kept.sealed number id)
    sealed_is_replayed number sub low high at =
        let held = ((holds_after volume coherent events legal).logs id log has).sealed_survive number (low, high) in
        said_is_replayed (covered_with log number) sub (kept.sealed number id)
        (subst (SubSurvives volume (operations_of events) id (state_of volume events).committed_at (covered_with log number)) (some_same held.0 sub (sym held.1 ∙ at)) held.2) (kept_log.of_sealed number sub (low, high) at)
