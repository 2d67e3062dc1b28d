-- Each subvolume's log is that of its log steps since the last full commit.
use Rattle.std.proofs.Common.{◌≡◌, ◌≢◌, ℕ, ◌≤◌, Bool, cond, List, [], ◌∷◌, ◌++◌, length, take, fold, Option, Some, None, refl, sym, ap, subst, ◌∙◌, arith, inl, inr, ◌⊎◌}
use Rattle.std.specs.Bool.{nat_eq}
use Rattle.std.specs.Option.{option_map}
use Rattle.std.specs.List.{Contains}
use Rattle.std.specs.FinMap.{get}
use Rattle.std.proofs.lemmas.Bool.{cases_eq, ne_eqb, eq-eqb}
use Rattle.std.proofs.lemmas.List.{append-nil, append_assoc, take_all}
use Rattle.blk_base.specs.declared.key.SubId.{SubId}
use Rattle.blk_base.specs.declared.key.Ino.{Ino}
use Rattle.flat_model.specs.Volume.{Subvolume, Volume, RunSub, mounted}
use Rattle.flat_model.specs.Coherent.{IsCoherent, IsCoherentVolume}
use Rattle.flat_model.specs.Step.{Operated, after_all}
use Rattle.flat_model.proofs.Lists.{contains_none}
use Rattle.flat_model.proofs.Maps.{some_same}
use Rattle.flat_model.proofs.Histories.{get_volume_of, volume_of_mounted, volume_at_coherent}
use Rattle.logged_volume.specs.Agreement.{KeepsCommon}
use Rattle.logged_volume.specs.LogStep.{log_step}
use Rattle.logged_volume.specs.Rules.{RoomNumbers, commit_reason}
use Rattle.logged_volume.specs.FlatLog.{FlatLog, empty_log}
use Rattle.logged_volume.specs.Standing.{AreLogVolumes}
use Rattle.logged_volume.specs.Weight.{MadeStep, IsMade, IsIdle, AreMade}
use Rattle.logged_volume.specs.Written.{IsWritten}
use Rattle.logged_volume.proofs.BothForms.{step_coherent}
use Rattle.commit_history.specs.declared.event.Event.{Event}
use Rattle.commit_history.specs.declared.event.Event.TheVariants as event
use Rattle.commit_history.specs.declared.event.Logged.{Logged}
use Rattle.commit_history.specs.declared.event.Logged.TheVariants as logged
use Rattle.commit_history.specs.State.{SubLog, Synced, State, HasLog, bare_log, mounted_state, number_taken}
use Rattle.commit_history.specs.Effects.{after, after_events, state_of, log_after, log_after_step, log_stepped, log_sealed, log_taken, log_with, sub_sealed, slots_written, slots_without, point_at_seal}
use Rattle.commit_history.specs.Legal.{MayCome, MayLog, IsLegalFrom, IsLegal, IsLogEnd, IsDone, GetsTicket, IsAlready, HoldsFull, operated_by}
use Rattle.commit_history.specs.Survival.{IsAtPoint, operations_of, tried_from}
use Rattle.commit_history.proofs.Maps.{changed_there}
use Rattle.commit_history.proofs.LogNumbers.{log_before}
use Rattle.commit_history.proofs.Lasting.{at_longer, point_survives, survivors_agree}
use Rattle.commit_history.proofs.LogHolding.{logged_of}
use Rattle.commit_history.proofs.StateHolding.{Holds, either, sub_at}
use Rattle.commit_history.proofs.AllHold.{holds_after}
use Rattle.commit_room.specs.Ledger.{Ledger, mounted_ledger, ledger_after, ledger_of, steps_with, step_now}
use Rattle.commit_room.proofs.Counting.{state_after}
use Rattle.commit_logs.specs.Writes.{FlatLogs, StayAll, LogWrites, EventWrites, AreWritten}
use Rattle.commit_logs.proofs.Points.{common_between, survivors_alike}

-- what holds of a subvolume's log: the committed subvolume is that of a point; what it and a later point have in common the logged one has; and the log is that of
-- the steps
pub record LogIsMade (volume : Volume) (history : List Operated) (id committed_at : ℕ) (log : SubLog) (steps : List MadeStep) (flat : FlatLog) : Type 0 where
  pub committed : IsAtPoint volume history id committed_at log.committed
  pub point : ℕ
  pub there : Subvolume
  pub at : IsAtPoint volume history id point there
  pub since : committed_at ≤ point
  pub common : KeepsCommon log.committed there log.logged
  pub made : AreMade log.committed steps log.logged flat

-- two logs have the same volumes
pub record IsSameVolumes (old new : SubLog) : Type 0 where
  pub committed : new.committed ≡ old.committed
  pub logged : new.logged ≡ old.logged

same_log : (log : SubLog) → IsSameVolumes log log
same_log log = record { committed = refl; logged = refl }

taken_same : (o : Option ℕ) (log : SubLog) → IsSameVolumes log (log_taken o log)
taken_same None log = same_log log
taken_same (Some number) log = record { committed = refl; logged = refl }

made_same : (volume : Volume) (history more : List Operated) (id committed_at : ℕ) (old new : SubLog) (steps : List MadeStep) (flat next : FlatLog) → IsSameVolumes old new → next ≡ flat
    → LogIsMade volume history id committed_at old steps flat → LogIsMade volume (history ++ more) id committed_at new steps next
made_same volume history more id committed_at old new steps flat next same stays made = record {
  committed = subst (IsAtPoint volume (history ++ more) id committed_at) (sym same.committed) (at_longer volume history more id committed_at old.committed made.committed);
  point = made.point;
  there = made.there;
  at = at_longer volume history more id made.point made.there made.at;
  since = made.since;
  common = subst (λ c. KeepsCommon c made.there new.logged) (sym same.committed) (subst (KeepsCommon old.committed made.there) (sym same.logged) made.common);
  made = subst (λ c. AreMade c steps new.logged next) (sym same.committed) (subst (λ l. AreMade old.committed steps l next) (sym same.logged) (subst (AreMade old.committed steps old.logged) (sym stays) made.made));
}

abbrev pub AllMade : Volume → List Operated → Ledger → State → FlatLogs → Type 0
AllMade volume history ledger state flats = (id : ℕ) (log : SubLog) → HasLog state id log → LogIsMade volume history id state.committed_at log (ledger.steps id) (flats id)

module _ (volume : Volume) (coherent : IsCoherentVolume volume) (history : List Operated) (tried : List Volume) (state : State) (holds : Holds volume history tried state) (ledger : Ledger) (ledger_is : ledger.state ≡ state) (before : FlatLogs) (all : AllMade volume history ledger state before) where
  -- an event that changes no volume of a log
  quiet : (e : Event) (more : List Operated) (next : FlatLogs) → (after state e).committed_at ≡ state.committed_at → (ledger_after ledger e).steps ≡ ledger.steps → ((id : ℕ) (log : SubLog) → IsSameVolumes log (log_after state e id log)) → StayAll before next
      → AllMade volume (history ++ more) (ledger_after ledger e) (after state e) next
  quiet e more next committed steps same stays id new has =
      let old = log_before state e id new has in
      let moved : IsSameVolumes old.0 new = subst (IsSameVolumes old.0) (sym old.2) (same id old.0) in
      subst (λ c. LogIsMade volume (history ++ more) id c new ((ledger_after ledger e).steps id) (next id)) (sym committed)
      (subst (λ (s : ℕ → List MadeStep). LogIsMade volume (history ++ more) id state.committed_at new (s id) (next id)) (sym steps)
      (made_same volume history more id state.committed_at old.0 new (ledger.steps id) (before id) (next id) moved (stays id) (all id old.0 old.1)))

  -- a full commit that is done
  full_made : (caller : ℕ) (next : FlatLogs) → HoldsFull state caller → ((id : ℕ) → next id ≡ empty_log) → AllMade volume (history ++ []) (ledger_after ledger (event.FullDone caller)) (after state (event.FullDone caller)) next
  unfolding after
  full_made caller next may empties id new has =
      let old = log_before state (event.FullDone caller) id new has in
      let full = holds.full may.commit may.runs in
      let sub = sub_at volume coherent history tried state holds id old.0 may.commit.point old.1 in
      let sealed : sub_sealed state.full id ≡ Some sub.0 = ap (λ o. sub_sealed o id) may.runs ∙ ap (λ v. get v id) full.is ∙ sub.1 in
      let committed_is : new.committed ≡ sub.0 = ap (λ (l : SubLog). l.committed) old.2 ∙ ap (λ o. (log_with o old.0).committed) sealed in
      let logged_is : new.logged ≡ sub.0 = ap (λ (l : SubLog). l.logged) old.2 ∙ ap (λ o. (log_with o old.0).logged) sealed in
      let at : IsAtPoint volume (history ++ []) id may.commit.point sub.0 = at_longer volume history [] id may.commit.point sub.0 (full.point_now, sub.1) in
      subst (λ c. LogIsMade volume (history ++ []) id c new [] (next id)) (sym (ap point_at_seal may.runs)) (record {
        committed = subst (IsAtPoint volume (history ++ []) id may.commit.point) (sym committed_is) at;
        point = may.commit.point;
        there = sub.0;
        at = at;
        since = omega arith;
        common = subst (λ c. KeepsCommon c sub.0 new.logged) (sym committed_is) (subst (KeepsCommon sub.0 sub.0) (sym logged_is) (record { names = λ name c d. d; inodes = λ ino c d. d }));
        made = (
          subst IsCoherent (sym committed_is) (volume_at_coherent volume coherent history holds.legal may.commit.point id sub.0 sub.1),
          logged_is ∙ sym committed_is,
          empties id,
        );
      })

  -- ---- a log step

  module _ (caller : ℕ) (sub : SubId) (ino : Ino) (datasync : Bool) where
    -- the current subvolume is that of the last point
    now_at : (end : Logged) (may : MayLog state sub.0 ino.0 end datasync) → IsAtPoint volume history sub.0 (length history) may.run.sub
    now_at end may = (
      omega arith,
      get_volume_of (after_all (mounted volume) (take (length history) history)) sub.0
          ∙ ap (λ run. option_map (λ (r : RunSub). r.sub) (get run sub.0)) (ap (after_all (mounted volume)) (take_all (length history) history (omega arith)) ∙ sym holds.current)
          ∙ ap (option_map (λ (r : RunSub). r.sub)) may.current,
    )

    -- the volumes of a step
    log_volumes : (may_log : SubLog) (run : RunSub) (end : Logged) → (may : MayLog state sub.0 ino.0 end datasync) → AreLogVolumes may.log.committed may.run.sub may.log.logged ino.0
    log_volumes may_log run end may =
        let own = all sub.0 may.log may.of_sub in
        let held = holds.logs sub.0 may.log may.of_sub in
        let now : IsAtPoint volume history sub.0 (length history) may.run.sub = now_at end may in
        let earlier : (fsync : Synced) → Contains [] fsync → fsync.point ≤ length history = λ fsync c. absurd (contains_none fsync c) in
        let current = point_survives volume history coherent holds.legal sub.0 0 [] (length history) may.run.sub now (omega arith) earlier in
        let committed = point_survives volume history coherent holds.legal sub.0 0 [] state.committed_at may.log.committed own.committed (omega arith) (λ fsync c. absurd (contains_none fsync c)) in
        let logged_survives = Rattle.commit_history.proofs.Lasting.weaker volume history sub.0 0 state.committed_at (omega arith) [] (logged_of may.log) (λ fsync c. absurd (contains_none fsync c)) may.log.logged held.logged_survives in
        let between = common_between volume history coherent holds.legal sub.0 state.committed_at own.point (length history) may.log.committed own.there may.run.sub own.since own.at.0 own.committed own.at now in
        record {
          step = record {
            current_coherent = current.coherent;
            logged_coherent = held.logged_survives.coherent;
            agree = survivors_agree volume history coherent holds.legal sub.0 0 [] [] may.run.sub may.log.logged current logged_survives;
            has_target = may.has_ino;
          };
          committed_coherent = committed.coherent;
          with_current = survivors_agree volume history coherent holds.legal sub.0 0 [] [] may.log.committed may.run.sub committed current;
          with_logged = survivors_agree volume history coherent holds.legal sub.0 0 [] [] may.log.committed may.log.logged committed logged_survives;
          common = record {
            names = λ name c d. own.common.names name c (between.names name c d);
            inodes = λ i c d. own.common.inodes i c (between.inodes i c d);
          };
          made_alike = survivors_alike volume history coherent holds.legal sub.0 0 [] [] may.run.sub may.log.logged current logged_survives;
        }

    abbrev new_step : RunSub → SubLog → MadeStep
    new_step run log = record { current = run.sub; logged = log.logged; target = ino.0; datasync = datasync }

    -- the steps with this one
    steps_are : (end : Logged) (may : MayLog state sub.0 ino.0 end datasync) → steps_with ledger sub.0 ino.0 datasync sub.0 ≡ new_step may.run may.log ∷ ledger.steps sub.0
    steps_are end may =
        ap (λ b. cond b (step_now ledger.state sub.0 ino.0 datasync ++ ledger.steps sub.0) (ledger.steps sub.0)) (eq-eqb sub.0 sub.0 refl)
        ∙ ap (λ s. step_now s sub.0 ino.0 datasync ++ ledger.steps sub.0) ledger_is
        ∙ ap (λ (o : Option RunSub). (elim o as (λ x. List MadeStep) [ None ↦ [] | Some run ↦ elim (get state.logs sub.0) as (λ x. List MadeStep) [ None ↦ [] | Some log ↦ new_step run log ∷ [] ] ]) ++ ledger.steps sub.0) may.current
        ∙ ap (λ (o : Option SubLog). (elim o as (λ x. List MadeStep) [ None ↦ [] | Some log ↦ new_step may.run log ∷ [] ]) ++ ledger.steps sub.0) may.of_sub

    other_steps : (id : ℕ) → id ≢ sub.0 → steps_with ledger sub.0 ino.0 datasync id ≡ ledger.steps id
    other_steps id other = ap (λ b. cond b (step_now ledger.state sub.0 ino.0 datasync ++ ledger.steps id) (ledger.steps id)) (ne_eqb id sub.0 other)

    -- what an event makes of another subvolume's log
    other_log : (end : Logged) (id : ℕ) (old : SubLog) → id ≢ sub.0 → log_after state (event.Log caller sub ino end datasync) id old ≡ old
    other_log end id old other = ap (λ b. cond b (log_stepped (get state.current id) old caller state.point ino.0 end datasync) old) (ne_eqb id sub.0 other)

    own_log_is : (end : Logged) (may : MayLog state sub.0 ino.0 end datasync) (old : SubLog) → HasLog state sub.0 old → log_after state (event.Log caller sub ino end datasync) sub.0 old ≡ log_after_step may.log may.run.sub caller state.point ino.0 end datasync
    own_log_is end may old has =
        ap (λ b. cond b (log_stepped (get state.current sub.0) old caller state.point ino.0 end datasync) old) (eq-eqb sub.0 sub.0 refl)
        ∙ ap (λ o. log_stepped o old caller state.point ino.0 end datasync) may.current
        ∙ ap (λ l. log_after_step l may.run.sub caller state.point ino.0 end datasync) (some_same old may.log (sym has ∙ may.of_sub))

    abbrev IsMadeAfter : Logged → Ledger → FlatLogs → Type 0
    IsMadeAfter end later next = (id : ℕ) (new : SubLog) → HasLog (after state (event.Log caller sub ino end datasync)) id new → LogIsMade volume (history ++ []) id state.committed_at new (later.steps id) (next id)

    -- by subvolumes
    step_made : (end : Logged) (may : MayLog state sub.0 ino.0 end datasync) (next : FlatLogs) (later : Ledger) → LogWrites state sub.0 ino.0 end datasync before next → ((id : ℕ) → id ≢ sub.0 → later.steps id ≡ ledger.steps id)
        → LogIsMade volume (history ++ []) sub.0 state.committed_at (log_after_step may.log may.run.sub caller state.point ino.0 end datasync) (later.steps sub.0) (next sub.0) → IsMadeAfter end later next
    step_made end may next later writes others own id new has =
        let old = log_before state (event.Log caller sub ino end datasync) id new has in
        elim (cases_eq id sub.0) [
          | inl same ↦
              let has_own : HasLog state sub.0 old.0 = subst (λ q. HasLog state q old.0) same old.1 in
              let is : new ≡ log_after_step may.log may.run.sub caller state.point ino.0 end datasync = old.2 ∙ ap (λ q. log_after state (event.Log caller sub ino end datasync) q old.0) same ∙ own_log_is end may old.0 has_own in
              subst (λ q. LogIsMade volume (history ++ []) q state.committed_at new (later.steps q) (next q)) (sym same) (subst (λ l. LogIsMade volume (history ++ []) sub.0 state.committed_at l (later.steps sub.0) (next sub.0)) (sym is) own)
          | inr other ↦
              subst (λ s. LogIsMade volume (history ++ []) id state.committed_at new s (next id)) (sym (others id other))
              (made_same volume history [] id state.committed_at old.0 new (ledger.steps id) (before id) (next id) (subst (IsSameVolumes old.0) (sym (old.2 ∙ other_log end id old.0 other)) (same_log old.0)) (writes.others id other) (all id old.0 old.1))
        ]

    log_made : (end : Logged) (next : FlatLogs) → MayLog state sub.0 ino.0 end datasync → LogWrites state sub.0 ino.0 end datasync before next → IsMadeAfter end (ledger_after ledger (event.Log caller sub ino end datasync)) next
    log_made (logged.Full reason) next may writes =
        step_made (logged.Full reason) may next (ledger_after ledger (event.Log caller sub ino (logged.Full reason) datasync)) writes (λ id other. refl)
        (made_same volume history [] sub.0 state.committed_at may.log (log_after_step may.log may.run.sub caller state.point ino.0 (logged.Full reason) datasync) (ledger.steps sub.0) (before sub.0) (next sub.0) (record { committed = refl; logged = refl }) (writes.own may.log may.run may.of_sub may.current) (all sub.0 may.log may.of_sub))
    log_made logged.Already next may writes =
        let own = all sub.0 may.log may.of_sub in
        let done : IsAlready may.log may.run.sub ino.0 datasync may.room.failed = already_of may.ends in
        step_made logged.Already may next (ledger_after ledger (event.Log caller sub ino logged.Already datasync)) writes other_steps
        (subst (λ s. LogIsMade volume (history ++ []) sub.0 state.committed_at (log_after_step may.log may.run.sub caller state.point ino.0 logged.Already datasync) s (next sub.0)) (sym (steps_are logged.Already may)) (record {
          committed = at_longer volume history [] sub.0 state.committed_at may.log.committed own.committed;
          point = own.point;
          there = own.there;
          at = at_longer volume history [] sub.0 own.point own.there own.at;
          since = own.since;
          common = own.common;
          made = (before sub.0, own.made, log_volumes may.log may.run logged.Already may, inr (record { nothing = done.unchanged; logged_stays = refl; log_stays = writes.own may.log may.run may.of_sub may.current }));
        }))
      where
        already_of : {room : RoomNumbers} → IsLogEnd may.log may.run.sub ino.0 datasync room logged.Already → IsAlready may.log may.run.sub ino.0 datasync room.failed
        already_of (IsDone already) = already
    log_made (logged.Ticket number) next may writes =
        let own = all sub.0 may.log may.of_sub in
        let volumes = log_volumes may.log may.run (logged.Ticket number) may in
        let none : commit_reason may.run.sub may.log.logged ino.0 datasync may.room ≡ None = none_of may.ends in
        let now : IsAtPoint volume history sub.0 (length history) may.run.sub = now_at (logged.Ticket number) may in
        let keeps = (step_coherent may.run.sub may.log.logged ino.0 datasync may.room volumes.step none).common in
        let later : SubLog = log_after_step may.log may.run.sub caller state.point ino.0 (logged.Ticket number) datasync in
        step_made (logged.Ticket number) may next (ledger_after ledger (event.Log caller sub ino (logged.Ticket number) datasync)) writes other_steps
        (subst (λ s. LogIsMade volume (history ++ []) sub.0 state.committed_at later s (next sub.0)) (sym (steps_are (logged.Ticket number) may)) (record {
          committed = at_longer volume history [] sub.0 state.committed_at may.log.committed own.committed;
          point = length history;
          there = may.run.sub;
          at = at_longer volume history [] sub.0 (length history) may.run.sub now;
          since = holds.committed;
          common = record {
            names = λ name c d. keeps.names name d (volumes.common.names name c d);
            inodes = λ i c d. keeps.inodes i d (volumes.common.inodes i c d);
          };
          made = (before sub.0, own.made, volumes, either_made may.room none (writes.own may.log may.run may.of_sub may.current));
        }))
      where
        none_of : {room : RoomNumbers} → IsLogEnd may.log may.run.sub ino.0 datasync room (logged.Ticket number) → commit_reason may.run.sub may.log.logged ino.0 datasync room ≡ None
        none_of (GetsTicket own not_already none ticket) = none

        either_made : (room : RoomNumbers) → commit_reason may.run.sub may.log.logged ino.0 datasync room ≡ None
            → IsWritten may.log.committed may.run.sub may.log.logged ino.0 datasync (before sub.0) (next sub.0) ⊎ ((log_step may.run.sub may.log.logged ino.0 datasync ≡ may.log.logged) × (next sub.0 ≡ before sub.0))
            → IsMade may.log.committed (new_step may.run may.log) (before sub.0) (log_step may.run.sub may.log.logged ino.0 datasync) (next sub.0)
            ⊎ IsIdle (new_step may.run may.log) (before sub.0) (log_step may.run.sub may.log.logged ino.0 datasync) (next sub.0)
        either_made room none w = elim w [
          | inl written ↦ inl (record { room = room; no_reason = none; leaves = refl; written = written })
          | inr idle ↦ inr (record { nothing = idle.0; logged_stays = idle.0; log_stays = idle.1 })
        ]

  -- ---- one event

  abbrev pub history_after : Event → List Operated
  history_after e = history ++ operations_of (e ∷ [])

  pub event_made : (e : Event) (next : FlatLogs) → MayCome state e → EventWrites state e before next → AllMade volume (history_after e) (ledger_after ledger e) (after state e) next
  unfolding after
  event_made (event.Op caller op again end indexes) next may writes = quiet (event.Op caller op again end indexes) (operated_by op indexes end ∷ []) next refl refl (λ id log. same_log log) writes
  event_made (event.Refused caller target answer) next may writes = quiet (event.Refused caller target answer) [] next refl refl (λ id log. same_log log) writes
  event_made (event.Ask caller) next may writes = quiet (event.Ask caller) [] next refl refl (λ id log. same_log log) writes
  event_made (event.SealSub caller sub number) next may writes = quiet (event.SealSub caller sub number) [] next refl refl (λ id log. either (IsSameVolumes log) (nat_eq id sub.0) (log_sealed log caller number) log (λ _. record { committed = refl; logged = refl }) (λ _. same_log log)) writes
  event_made (event.SubWritten caller sub number) next may writes = quiet (event.SubWritten caller sub number) [] next refl refl (λ id log. either (IsSameVolumes log) (nat_eq id sub.0) (record log { slots = slots_written log.slots number }) log (λ _. record { committed = refl; logged = refl }) (λ _. same_log log)) writes
  event_made (event.SealRoot caller) next may writes = quiet (event.SealRoot caller) [] next refl refl (λ id log. same_log log) writes
  event_made (event.RootDone caller) next may writes = quiet (event.RootDone caller) [] next refl refl (λ id log. taken_same (number_taken state.root id) log) writes
  event_made (event.SealFull caller) next may writes = quiet (event.SealFull caller) [] next refl refl (λ id log. same_log log) writes
  event_made (event.Failed caller turn was_tried) next may writes = quiet (event.Failed caller turn was_tried) [] next refl refl (λ id log. record { committed = refl; logged = refl }) writes
  event_made (event.GiveUp caller sub number) next may writes = quiet (event.GiveUp caller sub number) [] next refl refl (λ id log. either (IsSameVolumes log) (nat_eq id sub.0) (record log { slots = slots_without log.slots number }) log (λ _. record { committed = refl; logged = refl }) (λ _. same_log log)) writes
  event_made (event.FullDone caller) next may writes = full_made caller next may writes
  event_made (event.Log caller sub ino logged.Already datasync) next may writes = log_made caller sub ino datasync logged.Already next may writes
  event_made (event.Log caller sub ino (logged.Ticket number) datasync) next may writes = log_made caller sub ino datasync (logged.Ticket number) next may writes
  event_made (event.Log caller sub ino (logged.Full reason) datasync) next may writes = log_made caller sub ino datasync (logged.Full reason) next may writes

-- ---- all events

module _ (volume : Volume) (coherent : IsCoherentVolume volume) where
  pub legal_front : (state : State) (front back : List Event) → IsLegalFrom state (front ++ back) → IsLegalFrom state front
  legal_front state [] back legal = tt
  legal_front state (e ∷ front) back legal = (legal.0, legal_front (after state e) front back legal.1)

  pub operations_more : (one two : List Event) → operations_of (one ++ two) ≡ operations_of one ++ operations_of two
  operations_more [] two = refl
  operations_more (event.Op caller op again end indexes ∷ one) two = ap (λ h. operated_by op indexes end ∷ h) (operations_more one two)
  operations_more (event.Refused caller target answer ∷ one) two = operations_more one two
  operations_more (event.Log caller sub ino end datasync ∷ one) two = operations_more one two
  operations_more (event.Ask caller ∷ one) two = operations_more one two
  operations_more (event.SealSub caller sub number ∷ one) two = operations_more one two
  operations_more (event.SubWritten caller sub number ∷ one) two = operations_more one two
  operations_more (event.SealRoot caller ∷ one) two = operations_more one two
  operations_more (event.RootDone caller ∷ one) two = operations_more one two
  operations_more (event.SealFull caller ∷ one) two = operations_more one two
  operations_more (event.FullDone caller ∷ one) two = operations_more one two
  operations_more (event.Failed caller turn was_tried ∷ one) two = operations_more one two
  operations_more (event.GiveUp caller sub number ∷ one) two = operations_more one two

  pub events_more : (state : State) (past : List Event) (e : Event) → after_events state (past ++ e ∷ []) ≡ after (after_events state past) e
  events_more state [] e = refl
  events_more state (first ∷ past) e = events_more (after state first) past e

  pub may_at : (state : State) (front : List Event) (x : Event) (back : List Event) → IsLegalFrom state (front ++ x ∷ back) → MayCome (after_events state front) x
  may_at state [] x back l = l.0
  may_at state (first ∷ front) x back l = may_at (after state first) front x back l.1

  all_made : (events past : List Event) (ledger : Ledger) (before left : FlatLogs) → ledger.state ≡ state_of volume past → IsLegal volume (past ++ events) → AreWritten (state_of volume past) before events left
      → AllMade volume (operations_of past) ledger (state_of volume past) before → AllMade volume (operations_of (past ++ events)) (fold ledger_after ledger events) (state_of volume (past ++ events)) left
  all_made [] past ledger before left is legal written all =
      subst (λ (p : List Event). AllMade volume (operations_of p) ledger (state_of volume p) left) (sym (append-nil past))
      (λ id log has. subst (LogIsMade volume (operations_of past) id (state_of volume past).committed_at log (ledger.steps id)) (sym (written id)) (all id log has))
  all_made (e ∷ events) past ledger before left is legal written all =
      let own : IsLegal volume past = legal_front (mounted_state volume) past (e ∷ events) legal in
      let longer : past ++ e ∷ events ≡ (past ++ e ∷ []) ++ events = sym (append_assoc past (e ∷ []) events) in
      let state_is : state_of volume (past ++ e ∷ []) ≡ after (state_of volume past) e = events_more (mounted_state volume) past e in
      let may : MayCome (state_of volume past) e = may_at (mounted_state volume) past e events legal in
      let one = event_made volume coherent (operations_of past) (tried_from (mounted_state volume) [] past) (state_of volume past) (holds_after volume coherent past own) ledger is before all e written.0 may written.1 in
      let here : AllMade volume (operations_of (past ++ e ∷ [])) (ledger_after ledger e) (state_of volume (past ++ e ∷ [])) written.0 =
      subst (λ s. AllMade volume (operations_of (past ++ e ∷ [])) (ledger_after ledger e) s written.0) (sym state_is)
      (subst (λ h. AllMade volume h (ledger_after ledger e) (after (state_of volume past) e) written.0) (sym (operations_more past (e ∷ []))) one) in
      let rest = all_made events (past ++ e ∷ []) (ledger_after ledger e) written.0 left (state_after ledger e ∙ ap (λ s. after s e) is ∙ sym state_is) (subst (IsLegal volume) longer legal)
      (subst (λ s. AreWritten s written.0 events left) (sym state_is) written.2) here in
      subst (λ (p : List Event). AllMade volume (operations_of p) (fold ledger_after (ledger_after ledger e) events) (state_of volume p) left) (sym longer) rest

  pub mounted_made : AllMade volume [] (mounted_ledger volume) (mounted_state volume) (λ id. empty_log)
  unfolding mounted_state
  mounted_made id log has =
      let first = changed_there (λ id sub. bare_log sub) volume id log has in
      let at : IsAtPoint volume [] id 0 first.0 = (omega arith, ap (λ v. get v id) (volume_of_mounted volume) ∙ first.1) in
      subst (λ l. LogIsMade volume [] id 0 l [] empty_log) (sym first.2) (record {
        committed = at;
        point = 0;
        there = first.0;
        at = at;
        since = omega arith;
        common = record { names = λ name c d. d; inodes = λ ino c d. d };
        made = (coherent id first.0 first.1, refl, refl);
      })

  pub logs_made : (events : List Event) (logs : FlatLogs) (id : ℕ) (log : SubLog) → IsLegal volume events → AreWritten (mounted_state volume) (λ id. empty_log) events logs → HasLog (state_of volume events) id log
      → AreMade log.committed ((ledger_of volume events).steps id) log.logged (logs id)
  logs_made events logs id log legal written has = (all_made events [] (mounted_ledger volume) (λ id. empty_log) logs refl legal written mounted_made id log has).made
