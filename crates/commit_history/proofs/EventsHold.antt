-- Log steps, seals, commits and failures keep what holds of the state.
use Rattle.std.proofs.Common.{◌≡◌, ◌≢◌, ℕ, ◌<◌, ◌≤◌, ◌+◌, Bool, true, false, cond, not, List, [], ◌∷◌, ◌++◌, length, take, Option, Some, None, refl, sym, ap, subst, ◌∙◌, arith, inl, inr}
use Rattle.std.specs.Bool.{nat_eq, nat_le}
use Rattle.std.specs.Option.{option_map}
use Rattle.std.specs.List.{Contains, filter}
use Rattle.std.specs.FinMap.{get}
use Rattle.std.proofs.lemmas.Bool.{true≢false, eqb-true, eq-eqb, leb-false, not-true}
use Rattle.std.proofs.lemmas.List.{take_all}
use Rattle.std.proofs.lemmas.List.Elements.{Contains-append_cases}
use Rattle.flat_model.specs.Volume.{Volume, RunSub, mounted}
use Rattle.flat_model.specs.Coherent.{IsCoherentVolume}
use Rattle.flat_model.specs.Step.{Operated, after_all}
use Rattle.flat_model.proofs.Lists.{contains_none, filter_contains}
use Rattle.flat_model.proofs.Maps.{some_same, some_none}
use Rattle.flat_model.proofs.Histories.{get_volume_of}
use Rattle.blk_base.specs.declared.key.SubId.{SubId}
use Rattle.blk_base.specs.declared.key.Ino.{Ino}
use Rattle.commit_history.specs.declared.event.Event.{Event}
use Rattle.commit_history.specs.declared.event.Event.TheVariants as event
use Rattle.commit_history.specs.declared.event.Logged.{Logged}
use Rattle.commit_history.specs.declared.event.Logged.TheVariants as logged
use Rattle.commit_history.specs.declared.event.Turn.{Turn}
use Rattle.commit_history.specs.declared.event.Turn.TheVariants as turns
use Rattle.commit_history.specs.State.{Slot, Synced, SubLog, Ticket, State, HasLog, number_taken, is_taken}
use Rattle.commit_history.specs.Effects.{after, turns_after, log_after, log_after_step, log_stepped, log_taken, log_with, sub_sealed, log_sealed, point_at_seal, root_without, slots_written, slots_without, slots_without_holder, state_after_step}
use Rattle.commit_history.specs.Legal.{MayLog, MaySealSub, MayFail, HoldsRoot, HoldsFull, IsLogEnd, IsDone, GetsTicket, IsAlready, IsTicketOf}
use Rattle.commit_history.specs.Survival.{IsAtPoint, next_volumes}
use Rattle.commit_history.proofs.LogHolding.{LogHolds, IsUncovered, with_slots, fewer_tickets, other_ticket, already_holds, full_holds, ticket_holds, seal_holds, cover_holds, commit_holds, fail_holds}
use Rattle.logged_volume.specs.Rules.{commit_reason}
use Rattle.commit_history.proofs.StateHolding.{LeftSurvives, Holds, either, logs_after, ids_after, ids_back_after, left_after, next_survive, sub_at, full_without_was, taken_without, none_taken}

-- two logs have the same numbers
record IsSameNumbers (old new : SubLog) : Type 0 where
  covered : new.covered ≡ old.covered
  open_same : new.open_number ≡ old.open_number

-- two states have the same turns
record IsSameTurns (old new : State) : Type 0 where
  current : new.current ≡ old.current
  point : new.point ≡ old.point
  committed : new.committed_at ≡ old.committed_at
  root : new.root ≡ old.root
  full : new.full ≡ old.full
  failures : new.failures ≡ old.failures

module _ (volume : Volume) (coherent : IsCoherentVolume volume) (history : List Operated) (tried : List Volume) (state : State) (holds : Holds volume history tried state) where
  -- ---- slots

  -- an event that changes the slots of one subvolume alone, and leaves a subvolume without slots without slots
  slots_hold : (e : Event) → turns_after state e ≡ state → (sub : ℕ) (slots : SubLog → List Slot) → ((id : ℕ) (log : SubLog) → log_after state e id log ≡ cond (nat_eq id sub) (record log { slots = slots log }) log) → ((log : SubLog) → log.slots ≡ [] → slots log ≡ [])
      → (after state e).committed_at ≡ state.committed_at → (after state e).tickets ≡ state.tickets → (after state e).current ≡ state.current → (after state e).point ≡ state.point → (after state e).root ≡ state.root → (after state e).full ≡ state.full → (after state e).failures ≡ state.failures
      → Holds volume history tried (after state e)
  slots_hold e turns sub slots is none committed tickets current point root full failures = record {
    legal = holds.legal;
    current = current ∙ holds.current;
    point = point ∙ holds.point;
    committed = let c = holds.committed in omega (arith, c, committed);
    logs = logs_after state e (λ id log. LogHolds volume history id (after state e).committed_at (after state e).tickets log) (λ id log has.
        subst (λ t. LogHolds volume history id (after state e).committed_at t (log_after state e id log)) (sym tickets)
        (subst (λ c. LogHolds volume history id c state.tickets (log_after state e id log)) (sym committed)
        (subst (LogHolds volume history id state.committed_at state.tickets) (sym (is id log))
        (either (LogHolds volume history id state.committed_at state.tickets) (nat_eq id sub) (record log { slots = slots log }) log
        (λ _. with_slots volume coherent history holds.legal id state.committed_at state.tickets log (holds.logs id log has) (slots log)) (λ _. holds.logs id log has)))));
    ids = ids_after state e volume holds.ids;
    ids_back = ids_back_after state e volume holds.ids_back;
    root = λ id log number has taken. logs_after state e (λ id log. number_taken state.root id ≡ Some number → IsUncovered log number) (λ id log has taken.
        subst (λ l. IsUncovered l number) (sym (is id log)) (either (λ l. IsUncovered l number) (nat_eq id sub) (record log { slots = slots log }) log (λ _. holds.root id log number has taken) (λ _. holds.root id log number has taken)))
        id log has (ap (λ o. number_taken o id) (sym root) ∙ taken);
    full = λ commit runs.
        let f = holds.full commit (sym full ∙ runs) in
        record {
          point_now = f.point_now;
          since = let s = f.since in omega (arith, s, committed);
          is = f.is;
          waiting_earlier = logs_after state e (λ id log. (fsync : Synced) → Contains log.waiting fsync → fsync.point ≤ commit.point) (λ id log has.
              subst (λ (l : SubLog). (fsync : Synced) → Contains l.waiting fsync → fsync.point ≤ commit.point) (sym (is id log)) (either (λ (l : SubLog). (fsync : Synced) → Contains l.waiting fsync → fsync.point ≤ commit.point) (nat_eq id sub) (record log { slots = slots log }) log (λ _. f.waiting_earlier id log has) (λ _. f.waiting_earlier id log has)));
          acknowledged_earlier = logs_after state e (λ id log. (fsync : Synced) → Contains log.acknowledged fsync → fsync.point ≤ commit.point) (λ id log has.
              subst (λ (l : SubLog). (fsync : Synced) → Contains l.acknowledged fsync → fsync.point ≤ commit.point) (sym (is id log)) (either (λ (l : SubLog). (fsync : Synced) → Contains l.acknowledged fsync → fsync.point ≤ commit.point) (nat_eq id sub) (record log { slots = slots log }) log (λ _. f.acknowledged_earlier id log has) (λ _. f.acknowledged_earlier id log has)));
          no_slots = logs_after state e (λ id log. log.slots ≡ []) (λ id log has.
              subst (λ (l : SubLog). l.slots ≡ []) (sym (is id log)) (either (λ (l : SubLog). l.slots ≡ []) (nat_eq id sub) (record log { slots = slots log }) log (λ _. none log (f.no_slots id log has)) (λ _. f.no_slots id log has)));
          no_root = root ∙ f.no_root;
        };
    tried_survive = λ left c. left_after volume history state e left committed (λ id log. ap (λ (l : SubLog). l.acknowledged) (is id log) ∙ either (λ (l : SubLog). l.acknowledged ≡ log.acknowledged) (nat_eq id sub) (record log { slots = slots log }) log (λ _. refl) (λ _. refl)) (holds.tried_survive left c);
    tried_fails = λ left c. let t = holds.tried_fails left c in (let some = t.0 in omega (arith, some, failures), root ∙ t.1);
  }

  pub written_holds : (caller : ℕ) (sub : SubId) (number : ℕ) → Holds volume history tried (after state (event.SubWritten caller sub number))
  unfolding after
  written_holds caller sub number = slots_hold (event.SubWritten caller sub number) refl sub.0 (λ log. slots_written log.slots number) (λ id log. refl) (λ log none. ap (λ slots. slots_written slots number) none) refl refl refl refl refl refl refl

  pub given_up_holds : (caller : ℕ) (sub : SubId) (number : ℕ) → Holds volume history tried (after state (event.GiveUp caller sub number))
  unfolding after
  given_up_holds caller sub number = slots_hold (event.GiveUp caller sub number) refl sub.0 (λ log. slots_without log.slots number) (λ id log. refl) (λ log none. ap (λ slots. slots_without slots number) none) refl refl refl refl refl refl refl

  -- ---- the seal of a number

  pub sealed_holds : (caller : ℕ) (sub : SubId) (number : ℕ) → MaySealSub state caller sub.0 number → Holds volume history tried (after state (event.SealSub caller sub number))
  unfolding after
  sealed_holds caller sub number may = record {
    legal = holds.legal;
    current = holds.current;
    point = holds.point;
    committed = holds.committed;
    logs = logs_after state (event.SealSub caller sub number) (λ id log. LogHolds volume history id state.committed_at state.tickets log) (λ id log has.
        either (LogHolds volume history id state.committed_at state.tickets) (nat_eq id sub.0) (log_sealed log caller number) log
        (λ same.
        let id_is : id ≡ sub.0 = eqb-true id sub.0 same in
        seal_holds volume coherent history holds.legal id state.committed_at state.tickets log (holds.logs id log has) caller number (open_is id log has id_is)
        (subst (λ q. Contains state.tickets (record { caller = caller; sub = q; number = number })) (sym id_is) may.ticket))
        (λ _. holds.logs id log has));
    ids = ids_after state (event.SealSub caller sub number) volume holds.ids;
    ids_back = ids_back_after state (event.SealSub caller sub number) volume holds.ids_back;
    root = λ id log taken_number has taken. logs_after state (event.SealSub caller sub number) (λ id log. number_taken state.root id ≡ Some taken_number → IsUncovered log taken_number) (λ id log has taken.
        let old = holds.root id log taken_number has taken in
        either (λ l. IsUncovered l taken_number) (nat_eq id sub.0) (log_sealed log caller number) log
        (λ same. (old.0, let before = old.1 in let own = open_is id log has (eqb-true id sub.0 same) in omega (arith, before, own))) (λ _. old)) id log has taken;
    full = λ commit runs. absurd (some_none commit (sym runs ∙ may.full_is_free));
    tried_survive = λ left c. left_after volume history state (event.SealSub caller sub number) left refl (λ id log. either (λ (l : SubLog). l.acknowledged ≡ log.acknowledged) (nat_eq id sub.0) (log_sealed log caller number) log (λ _. refl) (λ _. refl)) (holds.tried_survive left c);
    tried_fails = holds.tried_fails;
  }
    where
      open_is : (id : ℕ) (log : SubLog) → HasLog state id log → id ≡ sub.0 → log.open_number ≡ number
      open_is id log has same = ap (λ (l : SubLog). l.open_number) (some_same log may.log (sym has ∙ ap (get state.logs) same ∙ may.of_sub)) ∙ may.is_open

  -- ---- commits

  pub root_done_holds : (caller : ℕ) → HoldsRoot state caller → Holds volume history [] (after state (event.RootDone caller))
  unfolding after
  root_done_holds caller may = record {
    legal = holds.legal;
    current = holds.current;
    point = holds.point;
    committed = holds.committed;
    logs = logs_after state (event.RootDone caller) (λ id log. LogHolds volume history id state.committed_at (filter (λ (ticket : Ticket). not (is_taken state.root ticket.sub ticket.number)) state.tickets) log) (λ id log has. covered id log has (number_taken state.root id) refl);
    ids = ids_after state (event.RootDone caller) volume holds.ids;
    ids_back = ids_back_after state (event.RootDone caller) volume holds.ids_back;
    root = λ id log number has taken. absurd (some_none number (sym taken));
    full = λ commit runs. absurd (some_none may.commit (sym may.runs ∙ (holds.full commit runs).no_root));
    tried_survive = λ one c. absurd (contains_none one c);
    tried_fails = λ one c. absurd (contains_none one c);
  }
    where
      among : (ticket : Ticket) → Contains (filter (λ (ticket : Ticket). not (is_taken state.root ticket.sub ticket.number)) state.tickets) ticket → Contains state.tickets ticket
      among ticket c = (filter_contains (λ (t : Ticket). not (is_taken state.root t.sub t.number)) state.tickets ticket c).0

      above : (id number : ℕ) → number_taken state.root id ≡ Some number → (ticket : Ticket) → Contains (filter (λ (ticket : Ticket). not (is_taken state.root ticket.sub ticket.number)) state.tickets) ticket → ticket.sub ≡ id → number < ticket.number
      above id number taken ticket c of_sub =
          let not_taken : is_taken state.root ticket.sub ticket.number ≡ false = not-true _ (filter_contains (λ (t : Ticket). not (is_taken state.root t.sub t.number)) state.tickets ticket c).1 in
          let at : number_taken state.root ticket.sub ≡ Some number = ap (number_taken state.root) of_sub ∙ taken in
          leb-false ticket.number number (sym (ap (λ o. elim o as (λ x. Bool) [ None ↦ false | Some n ↦ nat_le ticket.number n ]) at) ∙ not_taken)

      covered : (id : ℕ) (log : SubLog) → HasLog state id log → (o : Option ℕ) → number_taken state.root id ≡ o → LogHolds volume history id state.committed_at (filter (λ (ticket : Ticket). not (is_taken state.root ticket.sub ticket.number)) state.tickets) (log_taken o log)
      covered id log has None e = fewer_tickets volume coherent history holds.legal id state.committed_at state.tickets log (holds.logs id log has) (filter (λ (ticket : Ticket). not (is_taken state.root ticket.sub ticket.number)) state.tickets) among
      covered id log has (Some number) e = cover_holds volume coherent history holds.legal id state.committed_at state.tickets log (holds.logs id log has) number (holds.root id log number has e) (filter (λ (ticket : Ticket). not (is_taken state.root ticket.sub ticket.number)) state.tickets) among (above id number e)

  pub full_done_holds : (caller : ℕ) → HoldsFull state caller → Holds volume history [] (after state (event.FullDone caller))
  unfolding after
  full_done_holds caller may = record {
    legal = holds.legal;
    current = holds.current;
    point = holds.point;
    committed = subst (λ c. c ≤ length history) (sym at_is) (holds.full may.commit may.runs).point_now;
    logs = logs_after state (event.FullDone caller) (λ id log. LogHolds volume history id (point_at_seal state.full) [] log) (λ id log has. subst (λ c. LogHolds volume history id c [] (log_with (sub_sealed state.full id) log)) (sym at_is) (committed id log has));
    ids = ids_after state (event.FullDone caller) volume holds.ids;
    ids_back = ids_back_after state (event.FullDone caller) volume holds.ids_back;
    root = λ id log number has taken. absurd (none_taken state.root id number (holds.full may.commit may.runs).no_root taken);
    full = λ commit runs. absurd (some_none commit (sym runs));
    tried_survive = λ one c. absurd (contains_none one c);
    tried_fails = λ one c. absurd (contains_none one c);
  }
    where
      at_is : point_at_seal state.full ≡ may.commit.point
      at_is = ap point_at_seal may.runs

      committed : (id : ℕ) (log : SubLog) → HasLog state id log → LogHolds volume history id may.commit.point [] (log_with (sub_sealed state.full id) log)
      committed id log has =
          let sub = sub_at volume coherent history tried state holds id log may.commit.point has in
          let sealed : sub_sealed state.full id ≡ Some sub.0 = ap (λ o. sub_sealed o id) may.runs ∙ ap (λ v. get v id) (holds.full may.commit may.runs).is ∙ sub.1 in
          subst (λ o. LogHolds volume history id may.commit.point [] (log_with o log)) (sym sealed)
          (commit_holds volume coherent history holds.legal id state.committed_at state.tickets log (holds.logs id log has) may.commit.point sub.0 ((holds.full may.commit may.runs).point_now, sub.1) ((holds.full may.commit may.runs).waiting_earlier id log has) ((holds.full may.commit may.runs).acknowledged_earlier id log has))

  -- ---- failures

  pub failed_holds : (caller : ℕ) (turn : Turn) (was_tried : Bool) → MayFail state caller turn was_tried → Holds volume history (cond was_tried (next_volumes state ++ tried) tried) (after state (event.Failed caller turn was_tried))
  unfolding after
  failed_holds caller turn was_tried may = record {
    legal = holds.legal;
    current = holds.current;
    point = holds.point;
    committed = holds.committed;
    logs = logs_after state (event.Failed caller turn was_tried) (λ id log. LogHolds volume history id state.committed_at (filter (λ (ticket : Ticket). not (nat_eq ticket.caller caller)) state.tickets) log) (λ id log has. fail_holds volume coherent history holds.legal id state.committed_at state.tickets log (holds.logs id log has) caller (filter (λ (ticket : Ticket). not (nat_eq ticket.caller caller)) state.tickets) among);
    ids = ids_after state (event.Failed caller turn was_tried) volume holds.ids;
    ids_back = ids_back_after state (event.Failed caller turn was_tried) volume holds.ids_back;
    root = λ id log number has taken. logs_after state (event.Failed caller turn was_tried) (λ id log. number_taken state.root id ≡ Some number → IsUncovered log number) (λ id log has taken. holds.root id log number has taken) id log has (taken_without state.root caller id number taken);
    full = λ commit runs.
        let f = holds.full commit (full_without_was state.full caller commit runs) in
        record {
          point_now = f.point_now;
          since = f.since;
          is = f.is;
          waiting_earlier = logs_after state (event.Failed caller turn was_tried) (λ id log. (fsync : Synced) → Contains log.waiting fsync → fsync.point ≤ commit.point) (λ id log has fsync c. f.waiting_earlier id log has fsync (filter_contains (λ (x : Synced). not (nat_eq x.caller caller)) log.waiting fsync c).0);
          acknowledged_earlier = logs_after state (event.Failed caller turn was_tried) (λ id log. (fsync : Synced) → Contains log.acknowledged fsync → fsync.point ≤ commit.point) (λ id log has fsync c. f.acknowledged_earlier id log has fsync c);
          no_slots = logs_after state (event.Failed caller turn was_tried) (λ id log. log.slots ≡ []) (λ id log has. ap (λ slots. slots_without_holder slots caller) (f.no_slots id log has));
          no_root = ap (λ o. root_without o caller) f.no_root;
        };
    tried_survive = all_survive was_tried;
    tried_fails = all_fail was_tried may;
  }
    where
      among : (ticket : Ticket) → Contains (filter (λ (ticket : Ticket). not (nat_eq ticket.caller caller)) state.tickets) ticket → Contains state.tickets ticket
      among ticket c = (filter_contains (λ (t : Ticket). not (nat_eq t.caller caller)) state.tickets ticket c).0

      next : (one : Volume) → LeftSurvives volume history state one → LeftSurvives volume history (after state (event.Failed caller turn was_tried)) one
      next one survives = left_after volume history state (event.Failed caller turn was_tried) one refl (λ id log. refl) survives

      all_survive : (b : Bool) (one : Volume) → Contains (cond b (next_volumes state ++ tried) tried) one → LeftSurvives volume history (after state (event.Failed caller turn was_tried)) one
      all_survive true one c = next one (elim (Contains-append_cases (next_volumes state) tried one c) [ inl new ↦ next_survive volume coherent history tried state holds one new | inr old ↦ holds.tried_survive one old ])
      all_survive false one c = next one (holds.tried_survive one c)

      own_root : HoldsRoot state caller → root_without state.root caller ≡ None
      own_root own = ap (λ o. root_without o caller) own.runs ∙ ap (λ b. cond b None (Some own.commit)) (eq-eqb own.commit.holder caller own.own)

      no_root : (x : Turn) → MayFail state caller x true → root_without state.root caller ≡ None
      no_root (turns.Slot sub parity) own = absurd (true≢false own.1)
      no_root turns.Root own = own_root own
      no_root turns.Full own = ap (λ o. root_without o caller) (holds.full own.commit own.runs).no_root

      all_fail : (b : Bool) → MayFail state caller turn b → (one : Volume) → Contains (cond b (next_volumes state ++ tried) tried) one → (0 < state.failures + 1) × (root_without state.root caller ≡ None)
      all_fail true own one c = (omega arith, no_root turn own)
      all_fail false own one c = (omega arith, ap (λ o. root_without o caller) (holds.tried_fails one c).1)

  -- ---- log steps

  module _ (caller : ℕ) (sub : SubId) (ino : Ino) (datasync : Bool) where
    -- what a log step leaves where it leaves the turns alone but for wants and tickets
    stepped_holds : (end : Logged) (may : MayLog state sub.0 ino.0 end datasync) → ((id : ℕ) (log : SubLog) → HasLog state id log → LogHolds volume history id state.committed_at (state_after_step state caller sub.0 end).tickets (log_after state (event.Log caller sub ino end datasync) id log))
        → ((id : ℕ) (log : SubLog) → IsSameNumbers log (log_after state (event.Log caller sub ino end datasync) id log)) → IsSameTurns state (state_after_step state caller sub.0 end)
        → ((left : Volume) → Contains tried left → (id : ℕ) (log : SubLog) → (log_after state (event.Log caller sub ino end datasync) id log).acknowledged ≡ log.acknowledged)
        → Holds volume history tried (after state (event.Log caller sub ino end datasync))
    unfolding after
    stepped_holds end may logs numbers same_turns acknowledged = record {
      legal = holds.legal;
      current = same_turns.current ∙ holds.current;
      point = same_turns.point ∙ holds.point;
      committed = let c = holds.committed in let s = same_turns.committed in omega (arith, c, s);
      logs = logs_after state (event.Log caller sub ino end datasync) (λ id log. LogHolds volume history id (state_after_step state caller sub.0 end).committed_at (state_after_step state caller sub.0 end).tickets log) (λ id log has. subst (λ c. LogHolds volume history id c (state_after_step state caller sub.0 end).tickets (log_after state (event.Log caller sub ino end datasync) id log)) (sym same_turns.committed) (logs id log has));
      ids = ids_after state (event.Log caller sub ino end datasync) volume holds.ids;
      ids_back = ids_back_after state (event.Log caller sub ino end datasync) volume holds.ids_back;
      root = λ id log number has taken. logs_after state (event.Log caller sub ino end datasync) (λ id log. number_taken state.root id ≡ Some number → IsUncovered log number) (λ id log has taken.
          let old = holds.root id log number has taken in
          let same = numbers id log in
          let a = old.0 in let b = old.1 in let x = same.covered in let y = same.open_same in (omega (arith, a, x), omega (arith, b, y))) id log has (ap (λ o. number_taken o id) (sym same_turns.root) ∙ taken);
      full = λ commit runs. absurd (some_none commit (sym runs ∙ same_turns.full ∙ may.full_is_free));
      tried_survive = λ left c. left_after volume history state (event.Log caller sub ino end datasync) left same_turns.committed (acknowledged left c) (holds.tried_survive left c);
      tried_fails = λ left c. let t = holds.tried_fails left c in (let some = t.0 in let s = same_turns.failures in omega (arith, some, s), same_turns.root ∙ t.1);
    }

    -- the log of the subvolume of the step
    own_log : (end : Logged) (may : MayLog state sub.0 ino.0 end datasync) (P : ℕ → SubLog → Type 0)
        → ((log : SubLog) → HasLog state sub.0 log → log ≡ may.log → P sub.0 (log_after_step log may.run.sub caller (length history) ino.0 end datasync)) → ((id : ℕ) (log : SubLog) → HasLog state id log → id ≢ sub.0 → P id log)
        → (id : ℕ) (log : SubLog) → HasLog state id log → P id (log_after state (event.Log caller sub ino end datasync) id log)
    own_log end may P own other id log has = either (P id) (nat_eq id sub.0) (log_stepped (get state.current id) log caller state.point ino.0 end datasync) log
        (λ same.
        let id_is : id ≡ sub.0 = eqb-true id sub.0 same in
        let there : get state.current id ≡ Some may.run = ap (get state.current) id_is ∙ may.current in
        let has_own : HasLog state sub.0 log = subst (λ q. HasLog state q log) id_is has in
        subst (λ o. P id (log_stepped o log caller state.point ino.0 end datasync)) (sym there)
        (subst (λ p. P id (log_after_step log may.run.sub caller p ino.0 end datasync)) (sym holds.point)
        (subst (λ q. P q (log_after_step log may.run.sub caller (length history) ino.0 end datasync)) (sym id_is) (own log has_own (some_same log may.log (sym has_own ∙ may.of_sub))))))
        (λ apart. other id log has (λ same. true≢false (sym (eq-eqb id sub.0 same) ∙ apart)))

    now_at : (end : Logged) (may : MayLog state sub.0 ino.0 end datasync) → IsAtPoint volume history sub.0 (length history) may.run.sub
    now_at end may = (
      omega arith,
      get_volume_of (after_all (mounted volume) (take (length history) history)) sub.0
          ∙ ap (λ run. option_map (λ (r : RunSub). r.sub) (get run sub.0)) (ap (after_all (mounted volume)) (take_all (length history) history (omega arith)) ∙ sym holds.current)
          ∙ ap (option_map (λ (r : RunSub). r.sub)) may.current,
    )

    same_numbers : (end : Logged) (id : ℕ) (log : SubLog) → IsSameNumbers log (log_after state (event.Log caller sub ino end datasync) id log)
    same_numbers end id log = either (IsSameNumbers log) (nat_eq id sub.0) (log_stepped (get state.current id) log caller state.point ino.0 end datasync) log (λ _. stepped (get state.current id)) (λ _. record { covered = refl; open_same = refl })
      where
        after_step : (x : Logged) (run : RunSub) → IsSameNumbers log (log_after_step log run.sub caller state.point ino.0 x datasync)
        after_step logged.Already run = record { covered = refl; open_same = refl }
        after_step (logged.Ticket number) run = record { covered = refl; open_same = refl }
        after_step (logged.Full reason) run = record { covered = refl; open_same = refl }

        stepped : (o : Option RunSub) → IsSameNumbers log (log_stepped o log caller state.point ino.0 end datasync)
        stepped None = record { covered = refl; open_same = refl }
        stepped (Some run) = after_step end run

    abbrev given_ticket : ℕ → Ticket
    given_ticket number = record { caller = caller; sub = sub.0; number = number }

    abbrev other_tickets : List Ticket
    other_tickets = filter (λ (ticket : Ticket). not (nat_eq ticket.caller caller)) state.tickets

    pub logged_holds : (end : Logged) → MayLog state sub.0 ino.0 end datasync → Holds volume history tried (after state (event.Log caller sub ino end datasync))
    logged_holds logged.Already may =
        stepped_holds logged.Already may
        (own_log logged.Already may (λ id log. LogHolds volume history id state.committed_at state.tickets log)
        (λ log has is. already_holds volume coherent history holds.legal sub.0 state.committed_at state.tickets log (holds.logs sub.0 log has) may.run.sub (now_at logged.Already may) holds.committed caller ino.0 datasync may.has_ino may.room.failed (subst (λ l. IsAlready l may.run.sub ino.0 datasync may.room.failed) (sym is) (done may.ends)))
        (λ id log has other. holds.logs id log has))
        (same_numbers logged.Already) (record { current = refl; point = refl; committed = refl; root = refl; full = refl; failures = refl })
        (λ left c. absurd (let some = (holds.tried_fails left c).0 in let none = (done may.ends).no_failure in let same = may.failures in omega (arith, some, none, same)))
      where
        done : IsLogEnd may.log may.run.sub ino.0 datasync may.room logged.Already → IsAlready may.log may.run.sub ino.0 datasync may.room.failed
        done (IsDone already) = already
    logged_holds (logged.Full reason) may =
        stepped_holds (logged.Full reason) may
        (own_log (logged.Full reason) may (λ id log. LogHolds volume history id state.committed_at state.tickets log)
        (λ log has is. full_holds volume coherent history holds.legal sub.0 state.committed_at state.tickets log (holds.logs sub.0 log has) may.run.sub (now_at (logged.Full reason) may) holds.committed caller ino.0 datasync may.has_ino reason)
        (λ id log has other. holds.logs id log has))
        (same_numbers (logged.Full reason)) (record { current = refl; point = refl; committed = refl; root = refl; full = refl; failures = refl })
        (λ left c id log. either (λ (l : SubLog). l.acknowledged ≡ log.acknowledged) (nat_eq id sub.0) (log_stepped (get state.current id) log caller state.point ino.0 (logged.Full reason) datasync) log (λ _. kept (get state.current id) log) (λ _. refl))
      where
        kept : (o : Option RunSub) (log : SubLog) → (log_stepped o log caller state.point ino.0 (logged.Full reason) datasync).acknowledged ≡ log.acknowledged
        kept None log = refl
        kept (Some run) log = refl
    logged_holds (logged.Ticket number) may =
        stepped_holds (logged.Ticket number) may
        (own_log (logged.Ticket number) may (λ id log. LogHolds volume history id state.committed_at (given_ticket number ∷ other_tickets) log)
        (λ log has is. ticket_holds volume coherent history holds.legal sub.0 state.committed_at state.tickets log (holds.logs sub.0 log has) may.run.sub (now_at (logged.Ticket number) may) holds.committed caller ino.0 datasync may.has_ino may.room number
        (subst (λ (l : SubLog). commit_reason may.run.sub l.logged ino.0 datasync may.room ≡ None) (sym is) (ticketed may.ends).0) (subst (λ l. IsTicketOf l may.run.sub ino.0 datasync number) (sym is) (ticketed may.ends).1) other_tickets among)
        (λ id log has other. other_ticket volume coherent history holds.legal id state.committed_at other_tickets log (fewer_tickets volume coherent history holds.legal id state.committed_at state.tickets log (holds.logs id log has) other_tickets among) (given_ticket number) (λ same. other (sym same))))
        (same_numbers (logged.Ticket number)) (record { current = refl; point = refl; committed = refl; root = refl; full = refl; failures = refl })
        (λ one c id log. either (λ (l : SubLog). l.acknowledged ≡ log.acknowledged) (nat_eq id sub.0) (log_stepped (get state.current id) log caller state.point ino.0 (logged.Ticket number) datasync) log (λ _. kept (get state.current id) log) (λ _. refl))
      where
        among : (ticket : Ticket) → Contains other_tickets ticket → Contains state.tickets ticket
        among ticket c = (filter_contains (λ (t : Ticket). not (nat_eq t.caller caller)) state.tickets ticket c).0

        ticketed : IsLogEnd may.log may.run.sub ino.0 datasync may.room (logged.Ticket number) → (commit_reason may.run.sub may.log.logged ino.0 datasync may.room ≡ None) × IsTicketOf may.log may.run.sub ino.0 datasync number
        ticketed (GetsTicket own not_already none ticket) = (none, ticket)

        kept : (o : Option RunSub) (log : SubLog) → (log_stepped o log caller state.point ino.0 (logged.Ticket number) datasync).acknowledged ≡ log.acknowledged
        kept None log = refl
        kept (Some run) log = refl
