-- What holds of the state at all times, and that each event keeps it.
use Rattle.std.proofs.Common.{◌≡◌, ℕ, zero, suc, ◌<◌, ◌≤◌, ◌+◌, ◌-◌, Bool, true, false, cond, ◌&&◌, List, [], ◌∷◌, ◌++◌, length, Option, Some, None, refl, sym, ap, subst, ◌∙◌, arith, inl, inr, ◌⊎◌}
use Rattle.std.specs.Bool.{nat_eq, nat_lt}
use Rattle.std.specs.Cmp.{nat_cmp_total}
use Rattle.std.specs.Option.{unwrap_or, option_map}
use Rattle.std.specs.List.{Contains, filter, list_any, list_all, last_or, range_with_len}
use Rattle.std.specs.FinMap.{get, same_map, nat_cmp-IsAntisymmetric}
use Rattle.std.proofs.lemmas.Bool.{true≢false, ltb-true, and_parts}
use Rattle.std.proofs.lemmas.List.{take_all, length-append}
use Rattle.std.proofs.lemmas.List.Elements.{Contains-append_cases}
use Rattle.flat_model.specs.declared.op.Op.{Op}
use Rattle.flat_model.specs.declared.place.Place.{Place}
use Rattle.flat_model.specs.declared.answer.Answer.{Answer}
use Rattle.flat_model.specs.Volume.{Subvolume, Volume, mounted, volume_of}
use Rattle.flat_model.specs.Coherent.{IsCoherentVolume}
use Rattle.flat_model.specs.Step as operation
use Rattle.flat_model.specs.Step.{Operated, IsHistory, step, after_one, after_all, volume_at}
use Rattle.flat_model.proofs.Lists.{contains_head, contains_tail, contains_cases, contains_none, filter_contains}
use Rattle.flat_model.proofs.Maps.{some_same, some_none}
use Rattle.commit_history.specs.declared.event.Event.{Event}
use Rattle.commit_history.specs.declared.event.Event.TheVariants as event
use Rattle.commit_history.specs.declared.event.Logged.{Logged}
use Rattle.commit_history.specs.declared.event.Logged.TheVariants as logged
use Rattle.commit_history.specs.declared.event.OpEnd.{OpEnd}
use Rattle.commit_history.specs.declared.event.OpEnd.TheVariants as ends
use Rattle.commit_history.specs.State.{Slot, Synced, SubLog, RootCommit, FullCommit, State, HasLog, durable_volume, number_taken, is_ready, is_written, uncovered_numbers, greatest_ready}
use Rattle.commit_history.specs.Effects.{after, turns_after, log_after, log_taken, operated, numbers_ready, root_without, full_without, state_after_step}
use Rattle.commit_history.specs.Legal.{MaySealRoot, MaySealFull, operated_by}
use Rattle.commit_history.specs.Survival.{SubSurvives, next_volumes, volume_by_root}
use Rattle.commit_history.proofs.Maps.{changed_there, changed_stays, get_changed}
use Rattle.commit_history.proofs.LogNumbers.{log_before, log_afterwards}
use Rattle.commit_history.proofs.Lasting.{weaker, longer, point_survives, same_volume_at, history_more, after_more, there_at, was_first}
use Rattle.commit_history.proofs.LogHolding.{LogHolds, IsUncovered, covered_with, acknowledged_is_covered, longer_holds}

-- a volume has the subvolumes of the state, and each survives what is acknowledged now
pub record LeftSurvives (volume : Volume) (history : List Operated) (state : State) (left : Volume) : Type 0 where
  pub there : (id : ℕ) (log : SubLog) → HasLog state id log → (sub : Subvolume) × (get left id ≡ Some sub) × SubSurvives volume history id state.committed_at log.acknowledged sub
  pub only : (id : ℕ) (sub : Subvolume) → get left id ≡ Some sub → (log : SubLog) × HasLog state id log

-- a full commit that runs: the volume at its point, not before anything that waits or is acknowledged
pub record FullHolds (volume : Volume) (history : List Operated) (state : State) (commit : FullCommit) : Type 0 where
  pub point_now : commit.point ≤ length history
  pub since : state.committed_at ≤ commit.point
  pub is : commit.volume ≡ volume_at volume history commit.point
  pub waiting_earlier : (id : ℕ) (log : SubLog) → HasLog state id log → (fsync : Synced) → Contains log.waiting fsync → fsync.point ≤ commit.point
  pub acknowledged_earlier : (id : ℕ) (log : SubLog) → HasLog state id log → (fsync : Synced) → Contains log.acknowledged fsync → fsync.point ≤ commit.point
  pub no_slots : (id : ℕ) (log : SubLog) → HasLog state id log → log.slots ≡ []
  pub no_root : state.root ≡ None

pub record Holds (volume : Volume) (history : List Operated) (tried : List Volume) (state : State) : Type 0 where
  pub legal : IsHistory (mounted volume) history
  pub current : state.current ≡ after_all (mounted volume) history
  pub point : state.point ≡ length history
  pub committed : state.committed_at ≤ length history
  pub logs : (id : ℕ) (log : SubLog) → HasLog state id log → LogHolds volume history id state.committed_at state.tickets log
  pub ids : (id : ℕ) (log : SubLog) → HasLog state id log → (sub : Subvolume) × (get volume id ≡ Some sub)
  pub ids_back : (id : ℕ) (sub : Subvolume) → get volume id ≡ Some sub → (log : SubLog) × HasLog state id log
  pub root : (id : ℕ) (log : SubLog) (number : ℕ) → HasLog state id log → number_taken state.root id ≡ Some number → IsUncovered log number
  pub full : (commit : FullCommit) → state.full ≡ Some commit → FullHolds volume history state commit
  pub tried_survive : (left : Volume) → Contains tried left → LeftSurvives volume history state left
  pub tried_fails : (left : Volume) → Contains tried left → (0 < state.failures) × (state.root ≡ None)

-- ---- what the state before and after an event has

pub either : {A : Type 0} (P : A → Type 0) (b : Bool) (x y : A) → (b ≡ true → P x) → (b ≡ false → P y) → P (cond b x y)
either P true x y one two = one refl
either P false x y one two = two refl

-- what holds of each log as the event leaves it holds of each log afterwards
module _ (state : State) (e : Event) where
  pub logs_after : (P : ℕ → SubLog → Type 0) → ((id : ℕ) (log : SubLog) → HasLog state id log → P id (log_after state e id log)) → (id : ℕ) (log : SubLog) → HasLog (after state e) id log → P id log
  logs_after P each id log has = let old = log_before state e id log has in subst (P id) (sym old.2) (each id old.0 old.1)

  pub ids_after : (volume : Volume) → ((id : ℕ) (log : SubLog) → HasLog state id log → (sub : Subvolume) × (get volume id ≡ Some sub)) → (id : ℕ) (log : SubLog) → HasLog (after state e) id log → (sub : Subvolume) × (get volume id ≡ Some sub)
  ids_after volume ids = logs_after (λ id log. (sub : Subvolume) × (get volume id ≡ Some sub)) ids

  pub ids_back_after : (volume : Volume) → ((id : ℕ) (sub : Subvolume) → get volume id ≡ Some sub → (log : SubLog) × HasLog state id log) → (id : ℕ) (sub : Subvolume) → get volume id ≡ Some sub → (log : SubLog) × HasLog (after state e) id log
  ids_back_after volume back id sub there = let old = back id sub there in (log_after state e id old.0, log_afterwards state e id old.0 old.1)

  -- an event that changes no log
  quiet : ((id : ℕ) (log : SubLog) → log_after state e id log ≡ log) → after state e ≡ turns_after state e
  unfolding after
  quiet same = ap (λ logs. record (turns_after state e) { logs = logs }) (same_map nat_cmp_total nat_cmp-IsAntisymmetric _ _ (λ id. get_changed (log_after state e) state.logs id ∙ kept id (get state.logs id))) ∙ turns_keep_logs
    where
      kept : (id : ℕ) (o : Option SubLog) → option_map (log_after state e id) o ≡ o
      kept id None = refl
      kept id (Some log) = ap Some (same id log)

      turns_keep_logs : record (turns_after state e) { logs = state.logs } ≡ turns_after state e
      turns_keep_logs = keeps e
        where
          step_keeps : (caller sub : ℕ) (end : Logged) → record (state_after_step state caller sub end) { logs = state.logs } ≡ state_after_step state caller sub end
          step_keeps caller sub logged.Already = refl
          step_keeps caller sub (logged.Ticket number) = refl
          step_keeps caller sub (logged.Full reason) = refl

          keeps : (x : Event) → record (turns_after state x) { logs = state.logs } ≡ turns_after state x
          keeps (event.Op caller op again end indexes) = refl
          keeps (event.Refused caller target answer) = refl
          keeps (event.Log caller sub ino end datasync) = step_keeps caller sub.0 end
          keeps (event.Ask caller) = refl
          keeps (event.SealSub caller sub number) = refl
          keeps (event.SubWritten caller sub number) = refl
          keeps (event.SealRoot caller) = refl
          keeps (event.RootDone caller) = refl
          keeps (event.SealFull caller) = refl
          keeps (event.FullDone caller) = refl
          keeps (event.Failed caller turn was_tried) = refl
          keeps (event.GiveUp caller sub number) = refl

-- fewer are acknowledged in a state with the same logs but for what isn't acknowledged
pub left_after : (volume : Volume) (history : List Operated) (state : State) (e : Event) (left : Volume) → (after state e).committed_at ≡ state.committed_at → ((id : ℕ) (log : SubLog) → (log_after state e id log).acknowledged ≡ log.acknowledged) → LeftSurvives volume history state left → LeftSurvives volume history (after state e) left
left_after volume history state e left committed same survives = record {
  there = logs_after state e (λ id log. (sub : Subvolume) × (get left id ≡ Some sub) × SubSurvives volume history id (after state e).committed_at log.acknowledged sub) (λ id log has.
      let old = survives.there id log has in
      (old.0, old.1, subst (λ c. SubSurvives volume history id c (log_after state e id log).acknowledged old.0) (sym committed) (subst (λ a. SubSurvives volume history id state.committed_at a old.0) (sym (same id log)) old.2)));
  only = λ id sub there. let old = survives.only id sub there in (log_after state e id old.0, log_afterwards state e id old.0 old.1);
}

module _ (volume : Volume) (coherent : IsCoherentVolume volume) (history : List Operated) (tried : List Volume) (state : State) (holds : Holds volume history tried state) where
  -- ---- the volumes that a crash may leave

  pub durable_survives_now : LeftSurvives volume history state (durable_volume state)
  unfolding durable_volume
  durable_survives_now = record {
    there = λ id log has. (log.durable, changed_stays (λ id log. log.durable) state.logs id log has, (holds.logs id log has).durable_survives);
    only = λ id sub there. let old = changed_there (λ id log. log.durable) state.logs id sub there in (old.0, old.1);
  }

  root_survives : (commit : RootCommit) → state.root ≡ Some commit → LeftSurvives volume history state (volume_by_root state commit)
  root_survives commit runs = record {
    there = λ id log has. (
      (log_taken (number_taken (Some commit) id) log).durable,
      changed_stays (λ id log. (log_taken (number_taken (Some commit) id) log).durable) state.logs id log has,
      taken id log has (number_taken (Some commit) id) refl,
    );
    only = λ id sub there. let old = changed_there (λ id log. (log_taken (number_taken (Some commit) id) log).durable) state.logs id sub there in (old.0, old.1);
  }
    where
      taken : (id : ℕ) (log : SubLog) → HasLog state id log → (o : Option ℕ) → number_taken (Some commit) id ≡ o → SubSurvives volume history id state.committed_at log.acknowledged (log_taken o log).durable
      taken id log has None e = (holds.logs id log has).durable_survives
      taken id log has (Some number) e =
          let own = holds.logs id log has in
          let sealed = own.sealed_survive number (holds.root id log number has (ap (λ o. number_taken o id) runs ∙ e)) in
          let weak = weaker volume history id state.committed_at state.committed_at (omega arith) log.acknowledged (covered_with log number) (acknowledged_is_covered log number) sealed.0 sealed.2 in
          subst (SubSurvives volume history id state.committed_at log.acknowledged) (sym (ap (λ o. unwrap_or o log.durable) sealed.1)) weak

  -- the subvolume at a point
  pub sub_at : (id : ℕ) (log : SubLog) (point : ℕ) → HasLog state id log → (sub : Subvolume) × (get (volume_at volume history point) id ≡ Some sub)
  sub_at id log point has = let first = holds.ids id log has in there_at volume history holds.legal id point first.0 first.1

  full_survives : (commit : FullCommit) → state.full ≡ Some commit → LeftSurvives volume history state commit.volume
  full_survives commit runs =
      let full = holds.full commit runs in
      record {
        there = λ id log has.
            let sub = sub_at id log commit.point has in (
              sub.0,
              ap (λ v. get v id) full.is ∙ sub.1,
              point_survives volume history coherent holds.legal id state.committed_at log.acknowledged commit.point sub.0 (full.point_now, sub.1) full.since (full.acknowledged_earlier id log has),
            );
        only = λ id sub there. first_had id sub commit.point (ap (λ v. get v id) (sym full.is) ∙ there);
      }
    where
      first_had : (id : ℕ) (sub : Subvolume) (point : ℕ) → get (volume_at volume history point) id ≡ Some sub → (log : SubLog) × HasLog state id log
      first_had id sub point there = let old = was_first volume history holds.legal id point sub there in holds.ids_back id old.0 old.1

  pub next_survive : (left : Volume) → Contains (next_volumes state) left → LeftSurvives volume history state left
  next_survive left c = elim (Contains-append_cases (elim state.root as (λ o. List Volume) [ None ↦ [] | Some root ↦ volume_by_root state root ∷ [] ]) (elim state.full as (λ o. List Volume) [ None ↦ [] | Some full ↦ full.volume ∷ [] ]) left c) [
    | inl by_root ↦ of_root state.root refl by_root
    | inr by_full ↦ of_full state.full refl by_full
  ]
    where
      of_root : (o : Option RootCommit) → state.root ≡ o → Contains (elim o as (λ x. List Volume) [ None ↦ [] | Some root ↦ volume_by_root state root ∷ [] ]) left → LeftSurvives volume history state left
      of_root None e c = absurd (contains_none left c)
      of_root (Some commit) e c = elim (contains_cases (volume_by_root state commit) [] left c) [ inl same ↦ subst (LeftSurvives volume history state) same (root_survives commit e) | inr none ↦ absurd (contains_none left none) ]

      of_full : (o : Option FullCommit) → state.full ≡ o → Contains (elim o as (λ x. List Volume) [ None ↦ [] | Some full ↦ full.volume ∷ [] ]) left → LeftSurvives volume history state left
      of_full None e c = absurd (contains_none left c)
      of_full (Some commit) e c = elim (contains_cases commit.volume [] left c) [ inl same ↦ subst (LeftSurvives volume history state) same (full_survives commit e) | inr none ↦ absurd (contains_none left none) ]

-- ---- numbers that are ready

range_is : (from count n : ℕ) → Contains (range_with_len from count) n → (from ≤ n) × (n < from + count)
range_is from zero n c = absurd (contains_none n c)
range_is from (suc count) n c = elim (contains_cases from (range_with_len (from + 1) count) n c) [
  | inl same ↦ (omega (arith, same), omega (arith, same))
  | inr later ↦ let rest = range_is (from + 1) count n later in let a = rest.0 in let b = rest.1 in (omega (arith, a), omega (arith, b))
]

last_is_in : (o : Option ℕ) (xs : List ℕ) (n : ℕ) → last_or o xs ≡ Some n → (o ≡ Some n) ⊎ Contains xs n
last_is_in o [] n e = inl e
last_is_in o (x ∷ xs) n e = elim (last_is_in (Some x) xs n e) [
  | inl same ↦ inr (subst (Contains (x ∷ xs)) (some_same x n same) (contains_head x xs))
  | inr later ↦ inr (contains_tail x xs n later)
]

greatest_is_uncovered : (log : SubLog) (number : ℕ) → greatest_ready log ≡ Some number → IsUncovered log number
unfolding greatest_ready
greatest_is_uncovered log number e = elim (last_is_in None (filter (is_ready log) (uncovered_numbers log)) number e) [
  | inl none ↦ absurd (some_none number (sym none))
  | inr found ↦
      let bounds = range_is (log.covered + 1) (log.open_number - (log.covered + 1)) number (filter_contains (is_ready log) (uncovered_numbers log) number found).0 in
      let a = bounds.0 in let b = bounds.1 in (omega (arith, a), omega (arith, a, b))
]

-- without slots no number is ready
none_ready : (log : SubLog) (number : ℕ) → log.slots ≡ [] → is_ready log number ≡ true → ⊥
none_ready log number none ready =
    let parts = and_parts (nat_lt log.covered number) (list_all (is_written log) (range_with_len (log.covered + 1) (number - log.covered))) ready in
    let above = ltb-true log.covered number parts.0 in
    unwritten (number - log.covered) (omega (arith, above)) parts.1
  where
    not_written : (n : ℕ) → is_written log n ≡ false
    not_written n = ap (λ slots. list_any (λ (slot : Slot). nat_eq slot.number n && slot.written) slots) none

    unwritten : (count : ℕ) → 1 ≤ count → list_all (is_written log) (range_with_len (log.covered + 1) count) ≡ true → ⊥
    unwritten zero some all = absurd (omega (arith, some))
    unwritten (suc count) some all = true≢false (sym (and_parts (is_written log (log.covered + 1)) (list_all (is_written log) (range_with_len (log.covered + 1 + 1) count)) all).0 ∙ not_written (log.covered + 1))

pub root_without_was : (o : Option RootCommit) (caller : ℕ) (commit : RootCommit) → root_without o caller ≡ Some commit → o ≡ Some commit
root_without_was None caller commit e = absurd (some_none commit (sym e))
root_without_was (Some own) caller commit e = elim (nat_eq own.holder caller) as (λ b. cond b None (Some own) ≡ Some commit → Some own ≡ Some commit) [ true ↦ λ x. absurd (some_none commit (sym x)) | false ↦ λ x. x ] e

pub full_without_was : (o : Option FullCommit) (caller : ℕ) (commit : FullCommit) → full_without o caller ≡ Some commit → o ≡ Some commit
full_without_was None caller commit e = absurd (some_none commit (sym e))
full_without_was (Some own) caller commit e = elim (nat_eq own.holder caller) as (λ b. cond b None (Some own) ≡ Some commit → Some own ≡ Some commit) [ true ↦ λ x. absurd (some_none commit (sym x)) | false ↦ λ x. x ] e

pub taken_without : (o : Option RootCommit) (caller id number : ℕ) → number_taken (root_without o caller) id ≡ Some number → number_taken o id ≡ Some number
taken_without None caller id number e = absurd (some_none number (sym e))
taken_without (Some own) caller id number e = elim (nat_eq own.holder caller) as (λ b. number_taken (cond b None (Some own)) id ≡ Some number → number_taken (Some own) id ≡ Some number) [ true ↦ λ x. absurd (some_none number (sym x)) | false ↦ λ x. x ] e

pub none_taken : (o : Option RootCommit) (id number : ℕ) → o ≡ None → number_taken o id ≡ Some number → ⊥
none_taken o id number none e = some_none number (sym e ∙ ap (λ x. number_taken x id) none)

-- ---- events that change no log

module _ (volume : Volume) (coherent : IsCoherentVolume volume) (history : List Operated) (tried : List Volume) (state : State) (holds : Holds volume history tried state) where
  pub refused_holds : (caller : ℕ) (target : Place) (answer : Answer) → Holds volume history tried (after state (event.Refused caller target answer))
  refused_holds caller target answer = subst (Holds volume history tried) (sym (quiet state (event.Refused caller target answer) (λ id log. refl))) holds

  pub asked_holds : (caller : ℕ) → Holds volume history tried (after state (event.Ask caller))
  asked_holds caller = subst (Holds volume history tried) (sym (quiet state (event.Ask caller) (λ id log. refl))) (record {
    legal = holds.legal;
    current = holds.current;
    point = holds.point;
    committed = holds.committed;
    logs = holds.logs;
    ids = holds.ids;
    ids_back = holds.ids_back;
    root = holds.root;
    full = λ commit runs. let f = holds.full commit runs in record { point_now = f.point_now; since = f.since; is = f.is; waiting_earlier = f.waiting_earlier; acknowledged_earlier = f.acknowledged_earlier; no_slots = f.no_slots; no_root = f.no_root };
    tried_survive = λ left c. let s = holds.tried_survive left c in record { there = s.there; only = s.only };
    tried_fails = holds.tried_fails;
  })

  pub root_sealed_holds : (caller : ℕ) → MaySealRoot state caller → Holds volume history tried (after state (event.SealRoot caller))
  unfolding numbers_ready
  root_sealed_holds caller may = subst (Holds volume history tried) (sym (quiet state (event.SealRoot caller) (λ id log. refl))) (record {
    legal = holds.legal;
    current = holds.current;
    point = holds.point;
    committed = holds.committed;
    logs = holds.logs;
    ids = holds.ids;
    ids_back = holds.ids_back;
    root = λ id log number has e. greatest_is_uncovered log number (sym (taken_is id log has) ∙ e);
    full = λ commit runs. absurd (none_ready may.log may.ticket.number ((holds.full commit runs).no_slots may.ticket.sub may.log may.of_sub) may.ready);
    tried_survive = λ left c. let s = holds.tried_survive left c in record { there = s.there; only = s.only };
    tried_fails = λ left c. absurd (let some = (holds.tried_fails left c).0 in let none = may.no_failure in omega (arith, some, none));
  })
    where
      taken_is : (id : ℕ) (log : SubLog) → HasLog state id log → unwrap_or (get (numbers_ready state.logs) id) None ≡ greatest_ready log
      taken_is id log has = ap (λ (o : Option (Option ℕ)). unwrap_or o None) (changed_stays (λ id log. greatest_ready log) state.logs id log has)

  pub full_sealed_holds : (caller : ℕ) → MaySealFull state caller → Holds volume history tried (after state (event.SealFull caller))
  full_sealed_holds caller may = subst (Holds volume history tried) (sym (quiet state (event.SealFull caller) (λ id log. refl))) (record {
    legal = holds.legal;
    current = holds.current;
    point = holds.point;
    committed = holds.committed;
    logs = holds.logs;
    ids = holds.ids;
    ids_back = holds.ids_back;
    root = holds.root;
    full = λ commit runs. sealed commit (some_same _ commit runs);
    tried_survive = λ left c. let s = holds.tried_survive left c in record { there = s.there; only = s.only };
    tried_fails = holds.tried_fails;
  })
    where
      own : FullHolds volume history (turns_after state (event.SealFull caller)) (record { holder = caller; volume = volume_of state.current; point = state.point; wants = state.wants })
      own = record {
        point_now = let p = holds.point in omega (arith, p);
        since = let p = holds.point in let c = holds.committed in omega (arith, p, c);
        is = ap volume_of (holds.current ∙ ap (after_all (mounted volume)) (sym (take_all state.point history (let p = holds.point in omega (arith, p)))));
        waiting_earlier = λ id log has fsync c. let e = (holds.logs id log has).waiting_earlier fsync c in let p = holds.point in omega (arith, e, p);
        acknowledged_earlier = λ id log has fsync c. let e = (holds.logs id log has).acknowledged_earlier fsync c in let p = holds.point in omega (arith, e, p);
        no_slots = may.no_slot_is_busy;
        no_root = may.root_is_free;
      }

      sealed : (commit : FullCommit) → (let made : FullCommit = record { holder = caller; volume = volume_of state.current; point = state.point; wants = state.wants } in made) ≡ commit → FullHolds volume history (turns_after state (event.SealFull caller)) commit
      sealed commit same = subst (FullHolds volume history (turns_after state (event.SealFull caller))) same own

  -- ---- operations

  pub operated_holds : (caller : ℕ) (op : Op) (again : Bool) (end : OpEnd) (indexes : List ℕ) → operation.MayCome state.current (operated_by op indexes end)
      → Holds volume (history ++ operated_by op indexes end ∷ []) tried (after state (event.Op caller op again end indexes))
  operated_holds caller op again end indexes may = subst (Holds volume (history ++ operated_by op indexes end ∷ []) tried) (sym (quiet state (event.Op caller op again end indexes) (λ id log. refl))) (record {
    legal = history_more (mounted volume) history (operated_by op indexes end) holds.legal (subst (λ run. operation.MayCome run (operated_by op indexes end)) holds.current may);
    current = same_run end ∙ ap (λ run. after_one run (operated_by op indexes end)) holds.current ∙ sym (after_more (mounted volume) history (operated_by op indexes end));
    point = let p = holds.point in let l = length-append history (operated_by op indexes end ∷ []) in omega (arith, p, l);
    committed = let c = holds.committed in omega (arith, c, grown);
    logs = λ id log has. longer_holds volume coherent history holds.legal id state.committed_at state.tickets log (holds.logs id log has) (operated_by op indexes end ∷ []);
    ids = holds.ids;
    ids_back = holds.ids_back;
    root = holds.root;
    full = λ commit runs. let f = holds.full commit runs in record {
      point_now = let p = f.point_now in omega (arith, p, grown);
      since = f.since;
      is = f.is ∙ sym (same_volume_at volume history (operated_by op indexes end ∷ []) commit.point f.point_now);
      waiting_earlier = f.waiting_earlier;
      acknowledged_earlier = f.acknowledged_earlier;
      no_slots = f.no_slots;
      no_root = f.no_root;
    };
    tried_survive = λ left c. let s = holds.tried_survive left c in record {
      there = λ id log has. let old = s.there id log has in (old.0, old.1, longer volume history (operated_by op indexes end ∷ []) id state.committed_at log.acknowledged (holds.logs id log has).acknowledged_earlier old.0 old.2);
      only = s.only;
    };
    tried_fails = holds.tried_fails;
  })
    where
      grown : length history ≤ length (history ++ operated_by op indexes end ∷ [])
      grown = let l = length-append history (operated_by op indexes end ∷ []) in omega (arith, l)

      same_run : (x : OpEnd) → operated state.current op indexes x ≡ after_one state.current (operated_by op indexes x)
      same_run (ends.Answered answer) = refl
      same_run (ends.Short free need) = refl
