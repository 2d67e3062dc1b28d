-- What holds after each legal list of events in which every caller follows its rules.
use Rattle.std.proofs.Common.{◌≡◌, ◌≢◌, ℕ, zero, suc, ◌<◌, ◌≤◌, ◌+◌, ◌-◌, Bool, true, false, cond, List, [], ◌∷◌, ◌++◌, Option, Some, None, refl, sym, ap, subst, ◌∙◌, arith, inl, inr}
use Rattle.std.specs.Bool.{nat_eq, nat_le, nat_lt}
use Rattle.std.specs.Option.{unwrap_or}
use Rattle.std.specs.List.{Contains, filter, list_all, last_or, range_with_len}
use Rattle.std.specs.FinMap.{get}
use Rattle.std.proofs.lemmas.Bool.{cases_eq, ne_eqb, eq-eqb, eqb-true, and_parts, ltb-true, le-leb}
use Rattle.flat_model.specs.Volume.{Subvolume, Volume, mounted}
use Rattle.flat_model.specs.Coherent.{IsCoherentVolume}
use Rattle.flat_model.specs.Running.{IsSoundVolume}
use Rattle.flat_model.specs.Step.{Operated}
use Rattle.flat_model.proofs.Lists.{contains_head, contains_tail, contains_cases, contains_none}
use Rattle.flat_model.proofs.Maps.{some_none}
use Rattle.flat_model.proofs.Histories.{mounted_sound}
use Rattle.flat_model.proofs.Steps.{after_all_sound}
use Rattle.logged_volume.proofs.Members.{all_gives, any_gives}
use Rattle.commit_history.specs.declared.event.Event.{Event}
use Rattle.commit_history.specs.declared.event.Event.TheVariants as event
use Rattle.commit_history.specs.State.{Slot, SubLog, Ticket, FullCommit, State, HasLog, bare_log, mounted_state, number_taken, is_taken, is_ready, is_written, is_written_slot, greatest_ready}
use Rattle.commit_history.specs.Effects.{after, after_events, state_of, sub_sealed, numbers_ready}
use Rattle.commit_history.specs.Legal.{MayCome, IsLegalFrom, IsLegal, MaySealRoot}
use Rattle.commit_history.specs.Survival.{tried_from, operations_of}
use Rattle.commit_history.specs.Calls.{Call, no_call, duty, IsDone, FollowsRules, after_own, after_other, caller_of, call_after, call_after_all}
use Rattle.commit_history.proofs.Maps.{changed_there, changed_stays}
use Rattle.commit_history.proofs.LogHolding.{IsUncovered, AtMost}
use Rattle.commit_history.proofs.StateHolding.{Holds, sub_at}
use Rattle.commit_history.proofs.AllHold.{holds_after}
use Rattle.commit_laws.proofs.Roles.{Role, Idle, IsLoose, Acts, role_of, other_role, role_acts, role_other, SealsRootFrom}
use Rattle.commit_laws.proofs.Standing.{LogStands, Own, Stands}
use Rattle.commit_laws.proofs.Quiet.{LogBounds, ask_stands, refused_stands, op_stands, log_stands, seal_stands}
use Rattle.commit_laws.proofs.Parts.{write_stands, give_up_stands, root_seal_stands, full_seal_stands, fail_stands}
use Rattle.commit_laws.proofs.Done.{root_done_stands, full_done_stands}
use Rattle.commit_laws.proofs.Sane.{IsSane, own_sane, other_sane}

-- ---- what is known of the state of a legal history

pub record Known (state : State) : Type 0 where
  pub bounds : (id : ℕ) (log : SubLog) → HasLog state id log → LogBounds log
  pub taken : (id : ℕ) (log : SubLog) (number : ℕ) → HasLog state id log → number_taken state.root id ≡ Some number → IsUncovered log number
  pub full_alone : (commit : FullCommit) → state.full ≡ Some commit → (state.root ≡ None) × ((id : ℕ) (log : SubLog) → HasLog state id log → log.slots ≡ [])
  pub sealed_there : (commit : FullCommit) → state.full ≡ Some commit → (id : ℕ) (log : SubLog) → HasLog state id log → (sub : Subvolume) × (sub_sealed state.full id ≡ Some sub)
  pub since : (commit : FullCommit) → state.full ≡ Some commit → state.committed_at ≤ commit.point
  pub sound : IsSoundVolume state.current

known_from : (volume : Volume) → IsCoherentVolume volume → (history : List Operated) (tried : List Volume) (state : State) → Holds volume history tried state → Known state
known_from volume coherent history tried state holds = record {
  bounds = λ id log has. let own = holds.logs id log has in record { covered_below = own.covered_below; undurable_open = λ number e. subst (λ o. AtMost o log.open_number) e own.undurable_open };
  taken = holds.root;
  full_alone = λ commit runs. let f = holds.full commit runs in (f.no_root, f.no_slots);
  sealed_there = λ commit runs id log has. let sub = sub_at volume coherent history tried state holds id log commit.point has in (sub.0, ap (λ o. sub_sealed o id) runs ∙ ap (λ v. get v id) (holds.full commit runs).is ∙ sub.1);
  since = λ commit runs. (holds.full commit runs).since;
  sound = subst IsSoundVolume (sym holds.current) (after_all_sound (mounted volume) (mounted_sound volume coherent) history holds.legal);
}

-- a state that legal events lead to
pub record IsReached (volume : Volume) (state : State) : Type 0 where
  pub past : List Event
  pub legal : IsLegal volume past
  pub is : state_of volume past ≡ state

pub known : (volume : Volume) → IsCoherentVolume volume → (state : State) → IsReached volume state → Known state
known volume coherent state reached = subst Known reached.is (known_from volume coherent (operations_of reached.past) (tried_from (mounted_state volume) [] reached.past) (state_of volume reached.past) (holds_after volume coherent reached.past reached.legal))

after_more : (state : State) (past : List Event) (e : Event) → after_events state (past ++ e ∷ []) ≡ after (after_events state past) e
after_more state [] e = refl
after_more state (first ∷ past) e = after_more (after state first) past e

legal_more : (state : State) (past : List Event) (e : Event) → IsLegalFrom state past → MayCome (after_events state past) e → IsLegalFrom state (past ++ e ∷ [])
legal_more state [] e legal may = (may, tt)
legal_more state (first ∷ past) e legal may = (legal.0, legal_more (after state first) past e legal.1 may)

pub reached_more : (volume : Volume) (state : State) (e : Event) → IsReached volume state → MayCome state e → IsReached volume (after state e)
reached_more volume state e reached may = record {
  past = reached.past ++ e ∷ [];
  legal = legal_more (mounted_state volume) reached.past e reached.legal (subst (λ s. MayCome s e) (sym reached.is) may);
  is = after_more (mounted_state volume) reached.past e ∙ ap (λ s. after s e) reached.is;
}

-- ---- ready numbers

range_has : (from count n : ℕ) → from ≤ n → n < from + count → Contains (range_with_len from count) n
range_has from zero n low high = absurd (omega (arith, low, high))
range_has from (suc count) n low high = elim (cases_eq from n) [
  | inl same ↦ subst (Contains (from ∷ range_with_len (from + 1) count)) same (contains_head from (range_with_len (from + 1) count))
  | inr other ↦ contains_tail from (range_with_len (from + 1) count) n (range_has (from + 1) count n (omega (arith, low, other)) (omega (arith, high)))
]

-- the last number of a rising list is the greatest
last_from : (p : ℕ → Bool) (from count most : ℕ) → most ≤ from → (last : ℕ) × (last_or (Some most) (filter p (range_with_len from count)) ≡ Some last) × (most ≤ last)
last_from p from zero most low = (most, refl, omega arith)
last_from p from (suc count) most low = elim (p from) as (λ b. (last : ℕ) × (last_or (Some most) (cond b (from ∷ filter p (range_with_len (from + 1) count)) (filter p (range_with_len (from + 1) count))) ≡ Some last) × (most ≤ last)) [
  | true ↦ let rest = last_from p (from + 1) count from (omega arith) in (rest.0, rest.1, let r = rest.2 in omega (arith, r, low))
  | false ↦ last_from p (from + 1) count most (omega (arith, low))
]

last_above : (p : ℕ → Bool) (o : Option ℕ) (from count n : ℕ) → Contains (range_with_len from count) n → p n ≡ true → (last : ℕ) × (last_or o (filter p (range_with_len from count)) ≡ Some last) × (n ≤ last)
last_above p o from zero n c passes = absurd (contains_none n c)
last_above p o from (suc count) n c passes = elim (contains_cases from (range_with_len (from + 1) count) n c) [
  | inl same ↦
      subst (λ b. (last : ℕ) × (last_or o (cond b (from ∷ filter p (range_with_len (from + 1) count)) (filter p (range_with_len (from + 1) count))) ≡ Some last) × (n ≤ last)) (sym (ap p same ∙ passes))
      (let rest = last_from p (from + 1) count from (omega arith) in (rest.0, rest.1, let r = rest.2 in omega (arith, r, same)))
  | inr later ↦ elim (p from) as (λ b. (last : ℕ) × (last_or o (cond b (from ∷ filter p (range_with_len (from + 1) count)) (filter p (range_with_len (from + 1) count))) ≡ Some last) × (n ≤ last)) [
    | true ↦ last_above p (Some from) (from + 1) count n later passes
    | false ↦ last_above p o (from + 1) count n later passes
  ]
]

-- a ready number is above the covered ones and has a slot that is written
pub ready_above : (log : SubLog) (number : ℕ) → is_ready log number ≡ true → log.covered < number
ready_above log number ready = ltb-true log.covered number (and_parts (nat_lt log.covered number) (list_all (is_written log) (range_with_len (log.covered + 1) (number - log.covered))) ready).0

pub ready_written : (log : SubLog) (number : ℕ) → is_ready log number ≡ true → is_written log number ≡ true
ready_written log number ready =
    let above = ready_above log number ready in
    all_gives (is_written log) (range_with_len (log.covered + 1) (number - log.covered)) (and_parts (nat_lt log.covered number) (list_all (is_written log) (range_with_len (log.covered + 1) (number - log.covered))) ready).1 number
    (range_has (log.covered + 1) (number - log.covered) number (omega (arith, above)) (omega (arith, above)))

-- a number that is written has a slot
pub written_slot : (log : SubLog) (number : ℕ) → is_written log number ≡ true → (slot : Slot) × Contains log.slots slot × (slot.number ≡ number) × (slot.written ≡ true)
written_slot log number written =
    let found = any_gives (is_written_slot number) log.slots written in
    let parts = and_parts (nat_eq found.0.number number) found.0.written found.2 in
    (found.0, found.1, eqb-true found.0.number number parts.0, parts.1)

-- where a number is ready, a greatest one is, at least this
ready_greatest : (failures : ℕ) (log : SubLog) (number : ℕ) → LogStands failures log → is_ready log number ≡ true → (most : ℕ) × (greatest_ready log ≡ Some most) × (number ≤ most)
unfolding greatest_ready
ready_greatest failures log number stands ready =
    let above = ready_above log number ready in
    let slot = written_slot log number (ready_written log number ready) in
    let below = stands.slots_below slot.0 slot.1 in
    let same = slot.2 in
    last_above (is_ready log) None (log.covered + 1) (log.open_number - (log.covered + 1)) number (range_has (log.covered + 1) (log.open_number - (log.covered + 1)) number (omega (arith, above)) (omega (arith, above, below, same))) ready

module _ (state : State) (role next : ℕ → Role) (stands : Stands state role) where
  -- the root commit that a caller seals takes its number
  seal_takes : (by : ℕ) → MaySealRoot state by → (acts : SealsRootFrom (role by) (next by)) → is_taken (Some (record { holder = by; numbers = numbers_ready state.logs })) acts.sub acts.number ≡ true
  unfolding numbers_ready
  seal_takes by may acts =
      let own : Ticket = record { caller = by; sub = acts.sub; number = acts.number } in
      let held = (subst (Own state by) acts.was (stands.own by)).0 in
      let same : may.ticket ≡ own = stands.one_ticket may.ticket own may.has_ticket held.ticket may.own in
      let sub_is : may.ticket.sub ≡ acts.sub = ap (λ (t : Ticket). t.sub) same in
      let number_is : may.ticket.number ≡ acts.number = ap (λ (t : Ticket). t.number) same in
      let has : HasLog state acts.sub may.log = subst (λ i. HasLog state i may.log) sub_is may.of_sub in
      let most = ready_greatest state.failures may.log acts.number (stands.logs acts.sub may.log has) (subst (λ n. is_ready may.log n ≡ true) number_is may.ready) in
      let taken : unwrap_or (get (numbers_ready state.logs) acts.sub) None ≡ Some most.0 = ap (λ (o : Option (Option ℕ)). unwrap_or o None) (changed_stays (λ id log. greatest_ready log) state.logs acts.sub may.log has) ∙ most.1 in
      ap (λ (o : Option ℕ). elim o as (λ x. Bool) [ None ↦ false | Some t ↦ nat_le acts.number t ]) taken ∙ le-leb acts.number most.0 most.2

-- ---- one event

pub event_stands : (state : State) (role next : ℕ → Role) → Stands state role → Known state → (e : Event) → MayCome state e → Acts e (role (caller_of e)) (next (caller_of e)) → ((caller : ℕ) → caller ≢ caller_of e → next caller ≡ other_role state caller e (role caller))
    → Stands (after state e) next
event_stands state role next stands known (event.Op by op again end indexes) may acts others = op_stands state role next stands by others (subst IsLoose (sym acts.0) tt) op again end indexes acts.1
event_stands state role next stands known (event.Refused by target answer) may acts others = refused_stands state role next stands by others (subst IsLoose (sym acts.0) tt) target answer acts.1
event_stands state role next stands known (event.Log by sub ino end datasync) may acts others = log_stands state role next stands known.bounds by others (subst IsLoose (sym acts.0) tt) sub ino end datasync may acts.1
event_stands state role next stands known (event.Ask by) may acts others = ask_stands state role next stands by others acts.0 acts.1
event_stands state role next stands known (event.SealSub by sub number) may acts others = seal_stands state role next stands known.bounds by others sub number may acts.0 acts.1
event_stands state role next stands known (event.SubWritten by sub number) may acts others = write_stands state role next stands by others sub number may acts.0 acts.1
event_stands state role next stands known (event.SealRoot by) may acts others = root_seal_stands state role next stands by others may acts (seal_takes state role next stands by may acts)
event_stands state role next stands known (event.RootDone by) may acts others = root_done_stands state role next stands by known.taken (free state.full refl) others may acts
  where
    free : (o : Option FullCommit) → state.full ≡ o → o ≡ None
    free None e = refl
    free (Some commit) e = absurd (some_none may.commit (sym may.runs ∙ (known.full_alone commit e).0))
event_stands state role next stands known (event.SealFull by) may acts others = full_seal_stands state role next stands by others may acts.0 acts.1
event_stands state role next stands known (event.FullDone by) may acts others = full_done_stands state role next stands by (known.full_alone may.commit may.runs).0 (known.full_alone may.commit may.runs).1 (known.sealed_there may.commit may.runs) others may acts.0 acts.1
event_stands state role next stands known (event.Failed by turn tried) may acts others = fail_stands state role next stands by others turn tried acts
event_stands state role next stands known (event.GiveUp by sub number) may acts others = give_up_stands state role next stands by others sub number may acts

-- ---- all events

abbrev pub roles_of : (ℕ → Call) → ℕ → Role
roles_of calls caller = role_of (calls caller)

abbrev pub calls_after : State → (ℕ → Call) → Event → ℕ → Call
calls_after state calls e caller = call_after state caller (calls caller) e

-- what holds of a state and its callers' calls
pub record AllStand (state : State) (calls : ℕ → Call) : Type 0 where
  pub known : Known state
  pub stands : Stands state (roles_of calls)
  pub sane : (caller : ℕ) → IsSane (calls caller)

module _ (state : State) (calls : ℕ → Call) (e : Event) where
  own_call : calls_after state calls e (caller_of e) ≡ after_own state (caller_of e) (calls (caller_of e)) e
  own_call = ap (λ b. cond b (after_own state (caller_of e) (calls (caller_of e)) e) (after_other state (caller_of e) (calls (caller_of e)) e)) (eq-eqb (caller_of e) (caller_of e) refl)

  other_call : (caller : ℕ) → caller ≢ caller_of e → calls_after state calls e caller ≡ after_other state caller (calls caller) e
  other_call caller other = ap (λ b. cond b (after_own state caller (calls caller) e) (after_other state caller (calls caller) e)) (ne_eqb caller (caller_of e) other)

  -- what it makes of its caller's role, and of the others'
  pub call_acts : IsDone state (caller_of e) (duty state (calls (caller_of e))) e → Acts e (role_of (calls (caller_of e))) (role_of (calls_after state calls e (caller_of e)))
  call_acts does = subst (λ c. Acts e (role_of (calls (caller_of e))) (role_of c)) (sym own_call) (role_acts state (caller_of e) (calls (caller_of e)) e does)

  pub call_others : (caller : ℕ) → caller ≢ caller_of e → role_of (calls_after state calls e caller) ≡ other_role state caller e (role_of (calls caller))
  call_others caller other = ap role_of (other_call caller other) ∙ role_other state caller (calls caller) e

  pub step_stands : Known state → Stands state (roles_of calls) → MayCome state e → IsDone state (caller_of e) (duty state (calls (caller_of e))) e → Stands (after state e) (roles_of (calls_after state calls e))
  step_stands known stands may does = event_stands state (roles_of calls) (roles_of (calls_after state calls e)) stands known e may (call_acts does) call_others

  pub step_sane : ((caller : ℕ) → IsSane (calls caller)) → MayCome state e → IsDone state (caller_of e) (duty state (calls (caller_of e))) e → (caller : ℕ) → IsSane (calls_after state calls e caller)
  step_sane sane may does caller = elim (cases_eq caller (caller_of e)) [
    | inl same ↦ subst (λ c. IsSane (calls_after state calls e c)) (sym same) (subst IsSane (sym own_call) (own_sane state (caller_of e) (calls (caller_of e)) e may (sane (caller_of e)) does))
    | inr other ↦ subst IsSane (sym (other_call caller other)) (other_sane state caller (calls caller) e (sane caller))
  ]

module _ (volume : Volume) (coherent : IsCoherentVolume volume) where
  pub all_stand : (events : List Event) (state : State) (calls : ℕ → Call) → IsReached volume state → Stands state (roles_of calls) → ((caller : ℕ) → IsSane (calls caller)) → IsLegalFrom state events → FollowsRules state calls events
      → AllStand (after_events state events) (λ caller. call_after_all state caller (calls caller) events)
  all_stand [] state calls reached stands sane legal follows = record { known = known volume coherent state reached; stands = stands; sane = sane }
  all_stand (e ∷ events) state calls reached stands sane legal follows =
      all_stand events (after state e) (calls_after state calls e) (reached_more volume state e reached legal.0)
      (step_stands state calls e (known volume coherent state reached) stands legal.0 follows.0) (step_sane state calls e sane legal.0 follows.0) legal.1 follows.1

  pub mounted_stands : Stands (mounted_state volume) (λ caller. Idle)
  unfolding mounted_state
  mounted_stands = record {
    root_held = λ commit runs. absurd (some_none commit (sym runs));
    full_held = λ commit runs. absurd (some_none commit (sym runs));
    slot_held = λ id log has slot c. let first = changed_there (λ id sub. bare_log sub) volume id log has in absurd (contains_none slot (subst (λ (l : SubLog). Contains l.slots slot) first.2 c));
    logs = λ id log has. let first = changed_there (λ id sub. bare_log sub) volume id log has in subst (LogStands 0) (sym first.2) (record {
      one_slot = λ one two a b same. absurd (contains_none one a);
      slots_below = λ slot c. absurd (contains_none slot c);
      has_slots = λ number none above below. absurd (omega (arith, above, below));
      undurable_above = λ number e. absurd (some_none number (sym e));
    });
    one_ticket = λ one two a b same. absurd (contains_none one a);
    want_held = λ caller c. absurd (contains_none caller c);
    own = λ caller. tt;
  }

  pub stand_after : (events : List Event) → IsLegal volume events → FollowsRules (mounted_state volume) (λ caller. no_call) events
      → AllStand (state_of volume events) (λ caller. call_after_all (mounted_state volume) caller no_call events)
  stand_after events legal follows = all_stand events (mounted_state volume) (λ caller. no_call) (record { past = []; legal = tt; is = refl }) mounted_stands (λ caller. refl) legal follows
