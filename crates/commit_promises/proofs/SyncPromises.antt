-- Once a sync has answered, a full commit was sealed since it began.
use Rattle.std.proofs.Common.{◌≡◌, ◌≢◌, ℕ, ◌≤◌, ◌+◌, ◌||◌, Bool, true, false, cond, not, List, [], ◌∷◌, ◌++◌, Some, None, refl, sym, ap, subst, ◌∙◌, arith, inl, inr, ◌⊎◌}
use Rattle.std.specs.Bool.{nat_eq}
use Rattle.std.specs.List.{Contains, filter, list_any}
use Rattle.std.proofs.lemmas.Bool.{cases_eq, cases_Bool, ne_eqb, eq-eqb, eqb-true, true≢false, or_cases}
use Rattle.flat_model.specs.declared.answer.Answer.TheVariants as answers
use Rattle.flat_model.specs.Volume.{Volume}
use Rattle.flat_model.specs.Coherent.{IsCoherentVolume}
use Rattle.flat_model.proofs.Lists.{contains_cases, contains_none, filter_contains}
use Rattle.flat_model.proofs.Maps.{some_same, some_none}
use Rattle.logged_volume.proofs.Members.{any_gives}
use Rattle.commit_history.specs.declared.event.Event.{Event}
use Rattle.commit_history.specs.declared.event.Event.TheVariants as event
use Rattle.commit_history.specs.declared.event.Cover.{Cover}
use Rattle.commit_history.specs.declared.event.Cover.TheVariants as covers
use Rattle.commit_history.specs.declared.event.Logged.TheVariants as logged
use Rattle.commit_history.specs.declared.event.Turn.{Turn}
use Rattle.commit_history.specs.declared.event.Turn.TheVariants as turns
use Rattle.commit_history.specs.State.{Ticket, FullCommit, State, mounted_state, is_taken}
use Rattle.commit_history.specs.Effects.{after, after_events, state_of, state_after_step, full_without, has_ticket, wants_at_seal}
use Rattle.commit_history.specs.Legal.{MayCome, MayFail, HoldsFull}
use Rattle.commit_history.specs.Calls.{Part, InRoot, Stage, Ended, WasShort, HasTicket, Commits, Syncs, Call, no_call, answer_of, asked, covered_by, is_covered_by_root, is_covered_by_full, after_own, after_other, caller_of, call_after_all, call_of, Begins, want_duty, duty, IsDone, Operates, Refuses, Logs, AsksFirst, FullWritten, FullFailed, SealsVolume}
use Rattle.commit_history.proofs.StateHolding.{full_without_was}
use Rattle.commit_laws.proofs.Roles.{Role, Idle, Holds, Wants, IsLoose, Acts, other_role, role_of, root_role}
use Rattle.commit_laws.proofs.Standing.{WantHeld, Own, Stands}
use Rattle.commit_laws.proofs.Sane.{IsSane, CoverSane}
use Rattle.commit_laws.proofs.Reaching.{Known, known, roles_of, calls_after, call_acts, call_others}
use Rattle.commit_laws.proofs.Covered.{call_of_other}
use Rattle.commit_laws.proofs.Parts.{full_without_apart}
use Rattle.commit_promises.specs.Answered.{events_by, HasAnswered, RecordIsSince, NamesAreSince, EachLeft}
use Rattle.commit_promises.proofs.Promises.{Continues, starts, one_further, further, events_split, call_split, other_events, own_events}
use Rattle.commit_promises.proofs.Surviving.{each_survives, committed_record, committed_names}
use Rattle.commit_history.specs.Survival.{operations_of}

-- ---- tickets are of callers that aren't idle, and a full commit's wants are held

pub record TicketsHold (state : State) (role : ℕ → Role) : Type 0 where
  pub no_ticket : (caller : ℕ) → role caller ≡ Idle → (ticket : Ticket) → Contains state.tickets ticket → ticket.caller ≢ caller
  pub wants_held : (commit : FullCommit) → state.full ≡ Some commit → (caller : ℕ) → Contains commit.wants caller → WantHeld (role caller)

module _ (state : State) (role next : ℕ → Role) (stands : Stands state role) (facts : Known state) (holds : TicketsHold state role) where
  -- an event of a caller that changes no ticket and no full commit, and after which it is idle only where it was
  quiet_hold : (later : State) (by : ℕ) → ((caller : ℕ) → caller ≢ by → next caller ≡ role caller) → later.tickets ≡ state.tickets → later.full ≡ state.full → (next by ≡ Idle → role by ≡ Idle) → (WantHeld (role by) → WantHeld (next by))
      → TicketsHold later next
  quiet_hold later by others tickets full idle wants = record {
    no_ticket = λ caller is ticket c. holds.no_ticket caller (elim (cases_eq caller by) [
      | inl same ↦ ap role same ∙ idle (ap next (sym same) ∙ is)
      | inr other ↦ sym (others caller other) ∙ is
    ]) ticket (subst (λ (t : List Ticket). Contains t ticket) tickets c);
    wants_held = λ commit runs caller c. elim (cases_eq caller by) [
      | inl same ↦ subst (λ x. WantHeld (next x)) (sym same) (wants (subst (λ x. WantHeld (role x)) same (holds.wants_held commit (sym full ∙ runs) caller c)))
      | inr other ↦ subst WantHeld (sym (others caller other)) (holds.wants_held commit (sym full ∙ runs) caller c)
    ];
  }

  loose_wants_not : (by : ℕ) → IsLoose (role by) → WantHeld (role by) → WantHeld (next by)
  loose_wants_not by loose held = absurd (subst IsLoose held.is loose)

  not_idle : (by sub number : ℕ) (part : Part) → next by ≡ Holds sub number part → next by ≡ Idle → role by ≡ Idle
  not_idle by sub number part is idle = absurd (cc)

  holds_no_want : (by sub number : ℕ) (part : Part) → role by ≡ Holds sub number part → WantHeld (role by) → WantHeld (next by)
  holds_no_want by sub number part was held = let is : role by ≡ Wants held.sealed = held.is in absurd (cc)

  event_holds : (e : Event) → MayCome state e → Acts e (role (caller_of e)) (next (caller_of e)) → ((caller : ℕ) → caller ≢ caller_of e → next caller ≡ other_role state caller e (role caller)) → TicketsHold (after state e) next
  unfolding after
  event_holds (event.Op by op again end indexes) may acts others = quiet_hold (after state (event.Op by op again end indexes)) by others refl refl (λ idle. acts.0) (loose_wants_not by (subst IsLoose (sym acts.0) tt))
  event_holds (event.Refused by target answer) may acts others = quiet_hold (after state (event.Refused by target answer)) by others refl refl (λ idle. acts.0) (loose_wants_not by (subst IsLoose (sym acts.0) tt))
  event_holds (event.Ask by) may acts others = quiet_hold (after state (event.Ask by)) by others refl refl (λ idle. absurd (let is : next by ≡ Wants false = acts.1 in cc)) (loose_wants_not by acts.0)
  event_holds (event.SealSub by sub number) may acts others = quiet_hold (after state (event.SealSub by sub number)) by others refl refl (not_idle by sub.0 number _ acts.1) (holds_no_want by sub.0 number _ acts.0)
  event_holds (event.SubWritten by sub number) may acts others = quiet_hold (after state (event.SubWritten by sub number)) by others refl refl (not_idle by sub.0 number _ acts.1) (holds_no_want by sub.0 number _ acts.0)
  event_holds (event.GiveUp by sub number) may acts others = quiet_hold (after state (event.GiveUp by sub number)) by others refl refl (not_idle by sub.0 number _ acts.is) (holds_no_want by sub.0 number _ acts.was)
  event_holds (event.SealRoot by) may acts others = quiet_hold (after state (event.SealRoot by)) by others refl refl (not_idle by acts.sub acts.number _ acts.is) (holds_no_want by acts.sub acts.number _ acts.was)
  event_holds (event.Log by sub ino logged.Already datasync) may acts others = quiet_hold (after state (event.Log by sub ino logged.Already datasync)) by others refl refl (λ idle. acts.0) (loose_wants_not by (subst IsLoose (sym acts.0) tt))
  event_holds (event.Log by sub ino (logged.Full reason) datasync) may acts others = quiet_hold (after state (event.Log by sub ino (logged.Full reason) datasync)) by others refl refl (λ idle. acts.0) (loose_wants_not by (subst IsLoose (sym acts.0) tt))
  event_holds (event.Log by sub ino (logged.Ticket number) datasync) may acts others = record {
    no_ticket = λ caller is ticket c.
        let other : caller ≢ by = λ same. let at : next by ≡ Idle = ap next (sym same) ∙ is in let to : next by ≡ Holds sub.0 number _ = acts.1 in absurd (cc) in
        elim (contains_cases (record { caller = by; sub = sub.0; number = number }) (filter (λ (t : Ticket). not (nat_eq t.caller by)) state.tickets) ticket c) [
          | inl new ↦ λ same. other (sym same ∙ sym (ap (λ (t : Ticket). t.caller) new))
          | inr old ↦ holds.no_ticket caller (sym (others caller other) ∙ is) ticket (filter_contains (λ (t : Ticket). not (nat_eq t.caller by)) state.tickets ticket old).0
        ];
    wants_held = λ commit runs. absurd (some_none commit (sym runs ∙ may.full_is_free));
  }
  event_holds (event.SealFull by) may acts others = record {
    no_ticket = λ caller is ticket c.
        let other : caller ≢ by = λ same. let at : next by ≡ Idle = ap next (sym same) ∙ is in let to : next by ≡ Wants true = acts.1 in absurd (cc) in
        holds.no_ticket caller (sym (others caller other) ∙ is) ticket c;
    wants_held = λ commit runs caller c.
        let there : Contains state.wants caller = subst (λ (f : FullCommit). Contains f.wants caller) (sym (some_same _ commit runs)) c in
        elim (cases_eq caller by) [
          | inl same ↦ subst (λ x. WantHeld (next x)) (sym same) (record { sealed = true; is = acts.1 })
          | inr other ↦ subst WantHeld (sym (others caller other)) (stands.want_held caller there)
        ];
  }
  event_holds (event.RootDone by) may acts others = record {
    no_ticket = λ caller is ticket c same.
        let from = filter_contains (λ (t : Ticket). not (is_taken state.root t.sub t.number)) state.tickets ticket c in
        root_left caller (role caller) refl (elim (cases_eq caller by) [ inl own ↦ inl own | inr other ↦ inr (sym (others caller other) ∙ is) ]) ticket from.0 from.1 same;
    wants_held = λ commit runs. absurd (some_none may.commit (sym may.runs ∙ (facts.full_alone commit runs).0));
  }
    where
      -- an own ticket that isn't taken
      left_own : (caller sub number : ℕ) (part : Part) → role caller ≡ Holds sub number part → (ticket : Ticket) → Contains state.tickets ticket → ticket.caller ≡ caller → not (is_taken state.root ticket.sub ticket.number) ≡ true → is_taken state.root sub number ≡ true → ⊥
      left_own caller sub number part was ticket c same left taken =
          let own = (subst (Own state caller) was (stands.own caller)).0 in
          let is = stands.one_ticket ticket (record { caller = caller; sub = sub; number = number }) c own.ticket same in
          true≢false (sym taken ∙ sym (ap (λ (t : Ticket). is_taken state.root t.sub t.number) is) ∙ Rattle.std.proofs.lemmas.Bool.not-true _ left)

      own_taken : is_taken state.root acts.sub acts.number ≡ true
      own_taken =
          let held = stands.root_held may.commit may.runs in
          let at : role by ≡ Holds held.sub held.number InRoot = ap role (sym may.own) ∙ held.is in
          let was : role by ≡ Holds acts.sub acts.number InRoot = acts.was in
          let one : acts.sub ≡ held.sub = cc in
          let two : acts.number ≡ held.number = cc in
          ap (λ o. is_taken o acts.sub acts.number) may.runs ∙ ap (λ s. is_taken (Some may.commit) s acts.number) one ∙ ap (is_taken (Some may.commit) held.sub) two ∙ held.taken

      root_left : (caller : ℕ) (was : Role) → role caller ≡ was → (caller ≡ by) ⊎ (root_role state (role caller) ≡ Idle) → (ticket : Ticket) → Contains state.tickets ticket → not (is_taken state.root ticket.sub ticket.number) ≡ true → ticket.caller ≡ caller → ⊥
      root_left caller was e (inl own) ticket c left same = left_own caller acts.sub acts.number InRoot (ap role own ∙ acts.was) ticket c same left own_taken
      root_left caller Idle e (inr idle) ticket c left same = holds.no_ticket caller e ticket c same
      root_left caller (Wants sealed) e (inr idle) ticket c left same = let is : root_role state (role caller) ≡ Wants sealed = ap (root_role state) e in absurd (cc)
      root_left caller (Holds sub number part) e (inr idle) ticket c left same = elim (cases_Bool (is_taken state.root sub number)) [
        | inl taken ↦ left_own caller sub number part e ticket c same left taken
        | inr not_taken ↦ let is : root_role state (role caller) ≡ Holds sub number part = ap (root_role state) e ∙ ap (λ b. cond b Idle (Holds sub number part)) not_taken in absurd (cc)
      ]
  event_holds (event.FullDone by) may acts others = record {
    no_ticket = λ caller is ticket c. absurd (contains_none ticket c);
    wants_held = λ commit runs. absurd (some_none commit (sym runs));
  }
  event_holds (event.Failed by turn tried) may acts others = record {
    no_ticket = λ caller is ticket c same.
        let from = filter_contains (λ (t : Ticket). not (nat_eq t.caller by)) state.tickets ticket c in
        elim (cases_eq caller by) [
          | inl own ↦ true≢false (sym (eq-eqb ticket.caller by (same ∙ own)) ∙ Rattle.std.proofs.lemmas.Bool.not-true _ from.1)
          | inr other ↦ holds.no_ticket caller (sym (others caller other) ∙ is) ticket from.0 same
        ];
    wants_held = λ commit runs caller c.
        let was = full_without_was state.full by commit runs in
        let held = holds.wants_held commit was caller c in
        elim (cases_eq caller by) [
          | inl own ↦ absurd (not_failing turn tried may commit was (full_without_apart state.full by commit runs) (subst (λ x. WantHeld (role x)) own held))
          | inr other ↦ subst WantHeld (sym (others caller other)) held
        ];
  }
    where
      not_failing : (x : Turn) (was_tried : Bool) → MayFail state by x was_tried → (commit : FullCommit) → state.full ≡ Some commit → commit.holder ≢ by → WantHeld (role by) → ⊥
      not_failing (turns.Slot sub parity) was_tried fails commit runs apart held =
          let slot = stands.slot_held sub.0 fails.0.log fails.0.of_sub (record { number = fails.0.number; holder = by; written = false }) fails.0.slot in
          let one : role by ≡ Holds sub.0 fails.0.number slot.part = slot.is in
          let two : role by ≡ Wants held.sealed = held.is in
          cc
      not_failing turns.Root was_tried fails commit runs apart held = some_none fails.commit (sym fails.runs ∙ (facts.full_alone commit runs).0)
      not_failing turns.Full was_tried fails commit runs apart held = apart (ap (λ (f : FullCommit). f.holder) (some_same commit fails.commit (sym runs ∙ fails.runs)) ∙ fails.own)

-- ---- what a call of a sync promises

module _ (caller point : ℕ) where
  -- an open sync has no ticket, and no full commit that covers it was sealed before it began
  record IsOpenSync (state : State) : Type 0 where
    no_ticket : (ticket : Ticket) → Contains state.tickets ticket → ticket.caller ≢ caller
    sealed_later : (commit : FullCommit) → state.full ≡ Some commit → Contains commit.wants caller → point ≤ commit.point
    now : point ≤ state.point

  abbrev OpenSync : State → Stage → Type 0
  OpenSync state (Ended None) = ⊥
  OpenSync state (Ended (Some answer)) = answer ≡ answers.Io
  OpenSync state (WasShort op sealed) = ⊥
  OpenSync state (HasTicket sub number part) = ⊥
  OpenSync state (Commits reason sealed) = ⊥
  OpenSync state (Syncs sealed) = IsOpenSync state

  abbrev DoneSync : State → Stage → Type 0
  DoneSync state (Ended answer) = ⊥
  DoneSync state (WasShort op sealed) = ⊥
  DoneSync state (HasTicket sub number part) = ⊥
  DoneSync state (Commits reason sealed) = ⊥
  DoneSync state (Syncs sealed) = point ≤ state.committed_at

  abbrev CoverSync : State → Cover → Stage → Type 0
  CoverSync state covers.Open stage = OpenSync state stage
  CoverSync state covers.Root stage = ⊥
  CoverSync state covers.Full stage = DoneSync state stage

  abbrev SyncPromise : State → Call → Type 0
  SyncPromise state call = CoverSync state call.cover call.stage

-- ---- the events of other callers

module _ (caller point : ℕ) (state : State) (facts : Known state) where
  -- the point of the last full commit never falls
  committed_rises : (e : Event) → MayCome state e → point ≤ state.committed_at → point ≤ (after state e).committed_at
  unfolding after
  committed_rises (event.FullDone by) may low = subst (λ o. point ≤ Rattle.commit_history.specs.Effects.point_at_seal o) (sym may.runs) (let s = facts.since may.commit may.runs in omega (arith, low, s))
  committed_rises (event.Op by op again end indexes) may low = low
  committed_rises (event.Refused by target answer) may low = low
  committed_rises (event.Log by sub ino logged.Already datasync) may low = low
  committed_rises (event.Log by sub ino (logged.Ticket number) datasync) may low = low
  committed_rises (event.Log by sub ino (logged.Full reason) datasync) may low = low
  committed_rises (event.Ask by) may low = low
  committed_rises (event.SealSub by sub number) may low = low
  committed_rises (event.SubWritten by sub number) may low = low
  committed_rises (event.SealRoot by) may low = low
  committed_rises (event.RootDone by) may low = low
  committed_rises (event.SealFull by) may low = low
  committed_rises (event.Failed by turn tried) may low = low
  committed_rises (event.GiveUp by sub number) may low = low

  -- an open sync that another's event doesn't cover
  open_stays : (e : Event) → MayCome state e → caller ≢ caller_of e → IsOpenSync caller point state → IsOpenSync caller point (after state e)
  unfolding after
  open_stays (event.Op by op again end indexes) may other sync = record { no_ticket = sync.no_ticket; sealed_later = sync.sealed_later; now = let n = sync.now in omega (arith, n) }
  open_stays (event.Refused by target answer) may other sync = record { no_ticket = sync.no_ticket; sealed_later = sync.sealed_later; now = sync.now }
  open_stays (event.Log by sub ino logged.Already datasync) may other sync = record { no_ticket = sync.no_ticket; sealed_later = sync.sealed_later; now = sync.now }
  open_stays (event.Log by sub ino (logged.Full reason) datasync) may other sync = record { no_ticket = sync.no_ticket; sealed_later = sync.sealed_later; now = sync.now }
  open_stays (event.Log by sub ino (logged.Ticket number) datasync) may other sync = record {
    no_ticket = λ ticket c. elim (contains_cases (record { caller = by; sub = sub.0; number = number }) (filter (λ (t : Ticket). not (nat_eq t.caller by)) state.tickets) ticket c) [
      | inl new ↦ λ same. other (sym same ∙ sym (ap (λ (t : Ticket). t.caller) new))
      | inr old ↦ sync.no_ticket ticket (filter_contains (λ (t : Ticket). not (nat_eq t.caller by)) state.tickets ticket old).0
    ];
    sealed_later = sync.sealed_later;
    now = sync.now;
  }
  open_stays (event.Ask by) may other sync = record { no_ticket = sync.no_ticket; sealed_later = sync.sealed_later; now = sync.now }
  open_stays (event.SealSub by sub number) may other sync = record { no_ticket = sync.no_ticket; sealed_later = sync.sealed_later; now = sync.now }
  open_stays (event.SubWritten by sub number) may other sync = record { no_ticket = sync.no_ticket; sealed_later = sync.sealed_later; now = sync.now }
  open_stays (event.SealRoot by) may other sync = record { no_ticket = sync.no_ticket; sealed_later = sync.sealed_later; now = sync.now }
  open_stays (event.GiveUp by sub number) may other sync = record { no_ticket = sync.no_ticket; sealed_later = sync.sealed_later; now = sync.now }
  open_stays (event.RootDone by) may other sync = record {
    no_ticket = λ ticket c. sync.no_ticket ticket (filter_contains (λ (t : Ticket). not (is_taken state.root t.sub t.number)) state.tickets ticket c).0;
    sealed_later = sync.sealed_later;
    now = sync.now;
  }
  open_stays (event.SealFull by) may other sync = record {
    no_ticket = sync.no_ticket;
    sealed_later = λ commit runs wanted. let now = sync.now in let is = ap (λ (f : FullCommit). f.point) (some_same _ commit runs) in omega (arith, now, is);
    now = sync.now;
  }
  open_stays (event.FullDone by) may other sync = record { no_ticket = λ ticket c. absurd (contains_none ticket c); sealed_later = λ commit runs. absurd (some_none commit (sym runs)); now = sync.now }
  open_stays (event.Failed by turn tried) may other sync = record {
    no_ticket = λ ticket c. sync.no_ticket ticket (filter_contains (λ (t : Ticket). not (nat_eq t.caller by)) state.tickets ticket c).0;
    sealed_later = λ commit runs. sync.sealed_later commit (full_without_was state.full by commit runs);
    now = sync.now;
  }

  -- its caller has no ticket
  none_has : IsOpenSync caller point state → has_ticket state.tickets caller ≡ true → ⊥
  none_has sync has = let found = any_gives (λ (t : Ticket). nat_eq t.caller caller) state.tickets has in sync.no_ticket found.0 found.1 (eqb-true found.0.caller caller found.2)

  -- a full commit that covers it was sealed since
  full_since : (by : ℕ) → HoldsFull state by → IsOpenSync caller point state → (list_any (nat_eq caller) (wants_at_seal state.full) || has_ticket state.tickets caller) ≡ true → point ≤ (after state (event.FullDone by)).committed_at
  unfolding after
  full_since by may sync is_covered = elim (or_cases (list_any (nat_eq caller) (wants_at_seal state.full)) (has_ticket state.tickets caller) is_covered) [
    | inr has ↦ absurd (none_has sync has)
    | inl wanted ↦
        let found = any_gives (nat_eq caller) may.commit.wants (sym (ap (λ o. list_any (nat_eq caller) (wants_at_seal o)) may.runs) ∙ wanted) in
        let there : Contains may.commit.wants caller = subst (Contains may.commit.wants) (sym (eqb-true caller found.0 found.2)) found.1 in
        subst (λ o. point ≤ Rattle.commit_history.specs.Effects.point_at_seal o) (sym may.runs) (sync.sealed_later may.commit may.runs there)
  ]

  same_sync : (e : Event) → MayCome state e → caller ≢ caller_of e → (cover : Cover) (stage : Stage) → CoverSync caller point state cover stage → CoverSync caller point (after state e) cover stage
  same_sync e may other covers.Root stage p = p
  same_sync e may other covers.Full (Ended answer) p = p
  same_sync e may other covers.Full (WasShort op sealed) p = p
  same_sync e may other covers.Full (HasTicket sub number part) p = p
  same_sync e may other covers.Full (Commits reason sealed) p = p
  same_sync e may other covers.Full (Syncs sealed) p = committed_rises e may p
  same_sync e may other covers.Open (Ended None) p = p
  same_sync e may other covers.Open (Ended (Some answer)) p = p
  same_sync e may other covers.Open (WasShort op sealed) p = p
  same_sync e may other covers.Open (HasTicket sub number part) p = p
  same_sync e may other covers.Open (Commits reason sealed) p = p
  same_sync e may other covers.Open (Syncs sealed) p = open_stays e may other p

  root_sync : (by : ℕ) → MayCome state (event.RootDone by) → caller ≢ by → (cover : Cover) (stage : Stage) (events : ℕ) → CoverSync caller point state cover stage
      → SyncPromise caller point (after state (event.RootDone by)) (covered_by (is_covered_by_root state stage) covers.Root (record { stage = stage; cover = cover; events = events }))
  root_sync by may other covers.Root stage events p = p
  root_sync by may other covers.Full stage events p = same_sync (event.RootDone by) may other covers.Full stage p
  root_sync by may other covers.Open (Ended answer) events p = same_sync (event.RootDone by) may other covers.Open (Ended answer) p
  root_sync by may other covers.Open (WasShort op sealed) events p = absurd p
  root_sync by may other covers.Open (HasTicket sub number part) events p = absurd p
  root_sync by may other covers.Open (Commits reason sealed) events p = absurd p
  root_sync by may other covers.Open (Syncs sealed) events p = same_sync (event.RootDone by) may other covers.Open (Syncs sealed) p

  full_sync : (by : ℕ) → HoldsFull state by → caller ≢ by → (cover : Cover) (stage : Stage) (events : ℕ) → CoverSync caller point state cover stage
      → SyncPromise caller point (after state (event.FullDone by)) (covered_by (is_covered_by_full state caller stage) covers.Full (record { stage = stage; cover = cover; events = events }))
  full_sync by may other covers.Root stage events p = p
  full_sync by may other covers.Full stage events p = same_sync (event.FullDone by) may other covers.Full stage p
  full_sync by may other covers.Open (Ended answer) events p = same_sync (event.FullDone by) may other covers.Open (Ended answer) p
  full_sync by may other covers.Open (WasShort op sealed) events p = absurd p
  full_sync by may other covers.Open (HasTicket sub number part) events p = absurd p
  full_sync by may other covers.Open (Commits reason sealed) events p = absurd p
  full_sync by may other covers.Open (Syncs sealed) events p =
      elim (list_any (nat_eq caller) (wants_at_seal state.full) || has_ticket state.tickets caller) as (λ b. (list_any (nat_eq caller) (wants_at_seal state.full) || has_ticket state.tickets caller) ≡ b → CoverSync caller point (after state (event.FullDone by)) (cond b covers.Full covers.Open) (Syncs sealed)) [
        | true ↦ λ is_covered. full_since by may p is_covered
        | false ↦ λ left. open_stays (event.FullDone by) may other p
      ] refl

  other_sync : (call : Call) (e : Event) → MayCome state e → caller ≢ caller_of e → SyncPromise caller point state call → SyncPromise caller point (after state e) (after_other state caller call e)
  other_sync call (event.RootDone by) may other p = root_sync by may other call.cover call.stage call.events p
  other_sync call (event.FullDone by) may other p = full_sync by may other call.cover call.stage call.events p
  other_sync call (event.Op by op again end indexes) may other p = same_sync (event.Op by op again end indexes) may other call.cover call.stage p
  other_sync call (event.Refused by target answer) may other p = same_sync (event.Refused by target answer) may other call.cover call.stage p
  other_sync call (event.Log by sub ino end datasync) may other p = same_sync (event.Log by sub ino end datasync) may other call.cover call.stage p
  other_sync call (event.Ask by) may other p = same_sync (event.Ask by) may other call.cover call.stage p
  other_sync call (event.SealSub by sub number) may other p = same_sync (event.SealSub by sub number) may other call.cover call.stage p
  other_sync call (event.SubWritten by sub number) may other p = same_sync (event.SubWritten by sub number) may other call.cover call.stage p
  other_sync call (event.SealRoot by) may other p = same_sync (event.SealRoot by) may other call.cover call.stage p
  other_sync call (event.SealFull by) may other p = same_sync (event.SealFull by) may other call.cover call.stage p
  other_sync call (event.Failed by turn tried) may other p = same_sync (event.Failed by turn tried) may other call.cover call.stage p
  other_sync call (event.GiveUp by sub number) may other p = same_sync (event.GiveUp by sub number) may other call.cover call.stage p

  -- ---- its own events

  begins_sync : (call : Call) (e : Event) → (asked call state.failures).events ≡ 1 → IsDone state caller Begins e → (after_own state caller call e).events ≡ 1
  begins_sync call _ asks (Operates op end indexes) = refl
  begins_sync call _ asks (Refuses answer) = refl
  begins_sync call _ asks (Logs end datasync) = refl
  begins_sync call _ asks AsksFirst = asks

  want_sync : (sealed : Bool) (events : ℕ) (e : Event) → MayCome state e → ((commit : FullCommit) → state.full ≡ Some commit → commit.holder ≡ caller → Contains commit.wants caller) → IsOpenSync caller point state → IsDone state caller (want_duty sealed) e
      → SyncPromise caller point (after state e) (after_own state caller (record { stage = Syncs sealed; cover = covers.Open; events = events }) e)
  unfolding after
  want_sync true events _ may wanted sync FullWritten = subst (λ o. point ≤ Rattle.commit_history.specs.Effects.point_at_seal o) (sym may.runs) (sync.sealed_later may.commit may.runs (wanted may.commit may.runs may.own))
  want_sync true events _ may wanted sync (FullFailed tried) = refl
  want_sync false events _ may wanted sync SealsVolume = record {
    no_ticket = sync.no_ticket;
    sealed_later = λ commit runs there. let now = sync.now in let is = ap (λ (f : FullCommit). f.point) (some_same _ commit runs) in omega (arith, now, is);
    now = sync.now;
  }

  own_sync : (cover : Cover) (stage : Stage) (events count : ℕ) (e : Event) → MayCome state e → ((commit : FullCommit) → state.full ≡ Some commit → commit.holder ≡ caller → Contains commit.wants caller) → CoverSync caller point state cover stage
      → IsDone state caller (duty state (record { stage = stage; cover = cover; events = events })) e → (after_own state caller (record { stage = stage; cover = cover; events = events }) e).events ≡ 2 + count
      → SyncPromise caller point (after state e) (after_own state caller (record { stage = stage; cover = cover; events = events }) e)
  own_sync covers.Open (Ended None) events count e may wanted p does more = absurd p
  own_sync covers.Open (Ended (Some answer)) events count e may wanted p does more = absurd (let one = begins_sync (record { stage = Ended (Some answer); cover = covers.Open; events = events }) e refl does in omega (arith, one, more))
  own_sync covers.Open (WasShort op sealed) events count e may wanted p does more = absurd p
  own_sync covers.Open (HasTicket sub number part) events count e may wanted p does more = absurd p
  own_sync covers.Open (Commits reason sealed) events count e may wanted p does more = absurd p
  own_sync covers.Open (Syncs sealed) events count e may wanted p does more = want_sync sealed events e may wanted p does
  own_sync covers.Root stage events count e may wanted p does more = absurd p
  own_sync covers.Full (Ended answer) events count e may wanted p does more = absurd p
  own_sync covers.Full (WasShort op sealed) events count e may wanted p does more = absurd p
  own_sync covers.Full (HasTicket sub number part) events count e may wanted p does more = absurd p
  own_sync covers.Full (Commits reason sealed) events count e may wanted p does more = absurd p
  own_sync covers.Full (Syncs sealed) events count e may wanted p does more = absurd (let one = begins_sync (record { stage = Syncs sealed; cover = covers.Full; events = events }) e refl does in omega (arith, one, more))

-- a promise that holds, and the answer
sync_kept : (caller point : ℕ) (state : State) (call : Call) → SyncPromise caller point state call → answer_of call ≡ Some answers.Sync → point ≤ state.committed_at
sync_kept caller point state call promise is = at call.cover call.stage promise is
  where
    at : (cover : Cover) (stage : Stage) → CoverSync caller point state cover stage → answer_of (record { stage = stage; cover = cover; events = call.events }) ≡ Some answers.Sync → point ≤ state.committed_at
    at covers.Root stage p e = absurd p
    at covers.Full (Ended answer) p e = absurd p
    at covers.Full (WasShort op sealed) p e = absurd p
    at covers.Full (HasTicket sub number part) p e = absurd p
    at covers.Full (Commits reason sealed) p e = absurd p
    at covers.Full (Syncs sealed) p e = p
    at covers.Open (Ended None) p e = absurd p
    at covers.Open (Ended (Some own)) p e = absurd (let one : own ≡ answers.Io = p in let two : own ≡ answers.Sync = some_same own answers.Sync e in cc)
    at covers.Open (WasShort op sealed) p e = absurd p
    at covers.Open (HasTicket sub number part) p e = absurd p
    at covers.Open (Commits reason sealed) p e = absurd p
    at covers.Open (Syncs sealed) p e = absurd (some_none answers.Sync (sym e))

-- ---- over a list of events

module _ (volume : Volume) (coherent : IsCoherentVolume volume) where
  tickets_further : (front back : List Event) (state : State) (calls : ℕ → Call) → Continues volume state calls (front ++ back) → TicketsHold state (roles_of calls)
      → TicketsHold (after_events state front) (roles_of (λ caller. call_after_all state caller (calls caller) front))
  tickets_further [] back state calls on hold = hold
  tickets_further (e ∷ front) back state calls on hold =
      tickets_further front back (after state e) (calls_after state calls e) (one_further volume coherent state calls e (front ++ back) on)
      (event_holds state (roles_of calls) (roles_of (calls_after state calls e)) on.stands (known volume coherent state on.reached) hold e on.legal.0 (call_acts state calls e on.follows.0) (call_others state calls e))

  mounted_hold : TicketsHold (mounted_state volume) (λ caller. Idle)
  unfolding mounted_state
  mounted_hold = record { no_ticket = λ caller is ticket c. absurd (contains_none ticket c); wants_held = λ commit runs. absurd (some_none commit (sym runs)) }

  module _ (caller point : ℕ) where
    all_sync : (back : List Event) (state : State) (calls : ℕ → Call) (count : ℕ) → Continues volume state calls back → ((calls caller).events ≡ 1 + count → SyncPromise caller point state (calls caller))
        → (call_after_all state caller (calls caller) back).events ≡ 1 + (count + events_by caller back) → SyncPromise caller point (after_events state back) (call_after_all state caller (calls caller) back)
    all_sync [] state calls count on promised same = promised (omega (arith, same))
    all_sync (e ∷ back) state calls count on promised same = elim (cases_eq caller (caller_of e)) [
      | inl own ↦
          let counted : events_by caller (e ∷ back) ≡ 1 + events_by caller back = ap (λ b. cond b (1 + events_by caller back) (events_by caller back)) (eq-eqb caller (caller_of e) own) in
          let is : calls_after state calls e caller ≡ after_own state caller (calls caller) e = ap (λ b. cond b (after_own state caller (calls caller) e) (after_other state caller (calls caller) e)) (eq-eqb caller (caller_of e) own) in
          all_sync back (after state e) (calls_after state calls e) (count + 1) (one_further volume coherent state calls e back on)
          (λ more.
          let total : (after_own state caller (calls caller) e).events ≡ 1 + (count + 1) = sym (ap (λ (c : Call). c.events) is) ∙ more in
          let before : (calls caller).events ≡ 1 + count = elim (own_events state caller (calls caller) e) [ inl one ↦ absurd (omega (arith, one, total)) | inr further ↦ omega (arith, further, total) ] in
          subst (SyncPromise caller point (after state e)) (sym is)
          (own_sync caller point state (known volume coherent state on.reached) (calls caller).cover (calls caller).stage (calls caller).events count e on.legal.0
          (λ commit runs holder. subst (Contains commit.wants) holder (on.stands.full_held commit runs).wanted) (promised before) (subst (λ c. IsDone state c (duty state (calls c)) e) (sym own) on.follows.0) (omega (arith, total))))
          (omega (arith, same, counted))
      | inr other ↦
          let counted : events_by caller (e ∷ back) ≡ events_by caller back = ap (λ b. cond b (1 + events_by caller back) (events_by caller back)) (ne_eqb caller (caller_of e) other) in
          let is = call_of_other state caller (calls caller) e other in
          let moved : (calls_after state calls e caller).events ≡ (calls caller).events = ap (λ (c : Call). c.events) is ∙ other_events state caller (calls caller) e in
          all_sync back (after state e) (calls_after state calls e) count (one_further volume coherent state calls e back on)
          (λ more. subst (SyncPromise caller point (after state e)) (sym is) (other_sync caller point state (known volume coherent state on.reached) (calls caller) e on.legal.0 other (promised (sym moved ∙ more))))
          (omega (arith, same, counted))
    ]

  -- the Ask that begins a sync
  no_ask : (state : State) (caller : ℕ) (sealed : Bool) → IsDone state caller (want_duty sealed) (event.Ask caller) → ⊥
  no_ask state caller true does = elim does [ ]
  no_ask state caller false does = elim does [ ]

  begun_sync : (caller : ℕ) (state : State) (calls : ℕ → Call) → IsSane (calls caller) → Stands state (roles_of calls) → TicketsHold state (roles_of calls) → IsDone state caller (duty state (calls caller)) (event.Ask caller) → (calls_after state calls (event.Ask caller) caller).events ≡ 1
      → SyncPromise caller state.point (after state (event.Ask caller)) (calls_after state calls (event.Ask caller) caller)
  unfolding after
  begun_sync caller state calls sane stands hold does one =
      let call = calls caller in
      let is : calls_after state calls (event.Ask caller) caller ≡ asked call state.failures = ap (λ b. cond b (asked call state.failures) call) (eq-eqb caller caller refl) in
      subst (SyncPromise caller state.point (after state (event.Ask caller))) (sym is)
      (at call.cover call.stage (λ idle. opens idle) (ap (λ (c : Call). c.events) (sym is) ∙ one) sane does)
    where
      opens : role_of (calls caller) ≡ Idle → IsOpenSync caller state.point (after state (event.Ask caller))
      opens idle = record {
        no_ticket = hold.no_ticket caller idle;
        sealed_later = λ commit runs wanted. let held = hold.wants_held commit runs caller wanted in absurd (let to : role_of (calls caller) ≡ Wants held.sealed = held.is in cc);
        now = omega arith;
      }

      at : (cover : Cover) (stage : Stage) → (role_of (record { stage = stage; cover = cover; events = (calls caller).events }) ≡ Idle → IsOpenSync caller state.point (after state (event.Ask caller)))
          → (asked (record { stage = stage; cover = cover; events = (calls caller).events }) state.failures).events ≡ 1 → CoverSane cover stage (calls caller).events → IsDone state caller (duty state (record { stage = stage; cover = cover; events = (calls caller).events })) (event.Ask caller)
          → SyncPromise caller state.point (after state (event.Ask caller)) (asked (record { stage = stage; cover = cover; events = (calls caller).events }) state.failures)
      at covers.Root (Ended answer) idle e s d = idle refl
      at covers.Root (WasShort op sealed) idle e s d = idle refl
      at covers.Root (HasTicket sub number part) idle e s d = idle refl
      at covers.Root (Commits reason sealed) idle e s d = idle refl
      at covers.Root (Syncs sealed) idle e s d = idle refl
      at covers.Full (Ended answer) idle e s d = idle refl
      at covers.Full (WasShort op sealed) idle e s d = idle refl
      at covers.Full (HasTicket sub number part) idle e s d = idle refl
      at covers.Full (Commits reason sealed) idle e s d = idle refl
      at covers.Full (Syncs sealed) idle e s d = idle refl
      at covers.Open (Ended answer) idle e s d = idle refl
      at covers.Open (WasShort op sealed) idle e s d = absurd (no_ask state caller sealed d)
      at covers.Open (Commits reason sealed) idle e s d = absurd (no_ask state caller sealed d)
      at covers.Open (Syncs sealed) idle e s d = absurd (no_ask state caller sealed d)
      at covers.Open (HasTicket sub number part) idle e s d = absurd (omega (arith, e, s))

  module _ (front back : List Event) (caller : ℕ) (answered : HasAnswered volume front (event.Ask caller) back answers.Sync) where
    pub sync_committed : (state_of volume front).point ≤ (state_of volume (front ++ event.Ask caller ∷ back)).committed_at
    sync_committed =
        let ask : Event = event.Ask caller in
        let start : Continues volume (mounted_state volume) (λ c. no_call) (front ++ ask ∷ back) = starts volume coherent (front ++ ask ∷ back) answered.legal answered.ruled in
        let state : State = state_of volume front in
        let calls : ℕ → Call = λ c. call_after_all (mounted_state volume) c no_call front in
        let on : Continues volume state calls (ask ∷ back) = further volume coherent front (ask ∷ back) (mounted_state volume) (λ c. no_call) start in
        let hold : TicketsHold state (roles_of calls) = tickets_further front (ask ∷ back) (mounted_state volume) (λ c. no_call) start mounted_hold in
        let split : call_of volume (front ++ ask ∷ back) caller ≡ call_after_all (after state ask) caller (calls_after state calls ask caller) back = call_split volume coherent front (ask ∷ back) (mounted_state volume) caller no_call in
        let still = answered.still in
        let promise = all_sync caller state.point back (after state ask) (calls_after state calls ask) 0 (one_further volume coherent state calls ask back on)
        (λ one. begun_sync caller state calls (on.sane caller) on.stands hold on.follows.0 (omega (arith, one))) (let e = ap (λ (c : Call). c.events) split in omega (arith, e, still)) in
        let kept = sync_kept caller state.point (after_events (after state ask) back) (call_after_all (after state ask) caller (calls_after state calls ask caller) back) promise (ap answer_of (sym split) ∙ answered.answered) in
        subst (λ (s : State). state.point ≤ s.committed_at) (sym (events_split volume coherent front (ask ∷ back) (mounted_state volume))) kept

    pub sync_record : (id ino : ℕ) → EachLeft volume (front ++ event.Ask caller ∷ back) id (RecordIsSince volume (operations_of (front ++ event.Ask caller ∷ back)) id ino (state_of volume front).point)
    sync_record id ino = each_survives volume coherent front back (event.Ask caller) answered.legal id _ (λ log left has survives. committed_record volume _ id _ log.acknowledged left survives ino (state_of volume front).point sync_committed)

    pub sync_names : (id ino : ℕ) → EachLeft volume (front ++ event.Ask caller ∷ back) id (NamesAreSince volume (operations_of (front ++ event.Ask caller ∷ back)) id ino (state_of volume front).point)
    sync_names id ino = each_survives volume coherent front back (event.Ask caller) answered.legal id _ (λ log left has survives. committed_names volume _ id _ log.acknowledged left survives ino (state_of volume front).point sync_committed)
