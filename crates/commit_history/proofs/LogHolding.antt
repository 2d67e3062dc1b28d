-- What holds of a subvolume's log at all times, and that each event keeps it.
use Rattle.std.proofs.Common.{◌≡◌, ◌≢◌, ℕ, ◌<◌, ◌≤◌, ◌+◌, Bool, true, false, cond, not, List, [], ◌∷◌, ◌++◌, length, Option, Some, None, refl, sym, ap, subst, ◌∙◌, arith, inl, inr}
use Rattle.std.specs.Bool.{nat_eq, nat_le, ⊤}
use Rattle.std.specs.Option.{is_some, unwrap_or}
use Rattle.std.specs.List.{Contains, filter}
use Rattle.std.specs.FinMap.{get, insert}
use Rattle.std.proofs.lemmas.Bool.{true≢false, cases_eq, cases_Bool, leb-true, le-leb}
use Rattle.std.proofs.lemmas.List.{length-append}
use Rattle.std.proofs.lemmas.List.Elements.{Contains-append_left, Contains-append_right, Contains-append_cases}
use Rattle.flat_model.specs.declared.answer.Reason.{Reason}
use Rattle.flat_model.specs.Volume.{Subvolume, Volume, mounted}
use Rattle.flat_model.specs.Coherent.{IsCoherent, IsCoherentVolume}
use Rattle.flat_model.specs.Step.{Operated, IsHistory}
use Rattle.flat_model.proofs.Lists.{contains_head, contains_tail, contains_cases, contains_none, contains_filter, filter_contains}
use Rattle.flat_model.proofs.Maps.{some_same, some_none, get_insert_same, get_insert_other}
use Rattle.logged_volume.specs.Agreement.{AreStep, is_there}
use Rattle.logged_volume.specs.LogStep.{log_step}
use Rattle.logged_volume.specs.Rules.{RoomNumbers, commit_reason}
use Rattle.logged_volume.proofs.BothForms.{step_coherent}
use Rattle.commit_history.specs.declared.event.Logged.TheVariants as logged
use Rattle.commit_history.specs.State.{Slot, Synced, SubLog, Ticket, bare_log}
use Rattle.commit_history.specs.Effects.{synced, is_up_to, undurable_above, log_after_step, log_sealed, log_covered, log_committed, log_failed}
use Rattle.commit_history.specs.Legal.{IsAlready, IsTicketOf, IsOpen, IsNewest}
use Rattle.commit_history.specs.Survival.{IsAtPoint, SubSurvives}
use Rattle.commit_history.proofs.Lasting.{AreAmong, weaker, longer, point_survives, survivors_agree}
use Rattle.commit_history.proofs.StepSurvives.{step_survives}

-- an fsync that has a ticket
abbrev pub has_number : Synced → Bool
has_number fsync = is_some fsync.number

-- all fsyncs whose log step wrote into the log, or that are acknowledged
abbrev pub logged_of : SubLog → List Synced
logged_of log = filter has_number log.waiting ++ log.acknowledged

-- those that wait for this number or an earlier one, or are acknowledged
abbrev pub covered_with : SubLog → ℕ → List Synced
covered_with log number = filter (is_up_to number) log.waiting ++ log.acknowledged

abbrev pub AtMost : Option ℕ → ℕ → Type 0
AtMost None number = ⊤
AtMost (Some newest) number = newest ≤ number

abbrev pub AtLeast : Option ℕ → ℕ → Type 0
AtLeast None number = ⊥
AtLeast (Some newest) number = number ≤ newest

-- a number that was sealed and isn't covered
abbrev pub IsUncovered : SubLog → ℕ → Type 0
IsUncovered log number = (log.covered < number) × (number < log.open_number)

pub record LogHolds (volume : Volume) (history : List Operated) (id committed_at : ℕ) (tickets : List Ticket) (log : SubLog) : Type 0 where
  pub logged_survives : SubSurvives volume history id committed_at (logged_of log) log.logged
  pub durable_survives : SubSurvives volume history id committed_at log.acknowledged log.durable
  pub sealed_survive : (number : ℕ) → IsUncovered log number → (sub : Subvolume) × (get log.sealed number ≡ Some sub) × SubSurvives volume history id committed_at (covered_with log number) sub
  pub sealed_is_logged : (number : ℕ) (sub : Subvolume) → IsUncovered log number → get log.sealed number ≡ Some sub → AtMost log.undurable number → sub ≡ log.logged
  pub durable_is_logged : log.undurable ≡ None → log.durable ≡ log.logged
  pub sealed_is_undurable : (number : ℕ) → IsUncovered log number → AtLeast log.undurable number
  pub tickets_undurable : (ticket : Ticket) → Contains tickets ticket → ticket.sub ≡ id → AtLeast log.undurable ticket.number
  pub undurable_open : AtMost log.undurable log.open_number
  pub waiting_earlier : (fsync : Synced) → Contains log.waiting fsync → fsync.point ≤ length history
  pub acknowledged_earlier : (fsync : Synced) → Contains log.acknowledged fsync → fsync.point ≤ length history
  pub covered_below : log.covered < log.open_number

-- ---- lists

pub up_to_has_number : (number : ℕ) (fsync : Synced) → is_up_to number fsync ≡ true → has_number fsync ≡ true
up_to_has_number number fsync = own fsync.number
  where
    own : (o : Option ℕ) → (elim o [ None ↦ false | Some n ↦ nat_le n number ]) ≡ true → is_some o ≡ true
    own None e = absurd (true≢false (sym e))
    own (Some n) e = refl

pub up_to_later : (early late : ℕ) (fsync : Synced) → early ≤ late → is_up_to early fsync ≡ true → is_up_to late fsync ≡ true
up_to_later early late fsync before = own fsync.number
  where
    own : (o : Option ℕ) → (elim o [ None ↦ false | Some n ↦ nat_le n early ]) ≡ true → (elim o [ None ↦ false | Some n ↦ nat_le n late ]) ≡ true
    own None e = absurd (true≢false (sym e))
    own (Some n) e = let low = leb-true n early e in le-leb n late (omega (arith, low, before))

-- what is covered with a number has been logged
pub covered_is_logged : (log : SubLog) (number : ℕ) → AreAmong (covered_with log number) (logged_of log)
covered_is_logged log number fsync c = elim (Contains-append_cases (filter (is_up_to number) log.waiting) log.acknowledged fsync c) [
  | inl waits ↦
      let found = filter_contains (is_up_to number) log.waiting fsync waits in
      Contains-append_left (filter has_number log.waiting) log.acknowledged fsync (contains_filter has_number log.waiting fsync (up_to_has_number number fsync found.1) found.0)
  | inr done ↦ Contains-append_right (filter has_number log.waiting) log.acknowledged fsync done
]

pub acknowledged_is_covered : (log : SubLog) (number : ℕ) → AreAmong log.acknowledged (covered_with log number)
acknowledged_is_covered log number fsync c = Contains-append_right (filter (is_up_to number) log.waiting) log.acknowledged fsync c

pub acknowledged_is_logged : (log : SubLog) → AreAmong log.acknowledged (logged_of log)
acknowledged_is_logged log fsync c = Contains-append_right (filter has_number log.waiting) log.acknowledged fsync c

-- a part of what waits
pub fewer_waiting : (p : Synced → Bool) (some all acknowledged : List Synced) → AreAmong some all → AreAmong (filter p some ++ acknowledged) (filter p all ++ acknowledged)
fewer_waiting p some all acknowledged among fsync c = elim (Contains-append_cases (filter p some) acknowledged fsync c) [
  | inl waits ↦ let found = filter_contains p some fsync waits in Contains-append_left (filter p all) acknowledged fsync (contains_filter p all fsync found.1 (among fsync found.0))
  | inr done ↦ Contains-append_right (filter p all) acknowledged fsync done
]

-- ---- undurable numbers

pub at_least_some : (o : Option ℕ) (number : ℕ) → AtLeast o number → o ≡ None → ⊥
at_least_some None number at e = at
at_least_some (Some m) number at e = some_none m e

pub at_least_most : (o : Option ℕ) (number bound : ℕ) → AtLeast o number → AtMost o bound → number ≤ bound
at_least_most None number bound at most = absurd at
at_least_most (Some m) number bound at most = omega (arith, at, most)

pub above_at_most : (o : Option ℕ) (number bound : ℕ) → AtMost o bound → AtMost (undurable_above o number) bound
above_at_most None number bound at = tt
above_at_most (Some m) number bound at = elim (nat_le m number) as (λ b. AtMost (cond b None (Some m)) bound) [ true ↦ tt | false ↦ at ]

pub above_none : (o : Option ℕ) (number later : ℕ) → number < later → AtMost (undurable_above o number) later → AtMost o later
above_none None number later before at = tt
above_none (Some m) number later before at =
    elim (cases_Bool (nat_le m number)) [
      | inl low ↦ let l = leb-true m number low in omega (arith, l, before)
      | inr high ↦ subst (λ b. AtMost (cond b None (Some m)) later) high at
    ]

pub above_at_least : (o : Option ℕ) (number later : ℕ) → number < later → AtLeast o later → AtLeast (undurable_above o number) later
above_at_least None number later before at = at
above_at_least (Some m) number later before at =
    elim (cases_Bool (nat_le m number)) [
      | inl low ↦ absurd (let l = leb-true m number low in omega (arith, l, before, at))
      | inr high ↦ subst (λ b. AtLeast (cond b None (Some m)) later) (sym high) at
    ]

-- where none is left above a number, the newest was at most that
pub none_above : (o : Option ℕ) (number : ℕ) → undurable_above o number ≡ None → AtMost o number
none_above None number e = tt
none_above (Some m) number e =
    elim (cases_Bool (nat_le m number)) [
      | inl low ↦ leb-true m number low
      | inr high ↦ absurd (some_none m (subst (λ b. cond b None (Some m) ≡ None) high e))
    ]

-- ---- events

module _ (volume : Volume) (coherent : IsCoherentVolume volume) (history : List Operated) (legal : IsHistory (mounted volume) history) (id committed_at : ℕ) (tickets : List Ticket) (log : SubLog) (holds : LogHolds volume history id committed_at tickets log) where
  -- other slots change nothing
  pub with_slots : (slots : List Slot) → LogHolds volume history id committed_at tickets (record log { slots = slots })
  with_slots slots = record {
    logged_survives = holds.logged_survives;
    durable_survives = holds.durable_survives;
    sealed_survive = holds.sealed_survive;
    sealed_is_logged = holds.sealed_is_logged;
    durable_is_logged = holds.durable_is_logged;
    sealed_is_undurable = holds.sealed_is_undurable;
    tickets_undurable = holds.tickets_undurable;
    undurable_open = holds.undurable_open;
    waiting_earlier = holds.waiting_earlier;
    acknowledged_earlier = holds.acknowledged_earlier;
    covered_below = holds.covered_below;
  }

  -- fewer tickets change nothing
  pub fewer_tickets : (left : List Ticket) → ((ticket : Ticket) → Contains left ticket → Contains tickets ticket) → LogHolds volume history id committed_at left log
  fewer_tickets left among = record {
    logged_survives = holds.logged_survives;
    durable_survives = holds.durable_survives;
    sealed_survive = holds.sealed_survive;
    sealed_is_logged = holds.sealed_is_logged;
    durable_is_logged = holds.durable_is_logged;
    sealed_is_undurable = holds.sealed_is_undurable;
    tickets_undurable = λ ticket c. holds.tickets_undurable ticket (among ticket c);
    undurable_open = holds.undurable_open;
    waiting_earlier = holds.waiting_earlier;
    acknowledged_earlier = holds.acknowledged_earlier;
    covered_below = holds.covered_below;
  }

  -- so do tickets of other subvolumes
  pub other_ticket : (ticket : Ticket) → ticket.sub ≢ id → LogHolds volume history id committed_at (ticket ∷ tickets) log
  other_ticket new other = record {
    logged_survives = holds.logged_survives;
    durable_survives = holds.durable_survives;
    sealed_survive = holds.sealed_survive;
    sealed_is_logged = holds.sealed_is_logged;
    durable_is_logged = holds.durable_is_logged;
    sealed_is_undurable = holds.sealed_is_undurable;
    tickets_undurable = λ ticket c of_sub. elim (contains_cases new tickets ticket c) [
      | inl same ↦ absurd (other (ap (λ (t : Ticket). t.sub) same ∙ of_sub))
      | inr old ↦ holds.tickets_undurable ticket old of_sub
    ];
    undurable_open = holds.undurable_open;
    waiting_earlier = holds.waiting_earlier;
    acknowledged_earlier = holds.acknowledged_earlier;
    covered_below = holds.covered_below;
  }

  -- all that was logged is earlier than the end
  pub logged_earlier : (fsync : Synced) → Contains (logged_of log) fsync → fsync.point ≤ length history
  logged_earlier fsync c = elim (Contains-append_cases (filter has_number log.waiting) log.acknowledged fsync c) [
    | inl waits ↦ holds.waiting_earlier fsync (filter_contains has_number log.waiting fsync waits).0
    | inr done ↦ holds.acknowledged_earlier fsync done
  ]

  pub covered_earlier : (number : ℕ) (fsync : Synced) → Contains (covered_with log number) fsync → fsync.point ≤ length history
  covered_earlier number fsync c = logged_earlier fsync (covered_is_logged log number fsync c)

  -- ---- a log step

  module _ (current : Subvolume) (now : IsAtPoint volume history id (length history) current) (committed : committed_at ≤ length history) (caller ino : ℕ) (datasync : Bool) (has_ino : is_there current ino ≡ true) where
    current_survives : SubSurvives volume history id committed_at (logged_of log) current
    current_survives = point_survives volume history coherent legal id committed_at (logged_of log) (length history) current now committed logged_earlier

    are_step : AreStep current log.logged ino
    are_step = record {
      current_coherent = current_survives.coherent;
      logged_coherent = holds.logged_survives.coherent;
      agree = survivors_agree volume history coherent legal id committed_at (logged_of log) (logged_of log) current log.logged current_survives holds.logged_survives;
      has_target = has_ino;
    }

    -- the logged subvolume after the step survives, with the step's own promise
    step_holds : (number : Option ℕ) → IsCoherent (log_step current log.logged ino datasync) → SubSurvives volume history id committed_at (synced log caller (length history) ino datasync number ∷ logged_of log) (log_step current log.logged ino datasync)
    step_holds number whole = step_survives volume history id committed_at (logged_of log) current log.logged (synced log caller (length history) ino datasync number)
        (record { coherent = coherent; legal = legal; now = now; survives = holds.logged_survives; committed = committed; earlier = logged_earlier; own_point = refl; step = are_step }) datasync refl whole

    pub already_holds : (failures : ℕ) → IsAlready log current ino datasync failures → LogHolds volume history id committed_at tickets (log_after_step log current caller (length history) ino logged.Already datasync)
    already_holds failures already =
        let new : Synced = synced log caller (length history) ino datasync None in
        let whole : IsCoherent (log_step current log.logged ino datasync) = subst IsCoherent (sym already.unchanged) holds.logged_survives.coherent in
        let survives : SubSurvives volume history id committed_at (new ∷ logged_of log) log.logged = subst (SubSurvives volume history id committed_at (new ∷ logged_of log)) already.unchanged (step_holds None whole) in
        let none : (number : ℕ) → IsUncovered log number → ⊥ = λ number uncovered. at_least_some log.undurable number (holds.sealed_is_undurable number uncovered) already.durable in
        let among : AreAmong (filter has_number log.waiting ++ new ∷ log.acknowledged) (new ∷ logged_of log) = λ fsync c. elim (Contains-append_cases (filter has_number log.waiting) (new ∷ log.acknowledged) fsync c) [
          | inl waits ↦ contains_tail new (logged_of log) fsync (Contains-append_left (filter has_number log.waiting) log.acknowledged fsync waits)
          | inr done ↦ elim (contains_cases new log.acknowledged fsync done) [
            | inl same ↦ subst (Contains (new ∷ logged_of log)) same (contains_head new (logged_of log))
            | inr old ↦ contains_tail new (logged_of log) fsync (acknowledged_is_logged log fsync old)
          ]
        ] in
        let few : AreAmong (new ∷ log.acknowledged) (new ∷ logged_of log) = λ fsync c. elim (contains_cases new log.acknowledged fsync c) [
          | inl same ↦ subst (Contains (new ∷ logged_of log)) same (contains_head new (logged_of log))
          | inr old ↦ contains_tail new (logged_of log) fsync (acknowledged_is_logged log fsync old)
        ] in
        record {
          logged_survives = weaker volume history id committed_at committed_at (omega arith) _ _ among log.logged survives;
          durable_survives = weaker volume history id committed_at committed_at (omega arith) _ _ few log.durable (subst (SubSurvives volume history id committed_at (new ∷ logged_of log)) (sym (holds.durable_is_logged already.durable)) survives);
          sealed_survive = λ number uncovered. absurd (none number uncovered);
          sealed_is_logged = holds.sealed_is_logged;
          durable_is_logged = holds.durable_is_logged;
          sealed_is_undurable = holds.sealed_is_undurable;
          tickets_undurable = holds.tickets_undurable;
          undurable_open = holds.undurable_open;
          waiting_earlier = holds.waiting_earlier;
          acknowledged_earlier = λ fsync c. elim (contains_cases new log.acknowledged fsync c) [ inl same ↦ subst (λ (f : Synced). f.point ≤ length history) same (omega arith) | inr old ↦ holds.acknowledged_earlier fsync old ];
          covered_below = holds.covered_below;
        }

    pub full_holds : (reason : Reason) → LogHolds volume history id committed_at tickets (log_after_step log current caller (length history) ino (logged.Full reason) datasync)
    full_holds reason =
        let new : Synced = synced log caller (length history) ino datasync None in
        record {
          logged_survives = holds.logged_survives;
          durable_survives = holds.durable_survives;
          sealed_survive = holds.sealed_survive;
          sealed_is_logged = holds.sealed_is_logged;
          durable_is_logged = holds.durable_is_logged;
          sealed_is_undurable = holds.sealed_is_undurable;
          tickets_undurable = holds.tickets_undurable;
          undurable_open = holds.undurable_open;
          waiting_earlier = λ fsync c. elim (contains_cases new log.waiting fsync c) [ inl same ↦ subst (λ (f : Synced). f.point ≤ length history) same (omega arith) | inr old ↦ holds.waiting_earlier fsync old ];
          acknowledged_earlier = holds.acknowledged_earlier;
          covered_below = holds.covered_below;
        }

    -- a ticket's number is at least each undurable one
    ticket_is_newest : (number : ℕ) → IsTicketOf log current ino datasync number → (older : ℕ) → AtLeast log.undurable older → older ≤ number
    ticket_is_newest _ (IsOpen changes) older at = at_least_most log.undurable older log.open_number at holds.undurable_open
    ticket_is_newest number (IsNewest _ unchanged newest) older at = subst (λ o. AtLeast o older) newest at

    ticket_is_low : (number : ℕ) → IsTicketOf log current ino datasync number → number ≤ log.open_number
    ticket_is_low _ (IsOpen changes) = omega arith
    ticket_is_low number (IsNewest _ unchanged newest) = subst (λ o. AtMost o log.open_number) newest holds.undurable_open

    -- where the ticket is of a number that was sealed, the step changes nothing, and that number is the newest
    ticket_of_sealed : (number later : ℕ) → IsTicketOf log current ino datasync number → number ≤ later → later < log.open_number → (log_step current log.logged ino datasync ≡ log.logged) × AtMost log.undurable later
    ticket_of_sealed _ later (IsOpen changes) low before = absurd (omega (arith, low, before))
    ticket_of_sealed number later (IsNewest _ unchanged newest) low before = (unchanged, subst (λ o. AtMost o later) (sym newest) low)

    pub ticket_holds : (room : RoomNumbers) (number : ℕ) → commit_reason current log.logged ino datasync room ≡ None → IsTicketOf log current ino datasync number → (left : List Ticket) → ((ticket : Ticket) → Contains left ticket → Contains tickets ticket)
        → LogHolds volume history id committed_at (record { caller = caller; sub = id; number = number } ∷ left) (log_after_step log current caller (length history) ino (logged.Ticket number) datasync)
    ticket_holds room number none ticket left among =
        let new : Synced = synced log caller (length history) ino datasync (Some number) in
        let next : Subvolume = log_step current log.logged ino datasync in
        let given : Ticket = record { caller = caller; sub = id; number = number } in
        let whole = (step_coherent current log.logged ino datasync room are_step none).coherent in
        let survives : SubSurvives volume history id committed_at (new ∷ logged_of log) next = step_holds (Some number) whole in
        let sealed_with : (later : ℕ) → IsUncovered log later → (b : Bool) → nat_le number later ≡ b → (sub : Subvolume) × (get log.sealed later ≡ Some sub) × SubSurvives volume history id committed_at (cond b (new ∷ filter (is_up_to later) log.waiting) (filter (is_up_to later) log.waiting) ++ log.acknowledged) sub = λ later uncovered b.
        elim b as (λ c. nat_le number later ≡ c → (sub : Subvolume) × (get log.sealed later ≡ Some sub) × SubSurvives volume history id committed_at (cond c (new ∷ filter (is_up_to later) log.waiting) (filter (is_up_to later) log.waiting) ++ log.acknowledged) sub) [
          | true ↦ λ low.
              let old = holds.sealed_survive later uncovered in
              let same = ticket_of_sealed number later ticket (leb-true number later low) uncovered.1 in
              let sub_is : old.0 ≡ next = holds.sealed_is_logged later old.0 uncovered old.1 same.1 ∙ sym same.0 in
              let among_all : AreAmong (new ∷ covered_with log later) (new ∷ logged_of log) = λ fsync c. elim (contains_cases new (covered_with log later) fsync c) [
                | inl is ↦ subst (Contains (new ∷ logged_of log)) is (contains_head new (logged_of log))
                | inr old ↦ contains_tail new (logged_of log) fsync (covered_is_logged log later fsync old)
              ] in
              (old.0, old.1, weaker volume history id committed_at committed_at (omega arith) (new ∷ covered_with log later) (new ∷ logged_of log) among_all old.0 (subst (SubSurvives volume history id committed_at (new ∷ logged_of log)) (sym sub_is) survives))
          | false ↦ λ high. holds.sealed_survive later uncovered
        ] in
        record {
          logged_survives = survives;
          durable_survives = holds.durable_survives;
          sealed_survive = λ later uncovered. sealed_with later uncovered (nat_le number later) refl;
          sealed_is_logged = λ later sub uncovered at low. let same = ticket_of_sealed number later ticket low uncovered.1 in holds.sealed_is_logged later sub uncovered at same.1 ∙ sym same.0;
          durable_is_logged = λ e. absurd (some_none number e);
          sealed_is_undurable = λ later uncovered. ticket_is_newest number ticket later (holds.sealed_is_undurable later uncovered);
          tickets_undurable = λ other c of_sub. elim (contains_cases given left other c) [
            | inl same ↦ subst (λ (t : Ticket). t.number ≤ number) same (omega arith)
            | inr old ↦ ticket_is_newest number ticket other.number (holds.tickets_undurable other (among other old) of_sub)
          ];
          undurable_open = ticket_is_low number ticket;
          waiting_earlier = λ fsync c. elim (contains_cases new log.waiting fsync c) [ inl same ↦ subst (λ (f : Synced). f.point ≤ length history) same (omega arith) | inr old ↦ holds.waiting_earlier fsync old ];
          acknowledged_earlier = holds.acknowledged_earlier;
          covered_below = holds.covered_below;
        }

  -- ---- the seal of a number

  pub seal_holds : (caller number : ℕ) → log.open_number ≡ number → Contains tickets (record { caller = caller; sub = id; number = number }) → LogHolds volume history id committed_at tickets (log_sealed log caller number)
  seal_holds caller number is_open has_ticket =
      let older : (later : ℕ) → later < number + 1 → later ≢ number → later < log.open_number = λ later before other. omega (arith, before, other, is_open) in
      record {
        logged_survives = holds.logged_survives;
        durable_survives = holds.durable_survives;
        sealed_survive = λ later uncovered. elim (cases_eq later number) [
          | inl same ↦ (
            log.logged,
            subst (λ q. get (insert log.sealed number log.logged) q ≡ Some log.logged) (sym same) (get_insert_same log.sealed number log.logged),
            weaker volume history id committed_at committed_at (omega arith) (covered_with log later) (logged_of log) (covered_is_logged log later) log.logged holds.logged_survives,
          )
          | inr other ↦
              let old = holds.sealed_survive later (uncovered.0, older later uncovered.1 other) in
              (old.0, get_insert_other log.sealed number log.logged later other ∙ old.1, old.2)
        ];
        sealed_is_logged = λ later sub uncovered at low. elim (cases_eq later number) [
          | inl same ↦ some_same sub log.logged (sym at ∙ subst (λ q. get (insert log.sealed number log.logged) q ≡ Some log.logged) (sym same) (get_insert_same log.sealed number log.logged))
          | inr other ↦ holds.sealed_is_logged later sub (uncovered.0, older later uncovered.1 other) (sym (get_insert_other log.sealed number log.logged later other) ∙ at) low
        ];
        durable_is_logged = holds.durable_is_logged;
        sealed_is_undurable = λ later uncovered. elim (cases_eq later number) [
          | inl same ↦ subst (AtLeast log.undurable) (sym same) (holds.tickets_undurable (record { caller = caller; sub = id; number = number }) has_ticket refl)
          | inr other ↦ holds.sealed_is_undurable later (uncovered.0, older later uncovered.1 other)
        ];
        tickets_undurable = holds.tickets_undurable;
        undurable_open = at_most_more log.undurable holds.undurable_open refl;
        waiting_earlier = holds.waiting_earlier;
        acknowledged_earlier = holds.acknowledged_earlier;
        covered_below = let b = holds.covered_below in omega (arith, b, is_open);
      }
    where
      at_most_more : (o : Option ℕ) → AtMost log.undurable log.open_number → o ≡ log.undurable → AtMost o (number + 1)
      at_most_more None at e = tt
      at_most_more (Some m) at e = let low : m ≤ log.open_number = subst (λ x. AtMost x log.open_number) (sym e) at in omega (arith, low, is_open)

  -- ---- a root commit

  pub cover_holds : (number : ℕ) → IsUncovered log number → (left : List Ticket) → ((ticket : Ticket) → Contains left ticket → Contains tickets ticket) → ((ticket : Ticket) → Contains left ticket → ticket.sub ≡ id → number < ticket.number)
      → LogHolds volume history id committed_at left (log_covered log number)
  cover_holds number uncovered left among above =
      let taken = holds.sealed_survive number uncovered in
      let durable_is : unwrap_or (get log.sealed number) log.durable ≡ taken.0 = ap (λ o. unwrap_or o log.durable) taken.1 in
      let still : (later : ℕ) → IsUncovered (log_covered log number) later → IsUncovered log later = λ later more. let a = uncovered.0 in let b = more.0 in (omega (arith, a, b), more.1) in
      let waits : AreAmong (filter (λ fsync. not (is_up_to number fsync)) log.waiting) log.waiting = λ fsync c. (filter_contains (λ f. not (is_up_to number f)) log.waiting fsync c).0 in
      let in_logged : AreAmong (logged_of (log_covered log number)) (logged_of log) = λ fsync c. elim (Contains-append_cases (filter has_number (filter (λ f. not (is_up_to number f)) log.waiting)) (covered_with log number) fsync c) [
        | inl later ↦
            let found = filter_contains has_number (filter (λ f. not (is_up_to number f)) log.waiting) fsync later in
            Contains-append_left (filter has_number log.waiting) log.acknowledged fsync (contains_filter has_number log.waiting fsync found.1 (waits fsync found.0))
        | inr covered ↦ covered_is_logged log number fsync covered
      ] in
      let in_covered : (later : ℕ) → number < later → AreAmong (covered_with (log_covered log number) later) (covered_with log later) = λ later after fsync c. elim (Contains-append_cases (filter (is_up_to later) (filter (λ f. not (is_up_to number f)) log.waiting)) (covered_with log number) fsync c) [
        | inl up_to ↦
            let found = filter_contains (is_up_to later) (filter (λ f. not (is_up_to number f)) log.waiting) fsync up_to in
            Contains-append_left (filter (is_up_to later) log.waiting) log.acknowledged fsync (contains_filter (is_up_to later) log.waiting fsync found.1 (waits fsync found.0))
        | inr covered ↦ elim (Contains-append_cases (filter (is_up_to number) log.waiting) log.acknowledged fsync covered) [
          | inl early ↦
              let found = filter_contains (is_up_to number) log.waiting fsync early in
              Contains-append_left (filter (is_up_to later) log.waiting) log.acknowledged fsync (contains_filter (is_up_to later) log.waiting fsync (up_to_later number later fsync (omega (arith, after)) found.1) found.0)
          | inr done ↦ Contains-append_right (filter (is_up_to later) log.waiting) log.acknowledged fsync done
        ]
      ] in
      record {
        logged_survives = weaker volume history id committed_at committed_at (omega arith) _ _ in_logged log.logged holds.logged_survives;
        durable_survives = subst (SubSurvives volume history id committed_at (covered_with log number)) (sym durable_is) taken.2;
        sealed_survive = λ later more.
            let old = holds.sealed_survive later (still later more) in
            (old.0, old.1, weaker volume history id committed_at committed_at (omega arith) _ _ (in_covered later more.0) old.0 old.2);
        sealed_is_logged = λ later sub more at low. holds.sealed_is_logged later sub (still later more) at (above_none log.undurable number later more.0 low);
        durable_is_logged = λ none. durable_is ∙ holds.sealed_is_logged number taken.0 uncovered taken.1 (none_above log.undurable number none);
        sealed_is_undurable = λ later more. above_at_least log.undurable number later more.0 (holds.sealed_is_undurable later (still later more));
        tickets_undurable = λ ticket c of_sub. above_at_least log.undurable number ticket.number (above ticket c of_sub) (holds.tickets_undurable ticket (among ticket c) of_sub);
        undurable_open = above_at_most log.undurable number log.open_number holds.undurable_open;
        waiting_earlier = λ fsync c. holds.waiting_earlier fsync (waits fsync c);
        acknowledged_earlier = covered_earlier number;
        covered_below = uncovered.1;
      }

  -- ---- a full commit

  pub commit_holds : (point : ℕ) (sub : Subvolume) → IsAtPoint volume history id point sub → ((fsync : Synced) → Contains log.waiting fsync → fsync.point ≤ point) → ((fsync : Synced) → Contains log.acknowledged fsync → fsync.point ≤ point)
      → LogHolds volume history id point [] (log_committed log sub)
  commit_holds point sub at waiting_before acknowledged_before =
      let earlier : (fsync : Synced) → Contains (log.waiting ++ log.acknowledged) fsync → fsync.point ≤ point = λ fsync c. elim (Contains-append_cases log.waiting log.acknowledged fsync c) [ inl waits ↦ waiting_before fsync waits | inr done ↦ acknowledged_before fsync done ] in
      let survives : SubSurvives volume history id point (log.waiting ++ log.acknowledged) sub = point_survives volume history coherent legal id point (log.waiting ++ log.acknowledged) point sub at (omega arith) earlier in
      let none : (number : ℕ) → IsUncovered (log_committed log sub) number → ⊥ = λ number uncovered. let a = uncovered.0 in let b = uncovered.1 in omega (arith, a, b) in
      record {
        logged_survives = survives;
        durable_survives = survives;
        sealed_survive = λ number uncovered. absurd (none number uncovered);
        sealed_is_logged = λ number other uncovered there low. absurd (none number uncovered);
        durable_is_logged = λ e. refl;
        sealed_is_undurable = λ number uncovered. absurd (none number uncovered);
        tickets_undurable = λ ticket c of_sub. absurd (contains_none ticket c);
        undurable_open = tt;
        waiting_earlier = λ fsync c. absurd (contains_none fsync c);
        acknowledged_earlier = λ fsync c. let e = earlier fsync c in let b : point ≤ length history = at.0 in omega (arith, e, b);
        covered_below = let b = holds.covered_below in omega (arith, b);
      }

  -- ---- a failure

  pub fail_holds : (caller : ℕ) (left : List Ticket) → ((ticket : Ticket) → Contains left ticket → Contains tickets ticket) → LogHolds volume history id committed_at left (log_failed log caller)
  fail_holds caller left among =
      let p : Synced → Bool = λ fsync. not (nat_eq fsync.caller caller) in
      let waits : AreAmong (filter p log.waiting) log.waiting = λ fsync c. (filter_contains p log.waiting fsync c).0 in
      record {
        logged_survives = weaker volume history id committed_at committed_at (omega arith) _ _ (fewer_waiting has_number (filter p log.waiting) log.waiting log.acknowledged waits) log.logged holds.logged_survives;
        durable_survives = holds.durable_survives;
        sealed_survive = λ number uncovered.
            let old = holds.sealed_survive number uncovered in
            (old.0, old.1, weaker volume history id committed_at committed_at (omega arith) _ _ (fewer_waiting (is_up_to number) (filter p log.waiting) log.waiting log.acknowledged waits) old.0 old.2);
        sealed_is_logged = holds.sealed_is_logged;
        durable_is_logged = holds.durable_is_logged;
        sealed_is_undurable = holds.sealed_is_undurable;
        tickets_undurable = λ ticket c of_sub. holds.tickets_undurable ticket (among ticket c) of_sub;
        undurable_open = holds.undurable_open;
        waiting_earlier = λ fsync c. holds.waiting_earlier fsync (waits fsync c);
        acknowledged_earlier = holds.acknowledged_earlier;
        covered_below = holds.covered_below;
      }

  -- ---- an operation more

  pub longer_holds : (more : List Operated) → LogHolds volume (history ++ more) id committed_at tickets log
  longer_holds more =
      let longer_than : length history ≤ length (history ++ more) = let l = length-append history more in omega (arith, l) in
      record {
        logged_survives = longer volume history more id committed_at (logged_of log) logged_earlier log.logged holds.logged_survives;
        durable_survives = longer volume history more id committed_at log.acknowledged holds.acknowledged_earlier log.durable holds.durable_survives;
        sealed_survive = λ number uncovered.
            let old = holds.sealed_survive number uncovered in
            (old.0, old.1, longer volume history more id committed_at (covered_with log number) (covered_earlier number) old.0 old.2);
        sealed_is_logged = holds.sealed_is_logged;
        durable_is_logged = holds.durable_is_logged;
        sealed_is_undurable = holds.sealed_is_undurable;
        tickets_undurable = holds.tickets_undurable;
        undurable_open = holds.undurable_open;
        waiting_earlier = λ fsync c. let e = holds.waiting_earlier fsync c in omega (arith, e, longer_than);
        acknowledged_earlier = λ fsync c. let e = holds.acknowledged_earlier fsync c in omega (arith, e, longer_than);
        covered_below = holds.covered_below;
      }

-- ---- the mount

pub bare_holds : (volume : Volume) → IsCoherentVolume volume → (id : ℕ) (sub : Subvolume) → IsAtPoint volume [] id 0 sub → LogHolds volume [] id 0 [] (bare_log sub)
bare_holds volume coherent id sub at =
    let survives : SubSurvives volume [] id 0 [] sub = point_survives volume [] coherent tt id 0 [] 0 sub at (omega arith) (λ fsync c. absurd (contains_none fsync c)) in
    let none : (number : ℕ) → IsUncovered (bare_log sub) number → ⊥ = λ number uncovered. let a = uncovered.0 in let b = uncovered.1 in omega (arith, a, b) in
    record {
      logged_survives = survives;
      durable_survives = survives;
      sealed_survive = λ number uncovered. absurd (none number uncovered);
      sealed_is_logged = λ number other uncovered there low. absurd (none number uncovered);
      durable_is_logged = λ e. refl;
      sealed_is_undurable = λ number uncovered. absurd (none number uncovered);
      tickets_undurable = λ ticket c of_sub. absurd (contains_none ticket c);
      undurable_open = tt;
      waiting_earlier = λ fsync c. absurd (contains_none fsync c);
      acknowledged_earlier = λ fsync c. absurd (contains_none fsync c);
      covered_below = omega arith;
    }
