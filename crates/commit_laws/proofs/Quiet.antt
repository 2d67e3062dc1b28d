-- Events of a caller that holds no turn, no slot and no want: operations, log steps, asks and seals of a number.
use Rattle.std.proofs.Common.{◌≡◌, ◌≢◌, ℕ, ◌<◌, ◌≤◌, Bool, true, false, cond, not, List, [], ◌∷◌, ◌++◌, Option, Some, None, refl, sym, ap, subst, ◌∙◌, arith, inl, inr, ◌⊎◌}
use Rattle.std.specs.Bool.{nat_eq}
use Rattle.std.specs.List.{Contains, filter, list_any}
use Rattle.std.specs.FinMap.{get}
use Rattle.std.proofs.lemmas.Bool.{cases_eq, ne_eqb, eq-eqb, eqb-true, true≢false, not-true}
use Rattle.std.proofs.lemmas.List.Elements.{Contains-append_left, Contains-append_right, Contains-append_cases}
use Rattle.blk_base.specs.declared.key.SubId.{SubId}
use Rattle.blk_base.specs.declared.key.Ino.{Ino}
use Rattle.flat_model.specs.declared.answer.Answer.{Answer}
use Rattle.flat_model.specs.declared.op.Op.{Op}
use Rattle.flat_model.specs.declared.place.Place.{Place}
use Rattle.flat_model.specs.Volume.{Subvolume, RunSub}
use Rattle.flat_model.proofs.Lists.{contains_head, contains_tail, contains_cases, contains_none, contains_filter, filter_contains}
use Rattle.flat_model.proofs.Maps.{some_same}
use Rattle.logged_volume.specs.Rules.{RoomNumbers}
use Rattle.logged_volume.proofs.Members.{any_gives}
use Rattle.commit_history.specs.declared.event.Event.{Event}
use Rattle.commit_history.specs.declared.event.Event.TheVariants as event
use Rattle.commit_history.specs.declared.event.Logged.{Logged}
use Rattle.commit_history.specs.declared.event.Logged.TheVariants as logged
use Rattle.commit_history.specs.declared.event.OpEnd.{OpEnd}
use Rattle.commit_history.specs.declared.event.OpEnd.TheVariants as ends
use Rattle.commit_history.specs.State.{Slot, SubLog, Ticket, RootCommit, FullCommit, State, HasLog}
use Rattle.commit_history.specs.Effects.{after, log_after, log_after_step, log_sealed, log_stepped, wanting, wants_after_op}
use Rattle.commit_history.specs.Legal.{MayLog, MaySealSub, IsLogEnd, GetsTicket, IsTicketOf, IsOpen, IsNewest}
use Rattle.commit_history.specs.Calls.{Unsealed, Sealed}
use Rattle.commit_history.proofs.LogNumbers.{log_before, log_afterwards}
use Rattle.commit_history.proofs.StateHolding.{either, logs_after}
use Rattle.commit_laws.proofs.Roles.{Role, Idle, Holds, Wants, IsLoose, op_role, log_role}
use Rattle.commit_laws.proofs.Standing.{SlotHeld, WantHeld, LogStands, HasTicket, HasSlot, Own, Stands, loose_slot, loose_want, loose_root, loose_full, moved}

-- ---- wants

pub wanting_keeps : (wants : List ℕ) (by c : ℕ) → Contains wants c → Contains (wanting wants by) c
wanting_keeps wants by c has = elim (list_any (nat_eq by) wants) as (λ b. Contains (cond b wants (wants ++ by ∷ [])) c) [ true ↦ has | false ↦ Contains-append_left wants (by ∷ []) c has ]

pub wanting_has : (wants : List ℕ) (by : ℕ) → Contains (wanting wants by) by
wanting_has wants by = elim (list_any (nat_eq by) wants) as (λ b. list_any (nat_eq by) wants ≡ b → Contains (cond b wants (wants ++ by ∷ [])) by) [
  | true ↦ λ there. let found = any_gives (nat_eq by) wants there in subst (Contains wants) (sym (eqb-true by found.0 found.2)) found.1
  | false ↦ λ none. Contains-append_right wants (by ∷ []) by (contains_head by [])
] refl

pub wanting_was : (wants : List ℕ) (by c : ℕ) → Contains (wanting wants by) c → Contains wants c ⊎ (by ≡ c)
wanting_was wants by c = elim (list_any (nat_eq by) wants) as (λ b. Contains (cond b wants (wants ++ by ∷ [])) c → Contains wants c ⊎ (by ≡ c)) [
  | true ↦ λ has. inl has
  | false ↦ λ has. elim (Contains-append_cases wants (by ∷ []) c has) [
    | inl old ↦ inl old
    | inr new ↦ elim (contains_cases by [] c new) [ inl same ↦ inr same | inr none ↦ absurd (contains_none c none) ]
  ]
]

-- ---- logs whose numbers and slots stay

pub record LogKept (old new : SubLog) : Type 0 where
  pub covered : new.covered ≡ old.covered
  pub open_same : new.open_number ≡ old.open_number
  pub slots : new.slots ≡ old.slots

pub kept_same : (log : SubLog) → LogKept log log
kept_same log = record { covered = refl; open_same = refl; slots = refl }

-- what holds of each log that an event leaves, where the log of the event is at most this other
pub record LogGrown (old new : SubLog) : Type 0 where
  pub covered : new.covered ≡ old.covered
  pub open_rises : old.open_number ≤ new.open_number

pub kept_grown : (old new : SubLog) → LogKept old new → LogGrown old new
kept_grown old new kept = record { covered = kept.covered; open_rises = let e = kept.open_same in omega (arith, e) }

module _ (state : State) (e : Event) where
  pub ticket_left : (caller sub number : ℕ) → ((log : SubLog) → HasLog state sub log → LogGrown log (log_after state e sub log)) → (Contains state.tickets (record { caller = caller; sub = sub; number = number }) → Contains (after state e).tickets (record { caller = caller; sub = sub; number = number }))
      → HasTicket state caller sub number → HasTicket (after state e) caller sub number
  ticket_left caller sub number grown tickets has = record {
    ticket = tickets has.ticket;
    log = log_after state e sub has.log;
    of_sub = log_afterwards state e sub has.log has.of_sub;
    above = let a = has.above in let g = (grown has.log has.of_sub).covered in omega (arith, a, g);
    up_to_open = let u = has.up_to_open in let g = (grown has.log has.of_sub).open_rises in omega (arith, u, g);
  }

  pub slot_left : (caller sub number : ℕ) (written : Bool)
      → ((log : SubLog) → HasLog state sub log → Contains log.slots (record { number = number; holder = caller; written = written }) → Contains (log_after state e sub log).slots (record { number = number; holder = caller; written = written }))
      → HasSlot state caller sub number written → HasSlot (after state e) caller sub number written
  slot_left caller sub number written slots has = record {
    log = log_after state e sub has.log;
    of_sub = log_afterwards state e sub has.log has.of_sub;
    slot = slots has.log has.of_sub has.slot;
  }

  -- a slot afterwards, from the log before
  pub slot_before : (id : ℕ) (log : SubLog) (slot : Slot) → HasLog (after state e) id log → Contains log.slots slot → (old : SubLog) × HasLog state id old × Contains (log_after state e id old).slots slot
  slot_before id log slot has c = let old = log_before state e id log has in (old.0, old.1, subst (λ (l : SubLog). Contains l.slots slot) old.2 c)

module _ (state : State) (role next : ℕ → Role) (stands : Stands state role) (by : ℕ) (others : (caller : ℕ) → caller ≢ by → next caller ≡ role caller) where
  module _ (loose : IsLoose (role by)) where
    pub root_apart : (commit : RootCommit) → state.root ≡ Some commit → commit.holder ≢ by
    root_apart commit runs same = loose_root commit (role commit.holder) (stands.root_held commit runs) (subst (λ c. IsLoose (role c)) (sym same) loose)

    pub full_apart : (commit : FullCommit) → state.full ≡ Some commit → commit.holder ≢ by
    full_apart commit runs same = loose_full commit (role commit.holder) (stands.full_held commit runs) (subst (λ c. IsLoose (role c)) (sym same) loose)

    pub slot_apart : (id : ℕ) (log : SubLog) (slot : Slot) → HasLog state id log → Contains log.slots slot → slot.holder ≢ by
    slot_apart id log slot has c same = loose_slot id slot (role slot.holder) (stands.slot_held id log has slot c) (subst (λ x. IsLoose (role x)) (sym same) loose)

    pub want_apart : (caller : ℕ) → Contains state.wants caller → caller ≢ by
    want_apart caller c same = loose_want (role caller) (stands.want_held caller c) (subst (λ x. IsLoose (role x)) (sym same) loose)

    -- an event that keeps turns, numbers and slots
    quiet_stands : (e : Event) → ((id : ℕ) (log : SubLog) → LogKept log (log_after state e id log)) → (after state e).root ≡ state.root → (after state e).full ≡ state.full
        → ((id : ℕ) (log : SubLog) → HasLog (after state e) id log → LogStands (after state e).failures log)
        → ((one two : Ticket) → Contains (after state e).tickets one → Contains (after state e).tickets two → one.caller ≡ two.caller → one ≡ two)
        → ((ticket : Ticket) → ticket.caller ≢ by → Contains state.tickets ticket → Contains (after state e).tickets ticket)
        → ((caller : ℕ) → Contains state.wants caller → Contains (after state e).wants caller)
        → ((caller : ℕ) → Contains (after state e).wants caller → Contains state.wants caller ⊎ WantHeld (next caller))
        → Own (after state e) by (next by)
        → Stands (after state e) next
    quiet_stands e kept root full logs one_ticket tickets wants wants_was own = moved state (after state e) role next by stands (record {
      others = others;
      root_was = λ commit runs. inl (sym root ∙ runs, root_apart commit (sym root ∙ runs));
      full_was = λ commit runs. inl (sym full ∙ runs, full_apart commit (sym full ∙ runs));
      slot_was = λ id log has slot c.
          let old = slot_before state e id log slot has c in
          let there : Contains old.0.slots slot = subst (λ (s : List Slot). Contains s slot) (kept id old.0).slots old.2 in
          inl (old.0, old.1, there, slot_apart id old.0 slot old.1 there);
      logs = logs;
      one_ticket = one_ticket;
      want_was = λ caller c. elim (wants_was caller c) [ inl old ↦ inl (old, want_apart caller old) | inr new ↦ inr new ];
      leaves = λ caller other. record {
        root = λ own. record { commit = own.commit; runs = root ∙ own.runs; own = own.own };
        full = λ own. record { commit = own.commit; runs = full ∙ own.runs; own = own.own };
        ticket = λ sub number part is has. ticket_left state e caller sub number (λ log own. kept_grown log (log_after state e sub log) (kept sub log)) (tickets (record { caller = caller; sub = sub; number = number }) other) has;
        slot = λ sub number part written is has. slot_left state e caller sub number written (λ log has c. subst (λ (s : List Slot). Contains s (record { number = number; holder = caller; written = written })) (sym (kept sub log).slots) c) has;
        want = wants caller;
      };
      own = own;
    })

    new_want : (caller : ℕ) → next by ≡ Wants false → Contains state.wants caller ⊎ (by ≡ caller) → Contains state.wants caller ⊎ WantHeld (next caller)
    new_want caller is was = elim was [ inl old ↦ inl old | inr same ↦ inr (record { sealed = false; is = ap next (sym same) ∙ is }) ]

    pub ask_stands : next by ≡ Wants false → Stands (after state (event.Ask by)) next
    unfolding after
    ask_stands is = quiet_stands (event.Ask by) (λ id log. kept_same log) refl refl
        (logs_after state (event.Ask by) (λ id log. LogStands state.failures log) (λ id log has. stands.logs id log has))
        stands.one_ticket (λ ticket other c. c) (wanting_keeps state.wants by) (λ caller c. new_want caller is (wanting_was state.wants by caller c))
        (subst (Own (after state (event.Ask by)) by) (sym is) (wanting_has state.wants by, tt))

    pub refused_stands : (target : Place) (answer : Answer) → next by ≡ Idle → Stands (after state (event.Refused by target answer)) next
    unfolding after
    refused_stands target answer is = quiet_stands (event.Refused by target answer) (λ id log. kept_same log) refl refl
        (logs_after state (event.Refused by target answer) (λ id log. LogStands state.failures log) (λ id log has. stands.logs id log has))
        stands.one_ticket (λ ticket other c. c) (λ caller c. c) (λ caller c. inl c)
        (subst (Own (after state (event.Refused by target answer)) by) (sym is) tt)

    op_wants_keep : (again : Bool) (end : OpEnd) (caller : ℕ) → Contains state.wants caller → Contains (wants_after_op state.wants by again end) caller
    op_wants_keep again (ends.Answered answer) caller c = c
    op_wants_keep true (ends.Short free need) caller c = c
    op_wants_keep false (ends.Short free need) caller c = wanting_keeps state.wants by caller c

    op_wants_was : (again : Bool) (end : OpEnd) → next by ≡ op_role again end → (caller : ℕ) → Contains (wants_after_op state.wants by again end) caller → Contains state.wants caller ⊎ WantHeld (next caller)
    op_wants_was again (ends.Answered answer) is caller c = inl c
    op_wants_was true (ends.Short free need) is caller c = inl c
    op_wants_was false (ends.Short free need) is caller c = new_want caller is (wanting_was state.wants by caller c)

    pub op_stands : (op : Op) (again : Bool) (end : OpEnd) (indexes : List ℕ) → next by ≡ op_role again end → Stands (after state (event.Op by op again end indexes)) next
    unfolding after
    op_stands op again end indexes is = quiet_stands (event.Op by op again end indexes) (λ id log. kept_same log) refl refl
        (logs_after state (event.Op by op again end indexes) (λ id log. LogStands state.failures log) (λ id log has. stands.logs id log has))
        stands.one_ticket (λ ticket other c. c) (op_wants_keep again end) (op_wants_was again end is)
        (subst (Own (after state (event.Op by op again end indexes)) by) (sym is) (own_role again end))
      where
        own_role : (b : Bool) (x : OpEnd) → Own (after state (event.Op by op b x indexes)) by (op_role b x)
        own_role b (ends.Answered answer) = tt
        own_role true (ends.Short free need) = tt
        own_role false (ends.Short free need) = (wanting_has state.wants by, tt)

-- ---- the bounds of a log's numbers

pub record LogBounds (log : SubLog) : Type 0 where
  pub covered_below : log.covered < log.open_number
  pub undurable_open : (number : ℕ) → log.undurable ≡ Some number → number ≤ log.open_number

-- a ticket's number is above the covered ones and at most the open one
pub ticket_bounds : (failures : ℕ) (log : SubLog) (current : Subvolume) (ino : ℕ) (datasync : Bool) (number : ℕ) → LogStands failures log → LogBounds log → IsTicketOf log current ino datasync number → (log.covered < number) × (number ≤ log.open_number)
ticket_bounds failures log current ino datasync _ stands bounds (IsOpen changes) = (bounds.covered_below, omega arith)
ticket_bounds failures log current ino datasync number stands bounds (IsNewest _ unchanged newest) = (stands.undurable_above number newest, bounds.undurable_open number newest)

ends_ticket : (log : SubLog) (current : Subvolume) (ino : ℕ) (datasync : Bool) (room : RoomNumbers) (number : ℕ) → IsLogEnd log current ino datasync room (logged.Ticket number) → IsTicketOf log current ino datasync number
ends_ticket log current ino datasync room number (GetsTicket own not_already none ticket) = ticket

step_kept : (log : SubLog) (run : RunSub) (caller point ino : ℕ) (end : Logged) (datasync : Bool) → LogKept log (log_after_step log run.sub caller point ino end datasync)
step_kept log run caller point ino logged.Already datasync = record { covered = refl; open_same = refl; slots = refl }
step_kept log run caller point ino (logged.Ticket number) datasync = record { covered = refl; open_same = refl; slots = refl }
step_kept log run caller point ino (logged.Full reason) datasync = record { covered = refl; open_same = refl; slots = refl }

stepped_kept : (o : Option RunSub) (log : SubLog) (caller point ino : ℕ) (end : Logged) (datasync : Bool) → LogKept log (log_stepped o log caller point ino end datasync)
stepped_kept None log caller point ino end datasync = kept_same log
stepped_kept (Some run) log caller point ino end datasync = step_kept log run caller point ino end datasync

-- a log whose newest undurable number is above the covered ones stands as the one before
undurable_stands : (failures : ℕ) (log : SubLog) (run : RunSub) (caller point ino : ℕ) (end : Logged) (datasync : Bool) → ((number : ℕ) → end ≡ logged.Ticket number → log.covered < number) → LogStands failures log
    → LogStands failures (log_after_step log run.sub caller point ino end datasync)
undurable_stands failures log run caller point ino logged.Already datasync above stands = record { one_slot = stands.one_slot; slots_below = stands.slots_below; has_slots = stands.has_slots; undurable_above = stands.undurable_above }
undurable_stands failures log run caller point ino (logged.Full reason) datasync above stands = record { one_slot = stands.one_slot; slots_below = stands.slots_below; has_slots = stands.has_slots; undurable_above = stands.undurable_above }
undurable_stands failures log run caller point ino (logged.Ticket number) datasync above stands = record {
  one_slot = stands.one_slot;
  slots_below = stands.slots_below;
  has_slots = stands.has_slots;
  undurable_above = λ newest e. subst (λ n. log.covered < n) (some_same number newest e) (above number refl);
}

stepped_stands : (failures : ℕ) (o : Option RunSub) (log : SubLog) (caller point ino : ℕ) (end : Logged) (datasync : Bool) → ((number : ℕ) → end ≡ logged.Ticket number → log.covered < number) → LogStands failures log
    → LogStands failures (log_stepped o log caller point ino end datasync)
stepped_stands failures None log caller point ino end datasync above stands = stands
stepped_stands failures (Some run) log caller point ino end datasync above stands = undurable_stands failures log run caller point ino end datasync above stands

-- a log whose open number was sealed
pub sealed_stands : (failures : ℕ) (log : SubLog) (caller number : ℕ) → log.open_number ≡ number → LogStands failures log → LogStands failures (log_sealed log caller number)
sealed_stands failures log caller number is_open stands =
    let new : Slot = record { number = number; holder = caller; written = false } in
    record {
      one_slot = λ one two a b same. elim (contains_cases new log.slots one a) [
        | inl first ↦ elim (contains_cases new log.slots two b) [
          | inl second ↦ sym first ∙ second
          | inr second ↦ absurd (let low = stands.slots_below two second in let own = ap (λ (s : Slot). s.number) first in omega (arith, low, same, own, is_open))
        ]
        | inr first ↦ elim (contains_cases new log.slots two b) [
          | inl second ↦ absurd (let low = stands.slots_below one first in let own = ap (λ (s : Slot). s.number) second in omega (arith, low, same, own, is_open))
          | inr second ↦ stands.one_slot one two first second same
        ]
      ];
      slots_below = λ slot c. elim (contains_cases new log.slots slot c) [
        | inl same ↦ let own = ap (λ (s : Slot). s.number) same in omega (arith, own)
        | inr old ↦ let low = stands.slots_below slot old in omega (arith, low, is_open)
      ];
      has_slots = λ n none above below. elim (cases_eq n number) [
        | inl same ↦ (new, contains_head new log.slots, sym same)
        | inr other ↦ let old = stands.has_slots n none above (omega (arith, below, other, is_open)) in (old.0, contains_tail new log.slots old.0 old.1, old.2)
      ];
      undurable_above = stands.undurable_above;
    }

-- ---- tickets of other callers

module _ (state : State) (role next : ℕ → Role) (stands : Stands state role) (by : ℕ) (others : (caller : ℕ) → caller ≢ by → next caller ≡ role caller) where
  abbrev other_tickets : List Ticket
  other_tickets = filter (λ (ticket : Ticket). not (nat_eq ticket.caller by)) state.tickets

  not_by : (ticket : Ticket) → Contains other_tickets ticket → ticket.caller ≢ by
  not_by ticket c same = true≢false (sym (eq-eqb ticket.caller by same) ∙ not-true _ (filter_contains (λ (t : Ticket). not (nat_eq t.caller by)) state.tickets ticket c).1)

  was_there : (ticket : Ticket) → Contains other_tickets ticket → Contains state.tickets ticket
  was_there ticket c = (filter_contains (λ (t : Ticket). not (nat_eq t.caller by)) state.tickets ticket c).0

  pub still_there : (ticket : Ticket) → ticket.caller ≢ by → Contains state.tickets ticket → Contains other_tickets ticket
  still_there ticket other c = contains_filter (λ (t : Ticket). not (nat_eq t.caller by)) state.tickets ticket (ap not (ne_eqb ticket.caller by other)) c

  pub one_of_others : (one two : Ticket) → Contains other_tickets one → Contains other_tickets two → one.caller ≡ two.caller → one ≡ two
  one_of_others one two a b same = stands.one_ticket one two (was_there one a) (was_there two b) same

  one_with : (new : Ticket) → new.caller ≡ by → (one two : Ticket) → Contains (new ∷ other_tickets) one → Contains (new ∷ other_tickets) two → one.caller ≡ two.caller → one ≡ two
  one_with new own one two a b same = elim (contains_cases new other_tickets one a) [
    | inl first ↦ elim (contains_cases new other_tickets two b) [
      | inl second ↦ sym first ∙ second
      | inr second ↦ absurd (not_by two second (sym same ∙ ap (λ (t : Ticket). t.caller) (sym first) ∙ own))
    ]
    | inr first ↦ elim (contains_cases new other_tickets two b) [
      | inl second ↦ absurd (not_by one first (same ∙ ap (λ (t : Ticket). t.caller) (sym second) ∙ own))
      | inr second ↦ one_of_others one two first second same
    ]
  ]

-- ---- log steps and seals

module _ (state : State) (role next : ℕ → Role) (stands : Stands state role) (bounds : (id : ℕ) (log : SubLog) → HasLog state id log → LogBounds log) (by : ℕ) (others : (caller : ℕ) → caller ≢ by → next caller ≡ role caller) where
  log_kept : (sub : SubId) (ino : Ino) (end : Logged) (datasync : Bool) (id : ℕ) (log : SubLog) → LogKept log (log_after state (event.Log by sub ino end datasync) id log)
  log_kept sub ino end datasync id log = either (LogKept log) (nat_eq id sub.0) (log_stepped (get state.current id) log by state.point ino.0 end datasync) log (λ _. stepped_kept (get state.current id) log by state.point ino.0 end datasync) (λ _. kept_same log)

  log_logs : (sub : SubId) (ino : Ino) (end : Logged) (datasync : Bool) → MayLog state sub.0 ino.0 end datasync → (id : ℕ) (log : SubLog) → HasLog state id log → LogStands state.failures (log_after state (event.Log by sub ino end datasync) id log)
  log_logs sub ino end datasync may id log has = either (LogStands state.failures) (nat_eq id sub.0) (log_stepped (get state.current id) log by state.point ino.0 end datasync) log
      (λ same.
      let own : log ≡ may.log = some_same log may.log (sym has ∙ subst (λ q. get state.logs q ≡ Some may.log) (sym (eqb-true id sub.0 same)) may.of_sub) in
      stepped_stands state.failures (get state.current id) log by state.point ino.0 end datasync (λ number is.
      subst (λ (l : SubLog). l.covered < number) (sym own) (ticket_bounds state.failures may.log may.run.sub ino.0 datasync number (stands.logs sub.0 may.log may.of_sub) (bounds sub.0 may.log may.of_sub)
      (ends_ticket may.log may.run.sub ino.0 datasync may.room number (subst (IsLogEnd may.log may.run.sub ino.0 datasync may.room) is may.ends))).0) (stands.logs id log has))
      (λ _. stands.logs id log has)

  pub log_stands : IsLoose (role by) → (sub : SubId) (ino : Ino) (end : Logged) (datasync : Bool) → MayLog state sub.0 ino.0 end datasync → next by ≡ log_role sub.0 end → Stands (after state (event.Log by sub ino end datasync)) next
  unfolding after
  log_stands loose sub ino logged.Already datasync may is = quiet_stands state role next stands by others loose (event.Log by sub ino logged.Already datasync) (log_kept sub ino logged.Already datasync) refl refl
      (logs_after state (event.Log by sub ino logged.Already datasync) (λ id log. LogStands state.failures log) (log_logs sub ino logged.Already datasync may))
      stands.one_ticket (λ ticket other c. c) (λ caller c. c) (λ caller c. inl c)
      (subst (Own (after state (event.Log by sub ino logged.Already datasync)) by) (sym is) tt)
  log_stands loose sub ino (logged.Full reason) datasync may is = quiet_stands state role next stands by others loose (event.Log by sub ino (logged.Full reason) datasync) (log_kept sub ino (logged.Full reason) datasync) refl refl
      (logs_after state (event.Log by sub ino (logged.Full reason) datasync) (λ id log. LogStands state.failures log) (log_logs sub ino (logged.Full reason) datasync may))
      stands.one_ticket (λ ticket other c. c) (wanting_keeps state.wants by) (λ caller c. new_want state role next stands by others loose caller is (wanting_was state.wants by caller c))
      (subst (Own (after state (event.Log by sub ino (logged.Full reason) datasync)) by) (sym is) (wanting_has state.wants by, tt))
  log_stands loose sub ino (logged.Ticket number) datasync may is =
      let new : Ticket = record { caller = by; sub = sub.0; number = number } in
      let kept = log_kept sub ino (logged.Ticket number) datasync sub.0 may.log in
      let own = ticket_bounds state.failures may.log may.run.sub ino.0 datasync number (stands.logs sub.0 may.log may.of_sub) (bounds sub.0 may.log may.of_sub) (ends_ticket may.log may.run.sub ino.0 datasync may.room number may.ends) in
      quiet_stands state role next stands by others loose (event.Log by sub ino (logged.Ticket number) datasync) (log_kept sub ino (logged.Ticket number) datasync) refl refl
      (logs_after state (event.Log by sub ino (logged.Ticket number) datasync) (λ id log. LogStands state.failures log) (log_logs sub ino (logged.Ticket number) datasync may))
      (one_with state role next stands by others new refl) (λ ticket other c. contains_tail new (other_tickets state role next stands by others) ticket (still_there state role next stands by others ticket other c)) (λ caller c. c) (λ caller c. inl c)
      (subst (Own (after state (event.Log by sub ino (logged.Ticket number) datasync)) by) (sym is) (
        record {
          ticket = contains_head new (other_tickets state role next stands by others);
          log = log_after state (event.Log by sub ino (logged.Ticket number) datasync) sub.0 may.log;
          of_sub = log_afterwards state (event.Log by sub ino (logged.Ticket number) datasync) sub.0 may.log may.of_sub;
          above = let a = own.0 in let k = kept.covered in omega (arith, a, k);
          up_to_open = let b = own.1 in let k = kept.open_same in omega (arith, b, k);
        },
        tt,
      ))

  -- the seal of a number
  pub seal_stands : (sub : SubId) (number : ℕ) → MaySealSub state by sub.0 number → role by ≡ Holds sub.0 number Unsealed → next by ≡ Holds sub.0 number Sealed → Stands (after state (event.SealSub by sub number)) next
  unfolding after
  seal_stands sub number may was is =
      let e = event.SealSub by sub number in
      let loose : IsLoose (role by) = subst IsLoose (sym was) tt in
      let new : Slot = record { number = number; holder = by; written = false } in
      moved state (after state e) role next by stands (record {
        others = others;
        root_was = λ commit runs. inl (runs, root_apart state role next stands by others loose commit runs);
        full_was = λ commit runs. inl (runs, full_apart state role next stands by others loose commit runs);
        slot_was = λ id log has slot c. let old = slot_before state e id log slot has c in found id old.0 slot old.1 (nat_eq id sub.0) refl old.2;
        logs = logs_after state e (λ id log. LogStands state.failures log) (λ id log has. either (LogStands state.failures) (nat_eq id sub.0) (log_sealed log by number) log
            (λ same. sealed_stands state.failures log by number (open_is id log has (eqb-true id sub.0 same)) (stands.logs id log has)) (λ _. stands.logs id log has));
        one_ticket = stands.one_ticket;
        want_was = λ caller c. inl (c, want_apart state role next stands by others loose caller c);
        leaves = λ caller other. record {
          root = λ own. record { commit = own.commit; runs = own.runs; own = own.own };
          full = λ own. record { commit = own.commit; runs = own.runs; own = own.own };
          ticket = λ id n part here has. ticket_left state e caller id n (grown id) (λ c. c) has;
          slot = λ id n part written here has. slot_left state e caller id n written (λ log own c. either (λ (l : SubLog). Contains l.slots (record { number = n; holder = caller; written = written })) (nat_eq id sub.0) (log_sealed log by number) log
              (λ _. contains_tail new log.slots (record { number = n; holder = caller; written = written }) c) (λ _. c)) has;
          want = λ c. c;
        };
        own = subst (Own (after state e) by) (sym is) (own_ticket loose, own_slot);
      })
    where
      open_is : (id : ℕ) (log : SubLog) → HasLog state id log → id ≡ sub.0 → log.open_number ≡ number
      open_is id log has same = ap (λ (l : SubLog). l.open_number) (some_same log may.log (sym has ∙ ap (get state.logs) same ∙ may.of_sub)) ∙ may.is_open

      grown : (id : ℕ) (log : SubLog) → HasLog state id log → LogGrown log (log_after state (event.SealSub by sub number) id log)
      grown id log has = either (LogGrown log) (nat_eq id sub.0) (log_sealed log by number) log
          (λ same. record { covered = refl; open_rises = let o = open_is id log has (eqb-true id sub.0 same) in omega (arith, o) }) (λ _. kept_grown log log (kept_same log))

      found : (id : ℕ) (old : SubLog) (slot : Slot) → HasLog state id old → (b : Bool) → nat_eq id sub.0 ≡ b → Contains (cond b (log_sealed old by number) old).slots slot
          → ((log : SubLog) × HasLog state id log × Contains log.slots slot × (slot.holder ≢ by)) ⊎ SlotHeld id slot (next slot.holder)
      found id old slot has false at c = inl (old, has, c, slot_apart state role next stands by others (subst IsLoose (sym was) tt) id old slot has c)
      found id old slot has true at c = elim (contains_cases (record { number = number; holder = by; written = false }) old.slots slot c) [
        | inl same ↦ inr (subst (λ (s : Slot). SlotHeld id s (next s.holder)) same (record { part = Sealed; is = is ∙ ap (λ i. Holds i number Sealed) (sym (eqb-true id sub.0 at)); fits = refl }))
        | inr there ↦ inl (old, has, there, slot_apart state role next stands by others (subst IsLoose (sym was) tt) id old slot has there)
      ]

      own_ticket : IsLoose (role by) → HasTicket (after state (event.SealSub by sub number)) by sub.0 number
      own_ticket loose = ticket_left state (event.SealSub by sub number) by sub.0 number (grown sub.0) (λ c. c) (subst (Own state by) was (stands.own by)).0

      own_slot : HasSlot (after state (event.SealSub by sub number)) by sub.0 number false
      own_slot = record {
        log = log_after state (event.SealSub by sub number) sub.0 may.log;
        of_sub = log_afterwards state (event.SealSub by sub number) sub.0 may.log may.of_sub;
        slot = subst (λ b. Contains (cond b (log_sealed may.log by number) may.log).slots (record { number = number; holder = by; written = false })) (sym (eq-eqb sub.0 sub.0 refl)) (contains_head (record { number = number; holder = by; written = false }) may.log.slots);
      }
