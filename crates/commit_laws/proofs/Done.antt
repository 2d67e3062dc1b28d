-- Root commits and full commits that are done.
use Rattle.std.proofs.Common.{◌≡◌, ◌≢◌, ℕ, ◌<◌, ◌||◌, Bool, true, false, cond, not, List, [], Option, Some, None, refl, sym, ap, subst, ◌∙◌, arith, inl, inr}
use Rattle.std.specs.Bool.{nat_eq, nat_le}
use Rattle.std.specs.List.{Contains, list_any}
use Rattle.std.proofs.lemmas.Bool.{cases_eq, cases_Bool, eq-eqb, true≢false, not-true, leb-true, leb-false, or_left}
use Rattle.flat_model.specs.Volume.{Subvolume}
use Rattle.flat_model.proofs.Lists.{contains_none, contains_filter, filter_contains}
use Rattle.flat_model.proofs.Maps.{some_same, some_none}
use Rattle.logged_volume.proofs.Members.{any_from}
use Rattle.commit_history.specs.declared.event.Event.TheVariants as event
use Rattle.commit_history.specs.State.{Slot, SubLog, Ticket, RootCommit, FullCommit, State, HasLog, number_taken, is_taken}
use Rattle.commit_history.specs.Effects.{after, log_after, log_committed, log_taken, log_with, sub_sealed, undurable_above, wants_at_seal, has_ticket}
use Rattle.commit_history.specs.Legal.{HoldsRoot, HoldsFull}
use Rattle.commit_history.specs.Calls.{Part, Unsealed, Sealed, Written, InRoot, GaveUp}
use Rattle.commit_history.proofs.LogNumbers.{log_afterwards}
use Rattle.commit_history.proofs.StateHolding.{logs_after}
use Rattle.commit_history.proofs.LogHolding.{IsUncovered}
use Rattle.commit_laws.proofs.Roles.{Role, Idle, Holds, Wants, root_role, full_role, EndsRootFrom}
use Rattle.commit_laws.proofs.Standing.{SlotHeld, LogStands, HasTicket, HasSlot, OwnPart, OwnTurn, Own, Stands}
use Rattle.commit_laws.proofs.Quiet.{slot_before}

-- ---- the log once a root commit took a number, where it took one

abbrev takes : Option ℕ → ℕ → Bool
takes taken number = elim taken [ None ↦ false | Some most ↦ nat_le number most ]

taken_covered : (taken : Option ℕ) (log : SubLog) (number : ℕ) → takes taken number ≡ false → log.covered < number → (log_taken taken log).covered < number
taken_covered None log number not_taken above = above
taken_covered (Some most) log number not_taken above = leb-false number most not_taken

taken_open : (taken : Option ℕ) (log : SubLog) → (log_taken taken log).open_number ≡ log.open_number
taken_open None log = refl
taken_open (Some most) log = refl

taken_keeps : (taken : Option ℕ) (log : SubLog) (slot : Slot) → takes taken slot.number ≡ false → Contains log.slots slot → Contains (log_taken taken log).slots slot
taken_keeps None log slot not_taken c = c
taken_keeps (Some most) log slot not_taken c = contains_filter (λ (s : Slot). not (nat_le s.number most)) log.slots slot (ap not not_taken) c

taken_was : (taken : Option ℕ) (log : SubLog) (slot : Slot) → Contains (log_taken taken log).slots slot → Contains log.slots slot × (takes taken slot.number ≡ false)
taken_was None log slot c = (c, refl)
taken_was (Some most) log slot c = let from = filter_contains (λ (s : Slot). not (nat_le s.number most)) log.slots slot c in (from.0, not-true _ from.1)

above_is : (undurable : Option ℕ) (most number : ℕ) → undurable_above undurable most ≡ Some number → most < number
above_is None most number e = absurd (some_none number (sym e))
above_is (Some newest) most number e = elim (nat_le newest most) as (λ b. nat_le newest most ≡ b → cond b None (Some newest) ≡ Some number → most < number) [
  | true ↦ λ low x. absurd (some_none number (sym x))
  | false ↦ λ high x. subst (λ n. most < n) (some_same newest number x) (leb-false newest most high)
] refl e

taken_stands : (failures : ℕ) (taken : Option ℕ) (log : SubLog) → ((most : ℕ) → taken ≡ Some most → log.covered < most) → LogStands failures log → LogStands failures (log_taken taken log)
taken_stands failures None log bound stands = stands
taken_stands failures (Some most) log bound stands = record {
  one_slot = λ one two a b same. stands.one_slot one two (filter_contains (λ (s : Slot). not (nat_le s.number most)) log.slots one a).0 (filter_contains (λ (s : Slot). not (nat_le s.number most)) log.slots two b).0 same;
  slots_below = λ slot c. stands.slots_below slot (filter_contains (λ (s : Slot). not (nat_le s.number most)) log.slots slot c).0;
  has_slots = λ number none above below.
      let old = stands.has_slots number none (let b = bound most refl in omega (arith, b, above)) below in
      let high : nat_le old.0.number most ≡ false = elim (cases_Bool (nat_le old.0.number most)) [ inl low ↦ absurd (let l = leb-true old.0.number most low in let is = old.2 in omega (arith, l, is, above)) | inr h ↦ h ] in
      (old.0, contains_filter (λ (s : Slot). not (nat_le s.number most)) log.slots old.0 (ap not high) old.1, old.2);
  undurable_above = λ number e. above_is log.undurable most number e;
}

-- ---- a root commit

module _ (state : State) (role next : ℕ → Role) (stands : Stands state role) (by : ℕ) where
  module _ (bounds : (id : ℕ) (log : SubLog) (number : ℕ) → HasLog state id log → number_taken state.root id ≡ Some number → IsUncovered log number) (full_is_free : state.full ≡ None) (others : (caller : ℕ) → caller ≢ by → next caller ≡ root_role state (role caller))
      (may : HoldsRoot state by) (acts : EndsRootFrom (role by) (next by)) where
    own_taken : is_taken state.root acts.sub acts.number ≡ true
    own_taken =
        let held = stands.root_held may.commit may.runs in
        let at : role by ≡ Holds held.sub held.number InRoot = ap role (sym may.own) ∙ held.is in
        let was : role by ≡ Holds acts.sub acts.number InRoot = acts.was in
        let one : acts.sub ≡ held.sub = cc in
        let two : acts.number ≡ held.number = cc in
        ap (λ o. is_taken o acts.sub acts.number) may.runs ∙ ap (λ s. is_taken (Some may.commit) s acts.number) one ∙ ap (is_taken (Some may.commit) held.sub) two ∙ held.taken

    -- a slot that is left isn't of the caller, and its number isn't taken
    slot_left_held : (id : ℕ) (log : SubLog) → HasLog state id log → (slot : Slot) → Contains log.slots slot → takes (number_taken state.root id) slot.number ≡ false → SlotHeld id slot (next slot.holder)
    slot_left_held id log has slot c not_taken =
        let held = stands.slot_held id log has slot c in
        let other : slot.holder ≢ by = λ same.
        let at : role by ≡ Holds id slot.number held.part = ap role (sym same) ∙ held.is in
        let was : role by ≡ Holds acts.sub acts.number InRoot = acts.was in
        let one : acts.sub ≡ id = cc in
        let two : acts.number ≡ slot.number = cc in
        true≢false (sym own_taken ∙ ap (λ s. is_taken state.root s acts.number) one ∙ ap (is_taken state.root id) two ∙ not_taken) in
        record {
          part = held.part;
          is = others slot.holder other ∙ ap (root_role state) held.is ∙ ap (λ b. cond b Idle (Holds id slot.number held.part)) not_taken;
          fits = held.fits;
        }

    abbrev later : State
    later = after state (event.RootDone by)

    own_later : (caller : ℕ) → caller ≢ by → (held : Role) → Own state caller held → Own later caller (root_role state held)
    unfolding after
    own_later caller other Idle own = tt
    own_later caller other (Wants true) own = (own.0, record { commit = own.1.commit; runs = own.1.runs; own = own.1.own })
    own_later caller other (Wants false) own = (own.0, tt)
    own_later caller other (Holds sub number part) own = elim (is_taken state.root sub number) as (λ b. is_taken state.root sub number ≡ b → Own later caller (cond b Idle (Holds sub number part))) [
      | true ↦ λ taken. tt
      | false ↦ λ not_taken. (ticket_later not_taken own.0, part_later not_taken part own.1)
    ] refl
      where
        ticket_later : is_taken state.root sub number ≡ false → HasTicket state caller sub number → HasTicket later caller sub number
        ticket_later not_taken has = record {
          ticket = contains_filter (λ (t : Ticket). not (is_taken state.root t.sub t.number)) state.tickets (record { caller = caller; sub = sub; number = number }) (ap not not_taken) has.ticket;
          log = log_after state (event.RootDone by) sub has.log;
          of_sub = log_afterwards state (event.RootDone by) sub has.log has.of_sub;
          above = taken_covered (number_taken state.root sub) has.log number not_taken has.above;
          up_to_open = let u = has.up_to_open in let o = taken_open (number_taken state.root sub) has.log in omega (arith, u, o);
        }

        slot_later : is_taken state.root sub number ≡ false → (written : Bool) → HasSlot state caller sub number written → HasSlot later caller sub number written
        slot_later not_taken written has = record {
          log = log_after state (event.RootDone by) sub has.log;
          of_sub = log_afterwards state (event.RootDone by) sub has.log has.of_sub;
          slot = taken_keeps (number_taken state.root sub) has.log (record { number = number; holder = caller; written = written }) not_taken has.slot;
        }

        part_later : is_taken state.root sub number ≡ false → (p : Part) → OwnPart state caller sub number p → OwnPart later caller sub number p
        part_later not_taken Unsealed has = tt
        part_later not_taken Sealed has = slot_later not_taken false has
        part_later not_taken Written has = slot_later not_taken true has
        part_later not_taken InRoot has = absurd (other (sym has.own ∙ ap (λ (c : RootCommit). c.holder) (some_same has.commit may.commit (sym has.runs ∙ may.runs)) ∙ may.own))
        part_later not_taken GaveUp has = tt

    pub root_done_stands : Stands (after state (event.RootDone by)) next
    unfolding after
    root_done_stands = record {
      root_held = λ commit runs. absurd (some_none commit (sym runs));
      full_held = λ commit runs. absurd (some_none commit (sym runs ∙ full_is_free));
      slot_held = λ id log has slot c.
          let old = slot_before state (event.RootDone by) id log slot has c in
          let from = taken_was (number_taken state.root id) old.0 slot old.2 in
          slot_left_held id old.0 old.1 slot from.0 from.1;
      logs = logs_after state (event.RootDone by) (λ id log. LogStands state.failures log) (λ id log has. taken_stands state.failures (number_taken state.root id) log (λ most e. (bounds id log most has e).0) (stands.logs id log has));
      one_ticket = λ one two a b same. stands.one_ticket one two (filter_contains (λ (t : Ticket). not (is_taken state.root t.sub t.number)) state.tickets one a).0 (filter_contains (λ (t : Ticket). not (is_taken state.root t.sub t.number)) state.tickets two b).0 same;
      want_held = λ caller c.
          let held = stands.want_held caller c in
          let other : caller ≢ by = λ same.
          let at : role caller ≡ Wants held.sealed = held.is in
          let was : role caller ≡ Holds acts.sub acts.number InRoot = ap role same ∙ acts.was in
          cc in
          record { sealed = held.sealed; is = others caller other ∙ ap (root_role state) held.is };
      own = λ caller. elim (cases_eq caller by) [
        | inl same ↦ subst (Own later caller) (sym (ap next same ∙ acts.is)) tt
        | inr other ↦ subst (Own later caller) (sym (others caller other)) (own_later caller other (role caller) (stands.own caller))
      ];
    }

  -- ---- a full commit

  module _ (root_is_free : state.root ≡ None) (no_slots : (id : ℕ) (log : SubLog) → HasLog state id log → log.slots ≡ []) (sealed : (id : ℕ) (log : SubLog) → HasLog state id log → (sub : Subvolume) × (sub_sealed state.full id ≡ Some sub))
      (others : (caller : ℕ) → caller ≢ by → next caller ≡ full_role state caller (role caller)) (may : HoldsFull state by) (was : role by ≡ Wants true) (is : next by ≡ Idle) where
    with_slots : (o : Option Subvolume) (log : SubLog) → (log_with o log).slots ≡ log.slots
    with_slots None log = refl
    with_slots (Some sub) log = refl

    committed_stands : (log : SubLog) (sub : Subvolume) → LogStands state.failures log → LogStands 0 (log_committed log sub)
    committed_stands log sub old = record {
      one_slot = old.one_slot;
      slots_below = old.slots_below;
      has_slots = λ number none above below. absurd (omega (arith, above, below));
      undurable_above = λ number e. absurd (some_none number (sym e));
    }

    abbrev is_covered : ℕ → Bool
    is_covered caller = list_any (nat_eq caller) (wants_at_seal state.full) || has_ticket state.tickets caller

    own_wanted : is_covered by ≡ true
    own_wanted =
        let wanted : Contains may.commit.wants by = subst (Contains may.commit.wants) may.own (stands.full_held may.commit may.runs).wanted in
        or_left _ _ (ap (λ o. list_any (nat_eq by) (wants_at_seal o)) may.runs ∙ any_from (nat_eq by) may.commit.wants by wanted (eq-eqb by by refl))

    abbrev after_full : State
    after_full = after state (event.FullDone by)

    own_after : (caller : ℕ) → caller ≢ by → (held : Role) → Own state caller held → Own after_full caller (full_role state caller held)
    unfolding after
    own_after caller other Idle own = tt
    own_after caller other (Holds sub number part) own = tt
    own_after caller other (Wants want_sealed) own = elim (is_covered caller) as (λ b. is_covered caller ≡ b → Own after_full caller (cond b Idle (Wants want_sealed))) [
      | true ↦ λ covered. tt
      | false ↦ λ not_covered. (contains_filter (λ c. not (is_covered c)) state.wants caller (ap not not_covered) own.0, turn_after want_sealed own.1)
    ] refl
      where
        turn_after : (b : Bool) → OwnTurn state caller b → OwnTurn after_full caller b
        turn_after false has = tt
        turn_after true has = absurd (other (sym has.own ∙ ap (λ (c : FullCommit). c.holder) (some_same has.commit may.commit (sym has.runs ∙ may.runs)) ∙ may.own))

    pub full_done_stands : Stands (after state (event.FullDone by)) next
    unfolding after
    full_done_stands = record {
      root_held = λ commit runs. absurd (some_none commit (sym runs ∙ root_is_free));
      full_held = λ commit runs. absurd (some_none commit (sym runs));
      slot_held = λ id log has slot c.
          let old = slot_before state (event.FullDone by) id log slot has c in
          absurd (contains_none slot (subst (λ (s : List Slot). Contains s slot) (with_slots (sub_sealed state.full id) old.0 ∙ no_slots id old.0 old.1) old.2));
      logs = logs_after state (event.FullDone by) (λ id log. LogStands 0 log) (λ id log has. let sub = sealed id log has in subst (λ o. LogStands 0 (log_with o log)) (sym sub.1) (committed_stands log sub.0 (stands.logs id log has)));
      one_ticket = λ one two a b same. absurd (contains_none one a);
      want_held = λ caller c.
          let from = filter_contains (λ x. not (is_covered x)) state.wants caller c in
          let held = stands.want_held caller from.0 in
          let not_covered : is_covered caller ≡ false = not-true _ from.1 in
          let other : caller ≢ by = λ same. true≢false (sym own_wanted ∙ ap is_covered (sym same) ∙ not_covered) in
          record { sealed = held.sealed; is = others caller other ∙ ap (full_role state caller) held.is ∙ ap (λ b. cond b Idle (Wants held.sealed)) not_covered };
      own = λ caller. elim (cases_eq caller by) [
        | inl same ↦ subst (Own after_full caller) (sym (ap next same ∙ is)) tt
        | inr other ↦ subst (Own after_full caller) (sym (others caller other)) (own_after caller other (role caller) (stands.own caller))
      ];
    }
