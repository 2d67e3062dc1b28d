-- Where a call is unfinished, some call's next step doesn't wait.
use Rattle.std.proofs.Common.{◌≡◌, ◌≢◌, ℕ, zero, suc, ◌<◌, ◌≤◌, ◌+◌, ◌-◌, ◌%◌, ◌&&◌, Bool, true, false, cond, not, List, [], ◌∷◌, Option, Some, None, refl, sym, ap, subst, ◌∙◌, arith, inl, inr, ◌⊎◌}
use Rattle.std.specs.Bool.{nat_eq, nat_lt}
use Rattle.std.specs.List.{Contains, list_all, range_with_len}
use Rattle.std.specs.FinMap.{get, keys}
use Rattle.std.proofs.lemmas.Bool.{cases_Bool, cases_lt, eq-eqb, eqb-true, true≢false, and_from, lt-ltb}
use Rattle.flat_model.specs.Step.{step}
use Rattle.flat_model.specs.Volume.{Volume}
use Rattle.flat_model.specs.Coherent.{IsCoherentVolume}
use Rattle.flat_model.proofs.Lists.{contains_head, contains_cases, contains_none}
use Rattle.flat_model.proofs.Maps.{some_same, some_none}
use Rattle.flat_laws.proofs.Shown.{step_choice}
use Rattle.logged_volume.proofs.Members.{any_gives, any_from, key_is_in}
use Rattle.commit_history.specs.declared.event.Event.{Event}
use Rattle.commit_history.specs.declared.event.OpEnd.TheVariants as ends
use Rattle.commit_history.specs.State.{Slot, SubLog, RootCommit, FullCommit, State, HasLog, is_ready, is_written, is_written_slot, is_slot_busy, is_taken}
use Rattle.commit_history.specs.Effects.{state_of}
use Rattle.commit_history.specs.Legal.{IsLegal, HoldsRoot, HoldsFull, IsAnswered, shown}
use Rattle.commit_history.specs.Calls.{Part, Unsealed, Sealed, Written, InRoot, GaveUp, Call, call_of, Duty, EndsPart, EndsRoot, EndsFull, SealsSub, SealsRoot, SealsFull, GivesUp, Asks, is_stopped, is_open_number, ticket_duty, duty, PartWritten, PartGivenUp, PartFailed, RootWritten, RootFailed, FullWritten, FullFailed, SealsPart, SealsLogs, SealsVolume, GivesSlotUp, AsksForFull, IsRuled}
use Rattle.commit_laws.specs.Waiting.{IsUnfinished, HoldsNothing, IsFullUnwanted, DoesNotWait, SomeoneGoesOn}
use Rattle.commit_laws.proofs.Roles.{Role, Holds, Wants, role_of}
use Rattle.commit_laws.proofs.Standing.{IsPartOf, HasTicket, HasSlot, Own}
use Rattle.commit_laws.proofs.Sane.{IsBusy, holds_busy, wants_busy, Busy, HoldsTicket, WantsFull, TriesOnce, TriesIt, busy}
use Rattle.commit_laws.proofs.Reaching.{AllStand, stand_after}

-- ---- searches

-- a number that fails in a range
failing : (p : ℕ → Bool) (from count : ℕ) → list_all p (range_with_len from count) ≡ false → (n : ℕ) × (from ≤ n) × (n < from + count) × (p n ≡ false)
failing p from zero e = absurd (true≢false e)
failing p from (suc count) e = elim (cases_Bool (p from)) [
  | inr fails ↦ (from, omega arith, omega arith, fails)
  | inl passes ↦ let rest = failing p (from + 1) count (sym (ap (λ b. b && list_all p (range_with_len (from + 1) count)) passes) ∙ e) in (rest.0, let a = rest.1 in omega (arith, a), let b = rest.2 in omega (arith, b), rest.3)
]

pub record FoundSlot (state : State) : Type 0 where
  pub id : ℕ
  pub log : SubLog
  pub slot : Slot
  pub has : HasLog state id log
  pub there : Contains log.slots slot

-- some slot is busy, or none is
slots_in : (state : State) (ids : List ℕ) → FoundSlot state ⊎ ((id : ℕ) (log : SubLog) → Contains ids id → HasLog state id log → log.slots ≡ [])
slots_in state [] = inr (λ id log c has. absurd (contains_none id c))
slots_in state (first ∷ ids) = elim (slots_in state ids) [
  | inl found ↦ inl found
  | inr none ↦ at_first (get state.logs first) refl none
]
  where
    in_log : (log : SubLog) → HasLog state first log → (slots : List Slot) → log.slots ≡ slots → FoundSlot state ⊎ (log.slots ≡ [])
    in_log log has [] e = inr e
    in_log log has (slot ∷ slots) e = inl (record { id = first; log = log; slot = slot; has = has; there = subst (λ s. Contains s slot) (sym e) (contains_head slot slots) })

    at_first : (o : Option SubLog) → get state.logs first ≡ o → ((id : ℕ) (log : SubLog) → Contains ids id → HasLog state id log → log.slots ≡ [])
        → FoundSlot state ⊎ ((id : ℕ) (log : SubLog) → Contains (first ∷ ids) id → HasLog state id log → log.slots ≡ [])
    at_first None e none = inr (λ id log c has. elim (contains_cases first ids id c) [
      | inl same ↦ absurd (some_none log (sym has ∙ ap (get state.logs) (sym same) ∙ e))
      | inr later ↦ none id log later has
    ])
    at_first (Some own) e none = elim (in_log own e own.slots refl) [
      | inl found ↦ inl found
      | inr empty ↦ inr (λ id log c has. elim (contains_cases first ids id c) [
        | inl same ↦ subst (λ (l : SubLog). l.slots ≡ []) (some_same own log (sym e ∙ ap (get state.logs) same ∙ has)) empty
        | inr later ↦ none id log later has
      ])
    ]

find_slot : (state : State) → FoundSlot state ⊎ ((id : ℕ) (log : SubLog) → HasLog state id log → log.slots ≡ [])
find_slot state = elim (slots_in state (keys state.logs)) [ inl found ↦ inl found | inr none ↦ inr (λ id log has. none id log (key_is_in state.logs id log has) has) ]

-- ---- steps that don't wait

part_goes_on : (state : State) (caller sub number : ℕ) → HasSlot state caller sub number false → state.root ≡ None → DoesNotWait state caller (EndsPart sub number)
part_goes_on state caller sub number has free _ (PartWritten own own_number none) = record { log = has.log; of_sub = has.of_sub; slot = has.slot; no_failure = none }
part_goes_on state caller sub number has free _ (PartGivenUp own own_number some) = record { log = has.log; written = false; of_sub = has.of_sub; slot = has.slot; not_taken = ap (λ o. is_taken o sub number) free; failure = some }
part_goes_on state caller sub number has free _ (PartFailed own own_number) = (record { log = has.log; number = number; of_sub = has.of_sub; slot = has.slot; slot_of = refl }, refl)

root_goes_on : (state : State) (caller : ℕ) → HoldsRoot state caller → DoesNotWait state caller EndsRoot
root_goes_on state caller has _ RootWritten = has
root_goes_on state caller has _ (RootFailed tried) = has

full_goes_on : (state : State) (caller : ℕ) → HoldsFull state caller → DoesNotWait state caller EndsFull
full_goes_on state caller has _ FullWritten = has
full_goes_on state caller has _ (FullFailed tried) = has

asks_goes_on : (state : State) (caller : ℕ) → DoesNotWait state caller Asks
asks_goes_on state caller _ AsksForFull = tt

gives_up_goes_on : (state : State) (caller sub number : ℕ) → HasSlot state caller sub number true → state.root ≡ None → 0 < state.failures → DoesNotWait state caller (GivesUp sub number)
gives_up_goes_on state caller sub number has free some _ (GivesSlotUp own own_number) = record { log = has.log; written = true; of_sub = has.of_sub; slot = has.slot; not_taken = ap (λ o. is_taken o sub number) free; failure = some }

seals_root_goes_on : (state : State) (caller sub number : ℕ) → (has : HasTicket state caller sub number) → is_ready has.log number ≡ true → state.root ≡ None → state.failures ≡ 0 → DoesNotWait state caller SealsRoot
seals_root_goes_on state caller sub number has ready free none _ SealsLogs =
    record { ticket = record { caller = caller; sub = sub; number = number }; log = has.log; own = refl; has_ticket = has.ticket; of_sub = has.of_sub; ready = ready; root_is_free = free; no_failure = none }

seals_sub_goes_on : (state : State) (caller sub number : ℕ) → (has : HasTicket state caller sub number) → has.log.open_number ≡ number → is_slot_busy has.log number ≡ false → state.full ≡ None → state.failures ≡ 0 → DoesNotWait state caller (SealsSub sub number)
seals_sub_goes_on state caller sub number has is_open slot_free full_free none _ (SealsPart own own_number) =
    record { log = has.log; of_sub = has.of_sub; ticket = has.ticket; is_open = is_open; slot_is_free = slot_free; full_is_free = full_free; no_failure = none }

seals_full_goes_on : (state : State) (caller : ℕ) → Contains state.wants caller → ((id : ℕ) (log : SubLog) → HasLog state id log → log.slots ≡ []) → state.root ≡ None → state.full ≡ None → DoesNotWait state caller SealsFull
seals_full_goes_on state caller wanted none root_free full_free _ SealsVolume = record { wanted = wanted; no_slot_is_busy = none; root_is_free = root_free; full_is_free = full_free }

-- ---- some caller goes on

pub record GoesOn (state : State) (calls : ℕ → Call) : Type 0 where
  pub caller : ℕ
  pub unfinished : IsUnfinished (calls caller)
  pub goes_on : DoesNotWait state caller (duty state (calls caller))

module _ (state : State) (calls : ℕ → Call) (all : AllStand state calls) where
  goes : (caller : ℕ) (next : Duty) → IsBusy state (calls caller) next → DoesNotWait state caller next → GoesOn state calls
  goes caller next is on = record { caller = caller; unfinished = is.unfinished; goes_on = subst (DoesNotWait state caller) (sym is.does) on }

  ticket_busy : (caller sub number : ℕ) (part : Part) → role_of (calls caller) ≡ Holds sub number part → IsBusy state (calls caller) (ticket_duty state sub number part)
  ticket_busy caller sub number part is = holds_busy state (calls caller) sub number part (all.sane caller) is

  own_of : (caller : ℕ) (role : Role) → role_of (calls caller) ≡ role → Own state caller role
  own_of caller role is = subst (Own state caller) is (all.stands.own caller)

  pub full_held_goes : (commit : FullCommit) → state.full ≡ Some commit → GoesOn state calls
  full_held_goes commit runs =
      let held = all.stands.full_held commit runs in
      goes commit.holder EndsFull (wants_busy state (calls commit.holder) true (all.sane commit.holder) held.is) (full_goes_on state commit.holder (record { commit = commit; runs = runs; own = refl }))

  pub root_held_goes : (commit : RootCommit) → state.root ≡ Some commit → GoesOn state calls
  root_held_goes commit runs =
      let held = all.stands.root_held commit runs in
      goes commit.holder EndsRoot (ticket_busy commit.holder held.sub held.number InRoot held.is) (root_goes_on state commit.holder (record { commit = commit; runs = runs; own = refl }))

  module _ (root_free : state.root ≡ None) (full_free : state.full ≡ None) where
    sealed_goes : (caller sub number : ℕ) → role_of (calls caller) ≡ Holds sub number Sealed → GoesOn state calls
    sealed_goes caller sub number is = goes caller (EndsPart sub number) (ticket_busy caller sub number Sealed is) (part_goes_on state caller sub number (own_of caller (Holds sub number Sealed) is).1 root_free)

    not_stopped : (sub number : ℕ) → state.failures ≡ 0 → is_stopped state sub number ≡ false
    not_stopped sub number none = ap (λ n. nat_lt 0 n && not (is_taken state.root sub number)) none

    stopped : (sub number : ℕ) → 0 < state.failures → is_stopped state sub number ≡ true
    stopped sub number some = and_from (nat_lt 0 state.failures) (not (is_taken state.root sub number)) (lt-ltb 0 state.failures some) (ap (λ o. not (is_taken o sub number)) root_free)

    -- a caller with a closed number while no failure stands: it seals the root, or the holder of an earlier slot goes on
    closed_goes : (caller sub number : ℕ) (part : Part) → state.failures ≡ 0 → (has : HasTicket state caller sub number) → number < has.log.open_number → IsBusy state (calls caller) SealsRoot → GoesOn state calls
    closed_goes caller sub number part none has below is = elim (cases_Bool (is_ready has.log number)) [
      | inl ready ↦ goes caller SealsRoot is (seals_root_goes_on state caller sub number has ready root_free none)
      | inr unready ↦
          let above : nat_lt has.log.covered number ≡ true = lt-ltb has.log.covered number has.above in
          let missing = failing (is_written has.log) (has.log.covered + 1) (number - has.log.covered) (sym (ap (λ b. b && list_all (is_written has.log) (range_with_len (has.log.covered + 1) (number - has.log.covered))) above) ∙ unready) in
          let low = missing.1 in let high = missing.2 in let own_above = has.above in
          let slot = (all.stands.logs sub has.log has.of_sub).has_slots missing.0 none (omega (arith, low)) (omega (arith, high, below, own_above)) in
          let held = all.stands.slot_held sub has.log has.of_sub slot.0 slot.1 in
          by_part slot.0 held.part held.is held.fits (not_written slot.0 missing.0 slot.1 slot.2 missing.3)
    ]
      where
        not_written : (slot : Slot) (n : ℕ) → Contains has.log.slots slot → slot.number ≡ n → is_written has.log n ≡ false → slot.written ≡ true → ⊥
        not_written slot n c same e written = true≢false (sym (any_from (is_written_slot n) has.log.slots slot c (and_from (nat_eq slot.number n) slot.written (eq-eqb slot.number n same) written)) ∙ e)

        by_part : (slot : Slot) (p : Part) → role_of (calls slot.holder) ≡ Holds sub slot.number p → IsPartOf slot.written p → (slot.written ≡ true → ⊥) → GoesOn state calls
        by_part slot Unsealed held fits un = absurd fits
        by_part slot Sealed held fits un = sealed_goes slot.holder sub slot.number held
        by_part slot Written held fits un = absurd (un fits)
        by_part slot InRoot held fits un = absurd (un fits)
        by_part slot GaveUp held fits un = absurd fits

    written_goes : (caller sub number : ℕ) → role_of (calls caller) ≡ Holds sub number Written → GoesOn state calls
    written_goes caller sub number is = elim (cases_lt 0 state.failures) [
      | inl some ↦ goes caller (GivesUp sub number) (does_next (GivesUp sub number) (ap (λ b. cond b (GivesUp sub number) SealsRoot) (stopped sub number some)))
          (gives_up_goes_on state caller sub number (own_of caller (Holds sub number Written) is).1 root_free some)
      | inr few ↦
          let none : state.failures ≡ 0 = omega (arith, few) in
          let own = own_of caller (Holds sub number Written) is in
          closed_goes caller sub number Written none own.0 (below own.0 own.1) (does_next SealsRoot (ap (λ b. cond b (GivesUp sub number) SealsRoot) (not_stopped sub number none)))
    ]
      where
        does_next : (next : Duty) → ticket_duty state sub number Written ≡ next → IsBusy state (calls caller) next
        does_next next e = let is_busy = ticket_busy caller sub number Written is in record { unfinished = is_busy.unfinished; does = is_busy.does ∙ e }

        below : (ticket : HasTicket state caller sub number) → HasSlot state caller sub number true → number < ticket.log.open_number
        below ticket slot =
            let low = (all.stands.logs sub slot.log slot.of_sub).slots_below (record { number = number; holder = caller; written = true }) slot.slot in
            subst (λ (l : SubLog). number < l.open_number) (some_same slot.log ticket.log (sym slot.of_sub ∙ ticket.of_sub)) low

    -- where a slot is busy
    slot_goes : FoundSlot state → GoesOn state calls
    slot_goes found =
        let held = all.stands.slot_held found.id found.log found.has found.slot found.there in
        by_part held.part held.is held.fits
      where
        by_part : (p : Part) → role_of (calls found.slot.holder) ≡ Holds found.id found.slot.number p → IsPartOf found.slot.written p → GoesOn state calls
        by_part Unsealed held fits = absurd fits
        by_part Sealed held fits = sealed_goes found.slot.holder found.id found.slot.number held
        by_part Written held fits = written_goes found.slot.holder found.id found.slot.number held
        by_part InRoot held fits = let own = (own_of found.slot.holder (Holds found.id found.slot.number InRoot) held).1 in absurd (some_none own.commit (sym own.runs ∙ root_free))
        by_part GaveUp held fits = absurd fits

    unsealed_goes : (caller sub number : ℕ) → role_of (calls caller) ≡ Holds sub number Unsealed → GoesOn state calls
    unsealed_goes caller sub number is = elim (cases_lt 0 state.failures) [
      | inl some ↦ goes caller Asks (does_next Asks (ap (λ b. cond b Asks (cond (is_open_number state sub number) (SealsSub sub number) SealsRoot)) (stopped sub number some))) (asks_goes_on state caller)
      | inr few ↦ let none : state.failures ≡ 0 = omega (arith, few) in goes_freely none (own_of caller (Holds sub number Unsealed) is).0
    ]
      where
        does_next : (next : Duty) → ticket_duty state sub number Unsealed ≡ next → IsBusy state (calls caller) next
        does_next next e = let is_busy = ticket_busy caller sub number Unsealed is in record { unfinished = is_busy.unfinished; does = is_busy.does ∙ e }

        open_is : (has : HasTicket state caller sub number) → is_open_number state sub number ≡ nat_eq has.log.open_number number
        open_is has = ap (λ (o : Option SubLog). elim (elim o as (λ x. Option ℕ) [ None ↦ None | Some log ↦ Some log.open_number ]) as (λ x. Bool) [ None ↦ false | Some own ↦ nat_eq own number ]) has.of_sub

        duty_is : state.failures ≡ 0 → (has : HasTicket state caller sub number) (b : Bool) → nat_eq has.log.open_number number ≡ b → ticket_duty state sub number Unsealed ≡ cond b (SealsSub sub number) SealsRoot
        duty_is none has b e = ap (λ x. cond x Asks (cond (is_open_number state sub number) (SealsSub sub number) SealsRoot)) (not_stopped sub number none) ∙ ap (λ x. cond x (SealsSub sub number) SealsRoot) (open_is has ∙ e)

        goes_freely : state.failures ≡ 0 → HasTicket state caller sub number → GoesOn state calls
        goes_freely none has = elim (cases_Bool (nat_eq has.log.open_number number)) [
          | inl is_open ↦ elim (cases_Bool (is_slot_busy has.log number)) [
            | inl slot_busy ↦ let found = any_gives (λ (slot : Slot). nat_eq (slot.number % 2) (number % 2)) has.log.slots slot_busy in slot_goes (record { id = sub; log = has.log; slot = found.0; has = has.of_sub; there = found.1 })
            | inr slot_free ↦ goes caller (SealsSub sub number) (does_next (SealsSub sub number) (duty_is none has true is_open)) (seals_sub_goes_on state caller sub number has (eqb-true has.log.open_number number is_open) slot_free full_free none)
          ]
          | inr closed ↦ closed_goes caller sub number Unsealed none has (below has closed) (does_next SealsRoot (duty_is none has false closed))
        ]
          where
            below : (ticket : HasTicket state caller sub number) → nat_eq ticket.log.open_number number ≡ false → number < ticket.log.open_number
            below ticket closed =
                let most = ticket.up_to_open in
                let other : ticket.log.open_number ≢ number = λ same. true≢false (sym (eq-eqb ticket.log.open_number number same) ∙ closed) in
                omega (arith, most, other)

    ticket_goes : (caller sub number : ℕ) (part : Part) → role_of (calls caller) ≡ Holds sub number part → GoesOn state calls
    ticket_goes caller sub number Unsealed is = unsealed_goes caller sub number is
    ticket_goes caller sub number Sealed is = sealed_goes caller sub number is
    ticket_goes caller sub number Written is = written_goes caller sub number is
    ticket_goes caller sub number InRoot is = let own = (own_of caller (Holds sub number InRoot) is).1 in absurd (some_none own.commit (sym own.runs ∙ root_free))
    ticket_goes caller sub number GaveUp is = goes caller Asks (ticket_busy caller sub number GaveUp is) (asks_goes_on state caller)

    want_goes : (caller : ℕ) (sealed : Bool) → role_of (calls caller) ≡ Wants sealed → GoesOn state calls
    want_goes caller true is = let own = (own_of caller (Wants true) is).1 in full_held_goes own.commit own.runs
    want_goes caller false is = elim (find_slot state) [
      | inl found ↦ slot_goes found
      | inr none ↦ goes caller SealsFull (wants_busy state (calls caller) false (all.sane caller) is) (seals_full_goes_on state caller (own_of caller (Wants false) is).0 none root_free full_free)
    ]

    again_goes : (caller : ℕ) → IsUnfinished (calls caller) → TriesIt state (calls caller) → GoesOn state calls
    again_goes caller unfinished tries =
        let choice = step_choice state.current tries.op all.known.sound in
        record {
          caller = caller;
          unfinished = unfinished;
          goes_on = subst (DoesNotWait state caller) (sym tries.does) (
            ends.Answered (shown (step state.current tries.op choice.0).answer),
            choice.0,
            (record { spelled = tries.tried.0; in_limits = tries.tried.1; choice = choice.1 }, IsAnswered),
          );
        }

    busy_goes : (caller : ℕ) → IsUnfinished (calls caller) → Busy state (calls caller) → GoesOn state calls
    busy_goes caller unfinished (HoldsTicket sub number part is) = ticket_goes caller sub number part is
    busy_goes caller unfinished (WantsFull sealed is) = want_goes caller sealed is
    busy_goes caller unfinished (TriesOnce tries) = again_goes caller unfinished tries

  pub someone_goes : (caller : ℕ) → IsUnfinished (calls caller) → GoesOn state calls
  someone_goes caller unfinished = by_full state.full refl
    where
      by_root : (o : Option RootCommit) → state.root ≡ o → state.full ≡ None → GoesOn state calls
      by_root (Some commit) e full_free = root_held_goes commit e
      by_root None e full_free = busy_goes e full_free caller unfinished (busy state (calls caller) (all.sane caller) unfinished)

      by_full : (o : Option FullCommit) → state.full ≡ o → GoesOn state calls
      by_full (Some commit) e = full_held_goes commit e
      by_full None e = by_root state.root refl e

  -- ---- a finished call holds nothing

  pub holds_nothing : (caller : ℕ) → (IsUnfinished (calls caller) → ⊥) → HoldsNothing state caller
  holds_nothing caller finished = record {
    no_root = λ own.
        let held = all.stands.root_held own.commit own.runs in
        finished (ticket_busy caller held.sub held.number InRoot (ap (λ c. role_of (calls c)) (sym own.own) ∙ held.is)).unfinished;
    no_full = λ own.
        let held = all.stands.full_held own.commit own.runs in
        finished (wants_busy state (calls caller) true (all.sane caller) (ap (λ c. role_of (calls c)) (sym own.own) ∙ held.is)).unfinished;
    no_slot = λ id log slot has c same.
        let held = all.stands.slot_held id log has slot c in
        finished (ticket_busy caller id slot.number held.part (ap (λ x. role_of (calls x)) (sym same) ∙ held.is)).unfinished;
    no_want = λ c.
        let held = all.stands.want_held caller c in
        finished (wants_busy state (calls caller) held.sealed (all.sane caller) held.is).unfinished;
  }

  pub full_unwanted : ((caller : ℕ) → IsUnfinished (calls caller) → ⊥) → IsFullUnwanted state
  full_unwanted finished = record { is_free = free state.full refl; is_not_wanted = unwanted state.wants refl }
    where
      free : (o : Option FullCommit) → state.full ≡ o → o ≡ None
      free None e = refl
      free (Some commit) e = absurd ((holds_nothing commit.holder (finished commit.holder)).no_full (record { commit = commit; runs = e; own = refl }))

      unwanted : (wants : List ℕ) → state.wants ≡ wants → wants ≡ []
      unwanted [] e = refl
      unwanted (caller ∷ wants) e = absurd ((holds_nothing caller (finished caller)).no_want (subst (λ w. Contains w caller) (sym e) (contains_head caller wants)))

-- ---- the laws

module _ (volume : Volume) (coherent : IsCoherentVolume volume) (events : List Event) (legal : IsLegal volume events) (ruled : IsRuled volume events) where
  pub not_stuck : (caller : ℕ) → IsUnfinished (call_of volume events caller) → SomeoneGoesOn volume events
  not_stuck caller unfinished =
      let on = someone_goes (state_of volume events) (call_of volume events) (stand_after volume coherent events legal ruled) caller unfinished in
      record { caller = on.caller; unfinished = on.unfinished; goes_on = on.goes_on }

  pub finished_holds_nothing : (caller : ℕ) → (IsUnfinished (call_of volume events caller) → ⊥) → HoldsNothing (state_of volume events) caller
  finished_holds_nothing caller finished = holds_nothing (state_of volume events) (call_of volume events) (stand_after volume coherent events legal ruled) caller finished

  pub all_finished : ((caller : ℕ) → IsUnfinished (call_of volume events caller) → ⊥) → IsFullUnwanted (state_of volume events)
  all_finished finished = full_unwanted (state_of volume events) (call_of volume events) (stand_after volume coherent events legal ruled) finished
