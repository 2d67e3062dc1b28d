-- Events of a caller that holds a part, a want or a turn: a part that is written or given up, seals of commits, and failures.
use Rattle.std.proofs.Common.{◌≡◌, ◌≢◌, ℕ, ◌<◌, ◌+◌, Bool, true, false, cond, not, List, [], ◌∷◌, map, Option, Some, None, refl, sym, ap, subst, ◌∙◌, arith, inl, inr, ◌⊎◌}
use Rattle.std.specs.Bool.{nat_eq, ⊤}
use Rattle.std.specs.List.{Contains, filter}
use Rattle.std.specs.FinMap.{get}
use Rattle.std.proofs.lemmas.Bool.{cases_eq, ne_eqb, eq-eqb, eqb-true, true≢false, not-true}
use Rattle.blk_base.specs.declared.key.SubId.{SubId}
use Rattle.flat_model.proofs.Lists.{contains_head, contains_tail, contains_cases, contains_none, contains_filter, filter_contains}
use Rattle.flat_model.proofs.Maps.{some_same, some_none}
use Rattle.flat_model.specs.Volume.{volume_of}
use Rattle.commit_history.specs.declared.event.Event.TheVariants as event
use Rattle.commit_history.specs.declared.event.Turn.{Turn}
use Rattle.commit_history.specs.State.{Slot, SubLog, RootCommit, FullCommit, State, HasLog, is_taken}
use Rattle.commit_history.specs.Effects.{after, log_after, slots_written, slots_without, root_without, full_without, numbers_ready}
use Rattle.commit_history.specs.Legal.{MayBeWritten, MayGiveUp, MaySealRoot, MaySealFull}
use Rattle.commit_history.specs.Calls.{Part, Unsealed, Sealed, Written, InRoot, GaveUp}
use Rattle.commit_history.proofs.LogNumbers.{log_afterwards}
use Rattle.commit_history.proofs.StateHolding.{either, logs_after, root_without_was, full_without_was}
use Rattle.commit_laws.proofs.Roles.{Role, Idle, Holds, Wants, HasOwnSlot, BeginsRoot, SealsRootFrom, GivesUpFrom}
use Rattle.commit_laws.proofs.Standing.{RootHeld, FullHeld, IsPartOf, SlotHeld, LogStands, HasTicket, Own, Stands, moved}
use Rattle.commit_laws.proofs.Quiet.{LogGrown, kept_same, kept_grown, ticket_left, slot_left, slot_before, still_there, one_of_others}

-- ---- lists

module _ {X Y : Type 0} (f : X → Y) where
  pub map_was : (xs : List X) (y : Y) → Contains (map f xs) y → (x : X) × Contains xs x × (f x ≡ y)
  map_was [] y c = absurd (contains_none y c)
  map_was (x ∷ xs) y c = elim (contains_cases (f x) (map f xs) y c) [
    | inl same ↦ (x, contains_head x xs, same)
    | inr later ↦ let rest = map_was xs y later in (rest.0, contains_tail x xs rest.0 rest.1, rest.2)
  ]

  pub map_has : (xs : List X) (x : X) → Contains xs x → Contains (map f xs) (f x)
  map_has [] x c = absurd (contains_none x c)
  map_has (y ∷ ys) x c = elim (contains_cases y ys x c) [
    | inl same ↦ subst (λ z. Contains (f y ∷ map f ys) (f z)) same (contains_head (f y) (map f ys))
    | inr later ↦ contains_tail (f y) (map f ys) (f x) (map_has ys x later)
  ]

-- ---- slots that are written, or go

abbrev mark : ℕ → Slot → Slot
mark number slot = cond (nat_eq slot.number number) (record slot { written = true }) slot

mark_number : (number : ℕ) (slot : Slot) → (mark number slot).number ≡ slot.number
mark_number number slot = either (λ (s : Slot). s.number ≡ slot.number) (nat_eq slot.number number) (record slot { written = true }) slot (λ _. refl) (λ _. refl)

mark_other : (number : ℕ) (slot : Slot) → slot.number ≢ number → mark number slot ≡ slot
mark_other number slot other = ap (λ b. cond b (record slot { written = true }) slot) (ne_eqb slot.number number other)

mark_own : (number holder : ℕ) (written : Bool) → mark number (record { number = number; holder = holder; written = written }) ≡ (let made : Slot = record { number = number; holder = holder; written = true } in made)
mark_own number holder written = let own : Slot = record { number = number; holder = holder; written = written } in ap (λ b. cond b (record own { written = true }) own) (eq-eqb number number refl)

written_stands : (failures : ℕ) (log : SubLog) (number : ℕ) → LogStands failures log → LogStands failures (record log { slots = slots_written log.slots number })
written_stands failures log number stands = record {
  one_slot = λ one two a b same.
      let first = map_was (mark number) log.slots one a in
      let second = map_was (mark number) log.slots two b in
      let numbers : first.0.number ≡ second.0.number = sym (mark_number number first.0) ∙ ap (λ (s : Slot). s.number) first.2 ∙ same ∙ sym (ap (λ (s : Slot). s.number) second.2) ∙ mark_number number second.0 in
      sym first.2 ∙ ap (mark number) (stands.one_slot first.0 second.0 first.1 second.1 numbers) ∙ second.2;
  slots_below = λ slot c.
      let was = map_was (mark number) log.slots slot c in
      let low = stands.slots_below was.0 was.1 in
      let same = sym (mark_number number was.0) ∙ ap (λ (s : Slot). s.number) was.2 in
      omega (arith, low, same);
  has_slots = λ n none above below. let old = stands.has_slots n none above below in (mark number old.0, map_has (mark number) log.slots old.0 old.1, mark_number number old.0 ∙ old.2);
  undurable_above = stands.undurable_above;
}

-- fewer slots, while a failure stands
fewer_stands : (failures later : ℕ) (log : SubLog) (p : Slot → Bool) → 0 < later → LogStands failures log → LogStands later (record log { slots = filter p log.slots })
fewer_stands failures later log p some stands = record {
  one_slot = λ one two a b same. stands.one_slot one two (filter_contains p log.slots one a).0 (filter_contains p log.slots two b).0 same;
  slots_below = λ slot c. stands.slots_below slot (filter_contains p log.slots slot c).0;
  has_slots = λ n none above below. absurd (omega (arith, some, none));
  undurable_above = stands.undurable_above;
}

-- a turn that was kept isn't the caller's
pub root_without_apart : (o : Option RootCommit) (caller : ℕ) (commit : RootCommit) → root_without o caller ≡ Some commit → commit.holder ≢ caller
root_without_apart None caller commit e same = some_none commit (sym e)
root_without_apart (Some own) caller commit e same = elim (nat_eq own.holder caller) as (λ b. nat_eq own.holder caller ≡ b → cond b None (Some own) ≡ Some commit → ⊥) [
  | true ↦ λ at x. some_none commit (sym x)
  | false ↦ λ at x. true≢false (sym (eq-eqb own.holder caller (ap (λ (c : RootCommit). c.holder) (some_same own commit x) ∙ same)) ∙ at)
] refl e

pub full_without_apart : (o : Option FullCommit) (caller : ℕ) (commit : FullCommit) → full_without o caller ≡ Some commit → commit.holder ≢ caller
full_without_apart None caller commit e same = some_none commit (sym e)
full_without_apart (Some own) caller commit e same = elim (nat_eq own.holder caller) as (λ b. nat_eq own.holder caller ≡ b → cond b None (Some own) ≡ Some commit → ⊥) [
  | true ↦ λ at x. some_none commit (sym x)
  | false ↦ λ at x. true≢false (sym (eq-eqb own.holder caller (ap (λ (c : FullCommit). c.holder) (some_same own commit x) ∙ same)) ∙ at)
] refl e

-- a part outside a root commit
abbrev IsOutside : Part → Type 0
IsOutside Unsealed = ⊤
IsOutside Sealed = ⊤
IsOutside Written = ⊤
IsOutside InRoot = ⊥
IsOutside GaveUp = ⊤

own_outside : (part : Part) → HasOwnSlot part → IsOutside part
own_outside Unsealed own = tt
own_outside Sealed own = tt
own_outside Written own = tt
own_outside InRoot own = own
own_outside GaveUp own = tt

begins_outside : (part : Part) → BeginsRoot part → IsOutside part
begins_outside Unsealed own = tt
begins_outside Sealed own = tt
begins_outside Written own = tt
begins_outside InRoot own = own
begins_outside GaveUp own = tt

pub record IsOwnSlot (sub number : ℕ) (part : Part) (id : ℕ) (slot : Slot) : Type 0 where
  pub of_sub : id ≡ sub
  pub of_number : slot.number ≡ number
  pub fits : IsPartOf slot.written part

module _ (state : State) (role next : ℕ → Role) (stands : Stands state role) (by : ℕ) (others : (caller : ℕ) → caller ≢ by → next caller ≡ role caller) where
  -- what isn't of a caller with a ticket outside a root commit
  module _ (sub number : ℕ) (part : Part) (was : role by ≡ Holds sub number part) where
    part_root_apart : IsOutside part → (commit : RootCommit) → state.root ≡ Some commit → commit.holder ≢ by
    part_root_apart outside commit runs same =
        let held = stands.root_held commit runs in
        let is : role commit.holder ≡ Holds held.sub held.number InRoot = held.is in
        let at : role commit.holder ≡ Holds sub number part = ap role same ∙ was in
        let p : part ≡ InRoot = cc in
        subst IsOutside p outside

    part_full_apart : (commit : FullCommit) → state.full ≡ Some commit → commit.holder ≢ by
    part_full_apart commit runs same =
        let is : role commit.holder ≡ Wants true = (stands.full_held commit runs).is in
        let at : role commit.holder ≡ Holds sub number part = ap role same ∙ was in
        cc

    part_want_apart : (caller : ℕ) → Contains state.wants caller → caller ≢ by
    part_want_apart caller c same =
        let held = stands.want_held caller c in
        let is : role caller ≡ Wants held.sealed = held.is in
        let at : role caller ≡ Holds sub number part = ap role same ∙ was in
        cc

    own_slot : (id : ℕ) (log : SubLog) (slot : Slot) → HasLog state id log → Contains log.slots slot → slot.holder ≡ by → IsOwnSlot sub number part id slot
    own_slot id log slot has c same =
        let held = stands.slot_held id log has slot c in
        let is : role slot.holder ≡ Holds id slot.number held.part = held.is in
        let at : role slot.holder ≡ Holds sub number part = ap role same ∙ was in
        let p : held.part ≡ part = cc in
        record { of_sub = cc; of_number = cc; fits = subst (IsPartOf slot.written) p held.fits }

  -- a part that is written
  pub write_stands : (sub : SubId) (number : ℕ) → MayBeWritten state by sub.0 number → role by ≡ Holds sub.0 number Sealed → next by ≡ Holds sub.0 number Written → Stands (after state (event.SubWritten by sub number)) next
  unfolding after
  write_stands sub number may was is =
      let e = event.SubWritten by sub number in
      moved state (after state e) role next by stands (record {
        others = others;
        root_was = λ commit runs. inl (runs, part_root_apart sub.0 number Sealed was tt commit runs);
        full_was = λ commit runs. inl (runs, part_full_apart sub.0 number Sealed was commit runs);
        slot_was = λ id log has slot c. let old = slot_before state e id log slot has c in found id old.0 slot old.1 (nat_eq id sub.0) refl old.2;
        logs = logs_after state e (λ id log. LogStands state.failures log) (λ id log has. either (LogStands state.failures) (nat_eq id sub.0) (record log { slots = slots_written log.slots number }) log
            (λ same. written_stands state.failures log number (stands.logs id log has)) (λ _. stands.logs id log has));
        one_ticket = stands.one_ticket;
        want_was = λ caller c. inl (c, part_want_apart sub.0 number Sealed was caller c);
        leaves = λ caller other. record {
          root = λ own. record { commit = own.commit; runs = own.runs; own = own.own };
          full = λ own. record { commit = own.commit; runs = own.runs; own = own.own };
          ticket = λ id n part here has. ticket_left state e caller id n (λ log own. grown id log) (λ c. c) has;
          slot = λ id n part written here has. slot_left state e caller id n written (λ log own c. still caller other id n written log own c (nat_eq id sub.0) refl) has;
          want = λ c. c;
        };
        own = subst (Own (after state e) by) (sym is) (
          ticket_left state e by sub.0 number (λ log own. grown sub.0 log) (λ c. c) (subst (Own state by) was (stands.own by)).0,
          record {
            log = log_after state e sub.0 may.log;
            of_sub = log_afterwards state e sub.0 may.log may.of_sub;
            slot = subst (λ b. Contains (cond b (record may.log { slots = slots_written may.log.slots number }) may.log).slots (record { number = number; holder = by; written = true })) (sym (eq-eqb sub.0 sub.0 refl))
                (subst (Contains (slots_written may.log.slots number)) (mark_own number by false) (map_has (mark number) may.log.slots (record { number = number; holder = by; written = false }) may.slot));
          },
        );
      })
    where
      mine : Slot
      mine = record { number = number; holder = by; written = false }

      log_is : (id : ℕ) (log : SubLog) → HasLog state id log → id ≡ sub.0 → log ≡ may.log
      log_is id log has same = some_same log may.log (sym has ∙ ap (get state.logs) same ∙ may.of_sub)

      is_mine : (id : ℕ) (log : SubLog) (slot : Slot) → HasLog state id log → id ≡ sub.0 → Contains log.slots slot → slot.number ≡ number → slot ≡ mine
      is_mine id log slot has same c of_number = (stands.logs id log has).one_slot slot mine c (subst (λ (l : SubLog). Contains l.slots mine) (sym (log_is id log has same)) may.slot) of_number

      grown : (id : ℕ) (log : SubLog) → LogGrown log (log_after state (event.SubWritten by sub number) id log)
      grown id log = either (LogGrown log) (nat_eq id sub.0) (record log { slots = slots_written log.slots number }) log (λ _. record { covered = refl; open_rises = omega arith }) (λ _. kept_grown log log (kept_same log))

      found : (id : ℕ) (old : SubLog) (slot : Slot) → HasLog state id old → (b : Bool) → nat_eq id sub.0 ≡ b → Contains (cond b (record old { slots = slots_written old.slots number }) old).slots slot
          → ((log : SubLog) × HasLog state id log × Contains log.slots slot × (slot.holder ≢ by)) ⊎ SlotHeld id slot (next slot.holder)
      found id old slot has false at c = inl (old, has, c, λ same. true≢false (sym (eq-eqb id sub.0 (own_slot sub.0 number Sealed was id old slot has c same).of_sub) ∙ at))
      found id old slot has true at c =
          let id_is : id ≡ sub.0 = eqb-true id sub.0 at in
          let from = map_was (mark number) old.slots slot c in
          elim (cases_eq from.0.number number) [
            | inl same ↦
                let slot_is : (let made : Slot = record { number = number; holder = by; written = true } in made) ≡ slot = sym (mark_own number by false) ∙ ap (mark number) (sym (is_mine id old from.0 has id_is from.1 same)) ∙ from.2 in
                inr (subst (λ (s : Slot). SlotHeld id s (next s.holder)) slot_is (record { part = Written; is = is ∙ ap (λ i. Holds i number Written) (sym id_is); fits = refl }))
            | inr other ↦
                let slot_is : from.0 ≡ slot = sym (mark_other number from.0 other) ∙ from.2 in
                inl (subst (λ (s : Slot). (log : SubLog) × HasLog state id log × Contains log.slots s × (s.holder ≢ by)) slot_is (old, has, from.1, λ same. other (own_slot sub.0 number Sealed was id old from.0 has from.1 same).of_number))
          ]

      still : (caller : ℕ) → caller ≢ by → (id n : ℕ) (written : Bool) (log : SubLog) → HasLog state id log → Contains log.slots (record { number = n; holder = caller; written = written })
          → (b : Bool) → nat_eq id sub.0 ≡ b → Contains (cond b (record log { slots = slots_written log.slots number }) log).slots (record { number = n; holder = caller; written = written })
      still caller other id n written log has c false at = c
      still caller other id n written log has c true at =
          let own : Slot = record { number = n; holder = caller; written = written } in
          subst (Contains (slots_written log.slots number)) (mark_other number own (λ same. other (ap (λ (s : Slot). s.holder) (is_mine id log own has (eqb-true id sub.0 at) c same)))) (map_has (mark number) log.slots own c)

  -- a slot that is given up
  pub give_up_stands : (sub : SubId) (number : ℕ) → MayGiveUp state by sub.0 number → GivesUpFrom sub.0 number (role by) (next by) → Stands (after state (event.GiveUp by sub number)) next
  unfolding after
  give_up_stands sub number may acts =
      let e = event.GiveUp by sub number in
      let outside = own_outside acts.part acts.own in
      moved state (after state e) role next by stands (record {
        others = others;
        root_was = λ commit runs. inl (runs, part_root_apart sub.0 number acts.part acts.was outside commit runs);
        full_was = λ commit runs. inl (runs, part_full_apart sub.0 number acts.part acts.was commit runs);
        slot_was = λ id log has slot c. let old = slot_before state e id log slot has c in found id old.0 slot old.1 (nat_eq id sub.0) refl old.2;
        logs = logs_after state e (λ id log. LogStands state.failures log) (λ id log has. either (LogStands state.failures) (nat_eq id sub.0) (record log { slots = slots_without log.slots number }) log
            (λ same. fewer_stands state.failures state.failures log (λ (slot : Slot). not (nat_eq slot.number number)) may.failure (stands.logs id log has)) (λ _. stands.logs id log has));
        one_ticket = stands.one_ticket;
        want_was = λ caller c. inl (c, part_want_apart sub.0 number acts.part acts.was caller c);
        leaves = λ caller other. record {
          root = λ own. record { commit = own.commit; runs = own.runs; own = own.own };
          full = λ own. record { commit = own.commit; runs = own.runs; own = own.own };
          ticket = λ id n part here has. ticket_left state e caller id n (λ log own. grown id log) (λ c. c) has;
          slot = λ id n part written here has. slot_left state e caller id n written (λ log own c. still caller other id n written log own c (nat_eq id sub.0) refl) has;
          want = λ c. c;
        };
        own = subst (Own (after state e) by) (sym acts.is) (ticket_left state e by sub.0 number (λ log own. grown sub.0 log) (λ c. c) (own_ticket acts.part acts.was), tt);
      })
    where
      own_ticket : (part : Part) → role by ≡ Holds sub.0 number part → HasTicket state by sub.0 number
      own_ticket part was = (subst (Own state by) was (stands.own by)).0

      grown : (id : ℕ) (log : SubLog) → LogGrown log (log_after state (event.GiveUp by sub number) id log)
      grown id log = either (LogGrown log) (nat_eq id sub.0) (record log { slots = slots_without log.slots number }) log (λ _. record { covered = refl; open_rises = omega arith }) (λ _. kept_grown log log (kept_same log))

      found : (id : ℕ) (old : SubLog) (slot : Slot) → HasLog state id old → (b : Bool) → nat_eq id sub.0 ≡ b → Contains (cond b (record old { slots = slots_without old.slots number }) old).slots slot
          → ((log : SubLog) × HasLog state id log × Contains log.slots slot × (slot.holder ≢ by)) ⊎ SlotHeld id slot (next slot.holder)
      found id old slot has false at c = inl (old, has, c, λ same. true≢false (sym (eq-eqb id sub.0 (own_slot sub.0 number acts.part acts.was id old slot has c same).of_sub) ∙ at))
      found id old slot has true at c =
          let from = filter_contains (λ (s : Slot). not (nat_eq s.number number)) old.slots slot c in
          inl (old, has, from.0, λ same. true≢false (sym (eq-eqb slot.number number (own_slot sub.0 number acts.part acts.was id old slot has from.0 same).of_number) ∙ not-true _ from.1))

      still : (caller : ℕ) → caller ≢ by → (id n : ℕ) (written : Bool) (log : SubLog) → HasLog state id log → Contains log.slots (record { number = n; holder = caller; written = written })
          → (b : Bool) → nat_eq id sub.0 ≡ b → Contains (cond b (record log { slots = slots_without log.slots number }) log).slots (record { number = n; holder = caller; written = written })
      still caller other id n written log has c false at = c
      still caller other id n written log has c true at =
          let own : Slot = record { number = n; holder = caller; written = written } in
          let mine : Slot = record { number = number; holder = by; written = may.written } in
          let log_is : log ≡ may.log = some_same log may.log (sym has ∙ ap (get state.logs) (eqb-true id sub.0 at) ∙ may.of_sub) in
          contains_filter (λ (s : Slot). not (nat_eq s.number number)) log.slots own
          (ap not (ne_eqb n number (λ same. other (ap (λ (s : Slot). s.holder) ((stands.logs id log has).one_slot own mine c (subst (λ (l : SubLog). Contains l.slots mine) (sym log_is) may.slot) same))))) c

  -- the seal of a root commit, which takes its holder's number
  pub root_seal_stands : MaySealRoot state by → (acts : SealsRootFrom (role by) (next by)) → is_taken (Some (record { holder = by; numbers = numbers_ready state.logs })) acts.sub acts.number ≡ true → Stands (after state (event.SealRoot by)) next
  unfolding after
  root_seal_stands may acts taken =
      let e = event.SealRoot by in
      let made : RootCommit = record { holder = by; numbers = numbers_ready state.logs } in
      moved state (after state e) role next by stands (record {
        others = others;
        root_was = λ commit runs. inr (subst (λ (c : RootCommit). RootHeld c (next c.holder)) (some_same made commit runs) (record { sub = acts.sub; number = acts.number; is = acts.is; taken = taken }));
        full_was = λ commit runs. inl (runs, part_full_apart acts.sub acts.number acts.part acts.was commit runs);
        slot_was = λ id log has slot c. let old = slot_before state e id log slot has c in found id old.0 slot old.1 old.2;
        logs = logs_after state e (λ id log. LogStands state.failures log) (λ id log has. stands.logs id log has);
        one_ticket = stands.one_ticket;
        want_was = λ caller c. inl (c, part_want_apart acts.sub acts.number acts.part acts.was caller c);
        leaves = λ caller other. record {
          root = λ own. absurd (some_none own.commit (sym own.runs ∙ may.root_is_free));
          full = λ own. record { commit = own.commit; runs = own.runs; own = own.own };
          ticket = λ id n part here has. ticket_left state e caller id n (λ log own. kept_grown log log (kept_same log)) (λ c. c) has;
          slot = λ id n part written here has. slot_left state e caller id n written (λ log own c. c) has;
          want = λ c. c;
        };
        own = subst (Own (after state e) by) (sym acts.is) (ticket_left state e by acts.sub acts.number (λ log own. kept_grown log log (kept_same log)) (λ c. c) (subst (Own state by) acts.was (stands.own by)).0, record { commit = made; runs = refl; own = refl });
      })
    where
      in_root : (written : Bool) (part : Part) → BeginsRoot part → IsPartOf written part → IsPartOf written InRoot
      in_root written Unsealed begins fits = absurd fits
      in_root written Sealed begins fits = absurd begins
      in_root written Written begins fits = fits
      in_root written InRoot begins fits = fits
      in_root written GaveUp begins fits = absurd fits

      found : (id : ℕ) (old : SubLog) (slot : Slot) → HasLog state id old → Contains old.slots slot → ((log : SubLog) × HasLog state id log × Contains log.slots slot × (slot.holder ≢ by)) ⊎ SlotHeld id slot (next slot.holder)
      found id old slot has c = elim (cases_eq slot.holder by) [
        | inr other ↦ inl (old, has, c, other)
        | inl same ↦
            let own = own_slot acts.sub acts.number acts.part acts.was id old slot has c same in
            let at : next slot.holder ≡ Holds acts.sub acts.number InRoot = ap next same ∙ acts.is in
            let one : id ≡ acts.sub = own.of_sub in let two : slot.number ≡ acts.number = own.of_number in
            inr (record { part = InRoot; is = cc; fits = in_root slot.written acts.part acts.begins own.fits })
      ]

  -- the seal of the volume
  pub full_seal_stands : MaySealFull state by → role by ≡ Wants false → next by ≡ Wants true → Stands (after state (event.SealFull by)) next
  unfolding after
  full_seal_stands may was is =
      let e = event.SealFull by in
      let made : FullCommit = record { holder = by; volume = volume_of state.current; point = state.point; wants = state.wants } in
      moved state (after state e) role next by stands (record {
        others = others;
        root_was = λ commit runs. absurd (some_none commit (sym runs ∙ may.root_is_free));
        full_was = λ commit runs. inr (subst (λ (c : FullCommit). FullHeld c (next c.holder)) (some_same made commit runs) (record { is = is; wanted = may.wanted }));
        slot_was = λ id log has slot c. let old = slot_before state e id log slot has c in absurd (contains_none slot (subst (λ (s : List Slot). Contains s slot) (may.no_slot_is_busy id old.0 old.1) old.2));
        logs = logs_after state e (λ id log. LogStands state.failures log) (λ id log has. stands.logs id log has);
        one_ticket = stands.one_ticket;
        want_was = λ caller c. elim (cases_eq caller by) [ inl same ↦ inr (record { sealed = true; is = ap next same ∙ is }) | inr other ↦ inl (c, other) ];
        leaves = λ caller other. record {
          root = λ own. record { commit = own.commit; runs = own.runs; own = own.own };
          full = λ own. absurd (some_none own.commit (sym own.runs ∙ may.full_is_free));
          ticket = λ id n part here has. ticket_left state e caller id n (λ log own. kept_grown log log (kept_same log)) (λ c. c) has;
          slot = λ id n part written here has. slot_left state e caller id n written (λ log own c. c) has;
          want = λ c. c;
        };
        own = subst (Own (after state e) by) (sym is) (may.wanted, record { commit = made; runs = refl; own = refl });
      })

  -- a failure, after which its caller holds nothing
  pub fail_stands : (turn : Turn) (tried : Bool) → next by ≡ Idle → Stands (after state (event.Failed by turn tried)) next
  unfolding after
  fail_stands turn tried is =
      let e = event.Failed by turn tried in
      moved state (after state e) role next by stands (record {
        others = others;
        root_was = λ commit runs. inl (root_without_was state.root by commit runs, root_without_apart state.root by commit runs);
        full_was = λ commit runs. inl (full_without_was state.full by commit runs, full_without_apart state.full by commit runs);
        slot_was = λ id log has slot c.
            let old = slot_before state e id log slot has c in
            let from = filter_contains (λ (s : Slot). not (nat_eq s.holder by)) old.0.slots slot old.2 in
            inl (old.0, old.1, from.0, λ same. true≢false (sym (eq-eqb slot.holder by same) ∙ not-true _ from.1));
        logs = logs_after state e (λ id log. LogStands (state.failures + 1) log) (λ id log has. failed_log (state.failures + 1) log (omega arith) (stands.logs id log has));
        one_ticket = one_of_others state role next stands by others;
        want_was = λ caller c.
            let from = filter_contains (λ other. not (nat_eq other by)) state.wants caller c in
            inl (from.0, λ same. true≢false (sym (eq-eqb caller by same) ∙ not-true _ from.1));
        leaves = λ caller other. record {
          root = λ own. record { commit = own.commit; runs = ap (λ o. root_without o by) own.runs ∙ ap (λ b. cond b None (Some own.commit)) (ne_eqb own.commit.holder by (λ same. other (sym own.own ∙ same))); own = own.own };
          full = λ own. record { commit = own.commit; runs = ap (λ o. full_without o by) own.runs ∙ ap (λ b. cond b None (Some own.commit)) (ne_eqb own.commit.holder by (λ same. other (sym own.own ∙ same))); own = own.own };
          ticket = λ id n part here has. ticket_left state e caller id n (λ log own. record { covered = refl; open_rises = omega arith }) (still_there state role next stands by others (record { caller = caller; sub = id; number = n }) other) has;
          slot = λ id n part written here has. slot_left state e caller id n written (λ log own c. contains_filter (λ (s : Slot). not (nat_eq s.holder by)) log.slots (record { number = n; holder = caller; written = written }) (ap not (ne_eqb caller by other)) c) has;
          want = λ c. contains_filter (λ other. not (nat_eq other by)) state.wants caller (ap not (ne_eqb caller by other)) c;
        };
        own = subst (Own (after state e) by) (sym is) tt;
      })
    where
      failed_log : (later : ℕ) (log : SubLog) → 0 < later → LogStands state.failures log → LogStands later (log_after state (event.Failed by turn tried) 0 log)
      failed_log later log some old = let few = fewer_stands state.failures later log (λ (s : Slot). not (nat_eq s.holder by)) some old in record { one_slot = few.one_slot; slots_below = few.slots_below; has_slots = few.has_slots; undurable_above = few.undurable_above }
