-- What is known of a caller's call after each event.
use Rattle.std.proofs.Common.{◌≡◌, ◌≢◌, ℕ, ◌≤◌, Bool, true, false, cond, not, ◌||◌, List, [], Option, Some, refl, sym, ap, subst, ◌∙◌, inl, inr, ◌⊎◌}
use Rattle.std.specs.Bool.{nat_eq}
use Rattle.std.specs.List.{Contains, filter, list_any}
use Rattle.std.proofs.lemmas.Bool.{cases_eq, eq-eqb, ne_eqb, not-true, true≢false}
use Rattle.std.proofs.lemmas.List.Elements.{filter_agree}
use Rattle.flat_model.specs.declared.op.Op.{Op}
use Rattle.flat_model.specs.declared.answer.Answer.{Answer}
use Rattle.flat_model.specs.declared.answer.Answer.TheVariants as answers
use Rattle.flat_model.proofs.Lists.{filter_contains}
use Rattle.logged_volume.proofs.Members.{in_from}
use Rattle.commit_history.specs.declared.event.Cover.{Cover}
use Rattle.commit_history.specs.declared.event.Cover.TheVariants as covers
use Rattle.commit_history.specs.declared.event.Event.{Event}
use Rattle.commit_history.specs.declared.event.Event.TheVariants as event
use Rattle.commit_history.specs.declared.event.OpEnd.{OpEnd}
use Rattle.commit_history.specs.declared.event.OpEnd.TheVariants as ends
use Rattle.commit_history.specs.declared.event.Turn.TheVariants as turns
use Rattle.commit_history.specs.Calls.{Stage, Ended, WasShort, HasTicket, Commits, Syncs, Call, after_other, after_own, asked, at_stage, begun, call_after, caller_of, covered_by, is_covered_by_full, op_stage, with_seal}
use Rattle.commit_history.specs.Effects.{has_ticket, wanting, wants_after_op, wants_at_seal, wants_left, without}
use Rattle.commit_history.specs.Legal.{is_short}
use Rattle.commit_history.specs.State.{FullCommit, State, Ticket}
use Rattle.commit_laws.proofs.Quiet.{wanting_was}
use Rattle.commit_core.specs.Coming.{IsUnfinished}
use Rattle.commit_callers.specs.declared.covered.Covered.{Covered}
use Rattle.commit_callers.specs.Covered.{is_covered_in}
use Rattle.commit_callers.specs.GoWith.{HasNoTicket, IsKnown, cover_if}

-- what holds after an event of one's own and after another's holds after each event
by_caller : (state : State) (caller : ℕ) (call : Call) (e : Event) (Holds : Call → Type 0)
    → (caller ≡ caller_of e → Holds (after_own state caller call e)) → (caller ≢ caller_of e → Holds (after_other state caller call e)) → Holds (call_after state caller call e)
by_caller state caller call e Holds own other = elim (cases_eq caller (caller_of e)) [
  | inl same ↦ subst (λ b. Holds (cond b (after_own state caller call e) (after_other state caller call e))) (sym (eq-eqb caller (caller_of e) same)) (own same)
  | inr differs ↦ subst (λ b. Holds (cond b (after_own state caller call e) (after_other state caller call e))) (sym (ne_eqb caller (caller_of e) differs)) (other differs)
]

-- ---- a call that waits anew

-- what is covered of a caller is forgotten
pub record IsCleared (old new : Covered) (by : ℕ) : Type 0 where
  pub own : is_covered_in new by ≡ false
  pub others : (other : ℕ) → 1 ≤ other → other ≢ by → is_covered_in new other ≡ is_covered_in old other

module _ (old new : Covered) (by : ℕ) (cleared : IsCleared old new by) (wants : List ℕ) where
  own_anew : (next : List ℕ) (caller : ℕ) (call : Call) → caller ≡ by → HasNoTicket call.stage → call.cover ≡ covers.Open → IsKnown new next caller call
  own_anew next caller call same none uncovered = record {
    no_ticket = none;
    waits = λ c. uncovered;
    cover = λ from to goes_on. uncovered ∙ ap cover_if (sym (ap (is_covered_in new) same ∙ cleared.own));
  }

  other_anew : (next : List ℕ) → ((c : ℕ) → Contains next c → Contains wants c ⊎ (by ≡ c)) → (caller : ℕ) (call : Call) → caller ≢ by → IsKnown old wants caller call → IsKnown new next caller call
  other_anew next was caller call differs known = record {
    no_ticket = known.no_ticket;
    waits = λ c. elim (was caller c) [ inl there ↦ known.waits there | inr same ↦ absurd (differs (sym same)) ];
    cover = λ from to goes_on. known.cover from to goes_on ∙ ap cover_if (sym (cleared.others caller from differs));
  }

  op_was : (again : Bool) (end : OpEnd) (c : ℕ) → Contains (wants_after_op wants by again end) c → Contains wants c ⊎ (by ≡ c)
  op_was again (ends.Answered answer) c there = inl there
  op_was true (ends.Short free need) c there = inl there
  op_was false (ends.Short free need) c there = wanting_was wants by c there

  op_none : (op : Op) (again : Bool) (end : OpEnd) → HasNoTicket (op_stage op again end)
  op_none op again (ends.Answered answer) = tt
  op_none op true (ends.Short free need) = tt
  op_none op false (ends.Short free need) = tt

  op_own : (call : Call) (op : Op) (again : Bool) (end : OpEnd) (caller : ℕ) (tries : Bool) → caller ≡ by
      → IsKnown new (wants_after_op wants by again end) caller (cond tries (at_stage call (op_stage op again end)) (begun (op_stage op again end)))
  op_own call op again end caller true same = own_anew _ caller _ same (op_none op again end) refl
  op_own call op again end caller false same = own_anew _ caller _ same (op_none op again end) refl

  pub operated_known : (state : State) (op : Op) (again : Bool) (end : OpEnd) (indexes : List ℕ) (caller : ℕ) (call : Call) → IsKnown old wants caller call
      → IsKnown new (wants_after_op wants by again end) caller (call_after state caller call (event.Op by op again end indexes))
  operated_known state op again end indexes caller call known = by_caller state caller call (event.Op by op again end indexes) (IsKnown new (wants_after_op wants by again end) caller)
      (op_own call op again end caller again)
      (λ differs. other_anew _ (op_was again end) caller call differs known)

  asked_open : (call : Call) (failures : ℕ) → ((asked call failures).cover ≡ covers.Open) × HasNoTicket (asked call failures).stage
  asked_open call failures = at call.stage call.cover
    where
      at : (stage : Stage) (cover : Cover) → ((asked (record { stage = stage; cover = cover; events = call.events }) failures).cover ≡ covers.Open) × HasNoTicket (asked (record { stage = stage; cover = cover; events = call.events }) failures).stage
      at (Ended answer) cover = (refl, tt)
      at (WasShort op sealed) cover = (refl, tt)
      at (HasTicket sub number part) covers.Open = (refl, tt)
      at (HasTicket sub number part) covers.Root = (refl, tt)
      at (HasTicket sub number part) covers.Full = (refl, tt)
      at (Commits reason sealed) cover = (refl, tt)
      at (Syncs sealed) cover = (refl, tt)

  pub asked_known : (state : State) (caller : ℕ) (call : Call) → IsKnown old wants caller call → IsKnown new (wanting wants by) caller (call_after state caller call (event.Ask by))
  asked_known state caller call known = by_caller state caller call (event.Ask by) (IsKnown new (wanting wants by) caller)
      (λ same. let uncovered = asked_open call state.failures in own_anew _ caller _ same uncovered.1 uncovered.0)
      (λ differs. other_anew _ (wanting_was wants by) caller call differs known)

-- ---- the wants after an operation

pub short_wants : (wants : List ℕ) (by : ℕ) (again : Bool) (end : OpEnd) → is_short end ≡ true → again ≡ false → wants_after_op wants by again end ≡ wanting wants by
short_wants wants by again (ends.Answered answer) short first = absurd (true≢false (sym short))
short_wants wants by again (ends.Short free need) short first = ap (λ b. cond b wants (wanting wants by)) first

pub other_wants : (wants : List ℕ) (by : ℕ) (again : Bool) (end : OpEnd) → ((is_short end ≡ true) × (again ≡ true)) ⊎ (is_short end ≡ false) → wants_after_op wants by again end ≡ wants
other_wants wants by again (ends.Answered answer) either = refl
other_wants wants by again (ends.Short free need) (inl both) = ap (λ b. cond b wants (wanting wants by)) both.1
other_wants wants by again (ends.Short free need) (inr long) = absurd (true≢false long)

-- ---- a full commit begins, or fails

seal_none : (stage : Stage) → HasNoTicket stage → HasNoTicket (with_seal stage)
seal_none (Ended answer) none = tt
seal_none (WasShort op sealed) none = tt
seal_none (HasTicket sub number part) none = none
seal_none (Commits reason sealed) none = tt
seal_none (Syncs sealed) none = tt

module _ (state : State) (covered : Covered) (by caller : ℕ) (call : Call) (known : IsKnown covered state.wants caller call) where
  pub sealed_known : Contains state.wants by → IsKnown covered state.wants caller (call_after state caller call (event.SealFull by))
  sealed_known wanted = by_caller state caller call (event.SealFull by) (IsKnown covered state.wants caller)
      (λ same. record {
        no_ticket = seal_none call.stage known.no_ticket;
        waits = λ c. refl;
        cover = λ from to goes_on. sym (known.waits (subst (Contains state.wants) (sym same) wanted)) ∙ known.cover from to (λ answer ended. goes_on answer (ap with_seal ended));
      })
      (λ differs. known)

  pub failed_known : (tried : Bool) → IsKnown covered (without state.wants by) caller (call_after state caller call (event.Failed by turns.Full tried))
  failed_known tried = by_caller state caller call (event.Failed by turns.Full tried) (IsKnown covered (without state.wants by) caller)
      (λ same. record {
        no_ticket = tt;
        waits = λ c. refl;
        cover = λ from to goes_on. absurd (goes_on (Some answers.Io) refl);
      })
      (λ differs. record {
        no_ticket = known.no_ticket;
        waits = λ c. known.waits (filter_contains (λ other. not (nat_eq other by)) state.wants caller c).0;
        cover = known.cover;
      })

-- ---- a full commit is done

-- a cover leaves the stage
covered_stage : (is_covered : Bool) (by : Cover) (call : Call) → (covered_by is_covered by call).stage ≡ call.stage
covered_stage is_covered by call = elim call.cover as (λ cover. (covered_by is_covered by (record call { cover = cover })).stage ≡ call.stage) [ covers.Open ↦ refl | covers.Root ↦ refl | covers.Full ↦ refl ]

-- a full cover of a call that is covered or isn't
covered_full : (is_covered was : Bool) (call : Call) → call.cover ≡ cover_if was → (covered_by is_covered covers.Full call).cover ≡ cover_if (is_covered || was)
covered_full is_covered was call is = ap (λ cover. (covered_by is_covered covers.Full (record call { cover = cover })).cover) is ∙ at is_covered was
  where
    at : (b w : Bool) → (covered_by b covers.Full (record call { cover = cover_if w })).cover ≡ cover_if (b || w)
    at true true = refl
    at true false = refl
    at false true = refl
    at false false = refl

or_none : (b : Bool) → (b || false) ≡ b
or_none true = refl
or_none false = refl

-- an uncovered call stays so where no cover comes
stays_open : (call : Call) → call.cover ≡ covers.Open → (covered_by false covers.Full call).cover ≡ covers.Open
stays_open call uncovered = covered_full false false call uncovered

module _ (state : State) (commit : FullCommit) (runs : state.full ≡ Some commit) (no_tickets : state.tickets ≡ []) where
  -- with no tickets a commit covers those that wanted it at its seal
  covers_now : (caller : ℕ) → (list_any (nat_eq caller) (wants_at_seal state.full) || has_ticket state.tickets caller) ≡ list_any (nat_eq caller) commit.wants
  covers_now caller =
      ap (λ o. list_any (nat_eq caller) (wants_at_seal o) || has_ticket state.tickets caller) runs ∙ ap (λ (tickets : List Ticket). list_any (nat_eq caller) commit.wants || has_ticket tickets caller) no_tickets
      ∙ or_none (list_any (nat_eq caller) commit.wants)

  -- and leaves the wants of the others
  pub leaves_others : filter (λ caller. not (list_any (nat_eq caller) commit.wants)) state.wants ≡ wants_left state.wants (wants_at_seal state.full) state.tickets
  leaves_others = filter_agree _ _ (λ caller. ap not (sym (covers_now caller))) state.wants

module _ (state : State) (old new : Covered) (by : ℕ) (commit : FullCommit) (runs : state.full ≡ Some commit) (no_tickets : state.tickets ≡ []) (own : commit.holder ≡ by) (wanted : Contains commit.wants commit.holder)
    (more : (caller : ℕ) → 1 ≤ caller → is_covered_in new caller ≡ (list_any (nat_eq caller) commit.wants || is_covered_in old caller)) (caller : ℕ) (call : Call) (known : IsKnown old state.wants caller call) where
  -- a call that hasn't ended is covered where it was wanted at the seal
  full_covers : (stage : Stage) → HasNoTicket stage → ((answer : Option Answer) → stage ≡ Ended answer → ⊥) → is_covered_by_full state caller stage ≡ list_any (nat_eq caller) commit.wants
  full_covers (Ended answer) none goes_on = absurd (goes_on answer refl)
  full_covers (WasShort op sealed) none goes_on = covers_now state commit runs no_tickets caller
  full_covers (HasTicket sub number part) none goes_on = absurd none
  full_covers (Commits reason sealed) none goes_on = covers_now state commit runs no_tickets caller
  full_covers (Syncs sealed) none goes_on = covers_now state commit runs no_tickets caller

  full_leaves : (stage : Stage) → HasNoTicket stage → list_any (nat_eq caller) commit.wants ≡ false → is_covered_by_full state caller stage ≡ false
  full_leaves (Ended answer) none unwanted = refl
  full_leaves (WasShort op sealed) none unwanted = covers_now state commit runs no_tickets caller ∙ unwanted
  full_leaves (HasTicket sub number part) none unwanted = absurd none
  full_leaves (Commits reason sealed) none unwanted = covers_now state commit runs no_tickets caller ∙ unwanted
  full_leaves (Syncs sealed) none unwanted = covers_now state commit runs no_tickets caller ∙ unwanted

  abbrev left : List ℕ
  left = wants_left state.wants (wants_at_seal state.full) state.tickets

  -- who still wants one wanted it before, and not at the seal
  left_was : Contains left caller → Contains state.wants caller × (list_any (nat_eq caller) commit.wants ≡ false)
  left_was there =
      let from = filter_contains (λ c. not (list_any (nat_eq c) (wants_at_seal state.full) || has_ticket state.tickets c)) state.wants caller there in
      (from.0, sym (covers_now state commit runs no_tickets caller) ∙ not-true _ from.1)

  own_wanted : caller ≡ by → list_any (nat_eq caller) commit.wants ≡ true
  own_wanted same = in_from commit.wants caller (subst (Contains commit.wants) (own ∙ sym same) wanted)

  pub done_known : IsKnown new left caller (call_after state caller call (event.FullDone by))
  done_known = by_caller state caller call (event.FullDone by) (IsKnown new left caller)
      (λ same. record {
        no_ticket = subst HasNoTicket (sym (covered_stage true covers.Full call)) known.no_ticket;
        waits = λ there. absurd (true≢false (sym (own_wanted same) ∙ (left_was there).1));
        cover = λ from to goes_on.
            covered_full true (is_covered_in old caller) call (known.cover from to (λ answer ended. goes_on answer (covered_stage true covers.Full call ∙ ended)))
            ∙ ap cover_if (sym (more caller from ∙ ap (λ b. b || is_covered_in old caller) (own_wanted same)));
      })
      (λ differs. record {
        no_ticket = subst HasNoTicket (sym (covered_stage (is_covered_by_full state caller call.stage) covers.Full call)) known.no_ticket;
        waits = λ there.
            let was = left_was there in
            ap (λ b. (covered_by b covers.Full call).cover) (full_leaves call.stage known.no_ticket was.1) ∙ stays_open call (known.waits was.0);
        cover = λ from to goes_on.
            let unfinished : IsUnfinished call = λ answer ended. goes_on answer (covered_stage (is_covered_by_full state caller call.stage) covers.Full call ∙ ended) in
            covered_full (is_covered_by_full state caller call.stage) (is_covered_in old caller) call (known.cover from to unfinished)
            ∙ ap cover_if (ap (λ b. b || is_covered_in old caller) (full_covers call.stage known.no_ticket unfinished) ∙ sym (more caller from));
      })
