-- What each event makes of the wants of full commits, and of the room that they need.
use Rattle.std.proofs.Common.{◌≡◌, ◌≢◌, ◌≤◌, ◌+◌, ◌*◌, ℕ, Bool, true, false, cond, not, ◌||◌, List, [], ◌∷◌, ◌++◌, length, Option, Some, None, refl, sym, ap, subst, ◌∙◌, arith, inl, inr}
use Rattle.std.specs.Bool.{nat_eq}
use Rattle.std.specs.List.{Contains, filter, list_any}
use Rattle.std.proofs.lemmas.Bool.{eq-eqb}
use Rattle.std.proofs.lemmas.List.Elements.{All-filter}
use Rattle.std.proofs.lemmas.List.Kept.{AllPairs-filter}
use Rattle.std.proofs.lemmas.List.Sums.{count_by-le-length, length-filter}
use Rattle.flat_model.specs.Volume.{Volume}
use Rattle.flat_model.specs.declared.op.Op.{Op}
use Rattle.flat_model.proofs.Lists.{contains_cases, contains_none}
use Rattle.logged_volume.proofs.Members.{in_from}
use Rattle.commit_history.specs.declared.event.Event.TheVariants as event
use Rattle.commit_history.specs.declared.event.OpEnd.{OpEnd}
use Rattle.commit_history.specs.declared.event.OpEnd.TheVariants as ends
use Rattle.commit_history.specs.declared.event.Turn.TheVariants as turns
use Rattle.commit_history.specs.Effects.{after, full_without, has_ticket, wanting, wants_after_op, wants_at_seal}
use Rattle.commit_history.specs.Legal.{HoldsFull, MaySealFull}
use Rattle.commit_history.specs.State.{FullCommit, State, Ticket, mounted_state}
use Rattle.commit_laws.proofs.Quiet.{wanting_keeps}
use Rattle.commit_callers.specs.Order.{AreCallers}
use Rattle.commit_callers.proofs.Order.{callers_few, callers_push}
use Rattle.run_history.specs.Recorded.{HasRoom, IsHolderWanting, running_count}

-- ---- lists of callers

-- what leaves out an element is shorter
pub filter_shorter : (passes : ℕ → Bool) (xs : List ℕ) (y : ℕ) → Contains xs y → passes y ≡ false → length (filter passes xs) + 1 ≤ length xs
filter_shorter passes [] y there fails = absurd (contains_none y there)
filter_shorter passes (x ∷ xs) y there fails = elim (contains_cases x xs y there) [
  | inl same ↦
      let few : length (filter passes xs) ≤ length xs = (let e = count_by-le-length passes xs in let f = length-filter passes xs in omega (arith, e, f)) in
      rw (ap passes same ∙ fails) (omega (arith, few))
  | inr more ↦
      let rest = filter_shorter passes xs y more fails in
      by_test (passes x) rest
]
  where
    by_test : (b : Bool) → length (filter passes xs) + 1 ≤ length xs → length (cond b (x ∷ filter passes xs) (filter passes xs)) + 1 ≤ length (x ∷ xs)
    by_test true rest = omega (arith, rest)
    by_test false rest = omega (arith, rest)

pub callers_filter : (passes : ℕ → Bool) (callers : List ℕ) → AreCallers callers → AreCallers (filter passes callers)
callers_filter passes callers are = record {
  each = All-filter passes (λ c. (1 ≤ c) × (c ≤ 16)) callers are.each;
  once = AllPairs-filter (λ one two. one ≢ two) passes callers are.once;
}

pub callers_wanting : (wants : List ℕ) (caller : ℕ) → AreCallers wants → (1 ≤ caller) × (caller ≤ 16) → AreCallers (wanting wants caller)
callers_wanting wants caller are range = at (list_any (nat_eq caller) wants) refl
  where
    at : (b : Bool) → list_any (nat_eq caller) wants ≡ b → AreCallers (cond b wants (wants ++ caller ∷ []))
    at true is = are
    at false is = callers_push wants caller are range is

-- ---- the caller that runs a full commit

holder_stays : (wants next : List ℕ) (full : Option FullCommit) → ((c : ℕ) → Contains wants c → Contains next c) → IsHolderWanting wants full → IsHolderWanting next full
holder_stays wants next None keeps h = tt
holder_stays wants next (Some full) keeps h = (keeps full.holder h.0, h.1)

holder_of_commit : (wants : List ℕ) (full : Option FullCommit) (commit : FullCommit) → full ≡ Some commit → IsHolderWanting wants full → Contains wants commit.holder × Contains commit.wants commit.holder
holder_of_commit wants full commit is h = subst (IsHolderWanting wants) is h

-- ---- events that may make a want

enough_for_all : (state : State) (spare : ℕ) → AreCallers state.wants → 32 ≤ spare → 2 * length state.wants ≤ spare + running_count state.full
enough_for_all state spare are room = let few = callers_few state.wants are in omega (arith, few, room)

pub asked_room : (state : State) (caller : ℕ) (old new : ℕ) → HasRoom old state → (1 ≤ caller) × (caller ≤ 16) → 32 ≤ new → HasRoom new (after state (event.Ask caller))
unfolding after
asked_room state caller old new h range room = record {
  callers = callers_wanting state.wants caller h.callers range;
  holder = holder_stays state.wants (wanting state.wants caller) state.full (wanting_keeps state.wants caller) h.holder;
  enough = enough_for_all (after state (event.Ask caller)) new (callers_wanting state.wants caller h.callers range) room;
}

op_callers : (wants : List ℕ) (caller : ℕ) (again : Bool) (end : OpEnd) → AreCallers wants → (1 ≤ caller) × (caller ≤ 16) → AreCallers (wants_after_op wants caller again end)
op_callers wants caller again (ends.Answered answer) are range = are
op_callers wants caller true (ends.Short free need) are range = are
op_callers wants caller false (ends.Short free need) are range = callers_wanting wants caller are range

op_keeps : (wants : List ℕ) (caller : ℕ) (again : Bool) (end : OpEnd) (c : ℕ) → Contains wants c → Contains (wants_after_op wants caller again end) c
op_keeps wants caller again (ends.Answered answer) c there = there
op_keeps wants caller true (ends.Short free need) c there = there
op_keeps wants caller false (ends.Short free need) c there = wanting_keeps wants caller c there

pub operated_room : (state : State) (caller : ℕ) (op : Op) (again : Bool) (end : OpEnd) (indexes : List ℕ) (old new : ℕ) → HasRoom old state → (1 ≤ caller) × (caller ≤ 16) → 32 ≤ new
    → HasRoom new (after state (event.Op caller op again end indexes))
unfolding after
operated_room state caller op again end indexes old new h range room = record {
  callers = op_callers state.wants caller again end h.callers range;
  holder = holder_stays state.wants (wants_after_op state.wants caller again end) state.full (op_keeps state.wants caller again end) h.holder;
  enough = enough_for_all (after state (event.Op caller op again end indexes)) new (op_callers state.wants caller again end h.callers range) room;
}

-- ---- the seal of a full commit, and its end

-- a list with an element has a place for it
pub some_length : (xs : List ℕ) (x : ℕ) → Contains xs x → 1 ≤ length xs
some_length [] x there = absurd (contains_none x there)
some_length (y ∷ ys) x there = omega arith

pub sealed_room : (state : State) (caller old new : ℕ) → HasRoom old state → MaySealFull state caller → new + 1 ≡ old → HasRoom new (after state (event.SealFull caller))
unfolding after
sealed_room state caller old new h may less = record {
  callers = h.callers;
  holder = (may.wanted, may.wanted);
  enough = let enough = h.enough in let none = ap running_count may.full_is_free in omega (arith, enough, none, less);
}

holds_one : (state : State) (caller : ℕ) → HoldsFull state caller → running_count state.full ≡ 1
holds_one state caller holds = ap running_count holds.runs

-- a full commit ends, and its caller wants none any more
module _ (state next : State) (caller old new : ℕ) (passes : ℕ → Bool) (h : HasRoom old state) (holds : HoldsFull state caller) (less : new + 1 ≡ old) where
  ended_room : next.full ≡ None → next.wants ≡ filter passes state.wants → passes holds.commit.holder ≡ false → HasRoom new next
  ended_room none are fails =
      let wanted = holder_of_commit state.wants state.full holds.commit holds.runs h.holder in
      let fewer = filter_shorter passes state.wants holds.commit.holder wanted.0 fails in
      let count : length next.wants ≡ length (filter passes state.wants) = ap length are in
      let one = holds_one state caller holds in
      let enough = h.enough in
      record {
        callers = subst AreCallers (sym are) (callers_filter passes state.wants h.callers);
        holder = subst (IsHolderWanting next.wants) (sym none) tt;
        enough = let zero = ap running_count none in omega (arith, fewer, count, one, enough, zero, less);
      }

left_out : (sealed : List ℕ) (tickets : List Ticket) (c : ℕ) → Contains sealed c → not (list_any (nat_eq c) sealed || has_ticket tickets c) ≡ false
left_out sealed tickets c there = rw (in_from sealed c there) refl

pub done_room : (state : State) (caller old new : ℕ) → HasRoom old state → HoldsFull state caller → new + 1 ≡ old → HasRoom new (after state (event.FullDone caller))
unfolding after
done_room state caller old new h holds less =
    let wanted = holder_of_commit state.wants state.full holds.commit holds.runs h.holder in
    ended_room state (after state (event.FullDone caller)) caller old new (λ c. not (list_any (nat_eq c) (wants_at_seal state.full) || has_ticket state.tickets c)) h holds less refl refl
    (left_out (wants_at_seal state.full) state.tickets holds.commit.holder (subst (λ (full : Option FullCommit). Contains (wants_at_seal full) holds.commit.holder) (sym holds.runs) wanted.1))

given_up : (full : Option FullCommit) (commit : FullCommit) (caller : ℕ) → full ≡ Some commit → commit.holder ≡ caller → full_without full caller ≡ None
given_up full commit caller runs own =
    ap (λ (o : Option FullCommit). full_without o caller) runs
    ∙ ap (λ (b : Bool). cond b None (Some commit)) (eq-eqb commit.holder caller own)

pub failed_room : (state : State) (caller : ℕ) (tried : Bool) (old new : ℕ) → HasRoom old state → HoldsFull state caller → new + 1 ≡ old → HasRoom new (after state (event.Failed caller turns.Full tried))
unfolding after
failed_room state caller tried old new h holds less =
    ended_room state (after state (event.Failed caller turns.Full tried)) caller old new (λ c. not (nat_eq c caller)) h holds less
    (given_up state.full holds.commit caller holds.runs holds.own) refl (ap not (eq-eqb holds.commit.holder caller holds.own))

-- ---- more room, and the mount

pub more_room : (state : State) (old new : ℕ) → HasRoom old state → old ≤ new → HasRoom new state
more_room state old new h more = record {
  callers = h.callers;
  holder = h.holder;
  enough = let enough = h.enough in omega (arith, enough, more);
}

no_callers : AreCallers []
no_callers = record {
  each = λ k d within. absurd (omega (arith, within));
  once = λ i j d before within. absurd (omega (arith, within));
}

pub first_room : (volume : Volume) (spare : ℕ) → HasRoom spare (mounted_state volume)
unfolding mounted_state
first_room volume spare = record {
  callers = no_callers;
  holder = tt;
  enough = omega arith;
}
