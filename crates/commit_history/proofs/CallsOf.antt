-- A call that has finished stays so, and a call makes few events.
use Rattle.std.proofs.Common.{◌≡◌, ◌≢◌, ℕ, ◌≤◌, ◌+◌, Bool, true, false, cond, List, [], ◌∷◌, Option, Some, refl, sym, ap, subst, arith, inl, inr}
use Rattle.std.proofs.lemmas.Bool.{true≢false, ne_eqb, eq-eqb, cases_eq}
use Rattle.flat_model.specs.declared.op.Op.{Op}
use Rattle.flat_model.specs.declared.answer.Answer.{Answer}
use Rattle.flat_model.specs.Volume.{Volume}
use Rattle.flat_model.proofs.Maps.{some_none}
use Rattle.commit_history.specs.declared.event.Event.{Event}
use Rattle.commit_history.specs.declared.event.Event.TheVariants as event
use Rattle.commit_history.specs.declared.event.Cover.{Cover}
use Rattle.commit_history.specs.declared.event.Cover.TheVariants as covers
use Rattle.commit_history.specs.declared.event.Logged.{Logged}
use Rattle.commit_history.specs.declared.event.Logged.TheVariants as logged
use Rattle.commit_history.specs.declared.event.OpEnd.TheVariants as ends
use Rattle.commit_history.specs.State.{State, mounted_state}
use Rattle.commit_history.specs.Effects.{after}
use Rattle.commit_history.specs.Calls.{Unsealed, Sealed, Written, InRoot, GaveUp, Stage, Ended, WasShort, HasTicket, Commits, Syncs, Call, no_call, answer_of, log_stage, asked, with_seal, covered_by, is_covered_by_root, is_covered_by_full, after_own, after_other, caller_of, call_after, call_after_all, call_of, Begins, TriesAgain, EndsPart, EndsRoot, SealsSub, SealsRoot, GivesUp, Asks, is_stopped, is_open_number, want_duty, duty, IsDone, Operates, Refuses, Logs, AsksFirst, OperatesAgain, PartWritten, PartGivenUp, PartFailed, RootWritten, RootFailed, FullWritten, FullFailed, SealsPart, SealsLogs, SealsVolume, GivesSlotUp, AsksForFull, FollowsRules, IsRuled}

-- ---- a finished call

-- a call that has finished answers the same once a commit is done that doesn't cover what has ended
covered_stays : (stage : Stage) (cover : Cover) (events : ℕ) (answer : Answer) (is_covered : Bool) (by : Cover) → ((ended : Option Answer) → stage ≡ Ended ended → is_covered ≡ false)
    → answer_of (record { stage = stage; cover = cover; events = events }) ≡ Some answer → answer_of (covered_by is_covered by (record { stage = stage; cover = cover; events = events })) ≡ Some answer
covered_stays stage covers.Root events answer is_covered by none e = e
covered_stays stage covers.Full events answer is_covered by none e = e
covered_stays (Ended ended) covers.Open events answer is_covered by none e = subst (λ b. answer_of (record { stage = Ended ended; cover = cond b by covers.Open; events = events }) ≡ Some answer) (sym (none ended refl)) e
covered_stays (WasShort op sealed) covers.Open events answer is_covered by none e = absurd (some_none answer (sym e))
covered_stays (HasTicket sub number part) covers.Open events answer is_covered by none e = absurd (some_none answer (sym e))
covered_stays (Commits reason sealed) covers.Open events answer is_covered by none e = absurd (some_none answer (sym e))
covered_stays (Syncs sealed) covers.Open events answer is_covered by none e = absurd (some_none answer (sym e))

other_stays : (state : State) (caller : ℕ) (call : Call) (e : Event) (answer : Answer) → answer_of call ≡ Some answer → answer_of (after_other state caller call e) ≡ Some answer
other_stays state caller call (event.RootDone by) answer is = covered_stays call.stage call.cover call.events answer (is_covered_by_root state call.stage) covers.Root (λ ended same. ap (is_covered_by_root state) same) is
other_stays state caller call (event.FullDone by) answer is = covered_stays call.stage call.cover call.events answer (is_covered_by_full state caller call.stage) covers.Full (λ ended same. ap (is_covered_by_full state caller) same) is
other_stays state caller call (event.Op by op again end indexes) answer is = is
other_stays state caller call (event.Refused by target refused) answer is = is
other_stays state caller call (event.Log by sub ino end datasync) answer is = is
other_stays state caller call (event.Ask by) answer is = is
other_stays state caller call (event.SealSub by sub number) answer is = is
other_stays state caller call (event.SubWritten by sub number) answer is = is
other_stays state caller call (event.SealRoot by) answer is = is
other_stays state caller call (event.SealFull by) answer is = is
other_stays state caller call (event.Failed by turn tried) answer is = is
other_stays state caller call (event.GiveUp by sub number) answer is = is

pub answer_stays : (state : State) (caller : ℕ) (call : Call) (e : Event) (answer : Answer) → answer_of call ≡ Some answer → caller ≢ caller_of e → answer_of (call_after state caller call e) ≡ Some answer
answer_stays state caller call e answer is other = subst (λ b. answer_of (cond b (after_own state caller call e) (after_other state caller call e)) ≡ Some answer) (sym (ne_eqb caller (caller_of e) other)) (other_stays state caller call e answer is)

-- a call that has finished is followed by another
pub finished_begins : (state : State) (call : Call) (answer : Answer) → answer_of call ≡ Some answer → duty state call ≡ Begins
finished_begins state call answer is = at call.cover call.stage is
  where
    at : (cover : Cover) (stage : Stage) → answer_of (record { stage = stage; cover = cover; events = call.events }) ≡ Some answer → duty state (record { stage = stage; cover = cover; events = call.events }) ≡ Begins
    at covers.Root stage e = refl
    at covers.Open (Ended ended) e = refl
    at covers.Open (WasShort op sealed) e = absurd (some_none answer (sym e))
    at covers.Open (HasTicket sub number part) e = absurd (some_none answer (sym e))
    at covers.Open (Commits reason sealed) e = absurd (some_none answer (sym e))
    at covers.Open (Syncs sealed) e = absurd (some_none answer (sym e))
    at covers.Full (Ended ended) e = refl
    at covers.Full (WasShort op sealed) e = absurd (some_none answer (sym e))
    at covers.Full (HasTicket sub number part) e = refl
    at covers.Full (Commits reason sealed) e = refl
    at covers.Full (Syncs sealed) e = refl

-- ---- few events

-- the most events of a call that isn't covered
abbrev open_bound : Stage → ℕ
open_bound (Ended answer) = 9
open_bound (WasShort op sealed) = cond sealed 6 5
open_bound (HasTicket sub number Unsealed) = 1
open_bound (HasTicket sub number Sealed) = 2
open_bound (HasTicket sub number Written) = 3
open_bound (HasTicket sub number InRoot) = 4
open_bound (HasTicket sub number GaveUp) = 4
open_bound (Commits reason sealed) = cond sealed 6 5
open_bound (Syncs sealed) = cond sealed 6 5

abbrev bound : Cover → Stage → ℕ
bound covers.Open stage = open_bound stage
bound covers.Root stage = 8
bound covers.Full stage = 8

abbrev Few : Call → Type 0
Few call = call.events ≤ bound call.cover call.stage

by_seal : (sealed : Bool) (n : ℕ) → n ≤ cond sealed 6 5 → n ≤ 6
by_seal true n b = b
by_seal false n b = omega (arith, b)

-- each bound is at most nine, and at most eight but where the call has ended
bound_is_nine : (cover : Cover) (stage : Stage) (n : ℕ) → n ≤ bound cover stage → n ≤ 9
bound_is_nine covers.Root stage n b = omega (arith, b)
bound_is_nine covers.Full stage n b = omega (arith, b)
bound_is_nine covers.Open (Ended answer) n b = b
bound_is_nine covers.Open (WasShort op sealed) n b = let x = by_seal sealed n b in omega (arith, x)
bound_is_nine covers.Open (HasTicket sub number Unsealed) n b = omega (arith, b)
bound_is_nine covers.Open (HasTicket sub number Sealed) n b = omega (arith, b)
bound_is_nine covers.Open (HasTicket sub number Written) n b = omega (arith, b)
bound_is_nine covers.Open (HasTicket sub number InRoot) n b = omega (arith, b)
bound_is_nine covers.Open (HasTicket sub number GaveUp) n b = omega (arith, b)
bound_is_nine covers.Open (Commits reason sealed) n b = let x = by_seal sealed n b in omega (arith, x)
bound_is_nine covers.Open (Syncs sealed) n b = let x = by_seal sealed n b in omega (arith, x)

-- the bound of a call that hasn't ended is at most eight
open_is_eight : (stage : Stage) (n : ℕ) → n ≤ open_bound stage → ((ended : Option Answer) → stage ≡ Ended ended → ⊥) → n ≤ 8
open_is_eight (Ended answer) n b goes_on = absurd (goes_on answer refl)
open_is_eight (WasShort op sealed) n b goes_on = let x = by_seal sealed n b in omega (arith, x)
open_is_eight (HasTicket sub number Unsealed) n b goes_on = omega (arith, b)
open_is_eight (HasTicket sub number Sealed) n b goes_on = omega (arith, b)
open_is_eight (HasTicket sub number Written) n b goes_on = omega (arith, b)
open_is_eight (HasTicket sub number InRoot) n b goes_on = omega (arith, b)
open_is_eight (HasTicket sub number GaveUp) n b goes_on = omega (arith, b)
open_is_eight (Commits reason sealed) n b goes_on = let x = by_seal sealed n b in omega (arith, x)
open_is_eight (Syncs sealed) n b goes_on = let x = by_seal sealed n b in omega (arith, x)

-- a cover lets a call stay within its bound
covered_few : (stage : Stage) (events : ℕ) (is_covered : Bool) (by : Cover) → ((ended : Option Answer) → stage ≡ Ended ended → is_covered ≡ false) → events ≤ open_bound stage → events ≤ bound (cond is_covered by covers.Open) stage
covered_few stage events false by none few = few
covered_few stage events true covers.Open none few = few
covered_few stage events true covers.Root none few = open_is_eight stage events few (λ ended same. true≢false (none ended same))
covered_few stage events true covers.Full none few = open_is_eight stage events few (λ ended same. true≢false (none ended same))

-- the event of another caller
other_covered : (call : Call) (is_covered : Bool) (by : Cover) → ((ended : Option Answer) → call.stage ≡ Ended ended → is_covered ≡ false) → Few call → Few (covered_by is_covered by call)
other_covered call is_covered by none few = at call.cover few
  where
    at : (cover : Cover) → call.events ≤ bound cover call.stage → Few (covered_by is_covered by (record { stage = call.stage; cover = cover; events = call.events }))
    at covers.Open b = covered_few call.stage call.events is_covered by none b
    at covers.Root b = b
    at covers.Full b = b

other_few : (state : State) (caller : ℕ) (call : Call) (e : Event) → Few call → Few (after_other state caller call e)
other_few state caller call (event.RootDone by) few = other_covered call (is_covered_by_root state call.stage) covers.Root (λ ended same. ap (is_covered_by_root state) same) few
other_few state caller call (event.FullDone by) few = other_covered call (is_covered_by_full state caller call.stage) covers.Full (λ ended same. ap (is_covered_by_full state caller) same) few
other_few state caller call (event.Op by op again end indexes) few = few
other_few state caller call (event.Refused by target refused) few = few
other_few state caller call (event.Log by sub ino end datasync) few = few
other_few state caller call (event.Ask by) few = few
other_few state caller call (event.SealSub by sub number) few = few
other_few state caller call (event.SubWritten by sub number) few = few
other_few state caller call (event.SealRoot by) few = few
other_few state caller call (event.SealFull by) few = few
other_few state caller call (event.Failed by turn tried) few = few
other_few state caller call (event.GiveUp by sub number) few = few

-- the first event of a call
module _ (state : State) (caller : ℕ) where
  log_few : (sub : ℕ) (end : Logged) → 1 ≤ open_bound (log_stage sub end)
  log_few sub logged.Already = omega arith
  log_few sub (logged.Ticket number) = omega arith
  log_few sub (logged.Full reason) = omega arith

  begins_few : (call : Call) (e : Event) → Few (asked call state.failures) → IsDone state caller Begins e → Few (after_own state caller call e)
  begins_few call _ asks (Operates op (ends.Answered answer) indexes) = omega arith
  begins_few call _ asks (Operates op (ends.Short free need) indexes) = omega arith
  begins_few call _ asks (Refuses answer) = omega arith
  begins_few call _ asks (Logs {sub} end datasync) = log_few sub.0 end
  begins_few call _ asks AsksFirst = asks

  again_few : (op : Op) (call : Call) (e : Event) → call.events ≤ 8 → IsDone state caller (TriesAgain op) e → Few (after_own state caller call e)
  again_few op call _ few (OperatesAgain own (ends.Answered answer) indexes) = omega (arith, few)
  again_few op call _ few (OperatesAgain own (ends.Short free need) indexes) = omega (arith, few)

  -- a call that waits for a full commit
  want_few : (stage : Bool → Stage) → ((sealed : Bool) → open_bound (stage sealed) ≡ cond sealed 6 5) → with_seal (stage false) ≡ stage true → (sealed : Bool) (events : ℕ) (e : Event) → events ≤ cond sealed 6 5
      → IsDone state caller (want_duty sealed) e → Few (after_own state caller (record { stage = stage sealed; cover = covers.Open; events = events }) e)
  want_few stage bounds seals true events _ few FullWritten = omega (arith, few)
  want_few stage bounds seals true events _ few (FullFailed tried) = omega (arith, few)
  want_few stage bounds seals false events _ few SealsVolume = subst (λ s. events + 1 ≤ open_bound s) (sym seals) (let b = bounds true in omega (arith, b, few))

  -- a call with a ticket
  unsealed_few : (sub number events : ℕ) (stops is_open : Bool) (e : Event) → events ≤ 1 → IsDone state caller (cond stops Asks (cond is_open (SealsSub sub number) SealsRoot)) e
      → Few (after_own state caller (record { stage = HasTicket sub number Unsealed; cover = covers.Open; events = events }) e)
  unsealed_few sub number events true is_open _ few AsksForFull = omega (arith, few)
  unsealed_few sub number events false true _ few (SealsPart own own_number) = omega (arith, few)
  unsealed_few sub number events false false _ few SealsLogs = omega (arith, few)

  sealed_few : (sub number events : ℕ) (e : Event) → events ≤ 2 → IsDone state caller (EndsPart sub number) e → Few (after_own state caller (record { stage = HasTicket sub number Sealed; cover = covers.Open; events = events }) e)
  sealed_few sub number events _ few (PartWritten own own_number none) = omega (arith, few)
  sealed_few sub number events _ few (PartGivenUp own own_number some) = omega (arith, few)
  sealed_few sub number events _ few (PartFailed own own_number) = omega (arith, few)

  written_few : (sub number events : ℕ) (stops : Bool) (e : Event) → events ≤ 3 → IsDone state caller (cond stops (GivesUp sub number) SealsRoot) e → Few (after_own state caller (record { stage = HasTicket sub number Written; cover = covers.Open; events = events }) e)
  written_few sub number events true _ few (GivesSlotUp own own_number) = omega (arith, few)
  written_few sub number events false _ few SealsLogs = omega (arith, few)

  rooted_few : (sub number events : ℕ) (e : Event) → events ≤ 4 → IsDone state caller EndsRoot e → Few (after_own state caller (record { stage = HasTicket sub number InRoot; cover = covers.Open; events = events }) e)
  rooted_few sub number events _ few RootWritten = omega (arith, few)
  rooted_few sub number events _ few (RootFailed tried) = omega (arith, few)

  gave_up_few : (sub number events : ℕ) (e : Event) → events ≤ 4 → IsDone state caller Asks e → Few (after_own state caller (record { stage = HasTicket sub number GaveUp; cover = covers.Open; events = events }) e)
  gave_up_few sub number events _ few AsksForFull = omega (arith, few)

  own_few : (cover : Cover) (stage : Stage) (events : ℕ) (e : Event) → events ≤ bound cover stage → IsDone state caller (duty state (record { stage = stage; cover = cover; events = events })) e → Few (after_own state caller (record { stage = stage; cover = cover; events = events }) e)
  own_few covers.Open (Ended answer) events e few does = begins_few (record { stage = Ended answer; cover = covers.Open; events = events }) e (omega arith) does
  own_few covers.Open (WasShort op sealed) events e few does = want_few (WasShort op) (λ b. refl) refl sealed events e few does
  own_few covers.Open (Commits reason sealed) events e few does = want_few (Commits reason) (λ b. refl) refl sealed events e few does
  own_few covers.Open (Syncs sealed) events e few does = want_few Syncs (λ b. refl) refl sealed events e few does
  own_few covers.Open (HasTicket sub number Unsealed) events e few does = unsealed_few sub number events (is_stopped state sub number) (is_open_number state sub number) e few does
  own_few covers.Open (HasTicket sub number Sealed) events e few does = sealed_few sub number events e few does
  own_few covers.Open (HasTicket sub number Written) events e few does = written_few sub number events (is_stopped state sub number) e few does
  own_few covers.Open (HasTicket sub number InRoot) events e few does = rooted_few sub number events e few does
  own_few covers.Open (HasTicket sub number GaveUp) events e few does = gave_up_few sub number events e few does
  own_few covers.Root (Ended answer) events e few does = begins_few (record { stage = Ended answer; cover = covers.Root; events = events }) e (omega arith) does
  own_few covers.Root (WasShort op sealed) events e few does = begins_few (record { stage = WasShort op sealed; cover = covers.Root; events = events }) e (omega arith) does
  own_few covers.Root (HasTicket sub number part) events e few does = begins_few (record { stage = HasTicket sub number part; cover = covers.Root; events = events }) e (omega arith) does
  own_few covers.Root (Commits reason sealed) events e few does = begins_few (record { stage = Commits reason sealed; cover = covers.Root; events = events }) e (omega arith) does
  own_few covers.Root (Syncs sealed) events e few does = begins_few (record { stage = Syncs sealed; cover = covers.Root; events = events }) e (omega arith) does
  own_few covers.Full (Ended answer) events e few does = begins_few (record { stage = Ended answer; cover = covers.Full; events = events }) e (omega arith) does
  own_few covers.Full (WasShort op sealed) events e few does = again_few op (record { stage = WasShort op sealed; cover = covers.Full; events = events }) e few does
  own_few covers.Full (HasTicket sub number part) events e few does = begins_few (record { stage = HasTicket sub number part; cover = covers.Full; events = events }) e (omega arith) does
  own_few covers.Full (Commits reason sealed) events e few does = begins_few (record { stage = Commits reason sealed; cover = covers.Full; events = events }) e (omega arith) does
  own_few covers.Full (Syncs sealed) events e few does = begins_few (record { stage = Syncs sealed; cover = covers.Full; events = events }) e (omega arith) does

-- a list that follows the rules lets each call stay within its bound
all_few : (events : List Event) (state : State) (calls : ℕ → Call) → FollowsRules state calls events → (caller : ℕ) → Few (calls caller) → Few (call_after_all state caller (calls caller) events)
all_few [] state calls follows caller few = few
all_few (e ∷ events) state calls follows caller few = all_few events (after state e) (λ other. call_after state other (calls other) e) follows.1 caller (elim (cases_eq caller (caller_of e)) [
  | inl own ↦ subst (λ b. Few (cond b (after_own state caller (calls caller) e) (after_other state caller (calls caller) e))) (sym (eq-eqb caller (caller_of e) own))
      (own_few state caller (calls caller).cover (calls caller).stage (calls caller).events e few (subst (λ c. IsDone state c (duty state (calls c)) e) (sym own) follows.0))
  | inr other ↦ subst (λ b. Few (cond b (after_own state caller (calls caller) e) (after_other state caller (calls caller) e))) (sym (ne_eqb caller (caller_of e) other)) (other_few state caller (calls caller) e few)
])

pub few_events : (volume : Volume) (events : List Event) (caller : ℕ) → IsRuled volume events → (call_of volume events caller).events ≤ 16
few_events volume events caller ruled =
    let few = all_few events (mounted_state volume) (λ other. no_call) ruled caller (omega arith) in
    let nine = bound_is_nine (call_of volume events caller).cover (call_of volume events caller).stage (call_of volume events caller).events few in
    omega (arith, nine)
