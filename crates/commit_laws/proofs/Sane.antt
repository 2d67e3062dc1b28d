-- What holds of a call by itself: when it has made no event, how it may be covered, and that a short operation is in its limits.
use Rattle.std.proofs.Common.{◌≡◌, ℕ, ◌<◌, ◌+◌, Bool, true, false, cond, Some, None, refl, sym, ap, subst, ◌∙◌, arith}
use Rattle.std.specs.Bool.{⊤}
use Rattle.flat_model.specs.declared.op.Op.{Op}
use Rattle.flat_model.specs.declared.answer.Answer.{Answer}
use Rattle.flat_model.specs.Step.{IsSpelled, IsInLimits}
use Rattle.flat_model.proofs.Maps.{some_none}
use Rattle.commit_history.specs.declared.event.Event.{Event}
use Rattle.commit_history.specs.declared.event.Event.TheVariants as event
use Rattle.commit_history.specs.declared.event.Cover.{Cover}
use Rattle.commit_history.specs.declared.event.Cover.TheVariants as covers
use Rattle.commit_history.specs.declared.event.Logged.TheVariants as logged
use Rattle.commit_history.specs.declared.event.OpEnd.TheVariants as ends
use Rattle.commit_history.specs.State.{State}
use Rattle.commit_history.specs.Legal.{MayCome}
use Rattle.commit_history.specs.Calls.{Part, Unsealed, Sealed, Written, InRoot, GaveUp, Stage, Ended, WasShort, HasTicket, Commits, Syncs, Call, answer_of, asked, with_seal, covered_by, is_covered_by_root, is_covered_by_full, after_own, after_other, Duty, Begins, TriesAgain, EndsPart, EndsRoot, SealsSub, SealsRoot, GivesUp, Asks, is_stopped, is_open_number, want_duty, ticket_duty, duty, IsDone, Operates, Refuses, Logs, AsksFirst, OperatesAgain, PartWritten, PartGivenUp, PartFailed, RootWritten, RootFailed, FullWritten, FullFailed, SealsPart, SealsLogs, SealsVolume, GivesSlotUp, AsksForFull}
use Rattle.commit_laws.specs.Waiting.{IsUnfinished}
use Rattle.commit_laws.proofs.Roles.{Role, Holds, Wants, role_of}

abbrev pub IsTried : Op → Type 0
IsTried op = IsSpelled op × IsInLimits op

abbrev OpenSane : Stage → ℕ → Type 0
OpenSane (Ended None) events = events ≡ 0
OpenSane (Ended (Some answer)) events = ⊤
OpenSane (WasShort op sealed) events = (0 < events) × IsTried op
OpenSane (HasTicket sub number part) events = 0 < events
OpenSane (Commits reason sealed) events = 0 < events
OpenSane (Syncs sealed) events = 0 < events

abbrev RootSane : Stage → Type 0
RootSane (Ended answer) = ⊥
RootSane (WasShort op sealed) = ⊥
RootSane (HasTicket sub number part) = ⊤
RootSane (Commits reason sealed) = ⊥
RootSane (Syncs sealed) = ⊥

abbrev FullSane : Stage → ℕ → Type 0
FullSane (Ended answer) events = ⊥
FullSane (WasShort op sealed) events = (0 < events) × IsTried op
FullSane (HasTicket sub number part) events = ⊤
FullSane (Commits reason sealed) events = ⊤
FullSane (Syncs sealed) events = ⊤

abbrev pub CoverSane : Cover → Stage → ℕ → Type 0
CoverSane covers.Open stage events = OpenSane stage events
CoverSane covers.Root stage events = RootSane stage
CoverSane covers.Full stage events = FullSane stage events

abbrev pub IsSane : Call → Type 0
IsSane call = CoverSane call.cover call.stage call.events

-- ---- the events of other callers

cover_sane : (b : Bool) (by : Cover) (stage : Stage) (events : ℕ) → CoverSane by stage events → OpenSane stage events → CoverSane (cond b by covers.Open) stage events
cover_sane true by stage events there before = there
cover_sane false by stage events there before = before

root_sane : (state : State) (cover : Cover) (stage : Stage) (events : ℕ) → CoverSane cover stage events → IsSane (covered_by (is_covered_by_root state stage) covers.Root (record { stage = stage; cover = cover; events = events }))
root_sane state covers.Root stage events sane = sane
root_sane state covers.Full stage events sane = sane
root_sane state covers.Open (HasTicket sub number part) events sane = cover_sane (is_covered_by_root state (HasTicket sub number part)) covers.Root (HasTicket sub number part) events tt sane
root_sane state covers.Open (Ended answer) events sane = sane
root_sane state covers.Open (WasShort op sealed) events sane = sane
root_sane state covers.Open (Commits reason sealed) events sane = sane
root_sane state covers.Open (Syncs sealed) events sane = sane

full_sane : (state : State) (caller : ℕ) (cover : Cover) (stage : Stage) (events : ℕ) → CoverSane cover stage events → IsSane (covered_by (is_covered_by_full state caller stage) covers.Full (record { stage = stage; cover = cover; events = events }))
full_sane state caller covers.Root stage events sane = sane
full_sane state caller covers.Full stage events sane = sane
full_sane state caller covers.Open (HasTicket sub number part) events sane = tt
full_sane state caller covers.Open (Ended answer) events sane = sane
full_sane state caller covers.Open (WasShort op sealed) events sane = cover_sane (is_covered_by_full state caller (WasShort op sealed)) covers.Full (WasShort op sealed) events sane sane
full_sane state caller covers.Open (Commits reason sealed) events sane = cover_sane (is_covered_by_full state caller (Commits reason sealed)) covers.Full (Commits reason sealed) events tt sane
full_sane state caller covers.Open (Syncs sealed) events sane = cover_sane (is_covered_by_full state caller (Syncs sealed)) covers.Full (Syncs sealed) events tt sane

pub other_sane : (state : State) (caller : ℕ) (call : Call) (e : Event) → IsSane call → IsSane (after_other state caller call e)
other_sane state caller call (event.RootDone by) sane = root_sane state call.cover call.stage call.events sane
other_sane state caller call (event.FullDone by) sane = full_sane state caller call.cover call.stage call.events sane
other_sane state caller call (event.Op by op again end indexes) sane = sane
other_sane state caller call (event.Refused by target answer) sane = sane
other_sane state caller call (event.Log by sub ino end datasync) sane = sane
other_sane state caller call (event.Ask by) sane = sane
other_sane state caller call (event.SealSub by sub number) sane = sane
other_sane state caller call (event.SubWritten by sub number) sane = sane
other_sane state caller call (event.SealRoot by) sane = sane
other_sane state caller call (event.SealFull by) sane = sane
other_sane state caller call (event.Failed by turn tried) sane = sane
other_sane state caller call (event.GiveUp by sub number) sane = sane

-- ---- a caller's own events

module _ (state : State) (caller : ℕ) where
  begins_sane : (call : Call) (e : Event) → MayCome state e → IsSane (asked call state.failures) → IsDone state caller Begins e → IsSane (after_own state caller call e)
  begins_sane call _ may asks (Operates op (ends.Answered answer) indexes) = tt
  begins_sane call _ may asks (Operates op (ends.Short free need) indexes) = (omega arith, (may.0.spelled, may.0.in_limits))
  begins_sane call _ may asks (Refuses answer) = tt
  begins_sane call _ may asks (Logs logged.Already datasync) = tt
  begins_sane call _ may asks (Logs (logged.Ticket number) datasync) = omega arith
  begins_sane call _ may asks (Logs (logged.Full reason) datasync) = omega arith
  begins_sane call _ may asks AsksFirst = asks

  again_sane : (op : Op) (call : Call) (e : Event) → IsDone state caller (TriesAgain op) e → IsSane (after_own state caller call e)
  again_sane op call _ (OperatesAgain own (ends.Answered answer) indexes) = tt
  again_sane op call _ (OperatesAgain own (ends.Short free need) indexes) = tt

  want_sane : (stage : Bool → Stage) → ((events : ℕ) → OpenSane (stage true) events → FullSane (stage true) events) → ((events : ℕ) → OpenSane (stage false) events → OpenSane (stage true) (events + 1)) → with_seal (stage false) ≡ stage true
      → ((events : ℕ) → FullSane (stage true) events → FullSane (stage true) (events + 1)) → (sealed : Bool) (events : ℕ) (e : Event)
      → OpenSane (stage sealed) events → IsDone state caller (want_duty sealed) e → IsSane (after_own state caller (record { stage = stage sealed; cover = covers.Open; events = events }) e)
  want_sane stage full more seals later true events _ sane FullWritten = later events (full events sane)
  want_sane stage full more seals later true events _ sane (FullFailed tried) = tt
  want_sane stage full more seals later false events _ sane SealsVolume = subst (λ s. OpenSane s (events + 1)) (sym seals) (more events sane)

  unsealed_sane : (sub number events : ℕ) (stops is_open : Bool) (e : Event) → IsDone state caller (cond stops Asks (cond is_open (SealsSub sub number) SealsRoot)) e
      → IsSane (after_own state caller (record { stage = HasTicket sub number Unsealed; cover = covers.Open; events = events }) e)
  unsealed_sane sub number events true is_open _ AsksForFull = omega arith
  unsealed_sane sub number events false true _ (SealsPart own own_number) = omega arith
  unsealed_sane sub number events false false _ SealsLogs = omega arith

  sealed_sane : (sub number events : ℕ) (e : Event) → IsDone state caller (EndsPart sub number) e → IsSane (after_own state caller (record { stage = HasTicket sub number Sealed; cover = covers.Open; events = events }) e)
  sealed_sane sub number events _ (PartWritten own own_number none) = omega arith
  sealed_sane sub number events _ (PartGivenUp own own_number some) = omega arith
  sealed_sane sub number events _ (PartFailed own own_number) = tt

  written_sane : (sub number events : ℕ) (stops : Bool) (e : Event) → IsDone state caller (cond stops (GivesUp sub number) SealsRoot) e
      → IsSane (after_own state caller (record { stage = HasTicket sub number Written; cover = covers.Open; events = events }) e)
  written_sane sub number events true _ (GivesSlotUp own own_number) = omega arith
  written_sane sub number events false _ SealsLogs = omega arith

  rooted_sane : (sub number events : ℕ) (e : Event) → IsDone state caller EndsRoot e → IsSane (after_own state caller (record { stage = HasTicket sub number InRoot; cover = covers.Open; events = events }) e)
  rooted_sane sub number events _ RootWritten = tt
  rooted_sane sub number events _ (RootFailed tried) = tt

  gave_up_sane : (sub number events : ℕ) (e : Event) → IsDone state caller Asks e → IsSane (after_own state caller (record { stage = HasTicket sub number GaveUp; cover = covers.Open; events = events }) e)
  gave_up_sane sub number events _ AsksForFull = omega arith

  own_sane_at : (cover : Cover) (stage : Stage) (events : ℕ) (e : Event) → MayCome state e → CoverSane cover stage events → IsDone state caller (duty state (record { stage = stage; cover = cover; events = events })) e
      → IsSane (after_own state caller (record { stage = stage; cover = cover; events = events }) e)
  own_sane_at covers.Open (Ended answer) events e may sane does = begins_sane (record { stage = Ended answer; cover = covers.Open; events = events }) e may (omega arith) does
  own_sane_at covers.Open (WasShort op sealed) events e may sane does = want_sane (WasShort op) (λ n s. s) (λ n s. (omega arith, s.1)) refl (λ n s. (omega arith, s.1)) sealed events e sane does
  own_sane_at covers.Open (Commits reason sealed) events e may sane does = want_sane (Commits reason) (λ n s. tt) (λ n s. omega arith) refl (λ n s. tt) sealed events e sane does
  own_sane_at covers.Open (Syncs sealed) events e may sane does = want_sane Syncs (λ n s. tt) (λ n s. omega arith) refl (λ n s. tt) sealed events e sane does
  own_sane_at covers.Open (HasTicket sub number Unsealed) events e may sane does = unsealed_sane sub number events (is_stopped state sub number) (is_open_number state sub number) e does
  own_sane_at covers.Open (HasTicket sub number Sealed) events e may sane does = sealed_sane sub number events e does
  own_sane_at covers.Open (HasTicket sub number Written) events e may sane does = written_sane sub number events (is_stopped state sub number) e does
  own_sane_at covers.Open (HasTicket sub number InRoot) events e may sane does = rooted_sane sub number events e does
  own_sane_at covers.Open (HasTicket sub number GaveUp) events e may sane does = gave_up_sane sub number events e does
  own_sane_at covers.Root (Ended answer) events e may sane does = absurd sane
  own_sane_at covers.Root (WasShort op sealed) events e may sane does = absurd sane
  own_sane_at covers.Root (HasTicket sub number part) events e may sane does = begins_sane (record { stage = HasTicket sub number part; cover = covers.Root; events = events }) e may (omega arith) does
  own_sane_at covers.Root (Commits reason sealed) events e may sane does = absurd sane
  own_sane_at covers.Root (Syncs sealed) events e may sane does = absurd sane
  own_sane_at covers.Full (Ended answer) events e may sane does = absurd sane
  own_sane_at covers.Full (WasShort op sealed) events e may sane does = again_sane op (record { stage = WasShort op sealed; cover = covers.Full; events = events }) e does
  own_sane_at covers.Full (HasTicket sub number part) events e may sane does = begins_sane (record { stage = HasTicket sub number part; cover = covers.Full; events = events }) e may (omega arith) does
  own_sane_at covers.Full (Commits reason sealed) events e may sane does = begins_sane (record { stage = Commits reason sealed; cover = covers.Full; events = events }) e may (omega arith) does
  own_sane_at covers.Full (Syncs sealed) events e may sane does = begins_sane (record { stage = Syncs sealed; cover = covers.Full; events = events }) e may (omega arith) does

  pub own_sane : (call : Call) (e : Event) → MayCome state e → IsSane call → IsDone state caller (duty state call) e → IsSane (after_own state caller call e)
  own_sane call e may sane does = own_sane_at call.cover call.stage call.events e may sane does

-- ---- a call by its role

-- an unfinished call and what it does next
pub record IsBusy (state : State) (call : Call) (next : Duty) : Type 0 where
  pub unfinished : IsUnfinished call
  pub does : duty state call ≡ next

pub holds_busy : (state : State) (call : Call) (sub number : ℕ) (part : Part) → IsSane call → role_of call ≡ Holds sub number part → IsBusy state call (ticket_duty state sub number part)
holds_busy state call sub number part sane is = at call.cover call.stage sane is
  where
    at : (cover : Cover) (stage : Stage) → CoverSane cover stage call.events → role_of (record { stage = stage; cover = cover; events = call.events }) ≡ Holds sub number part
        → IsBusy state (record { stage = stage; cover = cover; events = call.events }) (ticket_duty state sub number part)
    at covers.Root stage s e = absurd (cc)
    at covers.Full stage s e = absurd (cc)
    at covers.Open (Ended answer) s e = absurd (cc)
    at covers.Open (WasShort op sealed) s e = absurd (cc)
    at covers.Open (Commits reason sealed) s e = absurd (cc)
    at covers.Open (Syncs sealed) s e = absurd (cc)
    at covers.Open (HasTicket own own_number own_part) s e =
        let one : own ≡ sub = cc in
        let two : own_number ≡ number = cc in
        let three : own_part ≡ part = cc in
        record {
          unfinished = record { has_begun = s; has_no_answer = refl };
          does = ap (λ i. ticket_duty state i own_number own_part) one ∙ ap (λ n. ticket_duty state sub n own_part) two ∙ ap (ticket_duty state sub number) three;
        }

pub wants_busy : (state : State) (call : Call) (sealed : Bool) → IsSane call → role_of call ≡ Wants sealed → IsBusy state call (want_duty sealed)
wants_busy state call sealed sane is = at call.cover call.stage sane is
  where
    same : (a b : Bool) → (let made : Role = Wants a in made) ≡ Wants b → want_duty a ≡ want_duty b
    same a b e = let one : a ≡ b = cc in ap want_duty one

    at : (cover : Cover) (stage : Stage) → CoverSane cover stage call.events → role_of (record { stage = stage; cover = cover; events = call.events }) ≡ Wants sealed
        → IsBusy state (record { stage = stage; cover = cover; events = call.events }) (want_duty sealed)
    at covers.Root stage s e = absurd (cc)
    at covers.Full stage s e = absurd (cc)
    at covers.Open (Ended answer) s e = absurd (cc)
    at covers.Open (HasTicket own own_number own_part) s e = absurd (cc)
    at covers.Open (WasShort op own) s e = record { unfinished = record { has_begun = s.0; has_no_answer = refl }; does = same own sealed e }
    at covers.Open (Commits reason own) s e = record { unfinished = record { has_begun = s; has_no_answer = refl }; does = same own sealed e }
    at covers.Open (Syncs own) s e = record { unfinished = record { has_begun = s; has_no_answer = refl }; does = same own sealed e }

-- an unfinished call holds something, or tries its operation again
pub record TriesIt (state : State) (call : Call) : Type 0 where
  pub op : Op
  pub tried : IsTried op
  pub does : duty state call ≡ TriesAgain op

pub data Busy (state : State) (call : Call) : Type 0 where
  HoldsTicket : (sub number : ℕ) (part : Part) → role_of call ≡ Holds sub number part → Busy state call
  WantsFull : (sealed : Bool) → role_of call ≡ Wants sealed → Busy state call
  TriesOnce : TriesIt state call → Busy state call

pub busy : (state : State) (call : Call) → IsSane call → IsUnfinished call → Busy state call
busy state call sane unfinished = at call.cover call.stage sane unfinished.has_no_answer
  where
    some_not : (answer : Answer) → Some answer ≡ None → ⊥
    some_not answer e = some_none answer e

    at : (cover : Cover) (stage : Stage) → CoverSane cover stage call.events → answer_of (record { stage = stage; cover = cover; events = call.events }) ≡ None
        → Busy state (record { stage = stage; cover = cover; events = call.events })
    at covers.Open (Ended None) s e = absurd (let b = unfinished.has_begun in omega (arith, s, b))
    at covers.Open (Ended (Some answer)) s e = absurd (some_not answer e)
    at covers.Open (WasShort op sealed) s e = WantsFull sealed refl
    at covers.Open (HasTicket sub number part) s e = HoldsTicket sub number part refl
    at covers.Open (Commits reason sealed) s e = WantsFull sealed refl
    at covers.Open (Syncs sealed) s e = WantsFull sealed refl
    at covers.Root (Ended answer) s e = absurd s
    at covers.Root (WasShort op sealed) s e = absurd s
    at covers.Root (HasTicket sub number part) s e = absurd (some_none _ e)
    at covers.Root (Commits reason sealed) s e = absurd s
    at covers.Root (Syncs sealed) s e = absurd s
    at covers.Full (Ended answer) s e = absurd s
    at covers.Full (WasShort op sealed) s e = TriesOnce (record { op = op; tried = s.1; does = refl })
    at covers.Full (HasTicket sub number part) s e = absurd (some_none _ e)
    at covers.Full (Commits reason sealed) s e = absurd (some_none _ e)
    at covers.Full (Syncs sealed) s e = absurd (some_none _ e)
