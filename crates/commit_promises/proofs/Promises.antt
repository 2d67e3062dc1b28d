-- An fsync whose call has an answer by which it is durable is acknowledged.
use Rattle.std.proofs.Common.{◌≡◌, ◌≢◌, ℕ, ◌+◌, Bool, true, false, cond, not, List, [], ◌∷◌, ◌++◌, Option, Some, None, refl, sym, ap, subst, ◌∙◌, arith, inl, inr, ◌⊎◌}
use Rattle.std.specs.Bool.{nat_eq, nat_le, ⊤}
use Rattle.std.specs.List.{Contains, filter}
use Rattle.std.specs.FinMap.{get}
use Rattle.std.proofs.lemmas.Bool.{cases_eq, cases_Bool, ne_eqb, eq-eqb, true≢false}
use Rattle.std.proofs.lemmas.List.Elements.{Contains-append_left, Contains-append_right}
use Rattle.blk_base.specs.declared.key.SubId.{SubId}
use Rattle.blk_base.specs.declared.key.Ino.{Ino}
use Rattle.flat_model.specs.declared.answer.Answer.{Answer}
use Rattle.flat_model.specs.declared.answer.Answer.TheVariants as answers
use Rattle.flat_model.specs.Volume.{Volume, Subvolume, RunSub}
use Rattle.flat_model.specs.Coherent.{IsCoherentVolume}
use Rattle.flat_model.proofs.Lists.{contains_head, contains_tail, contains_filter}
use Rattle.flat_model.proofs.Maps.{some_same, some_none}
use Rattle.commit_history.specs.declared.event.Event.{Event}
use Rattle.commit_history.specs.declared.event.Event.TheVariants as event
use Rattle.commit_history.specs.declared.event.Cover.{Cover}
use Rattle.commit_history.specs.declared.event.Cover.TheVariants as covers
use Rattle.commit_history.specs.declared.event.Logged.{Logged}
use Rattle.commit_history.specs.declared.event.Logged.TheVariants as logged
use Rattle.commit_history.specs.State.{SubLog, Synced, State, HasLog, mounted_state, number_taken, is_taken}
use Rattle.commit_history.specs.Effects.{after, after_events, state_of, log_after, log_after_step, log_stepped, log_sealed, log_taken, log_with, sub_sealed, is_up_to, synced, slots_written, slots_without}
use Rattle.commit_history.specs.Legal.{MayCome, MayLog, IsLegal, IsLegalFrom, HoldsFull}
use Rattle.commit_history.specs.Calls.{Part, Unsealed, Sealed, Written, InRoot, GaveUp, Stage, Ended, WasShort, HasTicket, Commits, Syncs, Call, no_call, answer_of, asked, covered_by, is_covered_by_root, is_covered_by_full, after_own, after_other, caller_of, call_after, call_after_all, call_of, Begins, EndsPart, EndsRoot, SealsSub, SealsRoot, GivesUp, Asks, is_stopped, is_open_number, want_duty, duty, IsDone, Operates, Refuses, Logs, AsksFirst, PartWritten, PartGivenUp, PartFailed, RootWritten, RootFailed, FullWritten, FullFailed, SealsPart, SealsLogs, SealsVolume, GivesSlotUp, AsksForFull, FollowsRules, IsRuled}
use Rattle.commit_history.proofs.LogNumbers.{log_before}
use Rattle.commit_history.proofs.StateHolding.{either}
use Rattle.commit_promises.specs.Answered.{is_durable, number_given, events_by, HasAnswered}
use Rattle.commit_laws.proofs.Roles.{Holds, role_of}
use Rattle.commit_laws.proofs.Standing.{Stands}
use Rattle.commit_laws.proofs.Sane.{IsSane}
use Rattle.commit_laws.proofs.Reaching.{Known, IsReached, known, reached_more, roles_of, calls_after, step_stands, step_sane, mounted_stands}
use Rattle.commit_laws.proofs.Covered.{call_of_other}

-- ---- an fsync in a log

abbrev IsInLog : SubLog → Synced → Type 0
IsInLog log fsync = Contains log.waiting fsync ⊎ Contains log.acknowledged fsync

-- an event isn't a failure of the caller
abbrev IsKept : Event → ℕ → Type 0
IsKept (event.Failed by turn tried) caller = caller ≢ by
IsKept other caller = ⊤

module _ (fsync : Synced) where
  step_acknowledged : (log : SubLog) (current : Subvolume) (caller point ino : ℕ) (end : Logged) (datasync : Bool) → Contains log.acknowledged fsync → Contains (log_after_step log current caller point ino end datasync).acknowledged fsync
  step_acknowledged log current caller point ino logged.Already datasync c = contains_tail (synced log caller point ino datasync None) log.acknowledged fsync c
  step_acknowledged log current caller point ino (logged.Ticket number) datasync c = c
  step_acknowledged log current caller point ino (logged.Full reason) datasync c = c

  stepped_acknowledged : (o : Option RunSub) (log : SubLog) (caller point ino : ℕ) (end : Logged) (datasync : Bool) → Contains log.acknowledged fsync → Contains (log_stepped o log caller point ino end datasync).acknowledged fsync
  stepped_acknowledged None log caller point ino end datasync c = c
  stepped_acknowledged (Some run) log caller point ino end datasync c = step_acknowledged log run.sub caller point ino end datasync c

  taken_acknowledged : (o : Option ℕ) (log : SubLog) → Contains log.acknowledged fsync → Contains (log_taken o log).acknowledged fsync
  taken_acknowledged None log c = c
  taken_acknowledged (Some number) log c = Contains-append_right (filter (is_up_to number) log.waiting) log.acknowledged fsync c

  with_acknowledged : (o : Option Subvolume) (log : SubLog) → Contains log.acknowledged fsync → Contains (log_with o log).acknowledged fsync
  with_acknowledged None log c = c
  with_acknowledged (Some sub) log c = Contains-append_right log.waiting log.acknowledged fsync c

  -- what is acknowledged stays so
  acknowledged_stays : (state : State) (e : Event) (id : ℕ) (log : SubLog) → Contains log.acknowledged fsync → Contains (log_after state e id log).acknowledged fsync
  acknowledged_stays state (event.Op by op again end indexes) id log c = c
  acknowledged_stays state (event.Refused by target answer) id log c = c
  acknowledged_stays state (event.Log by sub ino end datasync) id log c =
      either (λ (l : SubLog). Contains l.acknowledged fsync) (nat_eq id sub.0) (log_stepped (get state.current id) log by state.point ino.0 end datasync) log
      (λ _. stepped_acknowledged (get state.current id) log by state.point ino.0 end datasync c) (λ _. c)
  acknowledged_stays state (event.Ask by) id log c = c
  acknowledged_stays state (event.SealSub by sub number) id log c = either (λ (l : SubLog). Contains l.acknowledged fsync) (nat_eq id sub.0) (log_sealed log by number) log (λ _. c) (λ _. c)
  acknowledged_stays state (event.SubWritten by sub number) id log c = either (λ (l : SubLog). Contains l.acknowledged fsync) (nat_eq id sub.0) (record log { slots = slots_written log.slots number }) log (λ _. c) (λ _. c)
  acknowledged_stays state (event.SealRoot by) id log c = c
  acknowledged_stays state (event.RootDone by) id log c = taken_acknowledged (number_taken state.root id) log c
  acknowledged_stays state (event.SealFull by) id log c = c
  acknowledged_stays state (event.FullDone by) id log c = with_acknowledged (sub_sealed state.full id) log c
  acknowledged_stays state (event.Failed by turn tried) id log c = c
  acknowledged_stays state (event.GiveUp by sub number) id log c = either (λ (l : SubLog). Contains l.acknowledged fsync) (nat_eq id sub.0) (record log { slots = slots_without log.slots number }) log (λ _. c) (λ _. c)

  step_waits : (log : SubLog) (current : Subvolume) (caller point ino : ℕ) (end : Logged) (datasync : Bool) → Contains log.waiting fsync → Contains (log_after_step log current caller point ino end datasync).waiting fsync
  step_waits log current caller point ino logged.Already datasync c = c
  step_waits log current caller point ino (logged.Ticket number) datasync c = contains_tail (synced log caller point ino datasync (Some number)) log.waiting fsync c
  step_waits log current caller point ino (logged.Full reason) datasync c = contains_tail (synced log caller point ino datasync None) log.waiting fsync c

  stepped_waits : (o : Option RunSub) (log : SubLog) (caller point ino : ℕ) (end : Logged) (datasync : Bool) → Contains log.waiting fsync → Contains (log_stepped o log caller point ino end datasync).waiting fsync
  stepped_waits None log caller point ino end datasync c = c
  stepped_waits (Some run) log caller point ino end datasync c = step_waits log run.sub caller point ino end datasync c

  taken_in_log : (o : Option ℕ) (log : SubLog) → Contains log.waiting fsync → IsInLog (log_taken o log) fsync
  taken_in_log None log c = inl c
  taken_in_log (Some number) log c = elim (cases_Bool (is_up_to number fsync)) [
    | inl covered ↦ inr (Contains-append_left (filter (is_up_to number) log.waiting) log.acknowledged fsync (contains_filter (is_up_to number) log.waiting fsync covered c))
    | inr later ↦ inl (contains_filter (λ (f : Synced). not (is_up_to number f)) log.waiting fsync (ap not later) c)
  ]

  with_in_log : (o : Option Subvolume) (log : SubLog) → Contains log.waiting fsync → IsInLog (log_with o log) fsync
  with_in_log None log c = inl c
  with_in_log (Some sub) log c = inr (Contains-append_left log.waiting log.acknowledged fsync c)

  -- what waits goes on to wait, or is acknowledged
  waiting_stays : (state : State) (e : Event) (id : ℕ) (log : SubLog) → IsKept e fsync.caller → Contains log.waiting fsync → IsInLog (log_after state e id log) fsync
  waiting_stays state (event.Op by op again end indexes) id log kept c = inl c
  waiting_stays state (event.Refused by target answer) id log kept c = inl c
  waiting_stays state (event.Log by sub ino end datasync) id log kept c =
      inl (either (λ (l : SubLog). Contains l.waiting fsync) (nat_eq id sub.0) (log_stepped (get state.current id) log by state.point ino.0 end datasync) log
      (λ _. stepped_waits (get state.current id) log by state.point ino.0 end datasync c) (λ _. c))
  waiting_stays state (event.Ask by) id log kept c = inl c
  waiting_stays state (event.SealSub by sub number) id log kept c = inl (either (λ (l : SubLog). Contains l.waiting fsync) (nat_eq id sub.0) (log_sealed log by number) log (λ _. c) (λ _. c))
  waiting_stays state (event.SubWritten by sub number) id log kept c = inl (either (λ (l : SubLog). Contains l.waiting fsync) (nat_eq id sub.0) (record log { slots = slots_written log.slots number }) log (λ _. c) (λ _. c))
  waiting_stays state (event.SealRoot by) id log kept c = inl c
  waiting_stays state (event.RootDone by) id log kept c = taken_in_log (number_taken state.root id) log c
  waiting_stays state (event.SealFull by) id log kept c = inl c
  waiting_stays state (event.FullDone by) id log kept c = with_in_log (sub_sealed state.full id) log c
  waiting_stays state (event.Failed by turn tried) id log kept c = inl (contains_filter (λ (f : Synced). not (nat_eq f.caller by)) log.waiting fsync (ap not (ne_eqb fsync.caller by kept)) c)
  waiting_stays state (event.GiveUp by sub number) id log kept c = inl (either (λ (l : SubLog). Contains l.waiting fsync) (nat_eq id sub.0) (record log { slots = slots_without log.slots number }) log (λ _. c) (λ _. c))

  in_log_stays : (state : State) (e : Event) (id : ℕ) (log : SubLog) → IsKept e fsync.caller → IsInLog log fsync → IsInLog (log_after state e id log) fsync
  in_log_stays state e id log kept is_in = elim is_in [ inl waits ↦ waiting_stays state e id log kept waits | inr done ↦ inr (acknowledged_stays state e id log done) ]

  -- a commit that covers it acknowledges it
  root_acknowledges : (state : State) (by id number : ℕ) (log : SubLog) → fsync.number ≡ Some number → is_taken state.root id number ≡ true → IsInLog log fsync → Contains (log_after state (event.RootDone by) id log).acknowledged fsync
  root_acknowledges state by id number log own taken is_in = elim is_in [ inr done ↦ acknowledged_stays state (event.RootDone by) id log done | inl waits ↦ at (number_taken state.root id) taken waits ]
    where
      at : (o : Option ℕ) → (elim o as (λ x. Bool) [ None ↦ false | Some most ↦ nat_le number most ]) ≡ true → Contains log.waiting fsync → Contains (log_taken o log).acknowledged fsync
      at None t c = absurd (true≢false (sym t))
      at (Some most) t c = Contains-append_left (filter (is_up_to most) log.waiting) log.acknowledged fsync
          (contains_filter (is_up_to most) log.waiting fsync (ap (λ (o : Option ℕ). elim o as (λ x. Bool) [ None ↦ false | Some n ↦ nat_le n most ]) own ∙ t) c)

  full_acknowledges : (state : State) (by id : ℕ) (log : SubLog) (sub : Subvolume) → sub_sealed state.full id ≡ Some sub → IsInLog log fsync → Contains (log_after state (event.FullDone by) id log).acknowledged fsync
  full_acknowledges state by id log sub sealed is_in = subst (λ o. Contains (log_with o log).acknowledged fsync) (sym sealed) (elim is_in [ inl waits ↦ Contains-append_left log.waiting log.acknowledged fsync waits | inr done ↦ Contains-append_right log.waiting log.acknowledged fsync done ])

-- ---- what a call of an fsync promises

-- the stages of an fsync that hasn't ended by itself
abbrev IsFsyncStage : Stage → Type 0
IsFsyncStage (Ended answer) = ⊥
IsFsyncStage (WasShort op sealed) = ⊥
IsFsyncStage (HasTicket sub number part) = ⊤
IsFsyncStage (Commits reason sealed) = ⊤
IsFsyncStage (Syncs sealed) = ⊥

abbrev OpenPromise : ℕ → SubLog → Synced → Stage → Type 0
OpenPromise id log fsync (Ended None) = ⊥
OpenPromise id log fsync (Ended (Some answer)) = (answer ≡ answers.Io) ⊎ Contains log.acknowledged fsync
OpenPromise id log fsync (WasShort op sealed) = ⊥
OpenPromise id log fsync (HasTicket sub number part) = (sub ≡ id) × (fsync.number ≡ Some number) × IsInLog log fsync
OpenPromise id log fsync (Commits reason sealed) = IsInLog log fsync
OpenPromise id log fsync (Syncs sealed) = ⊥

abbrev CoverPromise : ℕ → SubLog → Synced → Cover → Stage → Type 0
CoverPromise id log fsync covers.Open stage = OpenPromise id log fsync stage
CoverPromise id log fsync covers.Root stage = IsFsyncStage stage × Contains log.acknowledged fsync
CoverPromise id log fsync covers.Full stage = IsFsyncStage stage × Contains log.acknowledged fsync

abbrev Promise : ℕ → SubLog → Synced → Call → Type 0
Promise id log fsync call = CoverPromise id log fsync call.cover call.stage

cover_promise : (id : ℕ) (log : SubLog) (fsync : Synced) (b : Bool) (by : Cover) (stage : Stage) → (b ≡ true → CoverPromise id log fsync by stage) → (b ≡ false → OpenPromise id log fsync stage) → CoverPromise id log fsync (cond b by covers.Open) stage
cover_promise id log fsync true by stage one two = one refl
cover_promise id log fsync false by stage one two = two refl

-- a promise that holds, and the answer
pub promise_kept : (id : ℕ) (log : SubLog) (fsync : Synced) (call : Call) (answer : Answer) → Promise id log fsync call → answer_of call ≡ Some answer → is_durable answer ≡ true → Contains log.acknowledged fsync
promise_kept id log fsync call answer promise is durable = at call.cover call.stage promise is
  where
    at : (cover : Cover) (stage : Stage) → CoverPromise id log fsync cover stage → answer_of (record { stage = stage; cover = cover; events = call.events }) ≡ Some answer → Contains log.acknowledged fsync
    at covers.Root stage p e = p.1
    at covers.Full stage p e = p.1
    at covers.Open (Ended None) p e = absurd p
    at covers.Open (Ended (Some own)) p e = elim p [ inr done ↦ done | inl io ↦ absurd (true≢false (sym durable ∙ ap is_durable (sym (some_same own answer e) ∙ io))) ]
    at covers.Open (WasShort op sealed) p e = absurd p
    at covers.Open (HasTicket sub number part) p e = absurd (some_none answer (sym e))
    at covers.Open (Commits reason sealed) p e = absurd (some_none answer (sym e))
    at covers.Open (Syncs sealed) p e = absurd p

module _ (id : ℕ) (fsync : Synced) (state : State) (log : SubLog) (has : HasLog state id log) (facts : Known state) where
  -- ---- the events of other callers

  same_call : (e : Event) (cover : Cover) (stage : Stage) → IsKept e fsync.caller → CoverPromise id log fsync cover stage → CoverPromise id (log_after state e id log) fsync cover stage
  same_call e covers.Root stage kept p = (p.0, acknowledged_stays fsync state e id log p.1)
  same_call e covers.Full stage kept p = (p.0, acknowledged_stays fsync state e id log p.1)
  same_call e covers.Open (Ended None) kept p = absurd p
  same_call e covers.Open (Ended (Some answer)) kept p = elim p [ inl io ↦ inl io | inr done ↦ inr (acknowledged_stays fsync state e id log done) ]
  same_call e covers.Open (WasShort op sealed) kept p = absurd p
  same_call e covers.Open (HasTicket sub number part) kept p = (p.0, p.1, in_log_stays fsync state e id log kept p.2)
  same_call e covers.Open (Commits reason sealed) kept p = in_log_stays fsync state e id log kept p
  same_call e covers.Open (Syncs sealed) kept p = absurd p

  root_promise : (by : ℕ) (cover : Cover) (stage : Stage) (events : ℕ) → CoverPromise id log fsync cover stage
      → Promise id (log_after state (event.RootDone by) id log) fsync (covered_by (is_covered_by_root state stage) covers.Root (record { stage = stage; cover = cover; events = events }))
  root_promise by covers.Root stage events p = same_call (event.RootDone by) covers.Root stage tt p
  root_promise by covers.Full stage events p = same_call (event.RootDone by) covers.Full stage tt p
  root_promise by covers.Open (Ended answer) events p = same_call (event.RootDone by) covers.Open (Ended answer) tt p
  root_promise by covers.Open (WasShort op sealed) events p = absurd p
  root_promise by covers.Open (Commits reason sealed) events p = same_call (event.RootDone by) covers.Open (Commits reason sealed) tt p
  root_promise by covers.Open (Syncs sealed) events p = absurd p
  root_promise by covers.Open (HasTicket sub number part) events p =
      cover_promise id (log_after state (event.RootDone by) id log) fsync (is_taken state.root sub number) covers.Root (HasTicket sub number part)
      (λ taken. (tt, root_acknowledges fsync state by id number log p.1 (ap (λ i. is_taken state.root i number) (sym p.0) ∙ taken) p.2))
      (λ left. same_call (event.RootDone by) covers.Open (HasTicket sub number part) tt p)

  full_promise : (by caller : ℕ) → HoldsFull state by → (cover : Cover) (stage : Stage) (events : ℕ) → CoverPromise id log fsync cover stage
      → Promise id (log_after state (event.FullDone by) id log) fsync (covered_by (is_covered_by_full state caller stage) covers.Full (record { stage = stage; cover = cover; events = events }))
  full_promise by caller may covers.Root stage events p = same_call (event.FullDone by) covers.Root stage tt p
  full_promise by caller may covers.Full stage events p = same_call (event.FullDone by) covers.Full stage tt p
  full_promise by caller may covers.Open (Ended answer) events p = same_call (event.FullDone by) covers.Open (Ended answer) tt p
  full_promise by caller may covers.Open (WasShort op sealed) events p = absurd p
  full_promise by caller may covers.Open (Syncs sealed) events p = absurd p
  full_promise by caller may covers.Open (HasTicket sub number part) events p = let sealed = facts.sealed_there may.commit may.runs id log has in (tt, full_acknowledges fsync state by id log sealed.0 sealed.1 p.2)
  full_promise by caller may covers.Open (Commits reason sealed) events p =
      let there = facts.sealed_there may.commit may.runs id log has in
      cover_promise id (log_after state (event.FullDone by) id log) fsync (is_covered_by_full state caller (Commits reason sealed)) covers.Full (Commits reason sealed)
      (λ covered. (tt, full_acknowledges fsync state by id log there.0 there.1 p))
      (λ left. same_call (event.FullDone by) covers.Open (Commits reason sealed) tt p)

  other_promise : (caller : ℕ) (call : Call) (e : Event) → MayCome state e → fsync.caller ≢ caller_of e → Promise id log fsync call → Promise id (log_after state e id log) fsync (after_other state caller call e)
  other_promise caller call (event.RootDone by) may other p = root_promise by call.cover call.stage call.events p
  other_promise caller call (event.FullDone by) may other p = full_promise by caller may call.cover call.stage call.events p
  other_promise caller call (event.Op by op again end indexes) may other p = same_call (event.Op by op again end indexes) call.cover call.stage tt p
  other_promise caller call (event.Refused by target answer) may other p = same_call (event.Refused by target answer) call.cover call.stage tt p
  other_promise caller call (event.Log by sub ino end datasync) may other p = same_call (event.Log by sub ino end datasync) call.cover call.stage tt p
  other_promise caller call (event.Ask by) may other p = same_call (event.Ask by) call.cover call.stage tt p
  other_promise caller call (event.SealSub by sub number) may other p = same_call (event.SealSub by sub number) call.cover call.stage tt p
  other_promise caller call (event.SubWritten by sub number) may other p = same_call (event.SubWritten by sub number) call.cover call.stage tt p
  other_promise caller call (event.SealRoot by) may other p = same_call (event.SealRoot by) call.cover call.stage tt p
  other_promise caller call (event.SealFull by) may other p = same_call (event.SealFull by) call.cover call.stage tt p
  other_promise caller call (event.Failed by turn tried) may other p = same_call (event.Failed by turn tried) call.cover call.stage other p
  other_promise caller call (event.GiveUp by sub number) may other p = same_call (event.GiveUp by sub number) call.cover call.stage tt p

  -- ---- the caller's own events

  module _ (caller : ℕ) where
    -- the first event of a call is its only one
    begins_one : (call : Call) (e : Event) → (asked call state.failures).events ≡ 1 → IsDone state caller Begins e → (after_own state caller call e).events ≡ 1
    begins_one call _ asks (Operates op end indexes) = refl
    begins_one call _ asks (Refuses answer) = refl
    begins_one call _ asks (Logs end datasync) = refl
    begins_one call _ asks AsksFirst = asks

    ticket_stays : (e : Event) (sub number : ℕ) (part new : Part) → IsKept e fsync.caller → OpenPromise id log fsync (HasTicket sub number part) → OpenPromise id (log_after state e id log) fsync (HasTicket sub number new)
    ticket_stays e sub number part new kept p = (p.0, p.1, in_log_stays fsync state e id log kept p.2)

    unsealed_promise : (sub number events : ℕ) (stops is_open : Bool) (e : Event) → OpenPromise id log fsync (HasTicket sub number Unsealed) → IsDone state caller (cond stops Asks (cond is_open (SealsSub sub number) SealsRoot)) e
        → Promise id (log_after state e id log) fsync (after_own state caller (record { stage = HasTicket sub number Unsealed; cover = covers.Open; events = events }) e)
    unsealed_promise sub number events true is_open _ p AsksForFull = p.2
    unsealed_promise sub number events false true _ p (SealsPart own own_number) = ticket_stays (event.SealSub caller (record { 0 = sub }) number) sub number Unsealed Sealed tt p
    unsealed_promise sub number events false false _ p SealsLogs = ticket_stays (event.SealRoot caller) sub number Unsealed InRoot tt p

    sealed_promise : (sub number events : ℕ) (e : Event) → OpenPromise id log fsync (HasTicket sub number Sealed) → IsDone state caller (EndsPart sub number) e
        → Promise id (log_after state e id log) fsync (after_own state caller (record { stage = HasTicket sub number Sealed; cover = covers.Open; events = events }) e)
    sealed_promise sub number events _ p (PartWritten own own_number none) = ticket_stays (event.SubWritten caller (record { 0 = sub }) number) sub number Sealed Written tt p
    sealed_promise sub number events _ p (PartGivenUp own own_number some) = ticket_stays (event.GiveUp caller (record { 0 = sub }) number) sub number Sealed GaveUp tt p
    sealed_promise sub number events _ p (PartFailed own own_number) = inl refl

    written_promise : (sub number events : ℕ) (stops : Bool) (e : Event) → OpenPromise id log fsync (HasTicket sub number Written) → IsDone state caller (cond stops (GivesUp sub number) SealsRoot) e
        → Promise id (log_after state e id log) fsync (after_own state caller (record { stage = HasTicket sub number Written; cover = covers.Open; events = events }) e)
    written_promise sub number events true _ p (GivesSlotUp own own_number) = ticket_stays (event.GiveUp caller (record { 0 = sub }) number) sub number Written GaveUp tt p
    written_promise sub number events false _ p SealsLogs = ticket_stays (event.SealRoot caller) sub number Written InRoot tt p

    rooted_promise : (sub number events : ℕ) (e : Event) → is_taken state.root sub number ≡ true → OpenPromise id log fsync (HasTicket sub number InRoot) → IsDone state caller EndsRoot e
        → Promise id (log_after state e id log) fsync (after_own state caller (record { stage = HasTicket sub number InRoot; cover = covers.Open; events = events }) e)
    rooted_promise sub number events _ taken p RootWritten = (tt, root_acknowledges fsync state caller id number log p.1 (ap (λ i. is_taken state.root i number) (sym p.0) ∙ taken) p.2)
    rooted_promise sub number events _ taken p (RootFailed tried) = inl refl

    gave_up_promise : (sub number events : ℕ) (e : Event) → OpenPromise id log fsync (HasTicket sub number GaveUp) → IsDone state caller Asks e
        → Promise id (log_after state e id log) fsync (after_own state caller (record { stage = HasTicket sub number GaveUp; cover = covers.Open; events = events }) e)
    gave_up_promise sub number events _ p AsksForFull = p.2

    commits_promise : (reason : Rattle.flat_model.specs.declared.answer.Reason.Reason) (sealed : Bool) (events : ℕ) (e : Event) → MayCome state e → IsInLog log fsync → IsDone state caller (want_duty sealed) e
        → Promise id (log_after state e id log) fsync (after_own state caller (record { stage = Commits reason sealed; cover = covers.Open; events = events }) e)
    commits_promise reason true events _ may p FullWritten = let there = facts.sealed_there may.commit may.runs id log has in (tt, full_acknowledges fsync state caller id log there.0 there.1 p)
    commits_promise reason true events _ may p (FullFailed tried) = inl refl
    commits_promise reason false events _ may p SealsVolume = p

    own_promise : (cover : Cover) (stage : Stage) (events count : ℕ) (e : Event) → MayCome state e → ((sub number : ℕ) → cover ≡ covers.Open → stage ≡ HasTicket sub number InRoot → is_taken state.root sub number ≡ true) → CoverPromise id log fsync cover stage
        → IsDone state caller (duty state (record { stage = stage; cover = cover; events = events })) e → (after_own state caller (record { stage = stage; cover = cover; events = events }) e).events ≡ 2 + count
        → Promise id (log_after state e id log) fsync (after_own state caller (record { stage = stage; cover = cover; events = events }) e)
    own_promise covers.Open (Ended None) events count e may taken p does more = absurd p
    own_promise covers.Open (Ended (Some answer)) events count e may taken p does more = absurd (let one = begins_one (record { stage = Ended (Some answer); cover = covers.Open; events = events }) e refl does in omega (arith, one, more))
    own_promise covers.Open (WasShort op sealed) events count e may taken p does more = absurd p
    own_promise covers.Open (Syncs sealed) events count e may taken p does more = absurd p
    own_promise covers.Open (Commits reason sealed) events count e may taken p does more = commits_promise reason sealed events e may p does
    own_promise covers.Open (HasTicket sub number Unsealed) events count e may taken p does more = unsealed_promise sub number events (is_stopped state sub number) (is_open_number state sub number) e p does
    own_promise covers.Open (HasTicket sub number Sealed) events count e may taken p does more = sealed_promise sub number events e p does
    own_promise covers.Open (HasTicket sub number Written) events count e may taken p does more = written_promise sub number events (is_stopped state sub number) e p does
    own_promise covers.Open (HasTicket sub number InRoot) events count e may taken p does more = rooted_promise sub number events e (taken sub number refl refl) p does
    own_promise covers.Open (HasTicket sub number GaveUp) events count e may taken p does more = gave_up_promise sub number events e p does
    own_promise covers.Root (Ended answer) events count e may taken p does more = absurd p.0
    own_promise covers.Root (WasShort op sealed) events count e may taken p does more = absurd p.0
    own_promise covers.Root (Syncs sealed) events count e may taken p does more = absurd p.0
    own_promise covers.Root (HasTicket sub number part) events count e may taken p does more = absurd (let one = begins_one (record { stage = HasTicket sub number part; cover = covers.Root; events = events }) e refl does in omega (arith, one, more))
    own_promise covers.Root (Commits reason sealed) events count e may taken p does more = absurd (let one = begins_one (record { stage = Commits reason sealed; cover = covers.Root; events = events }) e refl does in omega (arith, one, more))
    own_promise covers.Full (Ended answer) events count e may taken p does more = absurd p.0
    own_promise covers.Full (WasShort op sealed) events count e may taken p does more = absurd p.0
    own_promise covers.Full (Syncs sealed) events count e may taken p does more = absurd p.0
    own_promise covers.Full (HasTicket sub number part) events count e may taken p does more = absurd (let one = begins_one (record { stage = HasTicket sub number part; cover = covers.Full; events = events }) e refl does in omega (arith, one, more))
    own_promise covers.Full (Commits reason sealed) events count e may taken p does more = absurd (let one = begins_one (record { stage = Commits reason sealed; cover = covers.Full; events = events }) e refl does in omega (arith, one, more))

-- ---- how many events a call has

covered_events : (b : Bool) (by : Cover) (call : Call) → (covered_by b by call).events ≡ call.events
covered_events b by call = at call.cover
  where
    at : (cover : Cover) → (covered_by b by (record { stage = call.stage; cover = cover; events = call.events })).events ≡ call.events
    at covers.Open = refl
    at covers.Root = refl
    at covers.Full = refl

pub other_events : (state : State) (caller : ℕ) (call : Call) (e : Event) → (after_other state caller call e).events ≡ call.events
other_events state caller call (event.RootDone by) = covered_events (is_covered_by_root state call.stage) covers.Root call
other_events state caller call (event.FullDone by) = covered_events (is_covered_by_full state caller call.stage) covers.Full call
other_events state caller call (event.Op by op again end indexes) = refl
other_events state caller call (event.Refused by target answer) = refl
other_events state caller call (event.Log by sub ino end datasync) = refl
other_events state caller call (event.Ask by) = refl
other_events state caller call (event.SealSub by sub number) = refl
other_events state caller call (event.SubWritten by sub number) = refl
other_events state caller call (event.SealRoot by) = refl
other_events state caller call (event.SealFull by) = refl
other_events state caller call (event.Failed by turn tried) = refl
other_events state caller call (event.GiveUp by sub number) = refl

-- an event of its own is the first of a call, or one more
pub own_events : (state : State) (caller : ℕ) (call : Call) (e : Event) → ((after_own state caller call e).events ≡ 1) ⊎ ((after_own state caller call e).events ≡ call.events + 1)
own_events state caller call (event.Op by op true end indexes) = inr refl
own_events state caller call (event.Op by op false end indexes) = inl refl
own_events state caller call (event.Refused by target answer) = inl refl
own_events state caller call (event.Log by sub ino end datasync) = inl refl
own_events state caller call (event.Ask by) = at call.cover call.stage
  where
    at : (cover : Cover) (stage : Stage) → ((asked (record { stage = stage; cover = cover; events = call.events }) state.failures).events ≡ 1) ⊎ ((asked (record { stage = stage; cover = cover; events = call.events }) state.failures).events ≡ call.events + 1)
    at cover (Ended answer) = inl refl
    at cover (WasShort op sealed) = inl refl
    at cover (Commits reason sealed) = inl refl
    at cover (Syncs sealed) = inl refl
    at covers.Open (HasTicket sub number part) = inr refl
    at covers.Root (HasTicket sub number part) = inl refl
    at covers.Full (HasTicket sub number part) = inl refl
own_events state caller call (event.SealSub by sub number) = inr refl
own_events state caller call (event.SubWritten by sub number) = inr refl
own_events state caller call (event.SealRoot by) = inr refl
own_events state caller call (event.RootDone by) = inr (ap (λ n. n + 1) (covered_events true covers.Root call))
own_events state caller call (event.SealFull by) = inr refl
own_events state caller call (event.FullDone by) = inr (ap (λ n. n + 1) (covered_events true covers.Full call))
own_events state caller call (event.Failed by turn tried) = inr refl
own_events state caller call (event.GiveUp by sub number) = inr refl

-- ---- over a list of events

-- what holds where a legal list that follows the rules goes on
pub record Continues (volume : Volume) (state : State) (calls : ℕ → Call) (events : List Event) : Type 0 where
  pub reached : IsReached volume state
  pub stands : Stands state (roles_of calls)
  pub sane : (caller : ℕ) → IsSane (calls caller)
  pub legal : IsLegalFrom state events
  pub follows : FollowsRules state calls events

pub starts : (volume : Volume) → IsCoherentVolume volume → (events : List Event) → IsLegal volume events → IsRuled volume events → Continues volume (mounted_state volume) (λ c. no_call) events
starts volume coherent events legal ruled = record { reached = record { past = []; legal = tt; is = refl }; stands = mounted_stands volume coherent; sane = λ c. refl; legal = legal; follows = ruled }

module _ (volume : Volume) (coherent : IsCoherentVolume volume) where
  pub one_further : (state : State) (calls : ℕ → Call) (e : Event) (events : List Event) → Continues volume state calls (e ∷ events) → Continues volume (after state e) (calls_after state calls e) events
  one_further state calls e events on = record {
    reached = reached_more volume state e on.reached on.legal.0;
    stands = step_stands state calls e (known volume coherent state on.reached) on.stands on.legal.0 on.follows.0;
    sane = step_sane state calls e on.sane on.legal.0 on.follows.0;
    legal = on.legal.1;
    follows = on.follows.1;
  }

  pub further : (front back : List Event) (state : State) (calls : ℕ → Call) → Continues volume state calls (front ++ back) → Continues volume (after_events state front) (λ caller. call_after_all state caller (calls caller) front) back
  further [] back state calls on = on
  further (e ∷ front) back state calls on = further front back (after state e) (calls_after state calls e) (one_further state calls e (front ++ back) on)

  pub events_split : (front back : List Event) (state : State) → after_events state (front ++ back) ≡ after_events (after_events state front) back
  events_split [] back state = refl
  events_split (e ∷ front) back state = events_split front back (after state e)

  pub call_split : (front back : List Event) (state : State) (caller : ℕ) (call : Call) → call_after_all state caller call (front ++ back) ≡ call_after_all (after_events state front) caller (call_after_all state caller call front) back
  call_split [] back state caller call = refl
  call_split (e ∷ front) back state caller call = call_split front back (after state e) caller (call_after state caller call e)

  module _ (id : ℕ) (fsync : Synced) where
    abbrev IsPromised : State → Call → ℕ → Type 0
    IsPromised state call count = (log : SubLog) → HasLog state id log → call.events ≡ 1 + count → Promise id log fsync call

    -- an event of another caller keeps a promise
    other_kept : (state : State) (calls : ℕ → Call) (e : Event) (count : ℕ) → Known state → MayCome state e → fsync.caller ≢ caller_of e → IsPromised state (calls fsync.caller) count → IsPromised (after state e) (calls_after state calls e fsync.caller) count
    other_kept state calls e count facts may other promised new has same =
        let old = log_before state e id new has in
        let is = call_of_other state fsync.caller (calls fsync.caller) e other in
        let kept = other_events state fsync.caller (calls fsync.caller) e in
        let moved : (calls_after state calls e fsync.caller).events ≡ (calls fsync.caller).events = ap (λ (c : Call). c.events) is ∙ kept in
        subst (Promise id new fsync) (sym is) (subst (λ l. Promise id l fsync (after_other state fsync.caller (calls fsync.caller) e)) (sym old.2)
        (other_promise id fsync state old.0 old.1 facts fsync.caller (calls fsync.caller) e may other (promised old.0 old.1 (sym moved ∙ same))))

    -- an event of its own keeps it too, unless it begins another call
    own_kept : (state : State) (calls : ℕ → Call) (e : Event) (count : ℕ) → Known state → Stands state (roles_of calls) → MayCome state e → fsync.caller ≡ caller_of e → IsDone state fsync.caller (duty state (calls fsync.caller)) e
        → IsPromised state (calls fsync.caller) count → IsPromised (after state e) (calls_after state calls e fsync.caller) (count + 1)
    own_kept state calls e count facts stands may own does promised new has same =
        let caller = fsync.caller in
        let old = log_before state e id new has in
        let is : calls_after state calls e caller ≡ after_own state caller (calls caller) e = ap (λ b. cond b (after_own state caller (calls caller) e) (after_other state caller (calls caller) e)) (eq-eqb caller (caller_of e) own) in
        let total : (after_own state caller (calls caller) e).events ≡ 1 + (count + 1) = sym (ap (λ (c : Call). c.events) is) ∙ same in
        let before : (calls caller).events ≡ 1 + count = elim (own_events state caller (calls caller) e) [ inl one ↦ absurd (omega (arith, one, total)) | inr more ↦ omega (arith, more, total) ] in
        subst (Promise id new fsync) (sym is) (subst (λ l. Promise id l fsync (after_own state caller (calls caller) e)) (sym old.2)
        (own_promise id fsync state old.0 old.1 facts caller (calls caller).cover (calls caller).stage (calls caller).events count e may (taken_by (calls caller) refl) (promised old.0 old.1 before) does (omega (arith, total))))
      where
        taken_by : (call : Call) → calls fsync.caller ≡ call → (sub number : ℕ) → call.cover ≡ covers.Open → call.stage ≡ HasTicket sub number InRoot → is_taken state.root sub number ≡ true
        taken_by call same_call sub number is_open in_root =
            let role_is : roles_of calls fsync.caller ≡ Holds sub number InRoot = ap role_of same_call ∙ ap (λ (c : Cover). role_of (record { stage = call.stage; cover = c; events = call.events })) is_open ∙ ap (λ (s : Stage). role_of (record { stage = s; cover = covers.Open; events = call.events })) in_root in
            let turn = (subst (Rattle.commit_laws.proofs.Standing.Own state fsync.caller) role_is (stands.own fsync.caller)).1 in
            let held = stands.root_held turn.commit turn.runs in
            let at : roles_of calls fsync.caller ≡ Holds held.sub held.number InRoot = ap (roles_of calls) (sym turn.own) ∙ held.is in
            let one : sub ≡ held.sub = cc in
            let two : number ≡ held.number = cc in
            ap (λ o. is_taken o sub number) turn.runs ∙ ap (λ s. is_taken (Some turn.commit) s number) one ∙ ap (is_taken (Some turn.commit) held.sub) two ∙ held.taken

    all_kept : (back : List Event) (state : State) (calls : ℕ → Call) (count : ℕ) → Continues volume state calls back → IsPromised state (calls fsync.caller) count → (new : SubLog) → HasLog (after_events state back) id new
        → (call_after_all state fsync.caller (calls fsync.caller) back).events ≡ 1 + (count + events_by fsync.caller back) → Promise id new fsync (call_after_all state fsync.caller (calls fsync.caller) back)
    all_kept [] state calls count on promised new has same = promised new has (omega (arith, same))
    all_kept (e ∷ back) state calls count on promised new has same = elim (cases_eq fsync.caller (caller_of e)) [
      | inl own ↦
          let counted : events_by fsync.caller (e ∷ back) ≡ 1 + events_by fsync.caller back = ap (λ b. cond b (1 + events_by fsync.caller back) (events_by fsync.caller back)) (eq-eqb fsync.caller (caller_of e) own) in
          all_kept back (after state e) (calls_after state calls e) (count + 1) (one_further state calls e back on)
          (own_kept state calls e count (known volume coherent state on.reached) on.stands on.legal.0 own (subst (λ c. IsDone state c (duty state (calls c)) e) (sym own) on.follows.0) promised) new has (omega (arith, same, counted))
      | inr other ↦
          let counted : events_by fsync.caller (e ∷ back) ≡ events_by fsync.caller back = ap (λ b. cond b (1 + events_by fsync.caller back) (events_by fsync.caller back)) (ne_eqb fsync.caller (caller_of e) other) in
          all_kept back (after state e) (calls_after state calls e) count (one_further state calls e back on)
          (other_kept state calls e count (known volume coherent state on.reached) on.legal.0 other promised) new has (omega (arith, same, counted))
    ]

  -- ---- the log step that begins it

  module _ (caller : ℕ) (sub : SubId) (ino : Ino) (datasync : Bool) where
    begun_promise : (state : State) (call : Call) (end : Logged) (old : SubLog) → HasLog state sub.0 old → MayLog state sub.0 ino.0 end datasync → (new : SubLog) → HasLog (after state (event.Log caller sub ino end datasync)) sub.0 new
        → Promise sub.0 new (synced old caller state.point ino.0 datasync (number_given end)) (after_own state caller call (event.Log caller sub ino end datasync))
    begun_promise state call end old has may new there =
        let was = log_before state (event.Log caller sub ino end datasync) sub.0 new there in
        let same : was.0 ≡ old = some_same was.0 old (sym was.1 ∙ has) in
        let is : new ≡ log_after_step old may.run.sub caller state.point ino.0 end datasync =
        was.2 ∙ ap (log_after state (event.Log caller sub ino end datasync) sub.0) same
        ∙ ap (λ b. cond b (log_stepped (get state.current sub.0) old caller state.point ino.0 end datasync) old) (eq-eqb sub.0 sub.0 refl)
        ∙ ap (λ o. log_stepped o old caller state.point ino.0 end datasync) may.current in
        subst (λ l. Promise sub.0 l (synced old caller state.point ino.0 datasync (number_given end)) (after_own state caller call (event.Log caller sub ino end datasync))) (sym is) (stepped end may.run)
      where
        stepped : (x : Logged) (run : RunSub) → Promise sub.0 (log_after_step old run.sub caller state.point ino.0 x datasync) (synced old caller state.point ino.0 datasync (number_given x)) (after_own state caller call (event.Log caller sub ino x datasync))
        stepped logged.Already run = inr (contains_head (synced old caller state.point ino.0 datasync None) old.acknowledged)
        stepped (logged.Ticket number) run = (refl, refl, inl (contains_head (synced old caller state.point ino.0 datasync (Some number)) old.waiting))
        stepped (logged.Full reason) run = inl (contains_head (synced old caller state.point ino.0 datasync None) old.waiting)

    pub acknowledged_once_answered : (front back : List Event) (end : Logged) (old new : SubLog) (answer : Answer) → HasAnswered volume front (event.Log caller sub ino end datasync) back answer → is_durable answer ≡ true
        → HasLog (state_of volume front) sub.0 old → HasLog (state_of volume (front ++ event.Log caller sub ino end datasync ∷ back)) sub.0 new → Contains new.acknowledged (synced old caller (state_of volume front).point ino.0 datasync (number_given end))
    acknowledged_once_answered front back end old new answer has_answered durable has there =
        let step : Event = event.Log caller sub ino end datasync in
        let start : Continues volume (mounted_state volume) (λ c. no_call) (front ++ step ∷ back) = starts volume coherent (front ++ step ∷ back) has_answered.legal has_answered.ruled in
        let state : State = state_of volume front in
        let calls : ℕ → Call = λ c. call_after_all (mounted_state volume) c no_call front in
        let on : Continues volume state calls (step ∷ back) = further front (step ∷ back) (mounted_state volume) (λ c. no_call) start in
        let fsync : Synced = synced old caller state.point ino.0 datasync (number_given end) in
        let begun : calls_after state calls step caller ≡ after_own state caller (calls caller) step = ap (λ b. cond b (after_own state caller (calls caller) step) (after_other state caller (calls caller) step)) (eq-eqb caller caller refl) in
        let split : call_of volume (front ++ step ∷ back) caller ≡ call_after_all (after state step) caller (calls_after state calls step caller) back = call_split front (step ∷ back) (mounted_state volume) caller no_call in
        let still = has_answered.still in
        let promise = all_kept sub.0 fsync back (after state step) (calls_after state calls step) 0 (one_further state calls step back on)
        (λ log at one. subst (Promise sub.0 log fsync) (sym begun) (begun_promise state (calls caller) end old has on.legal.0 log at))
        new (subst (λ s. HasLog s sub.0 new) (events_split front (step ∷ back) (mounted_state volume)) there) (let e = ap (λ (c : Call). c.events) split in omega (arith, e, still)) in
        promise_kept sub.0 new fsync (call_after_all (after state step) caller (calls_after state calls step caller) back) answer promise (ap answer_of (sym split) ∙ has_answered.answered) durable

    -- the log of the step
    pub log_of_step : (front back : List Event) (end : Logged) (answer : Answer) → HasAnswered volume front (event.Log caller sub ino end datasync) back answer → (old : SubLog) × HasLog (state_of volume front) sub.0 old
    log_of_step front back end answer has_answered =
        let step : Event = event.Log caller sub ino end datasync in
        let on = further front (step ∷ back) (mounted_state volume) (λ c. no_call) (starts volume coherent (front ++ step ∷ back) has_answered.legal has_answered.ruled) in
        (on.legal.0.log, on.legal.0.of_sub)
