-- What a caller's call holds, and how events change it.
use Rattle.std.proofs.Common.{◌≡◌, ℕ, Bool, true, false, cond, ◌||◌, refl, sym, ap, subst, ◌∙◌}
use Rattle.std.specs.Bool.{nat_eq, ⊤}
use Rattle.std.specs.List.{list_any}
use Rattle.flat_model.specs.declared.op.Op.{Op}
use Rattle.commit_history.specs.declared.event.Event.{Event}
use Rattle.commit_history.specs.declared.event.Event.TheVariants as event
use Rattle.commit_history.specs.declared.event.Cover.{Cover}
use Rattle.commit_history.specs.declared.event.Cover.TheVariants as covers
use Rattle.commit_history.specs.declared.event.Logged.{Logged}
use Rattle.commit_history.specs.declared.event.Logged.TheVariants as logged
use Rattle.commit_history.specs.declared.event.OpEnd.{OpEnd}
use Rattle.commit_history.specs.declared.event.OpEnd.TheVariants as ends
use Rattle.commit_history.specs.State.{State, is_taken}
use Rattle.commit_history.specs.Effects.{has_ticket, wants_at_seal}
use Rattle.commit_history.specs.Calls.{Part, Unsealed, Sealed, Written, InRoot, GaveUp, Stage, Ended, WasShort, HasTicket, Commits, Syncs, Call, asked, with_seal, covered_by, is_covered_by_root, is_covered_by_full, after_own, after_other, Begins, TriesAgain, EndsPart, EndsRoot, SealsSub, SealsRoot, GivesUp, Asks, is_stopped, is_open_number, want_duty, duty, IsDone, Operates, Refuses, Logs, AsksFirst, OperatesAgain, PartWritten, PartGivenUp, PartFailed, RootWritten, RootFailed, FullWritten, FullFailed, SealsPart, SealsLogs, SealsVolume, GivesSlotUp, AsksForFull}

-- nothing, a ticket that isn't covered, or a want of a full commit, `sealed` where the call runs it
pub data Role : Type 0 where
  Idle : Role
  Holds : (sub number : ℕ) (part : Part) → Role
  Wants : (sealed : Bool) → Role

abbrev pub stage_role : Stage → Role
stage_role (Ended answer) = Idle
stage_role (WasShort op sealed) = Wants sealed
stage_role (HasTicket sub number part) = Holds sub number part
stage_role (Commits reason sealed) = Wants sealed
stage_role (Syncs sealed) = Wants sealed

abbrev pub cover_role : Cover → Stage → Role
cover_role covers.Open stage = stage_role stage
cover_role covers.Root stage = Idle
cover_role covers.Full stage = Idle

abbrev pub role_of : Call → Role
role_of call = cover_role call.cover call.stage

-- ---- the events of other callers

abbrev pub root_role : State → Role → Role
root_role state Idle = Idle
root_role state (Holds sub number part) = cond (is_taken state.root sub number) Idle (Holds sub number part)
root_role state (Wants sealed) = Wants sealed

abbrev pub full_role : State → ℕ → Role → Role
full_role state caller Idle = Idle
full_role state caller (Holds sub number part) = Idle
full_role state caller (Wants sealed) = cond (list_any (nat_eq caller) (wants_at_seal state.full) || has_ticket state.tickets caller) Idle (Wants sealed)

abbrev pub other_role : State → ℕ → Event → Role → Role
other_role state caller (event.RootDone by) role = root_role state role
other_role state caller (event.FullDone by) role = full_role state caller role
other_role state caller (event.Op by op again end indexes) role = role
other_role state caller (event.Refused by target answer) role = role
other_role state caller (event.Log by sub ino end datasync) role = role
other_role state caller (event.Ask by) role = role
other_role state caller (event.SealSub by sub number) role = role
other_role state caller (event.SubWritten by sub number) role = role
other_role state caller (event.SealRoot by) role = role
other_role state caller (event.SealFull by) role = role
other_role state caller (event.Failed by turn tried) role = role
other_role state caller (event.GiveUp by sub number) role = role

-- a cover of an open call leaves it idle
cover_if : (b : Bool) (by : Cover) (stage : Stage) → cover_role by stage ≡ Idle → cover_role (cond b by covers.Open) stage ≡ cond b Idle (stage_role stage)
cover_if true by stage idle = idle
cover_if false by stage idle = refl

root_other : (state : State) (cover : Cover) (stage : Stage) (events : ℕ)
    → role_of (covered_by (is_covered_by_root state stage) covers.Root (record { stage = stage; cover = cover; events = events })) ≡ root_role state (cover_role cover stage)
root_other state covers.Root stage events = refl
root_other state covers.Full stage events = refl
root_other state covers.Open (Ended answer) events = refl
root_other state covers.Open (WasShort op sealed) events = refl
root_other state covers.Open (HasTicket sub number part) events = cover_if (is_taken state.root sub number) covers.Root (HasTicket sub number part) refl
root_other state covers.Open (Commits reason sealed) events = refl
root_other state covers.Open (Syncs sealed) events = refl

full_other : (state : State) (caller : ℕ) (cover : Cover) (stage : Stage) (events : ℕ)
    → role_of (covered_by (is_covered_by_full state caller stage) covers.Full (record { stage = stage; cover = cover; events = events })) ≡ full_role state caller (cover_role cover stage)
full_other state caller covers.Root stage events = refl
full_other state caller covers.Full stage events = refl
full_other state caller covers.Open (Ended answer) events = refl
full_other state caller covers.Open (HasTicket sub number part) events = refl
full_other state caller covers.Open (WasShort op sealed) events = cover_if (list_any (nat_eq caller) (wants_at_seal state.full) || has_ticket state.tickets caller) covers.Full (WasShort op sealed) refl
full_other state caller covers.Open (Commits reason sealed) events = cover_if (list_any (nat_eq caller) (wants_at_seal state.full) || has_ticket state.tickets caller) covers.Full (Commits reason sealed) refl
full_other state caller covers.Open (Syncs sealed) events = cover_if (list_any (nat_eq caller) (wants_at_seal state.full) || has_ticket state.tickets caller) covers.Full (Syncs sealed) refl

pub role_other : (state : State) (caller : ℕ) (call : Call) (e : Event) → role_of (after_other state caller call e) ≡ other_role state caller e (role_of call)
role_other state caller call (event.RootDone by) = root_other state call.cover call.stage call.events
role_other state caller call (event.FullDone by) = full_other state caller call.cover call.stage call.events
role_other state caller call (event.Op by op again end indexes) = refl
role_other state caller call (event.Refused by target answer) = refl
role_other state caller call (event.Log by sub ino end datasync) = refl
role_other state caller call (event.Ask by) = refl
role_other state caller call (event.SealSub by sub number) = refl
role_other state caller call (event.SubWritten by sub number) = refl
role_other state caller call (event.SealRoot by) = refl
role_other state caller call (event.SealFull by) = refl
role_other state caller call (event.Failed by turn tried) = refl
role_other state caller call (event.GiveUp by sub number) = refl

-- ---- a caller's own events

-- the part of a ticket that holds no slot and no turn
abbrev pub IsLoosePart : Part → Type 0
IsLoosePart Unsealed = ⊤
IsLoosePart Sealed = ⊥
IsLoosePart Written = ⊥
IsLoosePart InRoot = ⊥
IsLoosePart GaveUp = ⊤

-- a call that holds no slot, no turn and no want
abbrev pub IsLoose : Role → Type 0
IsLoose Idle = ⊤
IsLoose (Holds sub number part) = IsLoosePart part
IsLoose (Wants sealed) = ⊥

abbrev pub op_role : Bool → OpEnd → Role
op_role again (ends.Answered answer) = Idle
op_role again (ends.Short free need) = cond again Idle (Wants false)

abbrev pub log_role : ℕ → Logged → Role
log_role sub logged.Already = Idle
log_role sub (logged.Ticket number) = Holds sub number Unsealed
log_role sub (logged.Full reason) = Wants false

-- the parts from which a root commit may be begun: without a slot of its own, or with a slot that is written
abbrev pub BeginsRoot : Part → Type 0
BeginsRoot Unsealed = ⊤
BeginsRoot Sealed = ⊥
BeginsRoot Written = ⊤
BeginsRoot InRoot = ⊥
BeginsRoot GaveUp = ⊥

-- the parts with a slot outside a root commit
abbrev pub HasOwnSlot : Part → Type 0
HasOwnSlot Unsealed = ⊥
HasOwnSlot Sealed = ⊤
HasOwnSlot Written = ⊤
HasOwnSlot InRoot = ⊥
HasOwnSlot GaveUp = ⊥

pub record SealsRootFrom (old new : Role) : Type 0 where
  pub sub : ℕ
  pub number : ℕ
  pub part : Part
  pub was : old ≡ Holds sub number part
  pub begins : BeginsRoot part
  pub is : new ≡ Holds sub number InRoot

pub record EndsRootFrom (old new : Role) : Type 0 where
  pub sub : ℕ
  pub number : ℕ
  pub was : old ≡ Holds sub number InRoot
  pub is : new ≡ Idle

pub record GivesUpFrom (sub number : ℕ) (old new : Role) : Type 0 where
  pub part : Part
  pub was : old ≡ Holds sub number part
  pub own : HasOwnSlot part
  pub is : new ≡ Holds sub number GaveUp

-- what an event makes of its caller's role
abbrev pub Acts : Event → Role → Role → Type 0
Acts (event.Op by op again end indexes) old new = (old ≡ Idle) × (new ≡ op_role again end)
Acts (event.Refused by target answer) old new = (old ≡ Idle) × (new ≡ Idle)
Acts (event.Log by sub ino end datasync) old new = (old ≡ Idle) × (new ≡ log_role sub.0 end)
Acts (event.Ask by) old new = IsLoose old × (new ≡ Wants false)
Acts (event.SealSub by sub number) old new = (old ≡ Holds sub.0 number Unsealed) × (new ≡ Holds sub.0 number Sealed)
Acts (event.SubWritten by sub number) old new = (old ≡ Holds sub.0 number Sealed) × (new ≡ Holds sub.0 number Written)
Acts (event.SealRoot by) old new = SealsRootFrom old new
Acts (event.RootDone by) old new = EndsRootFrom old new
Acts (event.SealFull by) old new = (old ≡ Wants false) × (new ≡ Wants true)
Acts (event.FullDone by) old new = (old ≡ Wants true) × (new ≡ Idle)
Acts (event.Failed by turn tried) old new = new ≡ Idle
Acts (event.GiveUp by sub number) old new = GivesUpFrom sub.0 number old new

module _ (state : State) (caller : ℕ) where
  begins_acts : (call : Call) (e : Event) → role_of call ≡ Idle → role_of (asked call state.failures) ≡ Wants false → IsDone state caller Begins e → Acts e (role_of call) (role_of (after_own state caller call e))
  begins_acts call _ idle asks (Operates op (ends.Answered answer) indexes) = (idle, refl)
  begins_acts call _ idle asks (Operates op (ends.Short free need) indexes) = (idle, refl)
  begins_acts call _ idle asks (Refuses answer) = (idle, refl)
  begins_acts call _ idle asks (Logs logged.Already datasync) = (idle, refl)
  begins_acts call _ idle asks (Logs (logged.Ticket number) datasync) = (idle, refl)
  begins_acts call _ idle asks (Logs (logged.Full reason) datasync) = (idle, refl)
  begins_acts call _ idle asks AsksFirst = (subst IsLoose (sym idle) tt, asks)

  again_acts : (op : Op) (call : Call) (e : Event) → role_of call ≡ Idle → IsDone state caller (TriesAgain op) e → Acts e (role_of call) (role_of (after_own state caller call e))
  again_acts op call _ idle (OperatesAgain own (ends.Answered answer) indexes) = (idle, refl)
  again_acts op call _ idle (OperatesAgain own (ends.Short free need) indexes) = (idle, refl)

  want_acts : (stage : Bool → Stage) → ((sealed : Bool) → stage_role (stage sealed) ≡ Wants sealed) → with_seal (stage false) ≡ stage true → (sealed : Bool) (events : ℕ) (e : Event)
      → IsDone state caller (want_duty sealed) e → Acts e (stage_role (stage sealed)) (role_of (after_own state caller (record { stage = stage sealed; cover = covers.Open; events = events }) e))
  want_acts stage roles seals true events _ FullWritten = (roles true, refl)
  want_acts stage roles seals true events _ (FullFailed tried) = refl
  want_acts stage roles seals false events _ SealsVolume = (roles false, ap stage_role seals ∙ roles true)

  unsealed_acts : (sub number events : ℕ) (stops is_open : Bool) (e : Event) → IsDone state caller (cond stops Asks (cond is_open (SealsSub sub number) SealsRoot)) e
      → Acts e (Holds sub number Unsealed) (role_of (after_own state caller (record { stage = HasTicket sub number Unsealed; cover = covers.Open; events = events }) e))
  unsealed_acts sub number events true is_open _ AsksForFull = (tt, refl)
  unsealed_acts sub number events false true _ (SealsPart own own_number) = (refl, refl)
  unsealed_acts sub number events false false _ SealsLogs = record { sub = sub; number = number; part = Unsealed; was = refl; begins = tt; is = refl }

  sealed_acts : (sub number events : ℕ) (e : Event) → IsDone state caller (EndsPart sub number) e → Acts e (Holds sub number Sealed) (role_of (after_own state caller (record { stage = HasTicket sub number Sealed; cover = covers.Open; events = events }) e))
  sealed_acts sub number events _ (PartWritten own own_number none) = (refl, refl)
  sealed_acts sub number events _ (PartGivenUp own own_number some) = record { part = Sealed; was = refl; own = tt; is = refl }
  sealed_acts sub number events _ (PartFailed own own_number) = refl

  written_acts : (sub number events : ℕ) (stops : Bool) (e : Event) → IsDone state caller (cond stops (GivesUp sub number) SealsRoot) e
      → Acts e (Holds sub number Written) (role_of (after_own state caller (record { stage = HasTicket sub number Written; cover = covers.Open; events = events }) e))
  written_acts sub number events true _ (GivesSlotUp own own_number) = record { part = Written; was = refl; own = tt; is = refl }
  written_acts sub number events false _ SealsLogs = record { sub = sub; number = number; part = Written; was = refl; begins = tt; is = refl }

  rooted_acts : (sub number events : ℕ) (e : Event) → IsDone state caller EndsRoot e → Acts e (Holds sub number InRoot) (role_of (after_own state caller (record { stage = HasTicket sub number InRoot; cover = covers.Open; events = events }) e))
  rooted_acts sub number events _ RootWritten = record { sub = sub; number = number; was = refl; is = refl }
  rooted_acts sub number events _ (RootFailed tried) = refl

  gave_up_acts : (sub number events : ℕ) (e : Event) → IsDone state caller Asks e → Acts e (Holds sub number GaveUp) (role_of (after_own state caller (record { stage = HasTicket sub number GaveUp; cover = covers.Open; events = events }) e))
  gave_up_acts sub number events _ AsksForFull = (tt, refl)

  own_acts : (cover : Cover) (stage : Stage) (events : ℕ) (e : Event) → IsDone state caller (duty state (record { stage = stage; cover = cover; events = events })) e
      → Acts e (cover_role cover stage) (role_of (after_own state caller (record { stage = stage; cover = cover; events = events }) e))
  own_acts covers.Open (Ended answer) events e does = begins_acts (record { stage = Ended answer; cover = covers.Open; events = events }) e refl refl does
  own_acts covers.Open (WasShort op sealed) events e does = want_acts (WasShort op) (λ b. refl) refl sealed events e does
  own_acts covers.Open (Commits reason sealed) events e does = want_acts (Commits reason) (λ b. refl) refl sealed events e does
  own_acts covers.Open (Syncs sealed) events e does = want_acts Syncs (λ b. refl) refl sealed events e does
  own_acts covers.Open (HasTicket sub number Unsealed) events e does = unsealed_acts sub number events (is_stopped state sub number) (is_open_number state sub number) e does
  own_acts covers.Open (HasTicket sub number Sealed) events e does = sealed_acts sub number events e does
  own_acts covers.Open (HasTicket sub number Written) events e does = written_acts sub number events (is_stopped state sub number) e does
  own_acts covers.Open (HasTicket sub number InRoot) events e does = rooted_acts sub number events e does
  own_acts covers.Open (HasTicket sub number GaveUp) events e does = gave_up_acts sub number events e does
  own_acts covers.Root (Ended answer) events e does = begins_acts (record { stage = Ended answer; cover = covers.Root; events = events }) e refl refl does
  own_acts covers.Root (WasShort op sealed) events e does = begins_acts (record { stage = WasShort op sealed; cover = covers.Root; events = events }) e refl refl does
  own_acts covers.Root (HasTicket sub number part) events e does = begins_acts (record { stage = HasTicket sub number part; cover = covers.Root; events = events }) e refl refl does
  own_acts covers.Root (Commits reason sealed) events e does = begins_acts (record { stage = Commits reason sealed; cover = covers.Root; events = events }) e refl refl does
  own_acts covers.Root (Syncs sealed) events e does = begins_acts (record { stage = Syncs sealed; cover = covers.Root; events = events }) e refl refl does
  own_acts covers.Full (Ended answer) events e does = begins_acts (record { stage = Ended answer; cover = covers.Full; events = events }) e refl refl does
  own_acts covers.Full (WasShort op sealed) events e does = again_acts op (record { stage = WasShort op sealed; cover = covers.Full; events = events }) e refl does
  own_acts covers.Full (HasTicket sub number part) events e does = begins_acts (record { stage = HasTicket sub number part; cover = covers.Full; events = events }) e refl refl does
  own_acts covers.Full (Commits reason sealed) events e does = begins_acts (record { stage = Commits reason sealed; cover = covers.Full; events = events }) e refl refl does
  own_acts covers.Full (Syncs sealed) events e does = begins_acts (record { stage = Syncs sealed; cover = covers.Full; events = events }) e refl refl does

  -- an event that the rules give a caller does this to its role
  pub role_acts : (call : Call) (e : Event) → IsDone state caller (duty state call) e → Acts e (role_of call) (role_of (after_own state caller call e))
  role_acts call e does = own_acts call.cover call.stage call.events e does
