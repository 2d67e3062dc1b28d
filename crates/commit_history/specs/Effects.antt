-- What each event does to the state.
use Rattle.std.specs.Prelude.{ℕ, ◌+◌, ◌-◌, ◌&&◌, ◌||◌, not, Bool, true, false, cond, List, [], ◌∷◌, ◌++◌, filter, map, fold, Option, Some, None, unwrap_or, nat_eq, nat_le}
use Rattle.std.specs.List.{list_any}
use Rattle.std.specs.FinMap.{FinMap, get, insert}
use Rattle.std.specs.Ordering.{nat_cmp}
use Rattle.flat_model.specs.declared.op.Op.{Op}
use Rattle.flat_model.specs.Volume.{Subvolume, Volume, RunVolume, RunSub, volume_of}
use Rattle.flat_model.specs.Step.{step}
use Rattle.logged_volume.specs.Agreement.{is_there}
use Rattle.logged_volume.specs.LogStep.{log_step}
use Rattle.commit_history.specs.declared.event.Event.{Event}
use Rattle.commit_history.specs.declared.event.Event.TheVariants as event
use Rattle.commit_history.specs.declared.event.Logged.{Logged}
use Rattle.commit_history.specs.declared.event.Logged.TheVariants as logged
use Rattle.commit_history.specs.declared.event.OpEnd.{OpEnd}
use Rattle.commit_history.specs.declared.event.OpEnd.TheVariants as ends
use Rattle.commit_history.specs.State.{Slot, Synced, SubLog, Ticket, RootCommit, FullCommit, State, changed, greatest_ready, is_taken, number_taken, mounted_state}

-- ---- one subvolume

-- whether an fsync or fdatasync of the inode counts for its names: an fdatasync does where the logged volume lacks the inode (own)
abbrev pub counts_for_names : Subvolume → ℕ → Bool → Bool
counts_for_names logged ino datasync = not (datasync && is_there logged ino)

-- an fsync whose log step ended so, with the number that covers it
abbrev pub synced : SubLog → ℕ → ℕ → ℕ → Bool → Option ℕ → Synced
synced log caller point ino datasync number =
    record { caller = caller; ino = ino; point = point; names = counts_for_names log.logged ino datasync; number = number }

-- The log after a log step. One that is done already is acknowledged at once. One that gives a ticket has written its items. One
-- that gives way to a full commit has written nothing (own).
abbrev pub log_after_step : SubLog → Subvolume → ℕ → ℕ → ℕ → Logged → Bool → SubLog
log_after_step log current caller point ino logged.Already datasync =
    record log { acknowledged = synced log caller point ino datasync None ∷ log.acknowledged }
log_after_step log current caller point ino (logged.Ticket number) datasync =
    record log { logged = log_step current log.logged ino datasync; undurable = Some number; waiting = synced log caller point ino datasync (Some number) ∷ log.waiting }
log_after_step log current caller point ino (logged.Full reason) datasync =
    record log { waiting = synced log caller point ino datasync None ∷ log.waiting }

-- the log after the seal of its open number (own)
abbrev pub log_sealed : SubLog → ℕ → ℕ → SubLog
log_sealed log caller number = record log {
  open_number = number + 1;
  sealed = insert log.sealed number log.logged;
  slots = record { number = number; holder = caller; written = false } ∷ log.slots;
}

-- the slots, where that of this number is written
abbrev pub slots_written : List Slot → ℕ → List Slot
slots_written slots number = map (λ (slot : Slot). cond (nat_eq slot.number number) (record slot { written = true }) slot) slots

-- the slots without that of this number
abbrev pub slots_without : List Slot → ℕ → List Slot
slots_without slots number = filter (λ (slot : Slot). not (nat_eq slot.number number)) slots

-- the slots without those of this caller
abbrev pub slots_without_holder : List Slot → ℕ → List Slot
slots_without_holder slots caller = filter (λ (slot : Slot). not (nat_eq slot.holder caller)) slots

-- the slots of greater numbers
abbrev pub slots_above : List Slot → ℕ → List Slot
slots_above slots number = filter (λ (slot : Slot). not (nat_le slot.number number)) slots

-- whether an fsync waits for this number or an earlier one
abbrev pub is_up_to : ℕ → Synced → Bool
is_up_to number fsync = elim fsync.number [ None ↦ false | Some own ↦ nat_le own number ]

-- the newest undurable number, where it isn't covered by this one
abbrev pub undurable_above : Option ℕ → ℕ → Option ℕ
undurable_above None number = None
undurable_above (Some newest) number = cond (nat_le newest number) None (Some newest)

-- the log once a root commit has covered this number and all before it (own)
abbrev pub log_covered : SubLog → ℕ → SubLog
log_covered log number = record log {
  durable = unwrap_or (get log.sealed number) log.durable;
  covered = number;
  undurable = undurable_above log.undurable number;
  slots = slots_above log.slots number;
  waiting = filter (λ fsync. not (is_up_to number fsync)) log.waiting;
  acknowledged = filter (is_up_to number) log.waiting ++ log.acknowledged;
}

-- the log once a full commit has made this subvolume durable: it is empty, and all that waited is covered (own)
abbrev pub log_committed : SubLog → Subvolume → SubLog
log_committed log sub = record log {
  committed = sub;
  logged = sub;
  durable = sub;
  covered = log.open_number - 1;
  undurable = None;
  waiting = [];
  acknowledged = log.waiting ++ log.acknowledged;
}

-- the log once a device call of this caller failed: its slots are free, and its call has finished (own)
abbrev pub log_failed : SubLog → ℕ → SubLog
log_failed log caller = record log {
  slots = slots_without_holder log.slots caller;
  waiting = filter (λ (fsync : Synced). not (nat_eq fsync.caller caller)) log.waiting;
}

-- the log after a log step on the current subvolume, where that is there
abbrev pub log_stepped : Option RunSub → SubLog → ℕ → ℕ → ℕ → Logged → Bool → SubLog
log_stepped None log caller point ino end datasync = log
log_stepped (Some run) log caller point ino end datasync = log_after_step log run.sub caller point ino end datasync

-- the log once a root commit is done that takes this number, where it takes one
abbrev pub log_taken : Option ℕ → SubLog → SubLog
log_taken None log = log
log_taken (Some number) log = log_covered log number

-- the log once a full commit of this subvolume is done, where it is there
abbrev pub log_with : Option Subvolume → SubLog → SubLog
log_with None log = log
log_with (Some sub) log = log_committed log sub

-- the subvolume that a full commit commits, where one runs
abbrev pub sub_sealed : Option FullCommit → ℕ → Option Subvolume
sub_sealed None id = None
sub_sealed (Some full) id = get full.volume id

-- the log of a subvolume after an event (own)
abbrev pub log_after : State → Event → ℕ → SubLog → SubLog
log_after state (event.Op caller op again end indexes) id log = log
log_after state (event.Refused caller target answer) id log = log
log_after state (event.Log caller sub ino end datasync) id log =
    cond (nat_eq id sub.0) (log_stepped (get state.current id) log caller state.point ino.0 end datasync) log
log_after state (event.Ask caller) id log = log
log_after state (event.SealSub caller sub number) id log = cond (nat_eq id sub.0) (log_sealed log caller number) log
log_after state (event.SubWritten caller sub number) id log = cond (nat_eq id sub.0) (record log { slots = slots_written log.slots number }) log
log_after state (event.SealRoot caller) id log = log
log_after state (event.RootDone caller) id log = log_taken (number_taken state.root id) log
log_after state (event.SealFull caller) id log = log
log_after state (event.FullDone caller) id log = log_with (sub_sealed state.full id) log
log_after state (event.Failed caller turn tried) id log = log_failed log caller
log_after state (event.GiveUp caller sub number) id log = cond (nat_eq id sub.0) (record log { slots = slots_without log.slots number }) log

-- ---- the volume

-- the volume after an operation; one that found too little room changes nothing (own)
abbrev pub operated : RunVolume → Op → List ℕ → OpEnd → RunVolume
operated current op indexes (ends.Answered answer) = (step current op indexes).next
operated current op indexes (ends.Short free need) = current

-- the callers that want a full commit, with this one last where it didn't want one yet
abbrev pub wanting : List ℕ → ℕ → List ℕ
wanting wants caller = cond (list_any (nat_eq caller) wants) wants (wants ++ caller ∷ [])

-- the callers without this one
abbrev pub without : List ℕ → ℕ → List ℕ
without callers caller = filter (λ other. not (nat_eq other caller)) callers

-- the wants after an operation: one that is short leaves a want, but for its second try (own)
abbrev pub wants_after_op : List ℕ → ℕ → Bool → OpEnd → List ℕ
wants_after_op wants caller again (ends.Answered answer) = wants
wants_after_op wants caller again (ends.Short free need) = cond again wants (wanting wants caller)

-- the state after a log step, apart from the logs: a ticket, or a want of a full commit (own)
abbrev pub state_after_step : State → ℕ → ℕ → Logged → State
state_after_step state caller sub logged.Already = state
state_after_step state caller sub (logged.Ticket number) =
    record state { tickets = record { caller = caller; sub = sub; number = number } ∷ filter (λ (ticket : Ticket). not (nat_eq ticket.caller caller)) state.tickets }
state_after_step state caller sub (logged.Full reason) = record state { wants = wanting state.wants caller }

-- the numbers that a root commit takes: of each subvolume the greatest that is ready (own)
unfoldable pub numbers_ready : FinMap nat_cmp SubLog → FinMap nat_cmp (Option ℕ)
numbers_ready logs = changed (λ id log. greatest_ready log) logs

-- whether the caller has a ticket
abbrev pub has_ticket : List Ticket → ℕ → Bool
has_ticket tickets caller = list_any (λ (ticket : Ticket). nat_eq ticket.caller caller) tickets

-- the wants that a full commit leaves: those that came after its seal, of callers whose ticket it doesn't cover (own)
abbrev pub wants_left : List ℕ → List ℕ → List Ticket → List ℕ
wants_left wants sealed tickets = filter (λ caller. not (list_any (nat_eq caller) sealed || has_ticket tickets caller)) wants

-- a turn once this caller has given up what it holds
abbrev pub root_without : Option RootCommit → ℕ → Option RootCommit
root_without None caller = None
root_without (Some root) caller = cond (nat_eq root.holder caller) None (Some root)

abbrev pub full_without : Option FullCommit → ℕ → Option FullCommit
full_without None caller = None
full_without (Some full) caller = cond (nat_eq full.holder caller) None (Some full)

-- the callers that wanted the full commit when it was sealed
abbrev pub wants_at_seal : Option FullCommit → List ℕ
wants_at_seal None = []
wants_at_seal (Some full) = full.wants

-- the point at which the full commit was sealed
abbrev pub point_at_seal : Option FullCommit → ℕ
point_at_seal None = 0
point_at_seal (Some full) = full.point

-- the state after an event, apart from the logs (own)
abbrev pub turns_after : State → Event → State
turns_after state (event.Op caller op again end indexes) = record state {
  current = operated state.current op indexes end;
  wants = wants_after_op state.wants caller again end;
  point = state.point + 1;
}
turns_after state (event.Refused caller target answer) = state
turns_after state (event.Log caller sub ino end datasync) = state_after_step state caller sub.0 end
turns_after state (event.Ask caller) = record state { wants = wanting state.wants caller }
turns_after state (event.SealSub caller sub number) = state
turns_after state (event.SubWritten caller sub number) = state
turns_after state (event.SealRoot caller) = record state { root = Some (record { holder = caller; numbers = numbers_ready state.logs }) }
turns_after state (event.RootDone caller) =
    record state { root = None; tickets = filter (λ (ticket : Ticket). not (is_taken state.root ticket.sub ticket.number)) state.tickets }
turns_after state (event.SealFull caller) =
    record state { full = Some (record { holder = caller; volume = volume_of state.current; point = state.point; wants = state.wants }) }
turns_after state (event.FullDone caller) = record state {
  full = None;
  tickets = [];
  wants = wants_left state.wants (wants_at_seal state.full) state.tickets;
  failures = 0;
  committed_at = point_at_seal state.full;
}
turns_after state (event.Failed caller turn tried) = record state {
  root = root_without state.root caller;
  full = full_without state.full caller;
  tickets = filter (λ (ticket : Ticket). not (nat_eq ticket.caller caller)) state.tickets;
  wants = without state.wants caller;
  failures = state.failures + 1;
}
turns_after state (event.GiveUp caller sub number) = state

-- the state after an event (own)
unfoldable pub after : State → Event → State
after state event = record (turns_after state event) { logs = changed (log_after state event) state.logs }

-- the state after these events, in order (own)
abbrev pub after_events : State → List Event → State
after_events state events = fold after state events

-- the state of a volume that was mounted, after these events (own)
abbrev pub state_of : Volume → List Event → State
state_of volume events = after_events (mounted_state volume) events
