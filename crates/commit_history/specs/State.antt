-- The state of a mounted volume: the volumes, where each subvolume's log stands, and who holds or wants which turn.
use Rattle.std.specs.Prelude.{◌≡◌, ℕ, ◌+◌, ◌-◌, ◌%◌, ◌&&◌, Bool, false, List, [], map, filter, Option, Some, None, unwrap_or, nat_le, nat_lt, nat_eq}
use Rattle.std.specs.Ordering.{nat_cmp}
use Rattle.std.specs.List.{list_any, list_all, last_or, range_with_len}
use Rattle.std.specs.FinMap.{FinMap, empty, get, entries, from_entries}
use Rattle.flat_model.specs.Volume.{Subvolume, Volume, RunVolume, mounted}

-- ---- one subvolume

-- A busy slot: the number whose log was sealed and that isn't covered or given up yet, the caller that sealed it, and
-- whether its blocks are written. A number's slot is its remainder by 2 (own).
pub record Slot : Type 0 where
  pub number : ℕ
  pub holder : ℕ
  pub written : Bool

-- An fsync or fdatasync that found its inode, from its log step on: its caller, the inode, the point of the history, whether the
-- inode's names count beside its record, and the log number that covers it, none where only a full commit does (own).
pub record Synced : Type 0 where
  pub caller : ℕ
  pub ino : ℕ
  pub point : ℕ
  pub names : Bool
  pub number : Option ℕ

-- Where the log of a subvolume stands.
--
-- `committed` is the subvolume of the last full commit, `logged` the one that replay of the log so far would leave, `durable`
-- the one by the superblock that was written last: `logged` as it was at the seal of the greatest number that a root commit
-- covered since the last full commit, else `committed`. Log numbers begin at 1. `open_number` is the number that new items get;
-- those up to `covered` are covered, by a root commit or a full one; `undurable` is the newest number of which a ticket was
-- given that isn't covered. `sealed` has `logged` as it was at each seal (own).
pub record SubLog : Type 0 where
  pub committed : Subvolume
  pub logged : Subvolume
  pub durable : Subvolume
  pub open_number : ℕ
  pub covered : ℕ
  pub undurable : Option ℕ
  pub sealed : FinMap nat_cmp Subvolume
  pub slots : List Slot
  pub waiting : List Synced
  pub acknowledged : List Synced

-- the log of a subvolume that has just been mounted (own)
abbrev pub bare_log : Subvolume → SubLog
bare_log sub = record {
  committed = sub;
  logged = sub;
  durable = sub;
  open_number = 1;
  covered = 0;
  undurable = None;
  sealed = empty;
  slots = [];
  waiting = [];
  acknowledged = [];
}

-- whether a slot has this number, and its blocks are written
abbrev pub is_written_slot : ℕ → Slot → Bool
is_written_slot number slot = nat_eq slot.number number && slot.written

-- whether the blocks of this number are written
abbrev pub is_written : SubLog → ℕ → Bool
is_written log number = list_any (is_written_slot number) log.slots

-- whether the slot of this number is busy
abbrev pub is_slot_busy : SubLog → ℕ → Bool
is_slot_busy log number = list_any (λ slot. nat_eq (slot.number % 2) (number % 2)) log.slots

-- the numbers that were sealed and aren't covered
abbrev pub uncovered_numbers : SubLog → List ℕ
uncovered_numbers log = range_with_len (log.covered + 1) (log.open_number - (log.covered + 1))

-- whether this number and each earlier one that isn't covered are written: it is ready for a root commit (own)
abbrev pub is_ready : SubLog → ℕ → Bool
is_ready log number = nat_lt log.covered number && list_all (is_written log) (range_with_len (log.covered + 1) (number - log.covered))

-- the greatest number that is ready, where there is one (own)
unfoldable pub greatest_ready : SubLog → Option ℕ
greatest_ready log = last_or None (filter (is_ready log) (uncovered_numbers log))

-- ---- the volume

-- A ticket of a caller: the log number of a subvolume that makes its fsync durable (own).
pub record Ticket : Type 0 where
  pub caller : ℕ
  pub sub : ℕ
  pub number : ℕ

-- A root commit that runs: the caller that holds the turn, and for each subvolume the number that it takes, none where it takes none (own).
pub record RootCommit : Type 0 where
  pub holder : ℕ
  pub numbers : FinMap nat_cmp (Option ℕ)

-- A full commit that runs: the caller that holds the turn, the volume that it commits, the point at which it was sealed, and the
-- callers that wanted it then (own).
pub record FullCommit : Type 0 where
  pub holder : ℕ
  pub volume : Volume
  pub point : ℕ
  pub wants : List ℕ

-- The state behind some events. `current` is the volume as operations see it, with the numbers of its run. `tickets` are those that
-- aren't covered; `wants` are the callers that want a full commit and haven't got it, the oldest want first. `failures` counts the
-- failed device calls since the last full commit, `point` the operations since the mount, and `committed_at` is the point of the
-- last full commit (own).
pub record State : Type 0 where
  pub current : RunVolume
  pub logs : FinMap nat_cmp SubLog
  pub root : Option RootCommit
  pub full : Option FullCommit
  pub tickets : List Ticket
  pub wants : List ℕ
  pub failures : ℕ
  pub point : ℕ
  pub committed_at : ℕ

-- a map with each value changed by what the function makes of it
abbrev pub changed : {A B : Type 0} → (ℕ → A → B) → FinMap nat_cmp A → FinMap nat_cmp B
changed change values = from_entries (map (λ entry. (entry.0, change entry.0 entry.1)) (entries values))

-- the state right after the mount of a volume (own)
unfoldable pub mounted_state : Volume → State
mounted_state volume = record {
  current = mounted volume;
  logs = changed (λ id sub. bare_log sub) volume;
  root = None;
  full = None;
  tickets = [];
  wants = [];
  failures = 0;
  point = 0;
  committed_at = 0;
}

-- the log of a subvolume is this one
abbrev pub HasLog : State → ℕ → SubLog → Type 0
HasLog state id log = get state.logs id ≡ Some log

-- the durable volume: what a mount would give by the superblock that was written last (own)
unfoldable pub durable_volume : State → Volume
durable_volume state = changed (λ id log. log.durable) state.logs

-- the number of a subvolume that the root commit takes, where it takes one
abbrev pub number_taken : Option RootCommit → ℕ → Option ℕ
number_taken None id = None
number_taken (Some root) id = unwrap_or (get root.numbers id) None

-- the root commit covers a ticket's number (own)
abbrev pub is_taken : Option RootCommit → ℕ → ℕ → Bool
is_taken root id number = elim (number_taken root id) [ None ↦ false | Some taken ↦ nat_le number taken ]
