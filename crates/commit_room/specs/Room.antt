-- How many addresses are in use after each event, and how few blocks may be free where an answer shows it.
use Rattle.std.specs.Prelude.{◌≡◌, ℕ, zero, suc, ◌+◌, ◌-◌, ◌*◌, ◌<◌, ◌≤◌, Bool, List, [], ◌∷◌, Some, ⊤}
use Rattle.std.specs.FinMap.{get}
use Rattle.flat_model.specs.declared.op.Op.{Op}
use Rattle.flat_model.specs.Volume.{Volume, RunSub}
use Rattle.flat_model.specs.Needs.{need}
use Rattle.logged_volume.specs.Rules.{RoomNumbers}
use Rattle.commit_history.specs.declared.event.Event.{Event}
use Rattle.commit_history.specs.declared.event.Event.TheVariants as event
use Rattle.commit_history.specs.declared.event.Logged.{Logged}
use Rattle.commit_history.specs.declared.event.OpEnd.{OpEnd}
use Rattle.commit_history.specs.declared.event.OpEnd.TheVariants as ends
use Rattle.commit_history.specs.State.{SubLog, HasLog}
use Rattle.commit_history.specs.Legal.{IsLogEnd}
use Rattle.commit_room.specs.Items.{data_blocks, trees_room}
use Rattle.commit_room.specs.Ledger.{Ledger, mounted_ledger, ledger_after, charge_of, weight_at}

-- ---- addresses in use

-- Of the addresses in use after so many events, `mounted` are those in use since the mount, and `taken` those that an event took, by
-- its number; `trees` are the tree blocks of the committed trees.
pub record InUse : Type 0 where
  pub mounted : ℕ → ℕ
  pub taken : ℕ → ℕ → ℕ
  pub trees : ℕ → ℕ

-- the sum of so many numbers, from this one on
abbrev pub sum_of : (ℕ → ℕ) → ℕ → ℕ → ℕ
sum_of numbers from zero = 0
sum_of numbers from (suc count) = sum_of numbers from count + numbers (from + count)

-- the addresses in use after so many events that were in use, or were taken, before the event of this number
abbrev pub used_before : InUse → ℕ → ℕ → ℕ
used_before use_ moment event = use_.mounted moment + sum_of (use_.taken moment) 0 event

-- the addresses in use after so many events
abbrev pub used : InUse → ℕ → ℕ
used use_ moment = used_before use_ moment moment

-- the free blocks of a volume of so many, where so many addresses are in use (own)
abbrev pub free_blocks : ℕ → ℕ → ℕ
free_blocks blocks in_use = blocks - (82 + in_use)

-- ---- what events show

-- the numbers that the rules of a log step look at (own)
abbrev pub room_now : ℕ → InUse → Ledger → ℕ → ℕ → Bool → RoomNumbers
room_now blocks use_ ledger sub ino datasync = record {
  free = free_blocks blocks (used use_ ledger.count);
  tree_blocks = use_.trees ledger.count;
  weight = weight_at ledger sub ino datasync;
  failed = ledger.state.failures;
}

-- a log step ends as it may by these numbers
pub record EndsByRoom (blocks : ℕ) (use_ : InUse) (ledger : Ledger) (sub ino : ℕ) (end : Logged) (datasync : Bool) : Type 0 where
  pub log : SubLog
  pub run : RunSub
  pub of_sub : HasLog ledger.state sub log
  pub current : get ledger.state.current sub ≡ Some run
  pub ends : IsLogEnd log run.sub ino datasync (room_now blocks use_ ledger sub ino datasync) end

-- an operation that is short shows how many blocks are free
abbrev pub ShowsFree : ℕ → InUse → Ledger → OpEnd → Type 0
ShowsFree blocks use_ ledger (ends.Answered answer) = ⊤
ShowsFree blocks use_ ledger (ends.Short free need) = free ≡ free_blocks blocks (used use_ ledger.count)

-- an event shows the numbers of its moment, where it compares some
abbrev pub ShowsRoom : ℕ → InUse → Ledger → Event → Type 0
ShowsRoom blocks use_ ledger (event.Op caller op again end indexes) = ShowsFree blocks use_ ledger end
ShowsRoom blocks use_ ledger (event.Log caller sub ino end datasync) = EndsByRoom blocks use_ ledger sub.0 ino.0 end datasync
ShowsRoom blocks use_ ledger other = ⊤

-- ---- what whoever keeps the blocks owes

-- What one event does to the addresses in use: it takes at most its charge, and an address that was in use before isn't taken anew while it is in use. Behind a
-- full commit those in use from before its seal are at most its data blocks and its trees'. The committed trees have at most their blocks (own).
pub record TakesRoom (blocks : ℕ) (use_ : InUse) (ledger : Ledger) (came : Event) : Type 0 where
  pub takes : use_.taken (ledger.count + 1) ledger.count ≤ charge_of ledger came
  pub mounted_falls : use_.mounted (ledger.count + 1) ≤ use_.mounted ledger.count
  pub taken_falls : (number : ℕ) → number < ledger.count → use_.taken (ledger.count + 1) number ≤ use_.taken ledger.count number
  pub behind_full : (caller : ℕ) → came ≡ event.FullDone caller
      → used_before use_ (ledger.count + 1) ledger.sealing
      ≤ data_blocks (ledger_after ledger came).committed + trees_room (ledger_after ledger came).committed
  pub trees : use_.trees ledger.count ≤ trees_room ledger.committed
  pub shows : ShowsRoom blocks use_ ledger came

abbrev pub TakeRoom : ℕ → InUse → Ledger → List Event → Type 0
TakeRoom blocks use_ ledger [] = ⊤
TakeRoom blocks use_ ledger (event ∷ events) = TakesRoom blocks use_ ledger event × TakeRoom blocks use_ (ledger_after ledger event) events

-- the addresses in use are counted so over these events of a volume of so many blocks that was mounted
pub record IsInUse (blocks : ℕ) (use_ : InUse) (volume : Volume) (events : List Event) : Type 0 where
  pub behind_mount : use_.mounted 0 ≤ data_blocks volume + trees_room volume
  pub each : TakeRoom blocks use_ (mounted_ledger volume) events

-- ---- how few blocks may be free

-- at least all but 82, the data blocks and trees of the last full commit, and the charges of all events since its seal (own)
abbrev pub HasFree : ℕ → Ledger → ℕ → Type 0
HasFree blocks ledger free = blocks ≤ free + (82 + (data_blocks ledger.committed + trees_room ledger.committed) + ledger.charged)

-- what an operation shows that was short (own)
pub record ShortIsTrue (blocks : ℕ) (ledger : Ledger) (op : Op) (free needed : ℕ) : Type 0 where
  pub too_few : free < needed
  pub of_op : needed ≡ need ledger.state.current op
  pub has_free : HasFree blocks ledger free

-- what a log step shows that found too little room (own)
pub record SpaceIsTrue (blocks : ℕ) (ledger : Ledger) (sub ino : ℕ) (datasync : Bool) (free needed : ℕ) : Type 0 where
  pub tree_blocks : ℕ
  pub too_few : free < needed
  pub of_step : needed ≡ 2 * tree_blocks + 11 * weight_at ledger sub ino datasync + 1280
  pub of_trees : tree_blocks ≤ trees_room ledger.committed
  pub has_free : HasFree blocks ledger free
