-- The blocks of a table behind a full commit.
use Rattle.std.specs.Prelude.{◌≡◌, ◌+◌, ◌*◌, ℕ, List, [], ◌∷◌, length, map, All, Contains, Bool, true, false, if◌then◌else◌}
use Rattle.std.specs.List.{sum_by}
use Rattle.blk_base.specs.declared.key.Addr.{Addr}
use Rattle.blk_base.specs.Address.{is_allowed}
use Rattle.block_table.specs.declared.state.SlotState.{SlotState}
use Rattle.block_table.specs.declared.state.SlotState.TheVariants.{Free, Dirty, Sealed, Live, LetGo}
use Rattle.block_table.specs.Slot.{BlockSlot, free_slot}
use Rattle.block_table.specs.Table.{Table, free_blocks}
use Rattle.block_table.specs.TreeIn.{block_at}
use Rattle.tree_frame.specs.Frame.{IsLeft}

-- ---- Sealed blocks, once it is known whether their batch is on the device

abbrev pub is_sealed : SlotState → Bool
is_sealed Free = false
is_sealed Dirty = false
is_sealed Sealed = true
is_sealed Live = false
is_sealed LetGo = false

-- a Sealed block is Live, and every other one is as it is (own)
abbrev pub settled : BlockSlot → BlockSlot
settled slot = if is_sealed slot.state then record slot { state = Live } else slot

-- a Sealed block is Dirty again, and every other one is as it is (own)
abbrev pub unsealed : BlockSlot → BlockSlot
unsealed slot = if is_sealed slot.state then record slot { state = Dirty } else slot

-- the table with each of its blocks changed so (own)
abbrev pub with_each : (BlockSlot → BlockSlot) → Table → Table
with_each change table = record table { slots = map change table.slots }

-- no list that is out has the block, where it is one that a list may have (own)
pub record IsBack (slot : BlockSlot) : Type 0 where
  pub sealed : slot.state ≡ Sealed → slot.out ≡ false
  pub let_go : slot.state ≡ LetGo → slot.out ≡ false

-- no list that is out has a block of the table (own)
abbrev pub NoneOut : Table → Type 0
NoneOut table = All IsBack table.slots

-- ---- blocks that were let go, by their byte addresses

-- the byte address of the block with this number
abbrev pub at_number : ℕ → Addr
at_number number = record { 0 = number * 4096 }

abbrev pub is_let_go : SlotState → Bool
is_let_go Free = false
is_let_go Dirty = false
is_let_go Sealed = false
is_let_go Live = false
is_let_go LetGo = true

-- the byte addresses of those that are LetGo, in order, where the first block has this number (own)
abbrev pub let_go_from : ℕ → List BlockSlot → List Addr
let_go_from number [] = []
let_go_from number (slot ∷ slots) =
    if is_let_go slot.state then at_number number ∷ let_go_from (number + 1) slots else let_go_from (number + 1) slots

abbrev pub let_go_addresses : Table → List Addr
let_go_addresses table = let_go_from 0 table.slots

abbrev pub addresses_of : List Addr → List ℕ
addresses_of addresses = map (λ (at : Addr). at.0) addresses

-- a block that may be released: it is LetGo, and no list that is out has it (own)
pub record IsReleasable (slot : BlockSlot) : Type 0 where
  pub let_go : slot.state ≡ LetGo
  pub back : slot.out ≡ false

abbrev pub AreReleasable : Table → List ℕ → Type 0
AreReleasable table reach = All (λ (at : ℕ). IsReleasable (block_at table at)) reach

-- ---- blocks that go

-- These blocks go, each by what becomes of it, and every other block stays as it was. So many buffers came back, and so many
-- of the blocks are Free now and may be used (own).
pub record AreGone (becomes : BlockSlot → BlockSlot → Type 0) (old new : Table) (reach : List ℕ) (buffers usable : ℕ) : Type 0 where
  pub size : length new.slots ≡ length old.slots
  pub lists : new.lists ≡ old.lists
  pub each : (at : ℕ) → Contains reach at → becomes (block_at old at) (block_at new at)
  pub others : (at : ℕ) → (Contains reach at → ⊥) → block_at new at ≡ block_at old at
  pub spare : new.spare ≡ old.spare + buffers
  pub free : free_blocks new ≡ free_blocks old + usable

abbrev pub is_dirty : SlotState → Bool
is_dirty Free = false
is_dirty Dirty = true
is_dirty Sealed = false
is_dirty Live = false
is_dirty LetGo = false

abbrev pub dirty_one : BlockSlot → ℕ
dirty_one slot = if is_dirty slot.state then 1 else 0

-- how many of these blocks are Dirty (own)
abbrev pub dirty_in : Table → List ℕ → ℕ
dirty_in table reach = sum_by (λ (at : ℕ). dirty_one (block_at table at)) reach

-- the blocks were let go: a Dirty one is Free, and another one is LetGo with its bytes (own)
abbrev pub AreLetGo : Table → Table → List ℕ → Type 0
AreLetGo old new reach = AreGone IsLeft old new reach (dirty_in old reach) (dirty_in old reach)

-- what becomes of a block that is released, whatever it was (own)
abbrev pub IsReleased : BlockSlot → BlockSlot → Type 0
IsReleased old new = new ≡ free_slot

-- how many of these are addresses that a volume of so many blocks may use (own)
abbrev pub allowed_in : ℕ → List ℕ → ℕ
allowed_in blocks reach = sum_by (λ (at : ℕ). if is_allowed blocks at then 1 else 0) reach

-- the blocks were released: each is Free and gave its buffer back, and so many of them may be used (own)
abbrev pub AreReleased : Table → Table → List ℕ → ℕ → Type 0
AreReleased old new reach usable = AreGone IsReleased old new reach (length reach) usable
