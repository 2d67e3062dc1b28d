-- The blocks of a volume that are in memory, each under its byte address.
use Rattle.std.specs.Prelude.{◌≡◌, ◌+◌, ◌/◌, ◌%◌, ◌==◌, ◌&&◌, ◌<◌, ◌≤◌, ◌^◌, ℕ, List, [], ◌∷◌, length, replicate, All, Bool, true, false, not, nat_le, if◌then◌else◌, slice_index_or, slice_set}
use Rattle.std.specs.List.{sum_by}
use Rattle.blk_base.specs.declared.format.TheConstants.{COPY_BLOCK, FIRST_BLOCK}
use Rattle.blk_base.specs.declared.key.Addr.{Addr}
use Rattle.block_table.specs.declared.state.SlotState.{SlotState}
use Rattle.block_table.specs.Slot.{BlockSlot, free_slot, is_free}
use Rattle.blk_base.specs.Trees.{AtBlock}
use Rattle.block_table.specs.Blocks.{BlockList}

-- the blocks by their numbers from 0, how many buffers are spare, and how many lists are in stock (own)
pub record Table : Type 0 where
  pub slots : List BlockSlot
  pub spare : ℕ
  pub lists : ℕ

-- a table in which no block is used, with the lists of 32 parts and two batches (own)
abbrev pub empty_table : ℕ → Table
empty_table blocks = record { slots = replicate blocks free_slot; spare = 0; lists = 34 }

-- the block at a byte address; where no block of the table begins there, as one that is Free (own)
abbrev pub slot_at : Table → Addr → BlockSlot
slot_at table at =
    if at.0 % 4096 == 0 then slice_index_or table.slots (at.0 / 4096) free_slot else free_slot

abbrev pub state_at : Table → Addr → SlotState
state_at table at = (slot_at table at).state

-- the table with another block at an address, with so many buffers, with so many lists (own)
abbrev pub with_slot : Table → Addr → BlockSlot → Table
with_slot table at slot =
    record { slots = slice_set table.slots (at.0 / 4096) slot; spare = table.spare; lists = table.lists }

abbrev pub with_spare : Table → ℕ → Table
with_spare table spare = record { slots = table.slots; spare = spare; lists = table.lists }

abbrev pub with_lists : Table → ℕ → Table
with_lists table lists = record { slots = table.slots; spare = table.spare; lists = lists }

-- a block whose number is allowed, and that is Free (own)
abbrev pub is_free_block : ℕ → BlockSlot → Bool
is_free_block number slot = nat_le FIRST_BLOCK number && not (number == COPY_BLOCK) && is_free slot.state

abbrev pub free_one : ℕ → BlockSlot → ℕ
free_one number slot = if is_free_block number slot then 1 else 0

-- how many of these are allowed and Free, where the first has this number (own)
abbrev pub free_from : ℕ → List BlockSlot → ℕ
free_from number [] = 0
free_from number (slot ∷ slots) = free_one number slot + free_from (number + 1) slots

abbrev pub free_blocks : Table → ℕ
free_blocks table = free_from 0 table.slots

-- no block from this number on and below that one is allowed and Free (own)
abbrev pub NoneFree : List BlockSlot → ℕ → ℕ → Type 0
NoneFree slots from to =
    (number : ℕ) → from ≤ number → number < to → number < length slots → is_free_block number (slice_index_or slots number free_slot) ≡ false

-- the first block from a number on that is allowed and Free (own)
pub record IsFirstFree (slots : List BlockSlot) (from number : ℕ) : Type 0 where
  pub inside : number < length slots
  pub before : NoneFree slots from number
  pub free : is_free_block number (slice_index_or slots number free_slot) ≡ true

-- no list has the block at this address any more (own)
abbrev pub brought_back : List BlockSlot → Addr → List BlockSlot
brought_back slots at =
    slice_set slots (at.0 / 4096) (record (slice_index_or slots (at.0 / 4096) free_slot) { out = false })

-- no list has these blocks any more (own)
abbrev pub all_back : List BlockSlot → List AtBlock → List BlockSlot
all_back slots [] = slots
all_back slots (pair ∷ pairs) = brought_back (all_back slots pairs) pair.0

-- a list that this table lent: it has as much room as the table has blocks (own)
abbrev pub IsLent : Table → BlockList → Type 0
IsLent table blocks = blocks.room ≡ length table.slots

-- how many blocks have a buffer (own)
abbrev pub used_one : BlockSlot → ℕ
used_one slot = if is_free slot.state then 0 else 1

abbrev pub used_of : List BlockSlot → ℕ
used_of slots = sum_by used_one slots

-- a list in stock is empty, with as much room as the table has blocks (own)
abbrev pub IsInStock : ℕ → BlockList → Type 0
IsInStock blocks list = list ≡ record { pairs = []; room = blocks }

-- where a block that is allowed and Free may be: not below this number, and in each 256 blocks only where it says so (own)
pub record KnowsFree (slots : List BlockSlot) (low : ℕ) (groups : List Bool) : Type 0 where
  pub below : NoneFree slots 0 low
  pub count : length groups ≡ length slots / 256 + 1
  pub marked : (number : ℕ) → number < length slots → is_free_block number (slice_index_or slots number free_slot) ≡ true → slice_index_or groups (number / 256) false ≡ true

-- what holds of a table between calls: its counts are right, and a buffer that comes back has its place (own)
pub record IsTable (slots : List BlockSlot) (spare spare_room : ℕ) (stock : List BlockList) (stock_room free low : ℕ) (groups : List Bool) : Type 0 where
  pub small : length slots < 2 ^ 32
  pub free_is : free ≡ free_from 0 slots
  pub knows : KnowsFree slots low groups
  pub fits : spare + used_of slots ≤ spare_room
  pub spare_small : spare + used_of slots < 2 ^ 32
  pub stock_small : length stock ≤ 34
  pub stock_fits : 34 ≤ stock_room
  pub in_stock : All (IsInStock (length slots)) stock
