-- What loading a tree makes of a table of blocks, and how the table's blocks are the addresses that a walk has reached.
use Rattle.std.specs.Prelude.{◌≡◌, ◌≢◌, ◌+◌, ◌-◌, ◌*◌, ◌++◌, ◌↔◌, if◌then◌else◌, ℕ, List, [], ◌∷◌, length, Contains, Bool, Ok, Err}
use Rattle.blk_base.specs.declared.key.Want.{Want}
use Rattle.blk_base.specs.Bytes.{Image}
use Rattle.blk_base.specs.Leaf.{Item}
use Rattle.block_table.specs.declared.state.SlotState.TheVariants.{Free}
use Rattle.block_table.specs.declared.tree.Tree.{Tree}
use Rattle.block_table.specs.Slot.{BlockSlot, is_free, stood_slot}
use Rattle.block_table.specs.Table.{Table}
use Rattle.block_table.specs.TreeIn.{block_at}
use Rattle.volume_image.specs.declared.fault.LoadFault.{LoadFault}
use Rattle.volume_image.specs.declared.fault.LoadFault.TheVariants.{Disk, OutOfMemory}
use Rattle.volume_image.specs.Tree.{block_of, tree_of}

-- these are the byte addresses of the blocks of the table that aren't Free, in any order: what was reached before (own)
abbrev pub AreTaken : Table → List ℕ → Type 0
AreTaken table reached = (at : ℕ) → Contains reached at ↔ ((block_at table at).state ≢ Free)

-- the addresses of those among these blocks that aren't Free, where the first has this number; and those of a table (own)
abbrev pub taken_from : ℕ → List BlockSlot → List ℕ
taken_from number [] = []
taken_from number (slot ∷ slots) = if is_free slot.state then taken_from (number + 1) slots else 4096 * number ∷ taken_from (number + 1) slots

abbrev pub taken_of : Table → List ℕ
taken_of table = taken_from 0 table.slots

-- The blocks at these addresses were Free, and stand as blocks that the device has, of a tree or of data; every other block
-- stays as it was. Spare buffers are used as long as there are any (own).
pub record IsLoad (is_data : Bool) (old new : Table) (reach : List ℕ) : Type 0 where
  pub size : length new.slots ≡ length old.slots
  pub lists : new.lists ≡ old.lists
  pub spare : new.spare ≡ old.spare - length reach
  pub fresh : (at : ℕ) → Contains reach at → (block_at old at).state ≡ Free
  pub live : (at : ℕ) → Contains reach at → block_at new at ≡ stood_slot (block_at new at).bytes is_data
  pub others : (at : ℕ) → (Contains reach at → ⊥) → block_at new at ≡ block_at old at

-- the image has each of these blocks with the bytes that the table has for it (own)
abbrev pub HasBytes : Image → Table → List ℕ → Type 0
HasBytes image table reach = (at : ℕ) → Contains reach at → block_of image at ≡ (block_at table at).bytes

-- the tree whose root is read with this (own)
abbrev pub tree_wanted : Want → Tree
tree_wanted want = record { root = want.at; level = want.level; owner = want.owner }

-- A walk over the image, after all blocks that the table has, meets a tree of these items at these addresses (own).
abbrev pub IsWalkAfter : Image → Table → Want → List Item → List ℕ → Type 0
IsWalkAfter image table want items reach = (reached : List ℕ) → AreTaken table reached
    → tree_of image (length table.slots) want reached ≡ Ok (record { items = items; reached = reached ++ reach })

-- This is the first fault of a walk over the image, after all blocks that the table has. Faults of the disk and of memory say
-- nothing of the image (own).
abbrev pub IsWalkFault : Image → Table → Want → LoadFault → Type 0
IsWalkFault image table want Disk = Unit {0}
IsWalkFault image table want OutOfMemory = Unit {0}
IsWalkFault image table want fault = (reached : List ℕ) → AreTaken table reached → tree_of image (length table.slots) want reached ≡ Err fault
