-- One block of the table of blocks.
use Rattle.std.specs.Prelude.{◌≡◌, ℕ, List, [], Bool, true, false, not, Option, Some, None, is_some}
use Rattle.std.specs.declared.boxed.Box.{Box}
use Rattle.block_table.specs.declared.state.SlotState.{SlotState}
use Rattle.block_table.specs.declared.state.SlotState.TheVariants.{Free, Dirty, Sealed, Live, LetGo}

-- what it is used for, its 4096 bytes, whether it is Live by `stand` and then whether as data, and whether a list that
-- is out has it (own)
pub record BlockSlot : Type 0 where
  pub state : SlotState
  pub bytes : List ℕ
  pub stood : Option Bool
  pub out : Bool

-- a block that is Free (own)
abbrev pub free_slot : BlockSlot
free_slot = record { state = Free; bytes = []; stood = None; out = false }

-- a block with these bytes that is being edited (own)
abbrev pub dirty_slot : List ℕ → BlockSlot
dirty_slot bytes = record { state = Dirty; bytes = bytes; stood = None; out = false }

abbrev pub is_free : SlotState → Bool
is_free Free = true
is_free Dirty = false
is_free Sealed = false
is_free Live = false
is_free LetGo = false

-- the states in which both boxes of a buffer are in the table
abbrev pub is_whole : SlotState → Bool
is_whole Free = false
is_whole Dirty = true
is_whole Sealed = false
is_whole Live = true
is_whole LetGo = false

-- a state goes with the boxes that are there, and with how the block came to be Live
pub record IsSlot (state : SlotState) (stood : Option Bool) (kept other : Bool) : Type 0 where
  pub kept_unless_free : kept ≡ not (is_free state)
  pub other_if_whole : is_whole state ≡ true → other ≡ true
  pub none_if_free : is_free state ≡ true → other ≡ false
  pub stood_if_live : is_some stood ≡ true → state ≡ Live

-- the bytes of a box that may be there
abbrev pub bytes_of : {A : Type 0} → Option (Box (List ℕ) A) → List ℕ
bytes_of None = []
bytes_of (Some box) = box.value

-- a block with these bytes that the device has, as data or not (own)
abbrev pub stood_slot : List ℕ → Bool → BlockSlot
stood_slot bytes is_data = record { state = Live; bytes = bytes; stood = Some is_data; out = false }
