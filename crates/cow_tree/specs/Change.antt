-- What an edit may change of the table of blocks, by how often an address stands in what was reached and in what is.
use Rattle.std.specs.Prelude.{◌≡◌, ◌≢◌, ◌⊎◌, ◌+◌, ◌≤◌, ℕ, List, length}
use Rattle.blk_base.specs.Address.{IsAllowed}
use Rattle.block_table.specs.declared.state.SlotState.TheVariants.{Free, Dirty}
use Rattle.block_table.specs.Slot.{BlockSlot}
use Rattle.block_table.specs.Table.{Table, free_blocks}
use Rattle.block_table.specs.TreeIn.{block_at}
use Rattle.tree_range.specs.Part.{times_in}
use Rattle.tree_frame.specs.Frame.{AreFree, IsLeft}
use Rattle.tree_delete.specs.Balance.{AreBalanced}

-- what an edit makes of a block that was reached so often before, and is so often after (own)
pub record IsChangeAt (old new : BlockSlot) (before after : ℕ) : Type 0 where
  pub fresh : before ≡ 0 → 1 ≤ after → (old.state ≡ Free) × (new.state ≡ Dirty)
  pub left : 1 ≤ before → after ≡ 0 → IsLeft old new
  pub kept : 1 ≤ before → 1 ≤ after → new.state ≡ old.state
  pub kept_whole : 1 ≤ before → 1 ≤ after → old.state ≢ Dirty → new ≡ old
  pub others : before ≡ 0 → after ≡ 0 → (new ≡ old) ⊎ AreFree old new

-- an edit of all blocks that takes so many at most (own)
pub record IsChangeBy (old new : Table) (before after : ℕ → ℕ) (most : ℕ) : Type 0 where
  pub size : length new.slots ≡ length old.slots
  pub lists : new.lists ≡ old.lists
  pub each : (at : ℕ) → IsChangeAt (block_at old at) (block_at new at) (before at) (after at)
  pub once : ((at : ℕ) → before at ≤ 1) → (at : ℕ) → after at ≤ 1
  pub allowed : (at : ℕ) → before at ≡ 0 → 1 ≤ after at → IsAllowed (length old.slots) at
  pub spare : old.spare ≤ new.spare + most
  pub free : free_blocks old ≤ free_blocks new + most
  pub balance : AreBalanced old new

-- the same between two lists of addresses
abbrev pub IsChange : Table → Table → List ℕ → List ℕ → ℕ → Type 0
IsChange old new before after most =
    IsChangeBy old new (λ at. times_in at before) (λ at. times_in at after) most
