-- What a seal of some blocks makes of a table, and what it hands out.
use Rattle.std.specs.Prelude.{◌≡◌, ◌≢◌, ◌≤◌, ℕ, Bool, true, List, ◌++◌, length, map, Contains}
use Rattle.blk_base.specs.declared.key.Want.{Want}
use Rattle.blk_base.specs.Leaf.{Item, Pointer, HeaderFits, IsLeafBody, IsNodeBody}
use Rattle.block_table.specs.declared.state.SlotState.TheVariants.{Dirty, Sealed}
use Rattle.block_table.specs.Slot.{BlockSlot}
use Rattle.block_table.specs.Table.{Table}
use Rattle.blk_base.specs.Trees.{AtBlock, NoneTwice}
use Rattle.block_table.specs.TreeIn.{IsSealedSubtree, block_at}
use Rattle.tree_range.specs.Shape.{IsSubtree, items_below, reach_below}
use Rattle.tree_seal.specs.Above.{DirtyIsAbove}

-- what becomes of a block: a Dirty one is Sealed, and a list that is out has it; another one stays as it is (own)
pub record IsSealedSlot (old new : BlockSlot) : Type 0 where
  pub dirty : old.state ≡ Dirty → new ≡ record old { state = Sealed; bytes = new.bytes; out = true }
  pub written : old.state ≢ Dirty → new ≡ old

-- the Dirty ones among these blocks are Sealed, and every other block stays as it was (own)
pub record IsSealing (old new : Table) (reach : List ℕ) : Type 0 where
  pub size : length new.slots ≡ length old.slots
  pub spare : new.spare ≡ old.spare
  pub lists : new.lists ≡ old.lists
  pub slots : (at : ℕ) → Contains reach at → IsSealedSlot (block_at old at) (block_at new at)
  pub others : (at : ℕ) → (Contains reach at → ⊥) → block_at new at ≡ block_at old at

-- a block as it is handed out: where it is to stand, and the bytes that the table has for it
abbrev pub as_handed : Table → ℕ → AtBlock
as_handed table at = (record { 0 = at }, (block_at table at).bytes)

-- bytes that have the body of other bytes: what is a leaf or a node by these is the same one by those (own)
pub record HasSameBody (old new : List ℕ) : Type 0 where
  pub leaf : (items : List Item) → IsLeafBody old items → IsLeafBody new items
  pub node : (pointers : List Pointer) → IsNodeBody old pointers → IsNodeBody new pointers

-- a block was Dirty, and is Sealed with the header that is wanted and the body that it had; a list that is out has it (own)
pub record IsSealedOne (old new : Table) (want : Want) : Type 0 where
  pub slot : block_at new want.at.0 ≡ record (block_at old want.at.0) { state = Sealed; bytes = (block_at new want.at.0).bytes; out = true }
  pub header : HeaderFits want (block_at new want.at.0).bytes
  pub body : HasSameBody (block_at old want.at.0).bytes (block_at new want.at.0).bytes

-- The Dirty ones among these blocks are put behind a list, each once, with the bytes that the table has for it afterwards
-- (own).
pub record AreHanded (old new : Table) (reach : List ℕ) (before after : List AtBlock) : Type 0 where
  pub order : List ℕ
  pub pairs : after ≡ before ++ map (as_handed new) order
  pub once : NoneTwice order
  pub few : length order ≤ length reach
  pub reached : (at : ℕ) → Contains order at → Contains reach at
  pub dirty : (at : ℕ) → Contains order at → (block_at old at).state ≡ Dirty
  pub each : (at : ℕ) → Contains reach at → (block_at old at).state ≡ Dirty → Contains order at

-- ---- a subtree

-- A Dirty block on this level and what stands below it are a subtree that may be sealed: the blocks that aren't Dirty pass
-- their headers' checks, and none of them stands above a Dirty one (own).
pub record IsSealable (level : ℕ) (table : Table) (want : Want) : Type 0 where
  pub is_root : Bool
  pub shape : IsSubtree level table is_root want.at.0
  pub dirty : (block_at table want.at.0).state ≡ Dirty
  pub seals : IsSealedSubtree level table want
  pub above : DirtyIsAbove level table want.at.0
  pub once : NoneTwice (reach_below level table want.at.0)

-- what stands below a block stays as it was, and each block passes its header's checks (own)
pub record IsSealedBelow (level : ℕ) (old new : Table) (want : Want) : Type 0 where
  pub items : items_below level new want.at.0 ≡ items_below level old want.at.0
  pub reach : reach_below level new want.at.0 ≡ reach_below level old want.at.0
  pub shape : (is_root : Bool) → IsSubtree level old is_root want.at.0 → IsSubtree level new is_root want.at.0
  pub seals : IsSealedSubtree level new want
