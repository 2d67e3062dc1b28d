-- What a step of an edit shows of the table of blocks, and what it leaves as it was.
use Rattle.std.specs.Prelude.{◌≡◌, ◌+◌, ℕ, List, [], ◌∷◌, length, Contains, None}
use Rattle.blk_base.specs.Address.{IsAllowed}
use Rattle.blk_base.specs.Leaf.{Item, Pointer}
use Rattle.block_table.specs.declared.state.SlotState.TheVariants.{Free, Dirty, LetGo}
use Rattle.block_table.specs.Slot.{dirty_slot}
use Rattle.block_table.specs.Table.{Table, free_blocks}
use Rattle.block_table.specs.TreeIn.{block_at}
use Rattle.tree_blocks.specs.Lists.{leaf_list, node_list, IsLeafBlock, IsNodeBlock}

-- the items of the leaf at a byte address; none where no leaf stands (own)
abbrev pub leaf_at : Table → ℕ → List Item
leaf_at table at = leaf_list (block_at table at).bytes

-- the pointers of the node at a byte address; none where no node stands (own)
abbrev pub node_at : Table → ℕ → List Pointer
node_at table at = node_list (block_at table at).bytes

-- the body of the block at a byte address is a leaf's, and a node's (own)
abbrev pub IsLeafAt : Table → ℕ → Type 0
IsLeafAt table at = IsLeafBlock (block_at table at).bytes

abbrev pub IsNodeAt : Table → ℕ → Type 0
IsNodeAt table at = IsNodeBlock (block_at table at).bytes

-- a leaf, and a node, that is being edited (own)
pub record IsDirtyLeaf (table : Table) (at : ℕ) : Type 0 where
  pub dirty : (block_at table at).state ≡ Dirty
  pub body : IsLeafAt table at

pub record IsDirtyNode (table : Table) (at : ℕ) : Type 0 where
  pub dirty : (block_at table at).state ≡ Dirty
  pub body : IsNodeAt table at

-- every block but those at these byte addresses is as it was, and so are the numbers of blocks and of lists (own)
pub record IsSameBut (old new : Table) (ats : List ℕ) : Type 0 where
  pub size : length new.slots ≡ length old.slots
  pub lists : new.lists ≡ old.lists
  pub others : (at : ℕ) → (Contains ats at → ⊥) → block_at new at ≡ block_at old at

-- the block at a byte address has other bytes, and all else of it is as it was (own)
abbrev pub HasNewBytes : Table → Table → ℕ → Type 0
HasNewBytes old new at = block_at new at ≡ record (block_at old at) { bytes = (block_at new at).bytes }

-- a block that a volume may use was Free, and is being edited; no list has it (own)
pub record IsTakenAt (old new : Table) (at : ℕ) : Type 0 where
  pub allowed : IsAllowed (length old.slots) at
  pub was_free : (block_at old at).state ≡ Free
  pub dirty : block_at new at ≡ dirty_slot (block_at new at).bytes

-- the bytes of a block stand at another one, which takes its place: the first one is let go (own)
pub record IsCopied (old new : Table) (at copy : ℕ) : Type 0 where
  pub taken : IsTakenAt old new copy
  pub bytes : (block_at new copy).bytes ≡ (block_at old at).bytes
  pub let_go : block_at new at ≡ record (block_at old at) { state = LetGo; stood = None }
  pub others : IsSameBut old new (at ∷ copy ∷ [])
  pub spare : new.spare + 1 ≡ old.spare
  pub free : free_blocks new + 1 ≡ free_blocks old
