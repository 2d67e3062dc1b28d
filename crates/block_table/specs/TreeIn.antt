-- Trees whose blocks stand in a table of blocks.
use Rattle.std.specs.Prelude.{◌≡◌, ◌≢◌, ◌≤◌, ℕ, zero, suc, Bool, true, false, List, [], ◌∷◌, length, All, Some}
use Rattle.blk_base.specs.declared.key.Want.{Want}
use Rattle.blk_base.specs.Address.{IsAllowed}
use Rattle.blk_base.specs.Trees.{AreChildren, ItemsRise, NoneTwice, child_want, first_key, least_items, least_pointers}
use Rattle.blk_base.specs.Leaf.{Item, Pointer, HeaderFits, IsLeafBody, IsNodeBody}
use Rattle.block_table.specs.declared.state.SlotState.TheVariants.{Free, Dirty}
use Rattle.block_table.specs.declared.tree.Tree.{Tree}
use Rattle.block_table.specs.Slot.{BlockSlot}
use Rattle.block_table.specs.Table.{Table, slot_at}

-- the block at a byte address
abbrev pub block_at : Table → ℕ → BlockSlot
block_at table at = slot_at table (record { 0 = at })

-- ---- the tree, by the bodies of its blocks alone

-- a block that isn't Free, at an address that a volume may use (own)
pub record IsTaken (table : Table) (at : ℕ) : Type 0 where
  pub allowed : IsAllowed (length table.slots) at
  pub taken : (block_at table at).state ≢ Free

-- A block on this level and those below it: a leaf holds the items; a node's children are subtrees one level below, whose
-- first keys are the pointers' keys ("Internal Node").
abbrev pub IsSubtreeIn : ℕ → Table → Bool → ℕ → List Item → List ℕ → Type 0
IsSubtreeIn zero table is_root at items reach =
    IsTaken table at × IsLeafBody (block_at table at).bytes items × (least_items is_root ≤ length items) × (reach ≡ at ∷ [])
IsSubtreeIn (suc level) table is_root at items reach =
    (pointers : List Pointer) × (below : List ℕ)
    × IsTaken table at × IsNodeBody (block_at table at).bytes pointers × (least_pointers is_root ≤ length pointers)
    × AreChildren (λ pointer part near. IsSubtreeIn level table false pointer.at part near × (first_key part ≡ Some pointer.key)) pointers items below
    × (reach ≡ at ∷ below)

-- the tree stands in the table with these items in order, and its blocks are at these byte addresses
pub record IsTreeIn (table : Table) (tree : Tree) (items : List Item) (reach : List ℕ) : Type 0 where
  pub low : tree.level ≤ 7
  pub shape : IsSubtreeIn tree.level table true tree.root.0 items reach
  pub order : ItemsRise items
  pub once : NoneTwice reach

-- ---- the headers of its blocks

-- a block passes its header's checks, unless it is Dirty ("Header")
abbrev pub IsSealedBlock : Table → Want → Type 0
IsSealedBlock table want =
    (slot_at table want.at).state ≢ Dirty → HeaderFits want (slot_at table want.at).bytes

-- each block on this level and below passes them by the pointer to it, unless it is Dirty
abbrev pub IsSealedSubtree : ℕ → Table → Want → Type 0
IsSealedSubtree zero table want = IsSealedBlock table want
IsSealedSubtree (suc level) table want =
    IsSealedBlock table want
    × ((pointers : List Pointer) → IsNodeBody (slot_at table want.at).bytes pointers → All (λ pointer. IsSealedSubtree level table (child_want want pointer level)) pointers)

-- so it is for each block of the tree, with this fsid, and this generation of its root
abbrev pub IsSealedTree : Table → Tree → List ℕ → ℕ → Type 0
IsSealedTree table tree fsid generation =
    IsSealedSubtree tree.level table (record { fsid = fsid; at = tree.root; generation = generation; owner = tree.owner; level = tree.level })
