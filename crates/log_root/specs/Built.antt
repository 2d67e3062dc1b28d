-- A log root tree that was made over Dirty blocks.
use Rattle.std.specs.Prelude.{◌≡◌, ℕ, List, [], ◌∷◌, length, All, map, nat_le, if◌then◌else◌, slice_index_or}
use Rattle.blk_base.specs.declared.format.TheConstants.{TREE_LOG}
use Rattle.blk_base.specs.declared.key.Addr.{Addr}
use Rattle.blk_base.specs.Address.{IsAllowed}
use Rattle.blk_base.specs.Leaf.{Item}
use Rattle.blk_base.specs.Trees.{NoneTwice}
use Rattle.block_table.specs.declared.state.SlotState.TheVariants.{Dirty}
use Rattle.block_table.specs.declared.tree.Tree.{Tree}
use Rattle.block_table.specs.Table.{Table, free_blocks}
use Rattle.block_table.specs.TreeIn.{IsSealedTree, block_at}
use Rattle.tree_range.specs.Shape.{IsTree, tree_items, tree_reach}
use Rattle.tree_blocks.specs.Steps.{HasNewBytes, IsSameBut}
use Rattle.tree_seal.specs.Above.{IsDirtyAbove}

abbrev pub addresses : List Addr → List ℕ
addresses set = map (λ (at : Addr). at.0) set

-- different Dirty blocks at addresses that a volume may use (own)
pub record IsSet (table : Table) (set : List ℕ) : Type 0 where
  pub allowed : All (λ (at : ℕ). IsAllowed (length table.slots) at) set
  pub dirty : All (λ (at : ℕ). (block_at table at).state ≡ Dirty) set
  pub once : NoneTwice set

-- one of three addresses, from 0
abbrev pub nth : List Addr → ℕ → Addr
nth set place = slice_index_or set place (record { 0 = 0 })

-- the tree of so many logs over three blocks: the first is its only leaf, or the third is the node (own)
abbrev pub log_tree : ℕ → List Addr → Tree
log_tree count set =
    if nat_le count 8 then record { root = nth set 0; level = 0; owner = TREE_LOG } else record { root = nth set 2; level = 1; owner = TREE_LOG }

-- the blocks that it reaches
abbrev pub log_reach : ℕ → List Addr → List ℕ
log_reach count set =
    if nat_le count 8 then (nth set 0).0 ∷ [] else (nth set 2).0 ∷ (nth set 0).0 ∷ (nth set 1).0 ∷ []

-- the block at a byte address has other bytes, and all else of the table is as it was (own)
pub record IsRewritten (old new : Table) (at : ℕ) : Type 0 where
  pub kept : HasNewBytes old new at
  pub same : IsSameBut old new (at ∷ [])
  pub spare : new.spare ≡ old.spare
  pub free : free_blocks new ≡ free_blocks old

-- The tree stands in the table with these items and blocks, which have other bytes and are Dirty as they were; all else of the
-- table is as it was. A seal of any generation may be made of it (own).
pub record IsBuilt (old new : Table) (tree : Tree) (items : List Item) (reach : List ℕ) : Type 0 where
  pub stands : IsTree new tree
  pub items_are : tree_items new tree ≡ items
  pub reach_is : tree_reach new tree ≡ reach
  pub dirty : All (λ (at : ℕ). (block_at new at).state ≡ Dirty) reach
  pub kept : All (λ (at : ℕ). HasNewBytes old new at) reach
  pub same : IsSameBut old new reach
  pub spare : new.spare ≡ old.spare
  pub free : free_blocks new ≡ free_blocks old
  pub above : IsDirtyAbove new tree
  pub sealable : (fsid : List ℕ) (generation : ℕ) → IsSealedTree new tree fsid generation
