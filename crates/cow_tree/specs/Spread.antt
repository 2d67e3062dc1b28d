-- One block edited: the blocks that stand in its place, and what they list together.
use Rattle.std.specs.Prelude.{◌≡◌, ◌≤◌, ℕ, List, [], ◌∷◌, length, All, Some, None}
use Rattle.std.specs.List.{flat_map}
use Rattle.blk_base.specs.declared.format.TheConstants.{MOST_POINTERS}
use Rattle.blk_base.specs.declared.limits.TheConstants.{LEAST_POINTERS}
use Rattle.blk_base.specs.Leaf.{Item, Pointer}
use Rattle.block_table.specs.Table.{Table}
use Rattle.blk_base.specs.Trees.{first_key}
use Rattle.tree_range.specs.Path.{key_behind}
use Rattle.tree_blocks.specs.Steps.{IsDirtyLeaf, IsDirtyNode, leaf_at, node_at}
use Rattle.cow_tree.specs.Change.{IsChange}
use Rattle.cow_tree.specs.Pieces.{ats_of}

-- a leaf that is being edited, under its first key
pub record IsLeafPiece (table : Table) (pointer : Pointer) : Type 0 where
  pub leaf : IsDirtyLeaf table pointer.at
  pub key : first_key (leaf_at table pointer.at) ≡ Some pointer.key

-- a node that is being edited, under its first key
pub record IsNodePiece (table : Table) (pointer : Pointer) : Type 0 where
  pub node : IsDirtyNode table pointer.at
  pub key : key_behind (node_at table pointer.at) None ≡ Some pointer.key

-- leaves with these items stand in place of the block at a byte address (own)
pub record IsLeafSpread (old new : Table) (at : ℕ) (items : List Item) (pieces : List Pointer) (most : ℕ) : Type 0 where
  pub items_are : flat_map (λ pointer. leaf_at new pointer.at) pieces ≡ items
  pub each : All (IsLeafPiece new) pieces
  pub changes : IsChange old new (at ∷ []) (ats_of pieces) most

-- nodes with these pointers stand in place of the block at a byte address; where it is more than one, each has 30 at least (own)
pub record IsNodeSpread (old new : Table) (at : ℕ) (pointers : List Pointer) (pieces : List Pointer) (most : ℕ) : Type 0 where
  pub pointers_are : flat_map (λ pointer. node_at new pointer.at) pieces ≡ pointers
  pub each : All (IsNodePiece new) pieces
  pub changes : IsChange old new (at ∷ []) (ats_of pieces) most
  pub large : 2 ≤ length pieces → All (λ pointer. LEAST_POINTERS ≤ length (node_at new pointer.at)) pieces
  pub one : length pointers ≤ MOST_POINTERS → length pieces ≡ 1
