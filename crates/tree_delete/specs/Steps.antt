-- Two children of a node that share their pointers.
use Rattle.std.specs.Prelude.{◌≡◌, ◌≢◌, ◌≤◌, ◌+◌, ◌++◌, ◌⊎◌, ℕ, List, [], ◌∷◌, length, map, All, Some, None, true}
use Rattle.std.specs.List.{flat_map}
use Rattle.blk_base.specs.declared.limits.TheConstants.{LEAST_POINTERS}
use Rattle.blk_base.specs.Address.{IsAllowed}
use Rattle.blk_base.specs.Keys.{KeyBelow, keys_rise}
use Rattle.blk_base.specs.Leaf.{Pointer}
use Rattle.leaf_view.specs.Search.{pointer_keys}
use Rattle.block_table.specs.declared.state.SlotState.TheVariants.{Free, Dirty, LetGo}
use Rattle.block_table.specs.Table.{Table, free_blocks}
use Rattle.blk_base.specs.Trees.{NoneTwice}
use Rattle.block_table.specs.TreeIn.{block_at}
use Rattle.tree_range.specs.Path.{key_behind}
use Rattle.tree_blocks.specs.Steps.{IsDirtyNode, IsNodeAt, node_at}
use Rattle.tree_frame.specs.Frame.{IsEdit, TakesAtMost}
use Rattle.tree_delete.specs.Balance.{AreBalanced}

-- a node that may be copied (own)
pub record IsCurrentNode (table : Table) (at : ℕ) : Type 0 where
  pub body : IsNodeAt table at
  pub allowed : IsAllowed (length table.slots) at
  pub taken : (block_at table at).state ≢ Free
  pub current : (block_at table at).state ≢ LetGo

-- Two nodes side by side, of which one is being edited: their keys rise, one has 29 pointers at least and the other 30, and
-- one has fewer than the most (own).
pub record IsPair (table : Table) (left right : ℕ) : Type 0 where
  pub left_node : IsCurrentNode table left
  pub right_node : IsCurrentNode table right
  pub apart : left ≢ right
  pub dirty : ((block_at table left).state ≡ Dirty) ⊎ ((block_at table right).state ≡ Dirty)
  pub rise : keys_rise (pointer_keys (node_at table left ++ node_at table right)) ≡ true
  pub left_least : 29 ≤ length (node_at table left)
  pub right_least : 29 ≤ length (node_at table right)
  pub least : 59 ≤ length (node_at table left) + length (node_at table right)
  pub most : length (node_at table left) + length (node_at table right) ≤ 241

-- Two nodes that became so many took a block and buffer at most, and none where they are joined (own).
pub record TakesForMade (old new : Table) (made : ℕ) : Type 0 where
  pub spare : old.spare + 1 ≤ new.spare + made
  pub free : free_blocks old + 1 ≤ free_blocks new + made
  pub balance : AreBalanced old new

-- two nodes side by side have become these, one or two, with the same pointers and 30 at least in each (own)
pub record IsShared (old new : Table) (left right : ℕ) (made : List ℕ) : Type 0 where
  pub lists : flat_map (node_at new) made ≡ node_at old left ++ node_at old right
  pub least : All (λ at. LEAST_POINTERS ≤ length (node_at new at)) made
  pub nodes : All (IsDirtyNode new) made
  pub allowed : All (λ at. IsAllowed (length new.slots) at) made
  pub once : NoneTwice made
  pub edit : IsEdit old new (left ∷ right ∷ []) made
  pub blocks : TakesForMade old new (length made)

-- Two children of a node that is being edited, side by side from a place on: the first key of the left one is its
-- pointer's, and the keys in both are below the first keys of the children behind them (own).
pub record HasPair (table : Table) (at place : ℕ) : Type 0 where
  pub node : IsDirtyNode table at
  pub allowed : IsAllowed (length table.slots) at
  pub lefts : List Pointer
  pub left : Pointer
  pub right : Pointer
  pub rights : List Pointer
  pub split : node_at table at ≡ lefts ++ left ∷ right ∷ rights
  pub long : length lefts ≡ place
  pub pair : IsPair table left.at right.at
  pub left_apart : at ≢ left.at
  pub right_apart : at ≢ right.at
  pub first : key_behind (node_at table left.at) None ≡ Some left.key
  pub behind : All (λ (inner : Pointer). All (λ (other : Pointer). KeyBelow inner.key other.key) rights) (node_at table left.at ++ node_at table right.at)

-- the byte addresses of children
abbrev pub ats_of : List Pointer → List ℕ
ats_of pointers = map (λ (pointer : Pointer). pointer.at) pointers

-- In place of the two there are these, one or two, with the same pointers below them and 30 at least in each (own).
pub record IsEven (old new : Table) (at place : ℕ) (pair : HasPair old at place) : Type 0 where
  pub node : IsDirtyNode new at
  pub made : List Pointer
  pub pointers : node_at new at ≡ pair.lefts ++ (made ++ pair.rights)
  pub lists : flat_map (λ (pointer : Pointer). node_at new pointer.at) made ≡ node_at old pair.left.at ++ node_at old pair.right.at
  pub nodes : All (λ (pointer : Pointer). IsDirtyNode new pointer.at) made
  pub least : All (λ (pointer : Pointer). LEAST_POINTERS ≤ length (node_at new pointer.at)) made
  pub allowed : All (λ (pointer : Pointer). IsAllowed (length new.slots) pointer.at) made
  pub firsts : All (λ (pointer : Pointer). key_behind (node_at new pointer.at) None ≡ Some pointer.key) made
  pub some : 1 ≤ length made
  pub few : length made ≤ 2
  pub once : NoneTwice (at ∷ ats_of made)
  pub edit : IsEdit old new (at ∷ pair.left.at ∷ pair.right.at ∷ []) (at ∷ ats_of made)
  pub blocks : TakesForMade old new (length made)

-- a child of the node at a place and one beside it share their pointers (own)
pub record IsRepaired (old new : Table) (at place : ℕ) : Type 0 where
  pub left : ℕ
  pub pair : HasPair old at left
  pub near : (left ≡ place) ⊎ (left + 1 ≡ place)
  pub even : IsEven old new at left pair

-- two nodes side by side that are both being edited (own)
pub record IsDirtyPair (table : Table) (left right : ℕ) : Type 0 where
  pub left_node : IsDirtyNode table left
  pub right_node : IsDirtyNode table right
  pub apart : left ≢ right
  pub left_allowed : IsAllowed (length table.slots) left
  pub right_allowed : IsAllowed (length table.slots) right

-- both are being edited, and have the same pointers (own)
pub record IsOwnedPair (old new : Table) (left right new_left new_right : ℕ) : Type 0 where
  pub dirty : IsDirtyPair new new_left new_right
  pub left_same : node_at new new_left ≡ node_at old left
  pub right_same : node_at new new_right ≡ node_at old right
  pub edit : IsEdit old new (left ∷ right ∷ []) (new_left ∷ new_right ∷ [])
  pub blocks : TakesAtMost old new 1
  pub balance : AreBalanced old new
