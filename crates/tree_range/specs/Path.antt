-- The way from a tree's root to the leaf where a key belongs, and places among the tree's items.
use Rattle.std.specs.Prelude.{◌≡◌, ◌⊎◌, ◌≤◌, ℕ, Bool, false, List, [], ◌∷◌, ◌++◌, length, take, drop, All, Option, Some}
use Rattle.blk_base.specs.declared.key.Key.{Key}
use Rattle.blk_base.specs.Keys.{KeyBelow, key_below}
use Rattle.blk_base.specs.Leaf.{Item, Pointer}
use Rattle.block_table.specs.declared.tree.Tree.{Tree}
use Rattle.block_table.specs.Table.{Table}
use Rattle.blk_base.specs.Trees.{first_key}
use Rattle.tree_range.specs.Shape.{IsSubtree, items_below, leaf_items, reach_below, tree_items, tree_reach}
use Rattle.tree_range.specs.Between.{AreBelow, AreAbove}

-- the first key of the children, and this one where there are none (own)
abbrev pub key_behind : List Pointer → Option Key → Option Key
key_behind [] next = next
key_behind (pointer ∷ pointers) next = Some pointer.key

-- the child with this number is the one under which a key belongs: the last whose first key isn't above it, else the first
pub record IsChildPlace (pointers : List Pointer) (key : Key) (place : ℕ) : Type 0 where
  pub lefts : List Pointer
  pub pointer : Pointer
  pub rights : List Pointer
  pub split : pointers ≡ lefts ++ pointer ∷ rights
  pub long : length lefts ≡ place
  pub low : (lefts ≡ []) ⊎ ((pointer.key ≡ key) ⊎ KeyBelow pointer.key key)
  pub high : (pointer.key ≡ key) ⊎ All (λ (right : Pointer). KeyBelow key right.key) rights

-- the same of its address, and of the first key behind all that is below it, where `next` is the first one behind the node
pub record IsChild (pointers : List Pointer) (key : Key) (next : Option Key) (at : ℕ) (behind : Option Key) : Type 0 where
  pub place : ℕ
  pub is_place : IsChildPlace pointers key place
  pub at_is : at ≡ is_place.pointer.at
  pub behind_is : behind ≡ key_behind is_place.rights next

-- a block of the tree on this level: the items in front of those below it are all below a key, those behind are above it,
-- and `next` is the first key of those
pub record IsPath (table : Table) (tree : Tree) (level : ℕ) (key : Key) (at : ℕ) (next : Option Key) : Type 0 where
  pub is_root : Bool
  pub shape : IsSubtree level table is_root at
  pub before : List Item
  pub after : List Item
  pub items : tree_items table tree ≡ before ++ (items_below level table at ++ after)
  pub next_is : next ≡ first_key after
  pub below : AreBelow key before
  pub above : AreAbove key after
  pub reach_before : List ℕ
  pub reach_after : List ℕ
  pub reach : tree_reach table tree ≡ reach_before ++ (reach_below level table at ++ reach_after)

-- the leaf at a byte address is one of the tree: its items stand together among the tree's, and the tree reaches it
pub record IsLeafOf (table : Table) (tree : Tree) (at : ℕ) : Type 0 where
  pub is_root : Bool
  pub shape : IsSubtree 0 table is_root at
  pub before : List Item
  pub after : List Item
  pub items : tree_items table tree ≡ before ++ (leaf_items table at ++ after)
  pub reach_before : List ℕ
  pub reach_after : List ℕ
  pub reach : tree_reach table tree ≡ reach_before ++ at ∷ reach_after

-- the items from a key on begin at this place
pub record IsStart (items : List Item) (key : Key) (place : ℕ) : Type 0 where
  pub inside : place ≤ length items
  pub below : AreBelow key (take place items)
  pub from : All (λ (item : Item). key_below item.0 key ≡ false) (drop place items)

-- the first key of the items, and this one where there are none (own)
abbrev pub key_here : List Item → Option Key → Option Key
key_here [] next = next
key_here (item ∷ items) next = Some item.0
