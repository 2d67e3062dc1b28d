-- Parts of a tree, between a first key and the first key behind them, and how often a list has an address.
use Rattle.std.specs.Prelude.{◌≡◌, ◌≤◌, ◌+◌, ◌==◌, ℕ, suc, List, [], ◌∷◌, length, drop, slice_get, Option, Some, None, is_none, IsOk, if◌then◌else◌}
use Rattle.blk_base.specs.declared.key.Key.{Key}
use Rattle.blk_base.specs.Leaf.{Item, Pointer, leaf_body_of, node_body_of}
use Rattle.block_table.specs.Table.{Table}
use Rattle.blk_base.specs.Trees.{ItemsRise, first_key, least_items, least_pointers}
use Rattle.tree_range.specs.Shape.{IsSubtree, items_below, listed}
use Rattle.tree_range.specs.Between.{AreBelow}
use Rattle.tree_range.specs.Path.{key_behind}

-- this is the first key, where there has to be one
abbrev pub IsFirst : Option Key → Option Key → Type 0
IsFirst first key = (wanted : Key) → first ≡ Some wanted → key ≡ Some wanted

-- the items are below the key, where there is one
abbrev pub AreBefore : List Item → Option Key → Type 0
AreBefore items next = (key : Key) → next ≡ Some key → AreBelow key items

-- A subtree below a block on this level, whose items rise from the first key on, and are below the next key. It is the
-- whole tree where it has no first key.
pub record IsPart (level : ℕ) (table : Table) (at : ℕ) (first next : Option Key) : Type 0 where
  pub shape : IsSubtree level table (is_none first) at
  pub begins : IsFirst first (first_key (items_below level table at))
  pub rises : ItemsRise (items_below level table at)
  pub ends : AreBefore (items_below level table at) next

-- the body of a leaf that is a part
pub record IsLeafPart (bytes : List ℕ) (first next : Option Key) : Type 0 where
  pub body : IsOk (leaf_body_of bytes)
  pub least : least_items (is_none first) ≤ length (listed (leaf_body_of bytes))
  pub begins : IsFirst first (first_key (listed (leaf_body_of bytes)))
  pub ends : AreBefore (listed (leaf_body_of bytes)) next

-- the body of a node that is a part's uppermost
pub record IsNodePart (bytes : List ℕ) (first : Option Key) : Type 0 where
  pub body : IsOk (node_body_of bytes)
  pub least : least_pointers (is_none first) ≤ length (listed (node_body_of bytes))
  pub begins : IsFirst first (key_behind (listed (node_body_of bytes)) None)

-- the child with this number is a part, up to the first key of the one behind it
abbrev pub IsChildPart : ℕ → Table → List Pointer → Option Key → ℕ → Type 0
IsChildPart level table pointers next place =
    (pointer : Pointer) → slice_get pointers place ≡ Some pointer → IsPart level table pointer.at (Some pointer.key) (key_behind (drop (suc place) pointers) next)

-- how often an address stands in a list
abbrev pub times_in : ℕ → List ℕ → ℕ
times_in at [] = 0
times_in at (other ∷ others) = (if other == at then 1 else 0) + times_in at others
