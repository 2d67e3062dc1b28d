-- The items that a leaf's body lists, and the pointers that a node's body lists, whether or not they pass the checks.
use Rattle.std.specs.Prelude.{ℕ, List, map}
use Rattle.blk_base.specs.Leaf.{Item, Pointer, below, count_of, item_of, pointer_of}

-- the items by their headers (own)
abbrev pub items_in : List ℕ → List Item
items_in bytes = map (item_of bytes) (below (count_of bytes))

-- the pointers by their places (own)
abbrev pub pointers_in : List ℕ → List Pointer
pointers_in bytes = map (pointer_of bytes) (below (count_of bytes))
