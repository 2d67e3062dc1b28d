-- The items of a leaf and the pointers of a node, by the bytes of a block alone.
use Rattle.std.specs.Prelude.{◌≡◌, ℕ, List, [], Result, Ok, Err}
use Rattle.blk_base.specs.declared.fault.BlockFault.{BlockFault}
use Rattle.blk_base.specs.Leaf.{Item, Pointer, leaf_body_of, node_body_of}
use Rattle.tree_blocks.specs.declared.child.Child.{Child}

-- what a body lists; nothing where it has a fault (own)
abbrev pub listed : {A : Type 0} → Result (List A) BlockFault → List A
listed (Ok list) = list
listed (Err fault) = []

-- the items of a leaf's body ("Leaf Node")
unfoldable pub leaf_list : List ℕ → List Item
leaf_list bytes = listed (leaf_body_of bytes)

-- the pointers of a node's body ("Internal Node")
unfoldable pub node_list : List ℕ → List Pointer
node_list bytes = listed (node_body_of bytes)

-- the body is a leaf's, and a node's (own)
abbrev pub IsLeafBlock : List ℕ → Type 0
IsLeafBlock bytes = leaf_body_of bytes ≡ Ok (leaf_list bytes)

abbrev pub IsNodeBlock : List ℕ → Type 0
IsNodeBlock bytes = node_body_of bytes ≡ Ok (node_list bytes)

-- the pointer to a child
abbrev pub pointer_to : Child → Pointer
pointer_to child = record { key = child.key; at = child.at.0; generation = child.generation }
