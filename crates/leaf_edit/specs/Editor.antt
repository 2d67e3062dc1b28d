-- What an editor of a leaf shows: its items, the block that it borrows, and which borrow that is.
use Rattle.std.specs.Prelude.{ℕ, List}
use Rattle.std.specs.Borrow.{GName}
use Rattle.blk_base.specs.Leaf.{Item}
use Rattle.leaf_view.specs.Listed.{items_in}
use Rattle.leaf_edit.specs.declared.leaf_mut.LeafMut.{LeafMut}

-- the items of the leaf, in order
abbrev pub items_of : LeafMut → List Item
items_of leaf = items_in leaf.block.now

-- the bytes of the block
abbrev pub bytes_of : LeafMut → List ℕ
bytes_of leaf = leaf.block.now

-- the borrow of the block: two editors of one borrow write to one block
abbrev pub lender_of : LeafMut → GName
lender_of leaf = leaf.block.ghost_name
