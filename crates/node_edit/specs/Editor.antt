-- What an editor of a node shows: its pointers, the block that it borrows, and which borrow that is.
use Rattle.std.specs.Prelude.{ℕ, List}
use Rattle.std.specs.Borrow.{GName}
use Rattle.blk_base.specs.Leaf.{Pointer}
use Rattle.leaf_view.specs.Listed.{pointers_in}
use Rattle.node_edit.specs.declared.node_mut.NodeMut.{NodeMut}

-- the pointers of the node, in order
abbrev pub pointers_of : NodeMut → List Pointer
pointers_of node = pointers_in node.block.now

-- the bytes of the block
abbrev pub bytes_of : NodeMut → List ℕ
bytes_of node = node.block.now

-- the borrow of the block: two editors of one borrow write to one block
abbrev pub lender_of : NodeMut → GName
lender_of node = node.block.ghost_name
