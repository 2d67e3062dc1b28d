-- What a block that is known to be a leaf or a node lists, and what a table then shows of it.
use Rattle.std.proofs.Common.{◌≡◌, ◌≤◌, ◌∙◌, ◌++◌, ℕ, List, length, length-append, ap, sym, refl, arith, Result, Ok, Err, IsOk, zero, suc, [], ◌∷◌, Some, slice_get}
use Rattle.blk_base.specs.declared.fault.BlockFault.{BlockFault}
use Rattle.blk_base.specs.Leaf.{Item, Pointer, leaf_body_of, node_body_of}
use Rattle.leaf_view.specs.Search.{contents_of}
use Rattle.leaf_edit.specs.Written.{data_at}
use Rattle.leaf_view.proofs.NodeLaws.{node_body_means}
use Rattle.block_table.specs.declared.state.SlotState.TheVariants.{Dirty}
use Rattle.block_table.specs.Table.{Table}
use Rattle.block_table.specs.TreeIn.{block_at}
use Rattle.tree_blocks.specs.Lists.{listed, leaf_list, node_list, IsLeafBlock, IsNodeBlock}
use Rattle.tree_blocks.specs.Steps.{leaf_at, node_at, IsDirtyLeaf, IsDirtyNode}

-- ---- leaves

pub leaf_list-is : (bytes : List ℕ) (items : List Item) → leaf_body_of bytes ≡ Ok items → leaf_list bytes ≡ items
unfolding leaf_list
leaf_list-is bytes items h = ap (λ (body : Result (List Item) BlockFault). listed body) h

pub leaf_block : (bytes : List ℕ) (items : List Item) → leaf_body_of bytes ≡ Ok items → IsLeafBlock bytes
leaf_block bytes items h = h ∙ ap (λ list. Ok list) (sym (leaf_list-is bytes items h))

leaf_given : (bytes : List ℕ) (r : Result (List Item) BlockFault) → leaf_body_of bytes ≡ r → IsOk r → IsLeafBlock bytes
leaf_given bytes (Ok items) is ok = leaf_block bytes items is
leaf_given bytes (Err fault) is ok = cc

pub leaf_from_ok : (bytes : List ℕ) → IsOk (leaf_body_of bytes) → IsLeafBlock bytes
leaf_from_ok bytes ok = leaf_given bytes (leaf_body_of bytes) refl ok

pub leaf_to_ok : (bytes : List ℕ) → IsLeafBlock bytes → IsOk (leaf_body_of bytes)
leaf_to_ok bytes h = rw h refl

-- the block at an address has these bytes
pub leaf_shown : (table : Table) (at : ℕ) (bytes : List ℕ) (items : List Item) → (block_at table at).bytes ≡ bytes → leaf_body_of bytes ≡ Ok items → leaf_at table at ≡ items
leaf_shown table at bytes items same h = ap leaf_list same ∙ leaf_list-is bytes items h

pub leaf_dirty : (table : Table) (at : ℕ) (bytes : List ℕ) (items : List Item) → (block_at table at).state ≡ Dirty → (block_at table at).bytes ≡ bytes → leaf_body_of bytes ≡ Ok items → IsDirtyLeaf table at
leaf_dirty table at bytes items dirty same h =
    record { dirty = dirty; body = leaf_block (block_at table at).bytes items (ap leaf_body_of same ∙ h) }

-- the data of the item at a place, as a view of the leaf shows them
pub data_shown : (items : List Item) (place : ℕ) (content : List ℕ) → slice_get (contents_of items) place ≡ Some content → content ≡ data_at items place
data_shown [] place content h = absurd (cc)
data_shown (item ∷ items) zero content h = cc
data_shown (item ∷ items) (suc place) content h = data_shown items place content h

-- ---- nodes

pub node_list-is : (bytes : List ℕ) (pointers : List Pointer) → node_body_of bytes ≡ Ok pointers → node_list bytes ≡ pointers
unfolding node_list
node_list-is bytes pointers h = ap (λ (body : Result (List Pointer) BlockFault). listed body) h

pub node_block : (bytes : List ℕ) (pointers : List Pointer) → node_body_of bytes ≡ Ok pointers → IsNodeBlock bytes
node_block bytes pointers h = h ∙ ap (λ list. Ok list) (sym (node_list-is bytes pointers h))

node_given : (bytes : List ℕ) (r : Result (List Pointer) BlockFault) → node_body_of bytes ≡ r → IsOk r → IsNodeBlock bytes
node_given bytes (Ok pointers) is ok = node_block bytes pointers is
node_given bytes (Err fault) is ok = cc

pub node_from_ok : (bytes : List ℕ) → IsOk (node_body_of bytes) → IsNodeBlock bytes
node_from_ok bytes ok = node_given bytes (node_body_of bytes) refl ok

pub node_to_ok : (bytes : List ℕ) → IsNodeBlock bytes → IsOk (node_body_of bytes)
node_to_ok bytes h = rw h refl

-- a node has a pointer
pub node_least : (bytes : List ℕ) → IsNodeBlock bytes → 1 ≤ length (node_list bytes)
node_least bytes h = (node_body_means bytes (node_list bytes) h).least

pub node_shown : (table : Table) (at : ℕ) (bytes : List ℕ) (pointers : List Pointer) → (block_at table at).bytes ≡ bytes → node_body_of bytes ≡ Ok pointers → node_at table at ≡ pointers
node_shown table at bytes pointers same h = ap node_list same ∙ node_list-is bytes pointers h

pub node_dirty : (table : Table) (at : ℕ) (bytes : List ℕ) (pointers : List Pointer) → (block_at table at).state ≡ Dirty → (block_at table at).bytes ≡ bytes → node_body_of bytes ≡ Ok pointers → IsDirtyNode table at
node_dirty table at bytes pointers dirty same h =
    record { dirty = dirty; body = node_block (block_at table at).bytes pointers (ap node_body_of same ∙ h) }

-- a list that begins with a node's pointers isn't empty
pub some_pointers : (bytes : List ℕ) (front back all : List Pointer) → node_body_of bytes ≡ Ok front → all ≡ front ++ back → 1 ≤ length all
some_pointers bytes front back all h is =
    omega (arith, (node_body_means bytes front h).least, ap length is, length-append front back)
