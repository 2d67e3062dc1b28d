-- What the body of a block lists.
use Rattle.std.proofs.Common.{◌≡◌, ℕ, List, refl, ap, Result, Ok, Err, IsOk}
use Rattle.blk_base.specs.declared.fault.BlockFault.{BlockFault}
use Rattle.blk_base.specs.Leaf.{Item, Pointer, leaf_body_of, node_body_of}
use Rattle.block_table.specs.Table.{Table}
use Rattle.block_table.specs.TreeIn.{block_at}
use Rattle.tree_range.specs.Shape.{listed, leaf_items, node_pointers}

pub leaf_items_are : (table : Table) (at : ℕ) (items : List Item) → leaf_body_of (block_at table at).bytes ≡ Ok items → leaf_items table at ≡ items
unfolding leaf_items
leaf_items_are table at items h = ap listed h

pub node_pointers_are : (table : Table) (at : ℕ) (pointers : List Pointer) → node_body_of (block_at table at).bytes ≡ Ok pointers → node_pointers table at ≡ pointers
unfolding node_pointers
node_pointers_are table at pointers h = ap listed h

ok_listed : {A : Type 0} (r : Result (List A) BlockFault) → IsOk r → r ≡ Ok (listed r)
ok_listed (Ok list) h = refl
ok_listed (Err fault) h = absurd cc

pub leaf_body_is : (table : Table) (at : ℕ) → IsOk (leaf_body_of (block_at table at).bytes) → leaf_body_of (block_at table at).bytes ≡ Ok (leaf_items table at)
unfolding leaf_items
leaf_body_is table at h = ok_listed (leaf_body_of (block_at table at).bytes) h

pub node_body_is : (table : Table) (at : ℕ) → IsOk (node_body_of (block_at table at).bytes) → node_body_of (block_at table at).bytes ≡ Ok (node_pointers table at)
unfolding node_pointers
node_body_is table at h = ok_listed (node_body_of (block_at table at).bytes) h

pub is_ok : {A : Type 0} (r : Result (List A) BlockFault) (list : List A) → r ≡ Ok list → IsOk r
is_ok (Ok other) list h = refl
is_ok (Err fault) list h = absurd cc
