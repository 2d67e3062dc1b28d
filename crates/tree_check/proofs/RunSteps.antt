-- The runs of items, one item and one child after another.
use Rattle.std.proofs.Common.{◌≡◌, ◌≤◌, ◌<◌, ◌+◌, ◌-◌, ℕ, List, ◌++◌, length, drop, slice_get, Some, Ok, sym, ap, subst, ◌∙◌, append-nil, append_assoc}
use Rattle.std.specs.List.{flat_map}
use Rattle.std.proofs.lemmas.List.Concat.{flat_map-append}
use Rattle.blk_base.specs.Leaf.{Item, Pointer, leaf_body_of, node_body_of}
use Rattle.block_table.specs.Table.{Table}
use Rattle.block_table.specs.TreeIn.{block_at}
use Rattle.leaf_view.specs.Search.{children_of}
use Rattle.tree_range.specs.Shape.{items_below, leaf_items}
use Rattle.tree_range.proofs.Bodies.{leaf_items_are}
use Rattle.volume_image.specs.Subvolume.{data_addresses, item_addresses}
use Rattle.tree_check.proofs.Places.{above, from_child, from_here, node_is, none_from}

-- what is to be added behind the addresses that are there
joined : (old now new part rest all : List ℕ) → now ++ rest ≡ old ++ all → rest ≡ part ++ new → (now ++ part) ++ new ≡ old ++ all
joined old now new part rest all is split = append_assoc now part new ∙ ap (λ l. now ++ l) (sym split) ∙ is

pub item_added : (old now after : List ℕ) (items : List Item) (place : ℕ) (item : Item) → slice_get items place ≡ Some item → now ++ data_addresses (drop place items) ≡ old ++ data_addresses items → after ≡ now ++ item_addresses item
    → after ++ data_addresses (drop (place + 1) items) ≡ old ++ data_addresses items
item_added old now after items place item is before more =
    ap (λ (l : List ℕ). l ++ data_addresses (drop (place + 1) items)) more
    ∙ joined old now (data_addresses (drop (place + 1) items)) (item_addresses item) (data_addresses (drop place items)) (data_addresses items) before (ap data_addresses (from_here items place item is))

pub all_added : (old now : List ℕ) (items : List Item) (all : List ℕ) (place : ℕ) → length items ≤ place → now ++ data_addresses (drop place items) ≡ old ++ all → now ≡ old ++ all
all_added old now items all place past is = sym (append-nil now) ∙ ap (λ (l : List ℕ). now ++ l) (sym (ap data_addresses (none_from items place past))) ∙ is

pub leaf_added : (old new : List ℕ) (table : Table) (at level : ℕ) (bytes : List ℕ) (leaf : List Item) → level ≡ 0 → bytes ≡ (block_at table at).bytes → leaf_body_of bytes ≡ Ok leaf
    → new ≡ old ++ data_addresses leaf → new ≡ old ++ data_addresses (items_below level table at)
leaf_added old new table at level bytes leaf low bytes_are body is =
    let same : leaf_items table at ≡ leaf = leaf_items_are table at leaf (subst (λ (b : List ℕ). leaf_body_of b ≡ Ok leaf) bytes_are body) in
    is ∙ ap (λ (items : List Item). old ++ data_addresses items) (sym same) ∙ ap (λ (n : ℕ). old ++ data_addresses (items_below n table at)) (sym low)

-- ---- the children of a node, from a place on

-- the addresses of the data below this child and those behind it
abbrev pub left_to_add : ℕ → Table → List Pointer → ℕ → List ℕ
left_to_add below table pointers place = data_addresses (flat_map (λ (pointer : Pointer). items_below below table pointer.at) (drop place pointers))

pub children_begin : (old : List ℕ) (table : Table) (at level : ℕ) (bytes : List ℕ) (pointers : List Pointer) → 0 < level → bytes ≡ (block_at table at).bytes → node_body_of bytes ≡ Ok pointers
    → old ++ left_to_add (level - 1) table pointers 0 ≡ old ++ data_addresses (items_below level table at)
children_begin old table at level bytes pointers high bytes_are body =
    above (λ (n : ℕ). old ++ left_to_add (level - 1) table pointers 0 ≡ old ++ data_addresses (items_below n table at)) level high
    (ap (λ (found : List Pointer). old ++ data_addresses (flat_map (λ (pointer : Pointer). items_below (level - 1) table pointer.at) found)) (sym (node_is table at bytes pointers bytes_are body)))

pub child_added : (below : ℕ) (table : Table) (old now after all : List ℕ) (pointers : List Pointer) (place child generation : ℕ) → slice_get (children_of pointers) place ≡ Some (child, generation)
    → now ++ left_to_add below table pointers place ≡ old ++ all → after ≡ now ++ data_addresses (items_below below table child) → after ++ left_to_add below table pointers (place + 1) ≡ old ++ all
child_added below table old now after all pointers place child generation is before more =
    let rest : List Item = flat_map (λ (pointer : Pointer). items_below below table pointer.at) (drop (place + 1) pointers) in
    ap (λ (l : List ℕ). l ++ data_addresses rest) more
    ∙ joined old now (data_addresses rest) (data_addresses (items_below below table child)) (left_to_add below table pointers place) all before
    (ap data_addresses (from_child (items_below below table) pointers place child generation is) ∙ flat_map-append item_addresses (items_below below table child) rest)

pub children_added : (below : ℕ) (table : Table) (old now all : List ℕ) (pointers : List Pointer) (place : ℕ) → length pointers ≤ place → now ++ left_to_add below table pointers place ≡ old ++ all → now ≡ old ++ all
children_added below table old now all pointers place past is =
    sym (append-nil now)
    ∙ ap (λ (l : List ℕ). now ++ l) (sym (ap (λ (rest : List Pointer). data_addresses (flat_map (λ (pointer : Pointer). items_below below table pointer.at) rest)) (none_from pointers place past))) ∙ is
