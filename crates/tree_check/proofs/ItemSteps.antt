-- The checks of items, one item and one leaf after another.
use Rattle.std.proofs.Common.{◌≡◌, ◌≤◌, ◌<◌, ◌+◌, ◌-◌, ℕ, List, [], ◌∷◌, ◌++◌, length, drop, slice_get, Option, Some, None, Result, Ok, Err, refl, sym, ap, subst, ◌∙◌}
use Rattle.std.specs.List.{flat_map}
use Rattle.blk_base.specs.declared.fault.ItemFault.{ItemFault}
use Rattle.blk_base.specs.declared.key.Addr.{Addr}
use Rattle.blk_base.specs.Leaf.{Item, Pointer, leaf_body_of, node_body_of}
use Rattle.block_table.specs.Table.{Table}
use Rattle.block_table.specs.TreeIn.{block_at}
use Rattle.leaf_view.specs.Search.{children_of}
use Rattle.tree_range.specs.Shape.{leaf_items}
use Rattle.tree_range.proofs.Bodies.{leaf_items_are}
use Rattle.tree_check.specs.declared.fault.TreeFault.{TreeFault}
use Rattle.tree_check.specs.declared.item.FileEnd.{FileEnd}
use Rattle.tree_check.specs.Items.{and_then, end_of, fault_behind, leaf_checked, leaves_below, leaves_checked, unless_fault}
use Rattle.tree_check.proofs.Places.{above, from_child, from_here, node_is, none_from}

-- ---- the items of a leaf

pub item_passes : (at : Addr) (end : Option FileEnd) (items : List Item) (place : ℕ) (item : Item) → slice_get items place ≡ Some item → fault_behind end item ≡ None
    → leaf_checked at end (drop place items) ≡ leaf_checked at (end_of item) (drop (place + 1) items)
item_passes at end items place item is none =
    ap (leaf_checked at end) (from_here items place item is)
    ∙ ap (λ (fault : Option ItemFault). unless_fault at item.0 fault (leaf_checked at (end_of item) (drop (place + 1) items))) none

pub item_fails : (at : Addr) (end : Option FileEnd) (items : List Item) (place : ℕ) (item : Item) (fault : ItemFault) → slice_get items place ≡ Some item → fault_behind end item ≡ Some fault
    → leaf_checked at end (drop place items) ≡ Err (TreeFault.Item at item.0 fault)
item_fails at end items place item fault is some =
    ap (leaf_checked at end) (from_here items place item is)
    ∙ ap (λ (found : Option ItemFault). unless_fault at item.0 found (leaf_checked at (end_of item) (drop (place + 1) items))) some

pub items_end : (at : Addr) (end : Option FileEnd) (items : List Item) (place : ℕ) → length items ≤ place → leaf_checked at end (drop place items) ≡ Ok end
items_end at end items place past = ap (leaf_checked at end) (none_from items place past)

-- ---- leaves, one behind the other

then_then : {A B C : Type 0} (r : Result A TreeFault) (f : A → Result B TreeFault) (g : B → Result C TreeFault) → and_then (and_then r f) g ≡ and_then r (λ x. and_then (f x) g)
then_then (Ok x) f g = refl
then_then (Err fault) f g = refl

then_ok : {A : Type 0} (r : Result A TreeFault) → and_then r (λ x. Ok x) ≡ r
then_ok (Ok x) = refl
then_ok (Err fault) = refl

pub leaves_append : (table : Table) (end : Option FileEnd) (near far : List ℕ) → leaves_checked table end (near ++ far) ≡ and_then (leaves_checked table end near) (λ after. leaves_checked table after far)
leaves_append table end [] far = refl
leaves_append table end (at ∷ near) far =
    let here : Result (Option FileEnd) TreeFault = leaf_checked (record { 0 = at }) end (leaf_items table at) in
    go here (λ after. leaves_append table after near far) ∙ sym (then_then here (λ after. leaves_checked table after near) (λ after. leaves_checked table after far))
  where
    go : (r : Result (Option FileEnd) TreeFault) → ((after : Option FileEnd) → leaves_checked table after (near ++ far) ≡ and_then (leaves_checked table after near) (λ last. leaves_checked table last far))
        → and_then r (λ after. leaves_checked table after (near ++ far)) ≡ and_then r (λ after. and_then (leaves_checked table after near) (λ last. leaves_checked table last far))
    go (Ok after) later = later after
    go (Err fault) later = refl

-- a block on the lowest level
pub leaf_alone : (table : Table) (at : Addr) (level : ℕ) (end : Option FileEnd) (bytes : List ℕ) (leaf : List Item) (answer : Result (Option FileEnd) TreeFault) → level ≡ 0 → bytes ≡ (block_at table at.0).bytes → leaf_body_of bytes ≡ Ok leaf
    → answer ≡ leaf_checked at end leaf → answer ≡ leaves_checked table end (leaves_below level table at.0)
leaf_alone table at level end bytes leaf answer low bytes_are body is =
    let same : leaf_items table at.0 ≡ leaf = leaf_items_are table at.0 leaf (subst (λ (b : List ℕ). leaf_body_of b ≡ Ok leaf) bytes_are body) in
    is ∙ ap (leaf_checked at end) (sym same) ∙ sym (then_ok (leaf_checked at end (leaf_items table at.0)))
    ∙ ap (λ (n : ℕ). leaves_checked table end (leaves_below n table at.0)) (sym low)

-- ---- the children of a node, from a place on

-- what is left to check from this child on
abbrev pub left_to_check : ℕ → Table → Option FileEnd → List Pointer → ℕ → Result (Option FileEnd) TreeFault
left_to_check below table end pointers place = leaves_checked table end (flat_map (λ (pointer : Pointer). leaves_below below table pointer.at) (drop place pointers))

pub children_begin : (table : Table) (at level : ℕ) (end : Option FileEnd) (bytes : List ℕ) (pointers : List Pointer) → 0 < level → bytes ≡ (block_at table at).bytes → node_body_of bytes ≡ Ok pointers
    → leaves_checked table end (leaves_below level table at) ≡ left_to_check (level - 1) table end pointers 0
children_begin table at level end bytes pointers high bytes_are body =
    above (λ (n : ℕ). leaves_checked table end (leaves_below n table at) ≡ left_to_check (level - 1) table end pointers 0) level high
    (ap (λ (found : List Pointer). leaves_checked table end (flat_map (λ (pointer : Pointer). leaves_below (level - 1) table pointer.at) found)) (node_is table at bytes pointers bytes_are body))

child_first : (below : ℕ) (table : Table) (end : Option FileEnd) (pointers : List Pointer) (place child generation : ℕ) → slice_get (children_of pointers) place ≡ Some (child, generation)
    → left_to_check below table end pointers place ≡ and_then (leaves_checked table end (leaves_below below table child)) (λ after. left_to_check below table after pointers (place + 1))
child_first below table end pointers place child generation is =
    ap (leaves_checked table end) (from_child (leaves_below below table) pointers place child generation is)
    ∙ leaves_append table end (leaves_below below table child) (flat_map (λ (pointer : Pointer). leaves_below below table pointer.at) (drop (place + 1) pointers))

pub child_passes : (below : ℕ) (table : Table) (end after : Option FileEnd) (pointers : List Pointer) (place child generation : ℕ) → slice_get (children_of pointers) place ≡ Some (child, generation)
    → Ok after ≡ leaves_checked table end (leaves_below below table child) → left_to_check below table end pointers place ≡ left_to_check below table after pointers (place + 1)
child_passes below table end after pointers place child generation is passes =
    child_first below table end pointers place child generation is
    ∙ ap (λ (r : Result (Option FileEnd) TreeFault). and_then r (λ later. left_to_check below table later pointers (place + 1))) (sym passes)

pub child_fails : (below : ℕ) (table : Table) (end : Option FileEnd) (fault : TreeFault) (pointers : List Pointer) (place child generation : ℕ) → slice_get (children_of pointers) place ≡ Some (child, generation)
    → Err fault ≡ leaves_checked table end (leaves_below below table child) → left_to_check below table end pointers place ≡ Err fault
child_fails below table end fault pointers place child generation is fails =
    child_first below table end pointers place child generation is
    ∙ ap (λ (r : Result (Option FileEnd) TreeFault). and_then r (λ later. left_to_check below table later pointers (place + 1))) (sym fails)

pub children_end : (below : ℕ) (table : Table) (end : Option FileEnd) (pointers : List Pointer) (place : ℕ) → length pointers ≤ place → left_to_check below table end pointers place ≡ Ok end
children_end below table end pointers place past = ap (λ (rest : List Pointer). leaves_checked table end (flat_map (λ (pointer : Pointer). leaves_below below table pointer.at) rest)) (none_from pointers place past)
