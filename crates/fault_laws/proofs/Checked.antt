-- The check of a tree's leaves and the order of an image's faults name the same item and its fault.
use Rattle.std.proofs.Common.{◌≡◌, ◌+◌, ◌++◌, ◌==◌, ◌&&◌, ℕ, Bool, true, false, cond, nat_lt, List, [], ◌∷◌, flat_map, Option, Some, None, Result, Ok, Err, refl, sym, ap, ◌∙◌, inl, inr}
use Rattle.std.proofs.lemmas.Bool.{cases_Bool, eq-eqb, eqb-true}
use Rattle.blk_base.specs.declared.fault.ItemFault.{ItemFault}
use Rattle.blk_base.specs.declared.fault.ItemFault.TheVariants.{Overlap}
use Rattle.blk_base.specs.declared.key.Addr.{Addr}
use Rattle.blk_base.specs.declared.key.Key.{Key}
use Rattle.blk_base.specs.ItemFaults.{item_fault}
use Rattle.blk_base.specs.Keys.{extent_data}
use Rattle.blk_base.specs.Leaf.{Item}
use Rattle.block_table.specs.Table.{Table}
use Rattle.image_order.specs.FirstFault.{first_item_fault, first_of, is_overlap, overlap_after, with_key}
use Rattle.tree_check.specs.declared.fault.TreeFault.{TreeFault}
use Rattle.tree_check.specs.declared.fault.TreeFault.TheVariants as trees
use Rattle.tree_check.specs.Items.{and_then, end_of, fault_behind, is_below_end, leaf_checked, leaves_checked, or_overlap, unless_fault}
use Rattle.tree_range.specs.Shape.{leaf_items}
use Rattle.volume_image.specs.Subvolume.{extent_len}

-- the key and the fault that a check names
abbrev pub named : {A : Type 0} → Result A TreeFault → Option (Key × ItemFault)
named (Ok x) = None
named (Err (trees.Item at key why)) = Some (key, why)
named (Err (trees.Outside at)) = None
named (Err (trees.Twice at)) = None
named (Err (trees.Incoherent ino)) = None
named (Err trees.Disk) = None
named (Err trees.OutOfMemory) = None

-- the type that a function gives
abbrev pub given_by : {A B : Type 0} → (A → B) → Type 0
given_by {B = B} f = B

-- where an extent may end, as the check keeps it
abbrev pub End : Type 0
End = given_by end_of

-- where the item before ends, if there is one that does
abbrev pub end_before : Option Item → End
end_before None = None
end_before (Some item) = end_of item

abbrev pub last_of : Option Item → List Item → Option Item
last_of before [] = before
last_of before (item ∷ items) = last_of (Some item) items

-- ---- one item

same_either : (a b : ℕ) → (a == b) ≡ (b == a)
same_either a b = elim (cases_Bool (a == b)) [
  | inl e ↦ e ∙ sym (eq-eqb b a (sym (eqb-true a b e)))
  | inr e ↦ elim (cases_Bool (b == a)) [
    | inl f ↦ absurd (let no : true ≡ false = sym (eq-eqb a b (sym (eqb-true b a f))) ∙ e in cc)
    | inr f ↦ e ∙ sym f
  ]
]

grouped : (a b c : Bool) → ((a && b) && c) ≡ (a && (b && c))
grouped true b c = refl
grouped false b c = refl

below_is : (before item : Item) → is_below_end (end_of before) item.0 ≡ is_overlap before item
below_is before item = go (before.0.kind == extent_data)
  where
    go : (t : Bool) → is_below_end (cond t (Some (record { file = before.0.objectid; end = before.0.offset + extent_len before.0 before.1 })) None) item.0
        ≡ (t && ((item.0.kind == extent_data) && ((before.0.objectid == item.0.objectid) && nat_lt item.0.offset (before.0.offset + extent_len before.0 before.1))))
    go true =
        grouped (item.0.kind == extent_data) (item.0.objectid == before.0.objectid) (nat_lt item.0.offset (before.0.offset + extent_len before.0 before.1))
        ∙ ap (λ (b : Bool). (item.0.kind == extent_data) && (b && nat_lt item.0.offset (before.0.offset + extent_len before.0 before.1))) (same_either item.0.objectid before.0.objectid)
    go false = refl

joined : (f : Option ItemFault) (t : Bool) → or_overlap f t ≡ first_of f (cond t (Some Overlap) None)
joined (Some why) t = refl
joined None true = refl
joined None false = refl

behind_is : (before : Option Item) (item : Item) → fault_behind (end_before before) item ≡ first_of (item_fault item.0 item.1) (overlap_after before item)
behind_is None item = joined (item_fault item.0 item.1) false
behind_is (Some before) item =
    ap (or_overlap (item_fault item.0 item.1)) (below_is before item) ∙ joined (item_fault item.0 item.1) (is_overlap before item)

-- ---- the items of a leaf

leaf_same : (at : Addr) (before : Option Item) (items : List Item) → named (leaf_checked at (end_before before) items) ≡ first_item_fault before items
leaf_same at before [] = refl
leaf_same at before (item ∷ items) =
    go (fault_behind (end_before before) item) (leaf_same at (Some item) items)
    ∙ ap (λ (f : Option ItemFault). first_of (with_key item.0 f) (first_item_fault (Some item) items)) (behind_is before item)
  where
    go : (found : Option ItemFault) → named (leaf_checked at (end_of item) items) ≡ first_item_fault (Some item) items
        → named (unless_fault at item.0 found (leaf_checked at (end_of item) items)) ≡ first_of (with_key item.0 found) (first_item_fault (Some item) items)
    go (Some why) rest = refl
    go None rest = rest

leaf_end : (at : Addr) (before : Option Item) (items : List Item) (after : End) → leaf_checked at (end_before before) items ≡ Ok after → after ≡ end_before (last_of before items)
leaf_end at before [] after e = cc
leaf_end at before (item ∷ items) after e = go (fault_behind (end_before before) item) e (leaf_end at (Some item) items after)
  where
    go : (found : Option ItemFault) → unless_fault at item.0 found (leaf_checked at (end_of item) items) ≡ Ok after
        → (leaf_checked at (end_of item) items ≡ Ok after → after ≡ end_before (last_of (Some item) items)) → after ≡ end_before (last_of (Some item) items)
    go (Some why) f rest = absurd cc
    go None f rest = rest f

-- a leaf's fault is that of an item
leaf_names : (at : Addr) (end : End) (items : List Item) (fault : TreeFault) → leaf_checked at end items ≡ Err fault → (key : Key) × (why : ItemFault) × (fault ≡ TreeFault.Item at key why)
leaf_names at end [] fault e = absurd cc
leaf_names at end (item ∷ items) fault e = go (fault_behind end item) e (leaf_names at (end_of item) items fault)
  where
    go : (found : Option ItemFault) → unless_fault at item.0 found (leaf_checked at (end_of item) items) ≡ Err fault
        → (leaf_checked at (end_of item) items ≡ Err fault → (key : Key) × (why : ItemFault) × (fault ≡ TreeFault.Item at key why)) → (key : Key) × (why : ItemFault) × (fault ≡ TreeFault.Item at key why)
    go (Some why) f rest = (item.0, why, cc)
    go None f rest = rest f

-- ---- all leaves

grouped_faults : {F : Type 0} (a b c : Option F) → first_of (first_of a b) c ≡ first_of a (first_of b c)
grouped_faults (Some x) b c = refl
grouped_faults None b c = refl

fault_joined : (before : Option Item) (xs ys : List Item) → first_item_fault before (xs ++ ys) ≡ first_of (first_item_fault before xs) (first_item_fault (last_of before xs) ys)
fault_joined before [] ys = refl
fault_joined before (x ∷ xs) ys =
    ap (first_of (with_key x.0 (first_of (item_fault x.0 x.1) (overlap_after before x)))) (fault_joined (Some x) xs ys)
    ∙ sym (grouped_faults (with_key x.0 (first_of (item_fault x.0 x.1) (overlap_after before x))) (first_item_fault (Some x) xs) (first_item_fault (last_of (Some x) xs) ys))

pub leaves_same : (table : Table) (before : Option Item) (leaves : List ℕ) → named (leaves_checked table (end_before before) leaves) ≡ first_item_fault before (flat_map (leaf_items table) leaves)
leaves_same table before [] = refl
leaves_same table before (at ∷ leaves) =
    go (leaf_checked (record { 0 = at }) (end_before before) (leaf_items table at)) refl (leaves_same table (last_of before (leaf_items table at)) leaves) ∙ sym (fault_joined before (leaf_items table at) (flat_map (leaf_items table) leaves))
  where
    here : named (leaf_checked (record { 0 = at }) (end_before before) (leaf_items table at)) ≡ first_item_fault before (leaf_items table at)
    here = leaf_same (record { 0 = at }) before (leaf_items table at)

    go : (r : Result End TreeFault) → leaf_checked (record { 0 = at }) (end_before before) (leaf_items table at) ≡ r
        → named (leaves_checked table (end_before (last_of before (leaf_items table at))) leaves) ≡ first_item_fault (last_of before (leaf_items table at)) (flat_map (leaf_items table) leaves)
        → named (and_then r (λ after. leaves_checked table after leaves)) ≡ first_of (first_item_fault before (leaf_items table at)) (first_item_fault (last_of before (leaf_items table at)) (flat_map (leaf_items table) leaves))
    go (Ok after) e rest =
        let ends = leaf_end (record { 0 = at }) before (leaf_items table at) after e in
        let none : first_item_fault before (leaf_items table at) ≡ None = sym here ∙ ap named e in
        ap (λ (end : End). named (leaves_checked table end leaves)) ends ∙ rest
        ∙ sym (ap (λ (o : Option (Key × ItemFault)). first_of o (first_item_fault (last_of before (leaf_items table at)) (flat_map (leaf_items table) leaves))) none)
    go (Err fault) e rest =
        let item = leaf_names (record { 0 = at }) (end_before before) (leaf_items table at) fault e in
        let some : first_item_fault before (leaf_items table at) ≡ Some (item.0, item.1) = sym here ∙ ap named e ∙ ap (λ (f : TreeFault). named {A = End} (Err f)) item.2 in
        ap (λ (f : TreeFault). named {A = End} (Err f)) item.2
        ∙ sym (ap (λ (o : Option (Key × ItemFault)). first_of o (first_item_fault (last_of before (leaf_items table at)) (flat_map (leaf_items table) leaves))) some)
