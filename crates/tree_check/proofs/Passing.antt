-- Items that pass their check, whichever leaves they stand in.
use Rattle.std.proofs.Common.{◌≡◌, ℕ, zero, suc, List, [], ◌∷◌, ◌++◌, Option, Some, None, Result, Ok, Err, refl, sym, ap, subst, ◌∙◌, append-nil}
use Rattle.std.specs.List.{flat_map}
use Rattle.std.proofs.lemmas.List.Concat.{flat_map-append}
use Rattle.blk_base.specs.declared.fault.ItemFault.{ItemFault}
use Rattle.blk_base.specs.declared.key.Addr.{Addr}
use Rattle.blk_base.specs.declared.key.Key.{Key}
use Rattle.blk_base.specs.Leaf.{Item, Pointer}
use Rattle.block_table.specs.declared.tree.Tree.{Tree}
use Rattle.block_table.specs.Table.{Table}
use Rattle.tree_range.specs.Shape.{items_below, leaf_items, node_pointers, tree_items}
use Rattle.tree_check.specs.declared.fault.TreeFault.{TreeFault}
use Rattle.tree_check.specs.declared.item.FileEnd.{FileEnd}
use Rattle.tree_check.specs.Items.{and_then, end_of, fault_behind, items_answer, leaf_checked, leaves_below, leaves_checked, unless_fault}

-- each item has no fault behind the one in front of it
abbrev pub AllPass : Option FileEnd → List Item → Type 0
AllPass end [] = Unit {0}
AllPass end (item ∷ items) = (fault_behind end item ≡ None) × AllPass (end_of item) items

-- the end of the last of them
abbrev pub last_end : Option FileEnd → List Item → Option FileEnd
last_end end [] = end
last_end end (item ∷ items) = last_end (end_of item) items

pub pass_append : (end : Option FileEnd) (near far : List Item) → AllPass end near → AllPass (last_end end near) far → AllPass end (near ++ far)
pass_append end [] far one two = two
pass_append end (item ∷ near) far one two = (one.0, pass_append (end_of item) near far one.1 two)

pass_parts : (end : Option FileEnd) (near far : List Item) → AllPass end (near ++ far) → AllPass end near × AllPass (last_end end near) far
pass_parts end [] far h = (tt, h)
pass_parts end (item ∷ near) far h = let later = pass_parts (end_of item) near far h.1 in ((h.0, later.0), later.1)

pub last_append : (end : Option FileEnd) (near far : List Item) → last_end end (near ++ far) ≡ last_end (last_end end near) far
last_append end [] far = refl
last_append end (item ∷ near) far = last_append (end_of item) near far

-- ---- a leaf

unless_ok : {A : Type 0} (at : Addr) (key : Key) (fault : Option ItemFault) (rest : Result A TreeFault) (x : A) → unless_fault at key fault rest ≡ Ok x → (fault ≡ None) × (rest ≡ Ok x)
unless_ok at key None rest x h = (refl, h)
unless_ok at key (Some fault) rest x h = absurd cc

pub leaf_from : (at : Addr) (end : Option FileEnd) (items : List Item) (after : Option FileEnd) → leaf_checked at end items ≡ Ok after → AllPass end items × (last_end end items ≡ after)
leaf_from at end [] after h = (tt, cc)
leaf_from at end (item ∷ items) after h =
    let here = unless_ok at item.0 (fault_behind end item) (leaf_checked at (end_of item) items) after h in
    let later = leaf_from at (end_of item) items after here.1 in
    ((here.0, later.0), later.1)

leaf_to : (at : Addr) (end : Option FileEnd) (items : List Item) → AllPass end items → leaf_checked at end items ≡ Ok (last_end end items)
leaf_to at end [] h = refl
leaf_to at end (item ∷ items) h = ap (λ (fault : Option ItemFault). unless_fault at item.0 fault (leaf_checked at (end_of item) items)) h.0 ∙ leaf_to at (end_of item) items h.1

-- ---- leaves

then_from : {A B : Type 0} (r : Result A TreeFault) (f : A → Result B TreeFault) (y : B) → and_then r f ≡ Ok y → (x : A) × (r ≡ Ok x) × (f x ≡ Ok y)
then_from (Ok x) f y h = (x, refl, h)
then_from (Err fault) f y h = absurd cc

leaves_from : (table : Table) (end : Option FileEnd) (leaves : List ℕ) (after : Option FileEnd) → leaves_checked table end leaves ≡ Ok after → AllPass end (flat_map (leaf_items table) leaves) × (last_end end (flat_map (leaf_items table) leaves) ≡ after)
leaves_from table end [] after h = (tt, cc)
leaves_from table end (at ∷ leaves) after h =
    let there = then_from (leaf_checked (record { 0 = at }) end (leaf_items table at)) (λ mid. leaves_checked table mid leaves) after h in
    let here = leaf_from (record { 0 = at }) end (leaf_items table at) there.0 there.1 in
    let later = leaves_from table there.0 leaves after there.2 in
    let rest = flat_map (leaf_items table) leaves in (
      pass_append end (leaf_items table at) rest here.0 (subst (λ (e : Option FileEnd). AllPass e rest) (sym here.1) later.0),
      last_append end (leaf_items table at) rest ∙ ap (λ (e : Option FileEnd). last_end e rest) here.1 ∙ later.1,
    )

leaves_to : (table : Table) (end : Option FileEnd) (leaves : List ℕ) → AllPass end (flat_map (leaf_items table) leaves) → leaves_checked table end leaves ≡ Ok (last_end end (flat_map (leaf_items table) leaves))
leaves_to table end [] h = refl
leaves_to table end (at ∷ leaves) h =
    let rest = flat_map (leaf_items table) leaves in
    let parts = pass_parts end (leaf_items table at) rest h in
    ap (λ (r : Result (Option FileEnd) TreeFault). and_then r (λ mid. leaves_checked table mid leaves)) (leaf_to (record { 0 = at }) end (leaf_items table at) parts.0)
    ∙ leaves_to table (last_end end (leaf_items table at)) leaves parts.1 ∙ ap (λ (e : Option FileEnd). Ok e) (sym (last_append end (leaf_items table at) rest))

-- ---- the items of the leaves are the tree's

flat_flat : (f : Pointer → List Item) (g : Pointer → List ℕ) (k : ℕ → List Item) → ((pointer : Pointer) → f pointer ≡ flat_map k (g pointer)) → (pointers : List Pointer) → flat_map f pointers ≡ flat_map k (flat_map g pointers)
flat_flat f g k each [] = refl
flat_flat f g k each (pointer ∷ pointers) =
    ap (λ (l : List Item). l ++ flat_map f pointers) (each pointer) ∙ ap (λ (l : List Item). flat_map k (g pointer) ++ l) (flat_flat f g k each pointers) ∙ sym (flat_map-append k (g pointer) (flat_map g pointers))

pub items_flat : (level : ℕ) (table : Table) (at : ℕ) → items_below level table at ≡ flat_map (leaf_items table) (leaves_below level table at)
items_flat zero table at = sym (append-nil (leaf_items table at))
items_flat (suc level) table at =
    flat_flat (λ (pointer : Pointer). items_below level table pointer.at) (λ (pointer : Pointer). leaves_below level table pointer.at) (leaf_items table) (λ pointer. items_flat level table pointer.at) (node_pointers table at)

-- ---- a tree

pub passes_from : (table : Table) (tree : Tree) → items_answer table tree ≡ Ok tt → AllPass None (tree_items table tree)
passes_from table tree h =
    let there = then_from (leaves_checked table None (leaves_below tree.level table tree.root.0)) (λ after. Ok tt) tt h in
    subst (AllPass None) (sym (items_flat tree.level table tree.root.0)) (leaves_from table None (leaves_below tree.level table tree.root.0) there.0 there.1).0

pub passes_to : (table : Table) (tree : Tree) → AllPass None (tree_items table tree) → items_answer table tree ≡ Ok tt
passes_to table tree h =
    ap (λ (r : Result (Option FileEnd) TreeFault). and_then r (λ after. Ok tt)) (leaves_to table None (leaves_below tree.level table tree.root.0) (subst (AllPass None) (items_flat tree.level table tree.root.0) h))
