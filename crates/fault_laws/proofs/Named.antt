-- The leaf that the check of a tree's items names is the one that the order of an image's faults names.
use Rattle.std.proofs.Common.{◌≡◌, ◌++◌, ℕ, zero, suc, Bool, true, false, cond, List, [], ◌∷◌, flat_map, Contains, Option, Some, None, Result, Ok, Err, unwrap_or, refl, sym, ap, subst, ◌∙◌, inl, inr}
use Rattle.std.proofs.lemmas.Bool.{cases_Bool}
use Rattle.std.proofs.lemmas.List.Elements.{Contains-append_left, Contains-append_right}
use Rattle.std.specs.List.{list_any}
use Rattle.blk_base.specs.declared.key.Key.{Key}
use Rattle.blk_base.specs.declared.key.Want.{Want}
use Rattle.blk_base.specs.Bytes.{Image}
use Rattle.blk_base.specs.Leaf.{Item, Pointer, leaf_body_of, leaf_of, node_body_of, node_of}
use Rattle.blk_base.specs.Trees.{AreChildren, ItemsRise, child_want, first_key}
use Rattle.block_table.specs.Table.{Table}
use Rattle.block_table.specs.TreeIn.{block_at}
use Rattle.format_laws.specs.Blocks.{leaf_body_of-Ok, leaf_of-Ok, node_body_of-Ok, node_of-Ok}
use Rattle.image_faults.proofs.Rising.{head_below, not_below_itself}
use Rattle.image_order.specs.FirstFault.{BadItem, as_item_fault, first_given, first_item_fault, first_of, leaf_below, leaf_with, read_or_none}
use Rattle.tree_check.specs.declared.fault.TreeFault.{TreeFault}
use Rattle.tree_check.specs.declared.fault.TreeFault.TheVariants as trees
use Rattle.tree_check.specs.Items.{AreBytes, and_then, items_answer, leaves_below, leaves_checked}
use Rattle.tree_check.proofs.First.{first_is}
use Rattle.tree_check.proofs.Passing.{items_flat}
use Rattle.tree_load.specs.Loaded.{HasBytes, tree_wanted}
use Rattle.tree_range.specs.Shape.{IsTree, leaf_items, tree_items, tree_reach}
use Rattle.tree_range.proofs.Bodies.{leaf_items_are, node_pointers_are}
use Rattle.volume_image.specs.Tree.{IsSubtree, IsTree as IsTreeOn, block_of, key_eq}
use Rattle.volume_image.proofs.Lists.{in_cons, in_nothing}
use Rattle.volume_image.proofs.Reaches.{head_in, tail_in}
use Rattle.volume_image.proofs.Rising.{key_eq-same, key_same}
use Rattle.fault_laws.specs.Told.{image_fault}
use Rattle.fault_laws.proofs.Checked.{leaves_same, named}

-- the first of these leaves with the key
abbrev find_leaf : Table → Key → List ℕ → Option ℕ
find_leaf table key [] = None
find_leaf table key (at ∷ leaves) = cond (list_any (λ (item : Item). key_eq item.0 key) (leaf_items table at)) (Some at) (find_leaf table key leaves)

find_joined : (table : Table) (key : Key) (xs ys : List ℕ) → find_leaf table key (xs ++ ys) ≡ first_of (find_leaf table key xs) (find_leaf table key ys)
find_joined table key [] ys = refl
find_joined table key (x ∷ xs) ys = go (list_any (λ (item : Item). key_eq item.0 key) (leaf_items table x)) (find_joined table key xs ys)
  where
    go : (t : Bool) → find_leaf table key (xs ++ ys) ≡ first_of (find_leaf table key xs) (find_leaf table key ys) → cond t (Some x) (find_leaf table key (xs ++ ys)) ≡ first_of (cond t (Some x) (find_leaf table key xs)) (find_leaf table key ys)
    go true rest = refl
    go false rest = rest

-- ---- on the image and in the table

find_children : (image : Image) (table : Table) (key : Key) (child : Pointer → List Item → List ℕ → Type 0) (give : Pointer → Option ℕ) (leaves : Pointer → List ℕ)
    → ((pointer : Pointer) (items : List Item) (reach : List ℕ) → child pointer items reach → HasBytes image table reach → give pointer ≡ find_leaf table key (leaves pointer))
    → (pointers : List Pointer) (items : List Item) (reach : List ℕ) → AreChildren child pointers items reach → HasBytes image table reach → first_given give pointers ≡ find_leaf table key (flat_map leaves pointers)
find_children image table key child give leaves each [] items reach are same = refl
find_children image table key child give leaves each (pointer ∷ pointers) items reach (part, rest, near, far, here, there, is_items, is_reach) same =
    let front : HasBytes image table near = λ at c. same at (subst (λ (xs : List ℕ). Contains xs at) (sym is_reach) (Contains-append_left near far at c)) in
    let back : HasBytes image table far = λ at c. same at (subst (λ (xs : List ℕ). Contains xs at) (sym is_reach) (Contains-append_right near far at c)) in
    (λ i. first_of (each pointer part near here front i) (find_children image table key child give leaves each pointers rest far there back i))
    ∙ sym (find_joined table key (leaves pointer) (flat_map leaves pointers))

found : (level : ℕ) (image : Image) (blocks : ℕ) (is_root : Bool) (want : Want) (key : Key) (table : Table) (items : List Item) (reach : List ℕ) → IsSubtree level image blocks is_root want items reach → HasBytes image table reach
    → leaf_below level image want key ≡ find_leaf table key (leaves_below level table want.at.0)
found zero image blocks is_root want key table items reach (allowed, leaf, least, is_reach) same =
    let read : read_or_none (leaf_of want (block_of image want.at.0)) ≡ items = ap read_or_none (leaf_of-Ok want (block_of image want.at.0) items leaf) in
    let bytes : block_of image want.at.0 ≡ (block_at table want.at.0).bytes = same want.at.0 (subst (λ (xs : List ℕ). Contains xs want.at.0) (sym is_reach) (head_in want.at.0 [])) in
    let body : leaf_body_of (block_at table want.at.0).bytes ≡ Ok items = ap leaf_body_of (sym bytes) ∙ leaf_body_of-Ok (block_of image want.at.0) items leaf.body in
    ap (λ (xs : List Item). cond (list_any (λ (item : Item). key_eq item.0 key) xs) (Some want.at.0) None) (read ∙ sym (leaf_items_are table want.at.0 items body))
found (suc level) image blocks is_root want key table items reach (pointers, lower, allowed, node, least, kids, is_reach) same =
    let read : read_or_none (node_of want (block_of image want.at.0)) ≡ pointers = ap read_or_none (node_of-Ok want (block_of image want.at.0) pointers node) in
    let bytes : block_of image want.at.0 ≡ (block_at table want.at.0).bytes = same want.at.0 (subst (λ (xs : List ℕ). Contains xs want.at.0) (sym is_reach) (head_in want.at.0 lower)) in
    let body : node_body_of (block_at table want.at.0).bytes ≡ Ok pointers = ap node_body_of (sym bytes) ∙ node_body_of-Ok (block_of image want.at.0) pointers node.body in
    let give : Pointer → Option ℕ = λ pointer. leaf_below level image (child_want want pointer level) key in
    let leaves : Pointer → List ℕ = λ pointer. leaves_below level table pointer.at in
    ap (first_given give) read
    ∙ find_children image table key (λ pointer part near. IsSubtree level image blocks false (child_want want pointer level) part near × (first_key part ≡ Some pointer.key)) give leaves
    (λ pointer part near child more. found level image blocks false (child_want want pointer level) key table part near child.0 more) pointers items lower kids
    (λ at c. same at (subst (λ (xs : List ℕ). Contains xs at) (sym is_reach) (tail_in want.at.0 at lower c)))
    ∙ ap (λ (ps : List Pointer). find_leaf table key (flat_map leaves ps)) (sym (node_pointers_are table want.at.0 pointers body))

-- ---- one leaf has a key

any_gives : (key : Key) (items : List Item) → list_any (λ (item : Item). key_eq item.0 key) items ≡ true → (item : Item) × Contains items item × (item.0 ≡ key)
any_gives key [] e = absurd cc
any_gives key (item ∷ items) e = elim (cases_Bool (key_eq item.0 key)) [
  | inl here ↦ (item, head_in item items, key_same item.0 key here)
  | inr other ↦
      let rest = any_gives key items (sym (ap (λ (b : Bool). Rattle.std.proofs.Common.◌||◌ b (list_any (λ (o : Item). key_eq o.0 key) items)) other) ∙ e) in
      (rest.0, tail_in item rest.0 items rest.1, rest.2)
]

any_has : (key : Key) (items : List Item) (item : Item) → Contains items item → item.0 ≡ key → list_any (λ (other : Item). key_eq other.0 key) items ≡ true
any_has key [] item c e = absurd (in_nothing item c)
any_has key (first ∷ items) item c e = elim (in_cons first item items c) [
  | inl here ↦ ap (λ (b : Bool). Rattle.std.proofs.Common.◌||◌ b (list_any (λ (other : Item). key_eq other.0 key) items)) (key_eq-same first.0 key (ap (λ (o : Item). o.0) here ∙ e))
  | inr there ↦ go (key_eq first.0 key) (any_has key items item there e)
]
  where
    go : (b : Bool) → list_any (λ (other : Item). key_eq other.0 key) items ≡ true → Rattle.std.proofs.Common.◌||◌ b (list_any (λ (other : Item). key_eq other.0 key) items) ≡ true
    go true later = refl
    go false later = later

-- rising items that are joined don't have one key on both sides
apart : (xs ys : List Item) (a b : Item) → ItemsRise (xs ++ ys) → Contains xs a → Contains ys b → a.0 ≡ b.0 → ⊥
apart [] ys a b rise c d same = in_nothing a c
apart (x ∷ xs) ys a b rise c d same = elim (in_cons x a xs c) [
  | inl here ↦ not_below_itself x.0 b.0 (ap (λ (o : Item). o.0) here ∙ same) (head_below x (xs ++ ys) rise b (Contains-append_right xs ys b d))
  | inr there ↦ apart xs ys a b (Rattle.image_faults.proofs.Rising.rise_tail x (xs ++ ys) rise) there d same
]

rise_back : (xs ys : List Item) → ItemsRise (xs ++ ys) → ItemsRise ys
rise_back [] ys rise = rise
rise_back (x ∷ xs) ys rise = rise_back xs ys (Rattle.image_faults.proofs.Rising.rise_tail x (xs ++ ys) rise)

held_below : (table : Table) (leaves : List ℕ) (at : ℕ) (item : Item) → Contains leaves at → Contains (leaf_items table at) item → Contains (flat_map (leaf_items table) leaves) item
held_below table leaves at item c d = Rattle.volume_image.proofs.Members.flat_map_in (leaf_items table) leaves at item c d

one_leaf : (table : Table) (leaves : List ℕ) (at : ℕ) (item : Item) → ItemsRise (flat_map (leaf_items table) leaves) → Contains leaves at → Contains (leaf_items table at) item → find_leaf table item.0 leaves ≡ Some at
one_leaf table [] at item rise c held = absurd (in_nothing at c)
one_leaf table (first ∷ leaves) at item rise c held = elim (in_cons first at leaves c) [
  | inl here ↦
      let says = any_has item.0 (leaf_items table first) item (subst (λ (n : ℕ). Contains (leaf_items table n) item) (sym here) held) refl in
      ap (λ (b : Bool). cond b (Some first) (find_leaf table item.0 leaves)) says ∙ ap Some here
  | inr there ↦ elim (cases_Bool (list_any (λ (other : Item). key_eq other.0 item.0) (leaf_items table first))) [
    | inl also ↦
        let other = any_gives item.0 (leaf_items table first) also in
        absurd (apart (leaf_items table first) (flat_map (leaf_items table) leaves) other.0 item rise other.1 (held_below table leaves at item there held) other.2)
    | inr not ↦
        ap (λ (b : Bool). cond b (Some first) (find_leaf table item.0 leaves)) not
        ∙ one_leaf table leaves at item (rise_back (leaf_items table first) (flat_map (leaf_items table) leaves) rise) there held
  ]
]

-- ---- the tree

named_then : {A : Type 0} (r : Result A TreeFault) → named {A = Unit {0}} (and_then {B = Unit {0}} r (λ (x : A). Ok tt)) ≡ named r
named_then (Ok x) = refl
named_then (Err (trees.Item at key why)) = refl
named_then (Err (trees.Outside at)) = refl
named_then (Err (trees.Twice at)) = refl
named_then (Err (trees.Incoherent ino)) = refl
named_then (Err trees.Disk) = refl
named_then (Err trees.OutOfMemory) = refl

module _ (image : Image) (blocks : ℕ) (want : Want) (table : Table) (on : IsTreeOn image blocks want (tree_items table (tree_wanted want)) (tree_reach table (tree_wanted want)))
    (same : HasBytes image table (tree_reach table (tree_wanted want))) (is : IsTree table (tree_wanted want)) where
  pub leaf_named : (at : ℕ) (item : Item) → Contains (leaves_below want.level table want.at.0) at → Contains (leaf_items table at) item → leaf_with image want item.0 ≡ at
  unfolding leaf_with
  leaf_named at item c held =
      ap (λ (o : Option ℕ). unwrap_or o want.at.0) (found want.level image blocks true want item.0 table (tree_items table (tree_wanted want)) (tree_reach table (tree_wanted want)) on.shape same
      ∙ one_leaf table (leaves_below want.level table want.at.0) at item (subst ItemsRise (items_flat want.level table want.at.0) is.order) c held)

module _ (image : Image) (blocks id : ℕ) (want : Want) (table : Table) (on : IsTreeOn image blocks want (tree_items table (tree_wanted want)) (tree_reach table (tree_wanted want)))
    (same : HasBytes image table (tree_reach table (tree_wanted want))) (is : IsTree table (tree_wanted want)) (are : AreBytes (tree_items table (tree_wanted want))) where
  names : named (items_answer table (tree_wanted want)) ≡ first_item_fault None (tree_items table (tree_wanted want))
  names =
      named_then (leaves_checked table None (leaves_below want.level table want.at.0)) ∙ leaves_same table None (leaves_below want.level table want.at.0)
      ∙ ap (first_item_fault None) (sym (items_flat want.level table want.at.0))

  pub item_fault_is_first : image_fault id (items_answer table (tree_wanted want)) ≡ as_item_fault image want (first_item_fault None (tree_items table (tree_wanted want)))
  item_fault_is_first = go (items_answer table (tree_wanted want)) refl
    where
      go : (r : Result (Unit {0}) TreeFault) → items_answer table (tree_wanted want) ≡ r → image_fault id r ≡ as_item_fault image want (first_item_fault None (tree_items table (tree_wanted want)))
      go (Ok none) e = sym (ap (as_item_fault image want) (sym names ∙ ap named e))
      go (Err fault) e =
          let first = first_is table (tree_wanted want) fault is are e in
          let some : first_item_fault None (tree_items table (tree_wanted want)) ≡ Some (first.item.0, first.why) = sym names ∙ ap named (e ∙ ap Err first.is) in
          ap (λ (f : TreeFault). image_fault id (Err f)) first.is
          ∙ ap (λ (at : ℕ). Some (BadItem at first.item.0 first.why)) (sym (leaf_named image blocks want table on same is first.at.0 first.item first.leaf first.held))
          ∙ sym (ap (as_item_fault image want) some)
