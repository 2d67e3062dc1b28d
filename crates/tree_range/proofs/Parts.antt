-- A part of a tree stands exactly where its uppermost block and its children do.
use Rattle.std.proofs.Common.{◌≡◌, ◌≤◌, ◌<◌, ◌+◌, ◌-◌, ℕ, zero, suc, List, [], ◌∷◌, ◌++◌, length, take, drop, slice_get, refl, ap, ◌∙◌, sym, subst, Option, Some, None, Result, Ok, IsOk, arith, option_map}
use Rattle.std.specs.Prelude.{All, is_none}
use Rattle.std.specs.List.{flat_map}
use Rattle.std.proofs.lemmas.List.Elements.{All-nil, All-cons, All-head, All-tail, All-append, All-same, All-weaker}
use Rattle.std.proofs.lemmas.Option.{same_Some, get_or_from_slice_get, slice_get-map, slice_get_within}
use Rattle.blk_base.specs.declared.key.Key.{Key}
use Rattle.blk_base.specs.declared.fault.BlockFault.{BlockFault}
use Rattle.blk_base.specs.Keys.{KeyBelow}
use Rattle.blk_base.specs.Leaf.{Item, Pointer, item_of, leaf_body_of, node_body_of}
use Rattle.block_table.specs.Table.{Table}
use Rattle.blk_base.specs.Trees.{ItemsRise, first_key, least_items}
use Rattle.block_table.specs.TreeIn.{IsTaken, block_at}
use Rattle.leaf_view.specs.KeyOrder.{KeyBelow_trans}
use Rattle.leaf_view.specs.Search.{children_of, keys_of, pointer_keys}
use Rattle.leaf_view.proofs.LeafLaws.{leaf_body_means}
use Rattle.tree_range.specs.Shape.{items_below, leaf_items, listed, node_pointers}
use Rattle.tree_range.specs.Between.{AreBelow}
use Rattle.tree_range.specs.Path.{key_behind}
use Rattle.tree_range.specs.Part.{AreBefore, IsChildPart, IsFirst, IsLeafPart, IsNodePart, IsPart}
use Rattle.tree_range.proofs.Bodies.{leaf_body_is, node_pointers_are}
use Rattle.tree_range.proofs.Children.{child_of, first_of}
use Rattle.tree_range.proofs.Cuts.{cut_at, mapped_at}
use Rattle.tree_range.proofs.Found.{key_of}
use Rattle.tree_range.proofs.Law.{Child}
use Rattle.tree_range.proofs.Rise.{All-left, All-right, first_append, first_is, rise_before, rise_left, rise_right}

abbrev pub pointer_key : Pointer → Key
pointer_key pointer = pointer.key

drop_end : {A : Type 0} (xs : List A) (place : ℕ) → length xs ≤ place → drop place xs ≡ []
drop_end [] zero h = refl
drop_end [] (suc place) h = refl
drop_end (x ∷ xs) zero h = absurd (omega arith)
drop_end (x ∷ xs) (suc place) h = drop_end xs place (omega arith)

-- ---- leaves

rising_by : (items : List Item) → ((i : ℕ) (x y : Item) → slice_get items i ≡ Some x → slice_get items (suc i) ≡ Some y → KeyBelow x.0 y.0) → ItemsRise items
rising_by [] h = tt
rising_by (x ∷ []) h = tt
rising_by (x ∷ y ∷ items) h = (h zero x y refl refl, rising_by (y ∷ items) (λ i. h (suc i)))

-- the items of a leaf's body rise
pub body_rises : (bytes : List ℕ) (items : List Item) → leaf_body_of bytes ≡ Ok items → ItemsRise items
body_rises bytes items is =
    let body = leaf_body_means bytes items is in
    rising_by items (λ i x y at_i at_next.
    let inside : suc i < length items = slice_get_within items (suc i) y at_next in
    let one : suc i ≡ i + 1 = omega arith in
    let first : item_of bytes i ≡ x = same_Some (item_of bytes i) x (sym (body.each i (omega arith)) ∙ at_i) in
    let second : item_of bytes (i + 1) ≡ y = same_Some (item_of bytes (i + 1)) y (sym (body.each (i + 1) (omega arith)) ∙ ap (slice_get items) (sym one) ∙ at_next) in
    subst (λ (k : Key). KeyBelow k y.0) (ap key_of first) (subst (λ (k : Key). KeyBelow (item_of bytes i).0 k) (ap key_of second) (body.order i (omega arith))))

-- all items are below a key where the last one is
below_by_last : (items : List Item) (place : ℕ) (last bound : Key) → ItemsRise items → suc place ≡ length items → slice_get (keys_of items) place ≡ Some last → KeyBelow last bound → AreBelow bound items
below_by_last items place last bound rise long is below =
    let there = mapped_at key_of items place last is in
    let x = there.element in
    let cut = cut_at items place x there.at_place in
    let here : KeyBelow x.0 bound = subst (λ (k : Key). KeyBelow k bound) (sym there.value_is) below in
    let end : drop (suc place) items ≡ [] = drop_end items (suc place) (omega arith) in
    let front : AreBelow bound (take place items) = All-weaker (λ (item : Item). KeyBelow item.0 x.0) (λ (item : Item). KeyBelow item.0 bound) (λ item k. KeyBelow_trans item.0 x.0 bound k here) (take place items) (rise_before (take place items) x (drop (suc place) items) (subst ItemsRise cut rise)) in
    let P : Item → Type 0 = λ (item : Item). KeyBelow item.0 bound in
    All-same P items (take place items ++ x ∷ drop (suc place) items) cut (All-append P (take place items) (x ∷ drop (suc place) items) front (All-cons P x (drop (suc place) items) here (All-same P (drop (suc place) items) [] end (All-nil P))))

last_below : (items : List Item) (place : ℕ) (last bound : Key) → slice_get (keys_of items) place ≡ Some last → AreBelow bound items → KeyBelow last bound
last_below items place last bound is all =
    let there = mapped_at key_of items place last is in
    let x = there.element in
    let P : Item → Type 0 = λ (item : Item). KeyBelow item.0 bound in
    let here : P x = subst P (get_or_from_slice_get items place x x there.at_place) (all place x (slice_get_within items place x there.at_place)) in
    subst (λ (k : Key). KeyBelow k bound) there.value_is here

first_at : (items : List Item) (key : Key) → slice_get (keys_of items) 0 ≡ Some key → first_key items ≡ Some key
first_at [] key h = absurd cc
first_at (x ∷ xs) key h = h

least_here : (first : Option Key) (n : ℕ) → 0 < n → least_items (is_none first) ≤ n
least_here None n h = omega arith
least_here (Some key) n h = omega arith

-- a leaf that isn't empty, by its first and last keys
pub leaf_part_from : (bytes : List ℕ) (leaf : List Item) (first next : Option Key) (key last : Key) → leaf_body_of bytes ≡ Ok leaf → 0 < length leaf → slice_get (keys_of leaf) 0 ≡ Some key → slice_get (keys_of leaf) (length leaf - 1) ≡ Some last
    → IsFirst first (Some key) → ((bound : Key) → next ≡ Some bound → KeyBelow last bound) → IsLeafPart bytes first next
leaf_part_from bytes leaf first next key last body some key_is last_is begins ends =
    let same : listed (leaf_body_of bytes) ≡ leaf = ap listed body in
    let long : suc (length leaf - 1) ≡ length leaf = omega arith in
    record {
      body = subst (λ (r : Result (List Item) BlockFault). IsOk r) (sym body) refl;
      least = subst (λ (l : List Item). least_items (is_none first) ≤ length l) (sym same) (least_here first (length leaf) some);
      begins = λ wanted e. ap first_key same ∙ first_at leaf key key_is ∙ begins wanted e;
      ends = λ bound e. subst (λ (l : List Item). AreBelow bound l) (sym same) (below_by_last leaf (length leaf - 1) last bound (body_rises bytes leaf body) long last_is (ends bound e));
    }

pub leaf_part_begins : (bytes : List ℕ) (leaf : List Item) (first next : Option Key) (key : Key) → leaf_body_of bytes ≡ Ok leaf → slice_get (keys_of leaf) 0 ≡ Some key → IsLeafPart bytes first next → IsFirst first (Some key)
leaf_part_begins bytes leaf first next key body key_is h = λ wanted e. sym (first_at leaf key key_is) ∙ sym (ap first_key (ap listed body)) ∙ h.begins wanted e

pub leaf_part_ends : (bytes : List ℕ) (leaf : List Item) (first next : Option Key) (place : ℕ) (last bound : Key) → leaf_body_of bytes ≡ Ok leaf → slice_get (keys_of leaf) place ≡ Some last → IsLeafPart bytes first next → next ≡ Some bound → KeyBelow last bound
leaf_part_ends bytes leaf first next place last bound body last_is h e = last_below leaf place last bound last_is (subst (λ (l : List Item). AreBelow bound l) (ap listed body) (h.ends bound e))

-- a part on level 0
pub part_from_leaf : (table : Table) (at : ℕ) (first next : Option Key) → IsTaken table at → IsLeafPart (block_at table at).bytes first next → IsPart 0 table at first next
unfolding leaf_items
part_from_leaf table at first next taken h =
    record { shape = (taken, h.body, h.least); begins = h.begins; rises = body_rises (block_at table at).bytes (leaf_items table at) (leaf_body_is table at h.body); ends = h.ends }

pub leaf_from_part : (table : Table) (at : ℕ) (first next : Option Key) → IsPart 0 table at first next → IsLeafPart (block_at table at).bytes first next
unfolding leaf_items
leaf_from_part table at first next h = record { body = h.shape.1; least = h.shape.2; begins = h.begins; ends = h.ends }

-- ---- nodes

-- the parts below a node, one by one
abbrev pub Parts : ℕ → Table → Option Key → List Pointer → Type 0
Parts level table next [] = Unit {0}
Parts level table next (pointer ∷ pointers) = IsPart level table pointer.at (Some pointer.key) (key_behind pointers next) × Parts level table next pointers

pub parts_by : (level : ℕ) (table : Table) (next : Option Key) (pointers : List Pointer) → ((place : ℕ) → place < length pointers → IsChildPart level table pointers next place) → Parts level table next pointers
parts_by level table next [] h = tt
parts_by level table next (pointer ∷ pointers) h = (h zero (omega arith) pointer refl, parts_by level table next pointers (λ place inside. h (suc place) (omega arith)))

pub parts_at : (level : ℕ) (table : Table) (next : Option Key) (pointers : List Pointer) (place : ℕ) → Parts level table next pointers → IsChildPart level table pointers next place
parts_at level table next [] place h = λ pointer e. absurd cc
parts_at level table next (p ∷ pointers) zero h = λ pointer e. let same : p ≡ pointer = same_Some p pointer e in subst (λ (q : Pointer). IsPart level table q.at (Some q.key) (key_behind pointers next)) same h.0
parts_at level table next (p ∷ pointers) (suc place) h = parts_at level table next pointers place h.1

rise_join : (xs ys : List Item) → ItemsRise xs → ItemsRise ys → ((key : Key) → first_key ys ≡ Some key → AreBelow key xs) → ItemsRise (xs ++ ys)
rise_join [] ys one two h = two
rise_join (x ∷ []) [] one two h = tt
rise_join (x ∷ []) (y ∷ ys) one two h = (All-head (λ (item : Item). KeyBelow item.0 y.0) x [] (h y.0 refl), two)
rise_join (x ∷ x' ∷ xs) ys one two h = (one.0, rise_join (x' ∷ xs) ys one.1 two (λ key e. All-tail (λ (item : Item). KeyBelow item.0 key) x (x' ∷ xs) (h key e)))

-- what the parts are together
pub record IsRow (level : ℕ) (table : Table) (next : Option Key) (pointers : List Pointer) (items : List Item) : Type 0 where
  pub shapes : All (Child level table) pointers
  pub rises : ItemsRise items
  pub ends : AreBefore items next
  pub first : first_key items ≡ key_behind pointers None

behind_some : (pointers : List Pointer) (next : Option Key) (key : Key) → key_behind pointers None ≡ Some key → key_behind pointers next ≡ Some key
behind_some [] next key h = absurd cc
behind_some (pointer ∷ pointers) next key h = h

-- the first part is below a key that the rest is below
before_rest : (pointers : List Pointer) (next : Option Key) (part rest : List Item) (key : Key) → AreBefore part (key_behind pointers next) → first_key rest ≡ key_behind pointers None → AreBelow key rest → next ≡ Some key → AreBelow key part
before_rest [] next part rest key before first below is = before key is
before_rest (q ∷ qs) next part rest key before first below is =
    let there = first_is rest q.key first in
    let shown : AreBelow key (there.first ∷ there.others) = subst (λ (l : List Item). AreBelow key l) there.items_are below in
    let lower : KeyBelow q.key key = subst (λ (k : Key). KeyBelow k key) there.key_is (All-head (λ (item : Item). KeyBelow item.0 key) there.first there.others shown) in
    All-weaker (λ (item : Item). KeyBelow item.0 q.key) (λ (item : Item). KeyBelow item.0 key) (λ item k. KeyBelow_trans item.0 q.key key k lower) part (before q.key refl)

pub row_of : (level : ℕ) (table : Table) (next : Option Key) (pointers : List Pointer) → Parts level table next pointers → IsRow level table next pointers (flat_map (λ pointer. items_below level table pointer.at) pointers)
row_of level table next [] h = record { shapes = All-nil (Child level table); rises = tt; ends = λ key e. All-nil (λ (item : Item). KeyBelow item.0 key); first = refl }
row_of level table next (p ∷ pointers) h =
    let f : Pointer → List Item = λ (pointer : Pointer). items_below level table pointer.at in
    let part = f p in
    let rest = flat_map f pointers in
    let others = row_of level table next pointers h.1 in
    let begins : first_key part ≡ Some p.key = h.0.begins p.key refl in
    record {
      shapes = All-cons (Child level table) p pointers (h.0.shape, begins) others.shapes;
      rises = rise_join part rest h.0.rises others.rises (λ key e. h.0.ends key (behind_some pointers next key (sym others.first ∙ e)));
      ends = λ key e. All-append (λ (item : Item). KeyBelow item.0 key) part rest (before_rest pointers next part rest key h.0.ends others.first (others.ends key e) e) (others.ends key e);
      first = first_append part rest p.key begins;
    }

-- the rest's first key
rest_first : (level : ℕ) (table : Table) (pointers : List Pointer) → All (Child level table) pointers → first_key (flat_map (λ pointer. items_below level table pointer.at) pointers) ≡ key_behind pointers None
rest_first level table [] h = refl
rest_first level table (p ∷ pointers) h =
    first_append (items_below level table p.at) (flat_map (λ pointer. items_below level table pointer.at) pointers) p.key (All-head (Child level table) p pointers h).1

-- a part in front of a rest that begins with a key is below it
before_first : (part rest : List Item) (key : Key) → ItemsRise (part ++ rest) → first_key rest ≡ Some key → AreBelow key part
before_first part rest key rise first =
    let there = first_is rest key first in
    subst (λ (k : Key). AreBelow k part) there.key_is (rise_before part there.first there.others (subst (λ (l : List Item). ItemsRise (part ++ l)) there.items_are rise))

part_before : (pointers : List Pointer) (next : Option Key) (part rest : List Item) → first_key rest ≡ key_behind pointers None → ItemsRise (part ++ rest) → AreBefore (part ++ rest) next → AreBefore part (key_behind pointers next)
part_before [] next part rest first rise ends = λ key e. All-left (λ (item : Item). KeyBelow item.0 key) part rest (ends key e)
part_before (q ∷ qs) next part rest first rise ends = λ key e. before_first part rest key rise (first ∙ e)

pub parts_from : (level : ℕ) (table : Table) (next : Option Key) (pointers : List Pointer) → All (Child level table) pointers → ItemsRise (flat_map (λ pointer. items_below level table pointer.at) pointers) → AreBefore (flat_map (λ pointer. items_below level table pointer.at) pointers) next
    → Parts level table next pointers
parts_from level table next [] shapes rise ends = tt
parts_from level table next (p ∷ pointers) shapes rise ends =
    let f : Pointer → List Item = λ (pointer : Pointer). items_below level table pointer.at in
    let part = f p in
    let rest = flat_map f pointers in
    let child = All-head (Child level table) p pointers shapes in
    let others = All-tail (Child level table) p pointers shapes in
    let one : IsPart level table p.at (Some p.key) (key_behind pointers next) = record {
      shape = child.0;
      begins = λ wanted e. child.1 ∙ e;
      rises = rise_left part rest rise;
      ends = part_before pointers next part rest (rest_first level table pointers others) rise ends;
    } in
    (one, parts_from level table next pointers others (rise_right part rest rise) (λ key e. All-right (λ (item : Item). KeyBelow item.0 key) part rest (ends key e)))

-- a part above level 0
pub part_from_node : (level : ℕ) (table : Table) (at : ℕ) (first next : Option Key) → IsTaken table at → IsNodePart (block_at table at).bytes first → Parts level table next (node_pointers table at) → IsPart (suc level) table at first next
unfolding node_pointers
part_from_node level table at first next taken h parts =
    let row = row_of level table next (node_pointers table at) parts in
    record { shape = (taken, h.body, h.least, row.shapes); begins = λ wanted e. row.first ∙ h.begins wanted e; rises = row.rises; ends = row.ends }

pub node_from_part : (level : ℕ) (table : Table) (at : ℕ) (first next : Option Key) → IsPart (suc level) table at first next → IsNodePart (block_at table at).bytes first
unfolding node_pointers
node_from_part level table at first next h =
    record { body = h.shape.1; least = h.shape.2; begins = λ wanted e. sym (rest_first level table (node_pointers table at) h.shape.3) ∙ h.begins wanted e }

pub parts_from_part : (level : ℕ) (table : Table) (at : ℕ) (first next : Option Key) → IsPart (suc level) table at first next → Parts level table next (node_pointers table at)
parts_from_part level table at first next h = parts_from level table next (node_pointers table at) h.shape.3 h.rises h.ends

pub part_taken : (level : ℕ) (table : Table) (at : ℕ) (first next : Option Key) → IsPart level table at first next → IsTaken table at
part_taken zero table at first next h = h.shape.0
part_taken (suc level) table at first next h = h.shape.0

-- a part that isn't on level 0, by the pointers that are read from the bytes of its block
pub node_part_above : (level : ℕ) (table : Table) (at : ℕ) (first next : Option Key) (bytes : List ℕ) → 0 < level → bytes ≡ (block_at table at).bytes → IsPart level table at first next → IsNodePart bytes first
node_part_above level table at first next bytes high bytes_are h =
    let one : level ≡ suc (level - 1) = omega arith in
    subst (λ (b : List ℕ). IsNodePart b first) (sym bytes_are) (node_from_part (level - 1) table at first next (subst (λ (n : ℕ). IsPart n table at first next) one h))

pub child_part_above : (level : ℕ) (table : Table) (at : ℕ) (first next : Option Key) (bytes : List ℕ) (pointers : List Pointer) (place : ℕ) → 0 < level → bytes ≡ (block_at table at).bytes → node_body_of bytes ≡ Ok pointers → IsPart level table at first next → IsChildPart (level - 1) table pointers next place
child_part_above level table at first next bytes pointers place high bytes_are body h =
    let one : level ≡ suc (level - 1) = omega arith in
    let same : node_pointers table at ≡ pointers = node_pointers_are table at pointers (subst (λ (b : List ℕ). node_body_of b ≡ Ok pointers) bytes_are body) in
    parts_at (level - 1) table next pointers place (subst (Parts (level - 1) table next) same (parts_from_part (level - 1) table at first next (subst (λ (n : ℕ). IsPart n table at first next) one h)))

pub part_above : (level : ℕ) (table : Table) (at : ℕ) (first next : Option Key) (bytes : List ℕ) (pointers : List Pointer) → 0 < level → bytes ≡ (block_at table at).bytes → node_body_of bytes ≡ Ok pointers → IsTaken table at → IsNodePart bytes first
    → ((place : ℕ) → place < length pointers → IsChildPart (level - 1) table pointers next place) → IsPart level table at first next
part_above level table at first next bytes pointers high bytes_are body taken node each =
    let one : level ≡ suc (level - 1) = omega arith in
    let same : node_pointers table at ≡ pointers = node_pointers_are table at pointers (subst (λ (b : List ℕ). node_body_of b ≡ Ok pointers) bytes_are body) in
    subst (λ (n : ℕ). IsPart n table at first next) (sym one) (part_from_node (level - 1) table at first next taken (subst (λ (b : List ℕ). IsNodePart b first) bytes_are node) (subst (Parts (level - 1) table next) (sym same) (parts_by (level - 1) table next pointers each)))

-- the child at a place, by its address and its first key
pub child_part : (level : ℕ) (table : Table) (pointers : List Pointer) (next : Option Key) (place at generation : ℕ) (key : Key) (behind : Option Key) → slice_get (children_of pointers) place ≡ Some (at, generation) → slice_get (pointer_keys pointers) place ≡ Some key → behind ≡ key_behind (drop (place + 1) pointers) next
    → IsPart level table at (Some key) behind → IsChildPart level table pointers next place
child_part level table pointers next place at generation key behind child key_is behind_is h = λ pointer e.
    let one : place + 1 ≡ suc place = omega arith in
    let at_is : at ≡ pointer.at = first_of pointer.at pointer.generation at generation (sym (slice_get-map child_of pointers place ∙ ap (option_map child_of) e) ∙ child) in
    let same : key ≡ pointer.key = sym (same_Some pointer.key key (sym (slice_get-map pointer_key pointers place ∙ ap (option_map pointer_key) e) ∙ key_is)) in
    subst (λ (b : Option Key). IsPart level table pointer.at (Some pointer.key) b) (behind_is ∙ ap (λ (n : ℕ). key_behind (drop n pointers) next) one) (subst (λ (k : Key). IsPart level table pointer.at (Some k) behind) same (subst (λ (a : ℕ). IsPart level table a (Some key) behind) at_is h))

pub part_of_child : (level : ℕ) (table : Table) (pointers : List Pointer) (next : Option Key) (place at generation : ℕ) (key : Key) (behind : Option Key) → slice_get (children_of pointers) place ≡ Some (at, generation) → slice_get (pointer_keys pointers) place ≡ Some key → behind ≡ key_behind (drop (place + 1) pointers) next
    → IsChildPart level table pointers next place → IsPart level table at (Some key) behind
part_of_child level table pointers next place at generation key behind child key_is behind_is h =
    let one : place + 1 ≡ suc place = omega arith in
    let there = mapped_at pointer_key pointers place key key_is in
    let pointer = there.element in
    let at_is : at ≡ pointer.at = first_of pointer.at pointer.generation at generation (sym (slice_get-map child_of pointers place ∙ ap (option_map child_of) there.at_place) ∙ child) in
    subst (λ (b : Option Key). IsPart level table at (Some key) b) (sym (behind_is ∙ ap (λ (n : ℕ). key_behind (drop n pointers) next) one)) (subst (λ (k : Key). IsPart level table at (Some k) (key_behind (drop (suc place) pointers) next)) there.value_is (subst (λ (a : ℕ). IsPart level table a (Some pointer.key) (key_behind (drop (suc place) pointers) next)) (sym at_is) (h pointer there.at_place)))
