-- What is below a node's pointers, in two tables.
use Rattle.std.proofs.Common.{◌≡◌, ◌≤◌, ◌+◌, ℕ, zero, suc, Bool, true, false, List, [], ◌∷◌, ◌++◌, length, refl, ap, ◌∙◌, sym, subst, Some, None, IsOk, ◌⊎◌, arith, inl, inr, append_assoc}
use Rattle.std.specs.Prelude.{All}
use Rattle.std.specs.List.{flat_map, sum_by}
use Rattle.std.proofs.lemmas.List.Concat.{flat_map-append}
use Rattle.std.proofs.lemmas.List.Elements.{All-nil, All-cons, All-head, All-tail, All-same, All-weaker}
use Rattle.std.proofs.lemmas.List.Sums.{sum_by-append, sum_by-cons}
use Rattle.blk_base.specs.declared.key.Key.{Key}
use Rattle.blk_base.specs.Keys.{KeyBelow, keys_rise}
use Rattle.blk_base.specs.Leaf.{Item, Pointer, node_body_of}
use Rattle.block_table.specs.Table.{Table}
use Rattle.blk_base.specs.Trees.{ItemsRise, first_key, least_pointers}
use Rattle.block_table.specs.TreeIn.{block_at}
use Rattle.leaf_view.specs.KeyOrder.{KeyBelow_trans}
use Rattle.leaf_view.specs.Search.{pointer_keys}
use Rattle.leaf_view.proofs.Rising.{key_below_from}
use Rattle.tree_range.specs.Shape.{AreAlike, IsSubtree, items_below, node_pointers, reach_below}
use Rattle.tree_range.specs.Between.{AreAbove, AreBelow}
use Rattle.tree_range.specs.Path.{key_behind}
use Rattle.tree_range.proofs.Local.{alike_below, node_pointers_alike, taken_alike}
use Rattle.tree_range.proofs.Rise.{All-left, All-right, first_is, first_append, above_from_first, rise_before, rise_head, rise_right}
use Rattle.tree_frame.proofs.Counting.{counted_alike}
use Rattle.tree_frame.specs.Frame.{leaves_below}
use Rattle.tree_delete.specs.Ahead.{row_ahead}
use Rattle.tree_delete.specs.Rows.{IsChildOf, IsNodeOver, row_items, row_leaves, row_reach}
use Rattle.tree_delete.specs.Seals.{IsSealedRow}
use Rattle.tree_delete.proofs.Ahead.{row_ahead_alike}
use Rattle.tree_delete.proofs.Seals.{row_sealed_alike}

-- ---- rows in two tables that are alike there

pub record IsAlikeRow (level : ℕ) (old new : Table) (pointers : List Pointer) : Type 0 where
  pub items : row_items level new pointers ≡ row_items level old pointers
  pub reach : row_reach level new pointers ≡ row_reach level old pointers
  pub leaves : row_leaves level new pointers ≡ row_leaves level old pointers
  pub ahead : (first last : Key) → row_ahead first last level new pointers ≡ row_ahead first last level old pointers
  pub sealed : (fsid : List ℕ) (owner : ℕ) → IsSealedRow fsid owner level old pointers → IsSealedRow fsid owner level new pointers
  pub children : All (IsChildOf level old) pointers → All (IsChildOf level new) pointers

child_alike : (level : ℕ) (old new : Table) (pointer : Pointer) → AreAlike old new (reach_below level old pointer.at) → IsChildOf level old pointer → IsChildOf level new pointer
child_alike level old new pointer h child =
    let below = alike_below level old new pointer.at h in
    (below.shape false child.0, subst (λ (l : List Item). first_key l ≡ Some pointer.key) (sym below.items) child.1)

pub row_alike : (level : ℕ) (old new : Table) (pointers : List Pointer) → AreAlike old new (row_reach level old pointers) → IsAlikeRow level old new pointers
row_alike level old new [] h = record { items = refl; reach = refl; leaves = refl; ahead = λ first last. refl; sealed = λ fsid owner all. row_sealed_alike fsid owner level old new [] h all; children = λ all. All-nil (IsChildOf level new) }
row_alike level old new (p ∷ pointers) h =
    let P : ℕ → Type 0 = λ (place : ℕ). block_at new place ≡ block_at old place in
    let near = reach_below level old p.at in
    let far = row_reach level old pointers in
    let here = All-left P near far h in
    let below = alike_below level old new p.at here in
    let others = row_alike level old new pointers (All-right P near far h) in
    let f : Pointer → ℕ = λ (pointer : Pointer). leaves_below level new pointer.at in
    let g : Pointer → ℕ = λ (pointer : Pointer). leaves_below level old pointer.at in
    record {
      items = ap (λ (l : List Item). l ++ row_items level new pointers) below.items ∙ ap (λ (l : List Item). items_below level old p.at ++ l) others.items;
      reach = ap (λ (l : List ℕ). l ++ row_reach level new pointers) below.reach ∙ ap (λ (l : List ℕ). near ++ l) others.reach;
      leaves = omega (arith, sum_by-cons f p pointers, sum_by-cons g p pointers, (counted_alike level old new p.at here).leaves, others.leaves);
      ahead = λ first last. row_ahead_alike first last level old new (p ∷ pointers) h;
      sealed = λ fsid owner all. row_sealed_alike fsid owner level old new (p ∷ pointers) h all;
      children = λ all. All-cons (IsChildOf level new) p pointers (child_alike level old new p here (All-head (IsChildOf level old) p pointers all)) (others.children (All-tail (IsChildOf level old) p pointers all));
    }

-- a node over its children
pub node_over_alike : (level : ℕ) (old new : Table) (at : ℕ) → AreAlike old new (reach_below (suc level) old at) → IsNodeOver level old at → IsNodeOver level new at
node_over_alike level old new at h is =
    let P : ℕ → Type 0 = λ (place : ℕ). block_at new place ≡ block_at old place in
    let pointers = node_pointers old at in
    let here = All-head P at (row_reach level old pointers) h in
    let row = row_alike level old new pointers (All-tail P at (row_reach level old pointers) h) in
    record {
      taken = taken_alike old new at here is.taken;
      body = subst (λ (bytes : List ℕ). IsOk (node_body_of bytes)) (sym (ap (λ slot. slot.bytes) here)) is.body;
      children = All-same (IsChildOf level new) (node_pointers new at) pointers (node_pointers_alike old new at here) (row.children is.children);
    }

pub over_from : (level : ℕ) (table : Table) (is_root : Bool) (at : ℕ) → IsSubtree (suc level) table is_root at → IsNodeOver level table at
over_from level table is_root at h = record { taken = h.0; body = h.1; children = h.3 }

pub over_to : (level : ℕ) (table : Table) (is_root : Bool) (at : ℕ) → IsNodeOver level table at → least_pointers is_root ≤ length (node_pointers table at) → IsSubtree (suc level) table is_root at
over_to level table is_root at h least = (h.taken, h.body, least, h.children)

-- a subtree that is no root is one that is
pub as_root : (level : ℕ) (table : Table) (at : ℕ) → IsSubtree level table false at → IsSubtree level table true at
as_root zero table at h = (h.0, h.1, omega arith)
as_root (suc level) table at h = (h.0, h.1, omega (arith, h.2), h.3)

-- ---- a row cut in three

pub row_cut : {A : Type 0} (f : Pointer → List A) (lefts made rights : List Pointer) → flat_map f (lefts ++ (made ++ rights)) ≡ flat_map f lefts ++ (flat_map f made ++ flat_map f rights)
row_cut f lefts made rights = flat_map-append f lefts (made ++ rights) ∙ ap (λ l. flat_map f lefts ++ l) (flat_map-append f made rights)

pub leaves_cut : (f : Pointer → ℕ) (lefts made rights : List Pointer) → sum_by f (lefts ++ (made ++ rights)) ≡ sum_by f lefts + (sum_by f made + sum_by f rights)
leaves_cut f lefts made rights = omega (arith, sum_by-append f lefts (made ++ rights), sum_by-append f made rights)

pub row_one : {A : Type 0} (f : Pointer → List A) (lefts : List Pointer) (p : Pointer) (rights : List Pointer) → flat_map f (lefts ++ p ∷ rights) ≡ flat_map f lefts ++ (f p ++ flat_map f rights)
row_one f lefts p rights = flat_map-append f lefts (p ∷ rights)

pub leaves_one : (f : Pointer → ℕ) (lefts : List Pointer) (p : Pointer) (rights : List Pointer) → sum_by f (lefts ++ p ∷ rights) ≡ sum_by f lefts + (f p + sum_by f rights)
leaves_one f lefts p rights = omega (arith, sum_by-append f lefts (p ∷ rights), sum_by-cons f p rights)

-- ---- first keys

abbrev pub Begins : (Pointer → List Item) → Pointer → Type 0
Begins f pointer = first_key (f pointer) ≡ Some pointer.key

pub firsts_of : (level : ℕ) (table : Table) (pointers : List Pointer) → All (IsChildOf level table) pointers → All (Begins (λ (pointer : Pointer). items_below level table pointer.at)) pointers
firsts_of level table pointers h = All-weaker (IsChildOf level table) (Begins (λ (pointer : Pointer). items_below level table pointer.at)) (λ p k. k.1) pointers h

pub row_first : (f : Pointer → List Item) (pointers : List Pointer) → All (Begins f) pointers → first_key (flat_map f pointers) ≡ key_behind pointers None
row_first f [] h = refl
row_first f (p ∷ pointers) h = first_append (f p) (flat_map f pointers) p.key (All-head (Begins f) p pointers h)

-- all items in front of an item with the key are below it
pub before_first : (xs ys : List Item) (key : Key) → ItemsRise (xs ++ ys) → first_key ys ≡ Some key → AreBelow key xs
before_first xs ys key rise first =
    let there = first_is ys key first in
    subst (λ (k : Key). AreBelow k xs) there.key_is (rise_before xs there.first there.others (subst (λ (l : List Item). ItemsRise (xs ++ l)) there.items_are rise))

pub behind_first : (xs ys : List Item) (key : Key) → ItemsRise (xs ++ ys) → first_key xs ≡ Some key → AreAbove key ys
behind_first xs ys key rise first =
    let there = first_is xs key first in
    let shown : ItemsRise (there.first ∷ (there.others ++ ys)) = subst (λ (l : List Item). ItemsRise (l ++ ys)) there.items_are rise in
    subst (λ (k : Key). AreAbove k ys) there.key_is (All-right (λ (item : Item). KeyBelow there.first.0 item.0) there.others ys (rise_head there.first (there.others ++ ys) shown))

below_more : (low high : Key) (xs : List Item) → (low ≡ high) ⊎ KeyBelow low high → AreBelow low xs → AreBelow high xs
below_more low high xs h below = elim h [
  | inl e ↦ subst (λ (k : Key). AreBelow k xs) e below
  | inr k ↦ All-weaker (λ (item : Item). KeyBelow item.0 low) (λ (item : Item). KeyBelow item.0 high) (λ item j. KeyBelow_trans item.0 low high j k) xs below
]

-- the items of the children on the left of the one under which a key belongs
pub lefts_below : (f : Pointer → List Item) (key : Key) (lefts : List Pointer) (pointer : Pointer) (rest : List Item) → (lefts ≡ []) ⊎ ((pointer.key ≡ key) ⊎ KeyBelow pointer.key key) → ItemsRise (flat_map f lefts ++ rest) → first_key rest ≡ Some pointer.key → AreBelow key (flat_map f lefts)
lefts_below f key lefts pointer rest low rise first = elim low [
  | inl e ↦ All-same (λ (item : Item). KeyBelow item.0 key) (flat_map f lefts) [] (ap (flat_map f) e) (All-nil (λ (item : Item). KeyBelow item.0 key))
  | inr k ↦ below_more pointer.key key (flat_map f lefts) k (before_first (flat_map f lefts) rest pointer.key rise first)
]

first_above : (f : Pointer → List Item) (key : Key) (rights : List Pointer) → All (Begins f) rights → ItemsRise (flat_map f rights) → All (λ (right : Pointer). KeyBelow key right.key) rights → AreAbove key (flat_map f rights)
first_above f key [] firsts rise h = All-nil (λ (item : Item). KeyBelow key item.0)
first_above f key (r ∷ rights) firsts rise h =
    above_from_first key r.key (f r ++ flat_map f rights) rise (first_append (f r) (flat_map f rights) r.key (All-head (Begins f) r rights firsts)) (All-head (λ (right : Pointer). KeyBelow key right.key) r rights h)

-- and of those on its right
pub rights_above : (f : Pointer → List Item) (key : Key) (pointer : Pointer) (rights : List Pointer) → (pointer.key ≡ key) ⊎ All (λ (right : Pointer). KeyBelow key right.key) rights → All (Begins f) (pointer ∷ rights) → ItemsRise (f pointer ++ flat_map f rights) → AreAbove key (flat_map f rights)
rights_above f key pointer rights high firsts rise = elim high [
  | inl e ↦ subst (λ (k : Key). AreAbove k (flat_map f rights)) e (behind_first (f pointer) (flat_map f rights) pointer.key rise (All-head (Begins f) pointer rights firsts))
  | inr h ↦ first_above f key rights (All-tail (Begins f) pointer rights firsts) (rise_right (f pointer) (flat_map f rights) rise) h
]

-- ---- keys of rows

head_key : (key : Key) (xs : List Item) (next : Key) → AreAbove key xs → first_key xs ≡ Some next → KeyBelow key next
head_key key xs next above first =
    let there = first_is xs next first in
    subst (λ (k : Key). KeyBelow key k) there.key_is (All-head (λ (item : Item). KeyBelow key item.0) there.first there.others (subst (λ (l : List Item). AreAbove key l) there.items_are above))

-- the first keys of children whose items rise do so
pub row_keys_rise : (f : Pointer → List Item) (pointers : List Pointer) → All (Begins f) pointers → ItemsRise (flat_map f pointers) → keys_rise (pointer_keys pointers) ≡ true
row_keys_rise f [] firsts rise = refl
row_keys_rise f (p ∷ []) firsts rise = refl
row_keys_rise f (p ∷ q ∷ pointers) firsts rise =
    let others = All-tail (Begins f) p (q ∷ pointers) firsts in
    let above = behind_first (f p) (flat_map f (q ∷ pointers)) p.key rise (All-head (Begins f) p (q ∷ pointers) firsts) in
    let below : KeyBelow p.key q.key = head_key p.key (flat_map f (q ∷ pointers)) q.key above (row_first f (q ∷ pointers) others) in
    rw (key_below_from p.key q.key below) (row_keys_rise f (q ∷ pointers) others (rise_right (f p) (flat_map f (q ∷ pointers)) rise))

-- first keys in a front part are below those behind it
part_above : (key : Key) (g : Pointer → List Item) (others : List Pointer) → All (Begins g) others → AreAbove key (flat_map g others) → All (λ (other : Pointer). KeyBelow key other.key) others
part_above key g [] firsts above = All-nil (λ (other : Pointer). KeyBelow key other.key)
part_above key g (o ∷ others) firsts above =
    All-cons (λ (other : Pointer). KeyBelow key other.key) o others
    (head_key key (g o) o.key (All-left (λ (item : Item). KeyBelow key item.0) (g o) (flat_map g others) above) (All-head (Begins g) o others firsts))
    (part_above key g others (All-tail (Begins g) o others firsts) (All-right (λ (item : Item). KeyBelow key item.0) (g o) (flat_map g others) above))

pub row_before : (f g : Pointer → List Item) (inner others : List Pointer) → All (Begins f) inner → All (Begins g) others → ItemsRise (flat_map f inner ++ flat_map g others) → All (λ (p : Pointer). All (λ (other : Pointer). KeyBelow p.key other.key) others) inner
row_before f g [] others firsts firsts_behind rise = All-nil (λ (p : Pointer). All (λ (other : Pointer). KeyBelow p.key other.key) others)
row_before f g (p ∷ inner) others firsts firsts_behind rise =
    let rise' : ItemsRise (f p ++ (flat_map f inner ++ flat_map g others)) = subst ItemsRise (append_assoc (f p) (flat_map f inner) (flat_map g others)) rise in
    let above = behind_first (f p) (flat_map f inner ++ flat_map g others) p.key rise' (All-head (Begins f) p inner firsts) in
    All-cons (λ (q : Pointer). All (λ (other : Pointer). KeyBelow q.key other.key) others) p inner
    (part_above p.key g others firsts_behind (All-right (λ (item : Item). KeyBelow p.key item.0) (flat_map f inner) (flat_map g others) above))
    (row_before f g inner others (All-tail (Begins f) p inner firsts) firsts_behind (rise_right (f p) (flat_map f inner ++ flat_map g others) rise'))
