-- A tree has few nodes above the items of a range: those at the range's ends, and fewer than it has items between.
use Rattle.std.proofs.Common.{◌≡◌, ◌≤◌, ◌<◌, ◌+◌, ◌*◌, ◌∙◌, ◌&&◌, ℕ, zero, suc, Bool, true, false, cond, List, [], ◌∷◌, ◌++◌, length, map, min, Some, nat_lt, inl, inr, refl, sym, ap, subst, arith}
use Rattle.std.proofs.Math.Nat.{mul-le-mul_left}
use Rattle.std.specs.Prelude.{All}
use Rattle.std.specs.List.{flat_map, sum_by}
use Rattle.std.proofs.lemmas.Bool.{cases_Bool, false_from_ne_true}
use Rattle.std.proofs.lemmas.Bool.Decides.{nat_tests}
use Rattle.std.proofs.lemmas.List.Elements.{All-weaker}
use Rattle.blk_base.specs.declared.key.Key.{Key}
use Rattle.blk_base.specs.Keys.{KeyBelow, key_below}
use Rattle.blk_base.specs.Leaf.{Item, Pointer}
use Rattle.block_table.specs.declared.tree.Tree.{Tree}
use Rattle.block_table.specs.Table.{Table}
use Rattle.blk_base.specs.Trees.{ItemsRise, first_key, least_pointers}
use Rattle.block_table.specs.TreeIn.{block_at}
use Rattle.leaf_view.specs.KeyOrder.{KeyBelow_trans}
use Rattle.leaf_view.proofs.Rising.{key_below_from, key_below_means}
use Rattle.tree_range.specs.Between.{items_between}
use Rattle.tree_range.specs.Shape.{IsSubtree, IsTree, items_below, node_pointers, tree_items}
use Rattle.tree_range.proofs.Law.{Child}
use Rattle.tree_delete.specs.Ahead.{has_between, is_clean, nodes_ahead, tree_ahead}
use Rattle.tree_delete_range.proofs.Changes.{IsFew, IsFewPart, are_few, few_above, turns, turns_from, yes}

-- whether the item is in the range, where its key is or isn't below the first one, and is or isn't above the last one
abbrev pub inside : Bool → Bool → Bool
inside true above = false
inside false true = false
inside false false = true

abbrev pub answer : Key → Key → Item → Bool
answer first last item = inside (key_below item.0 first) (key_below last item.0)

abbrev pub answers : Key → Key → List Item → List Bool
answers first last items = map (answer first last) items

pub yes_answers : (first last : Key) (items : List Item) → yes (answers first last items) ≡ length (items_between first last items)
yes_answers first last [] = refl
yes_answers first last (x ∷ xs) = elim (cases_Bool (key_below x.0 first)) [
  | inl before ↦ rw before (yes_answers first last xs)
  | inr from ↦ elim (cases_Bool (key_below last x.0)) [
    | inl behind ↦ rw (from, behind) (yes_answers first last xs)
    | inr here ↦ rw (from, here) (omega (arith, yes_answers first last xs))
  ]
]

-- ---- along rising items the answers turn twice at most

abbrev most : Bool → Bool → ℕ
most true above = 2
most false true = 0
most false false = 1

step : (b b' a a' : Bool) (rest : List Bool) → (b ≡ false → b' ≡ false) → (a ≡ true → a' ≡ true) → turns_from (inside b' a') rest ≤ most b' a' → turns_from (inside b a) (inside b' a' ∷ rest) ≤ most b a
step true true a a' rest up on h = h
step true false a true rest up on h = omega (arith, h)
step true false a false rest up on h = omega (arith, h)
step false true a a' rest up on h = let wrong = up refl in absurd cc
step false false true true rest up on h = h
step false false true false rest up on h = let wrong = on refl in absurd cc
step false false false true rest up on h = omega (arith, h)
step false false false false rest up on h = h

still_from : (first x y : Key) → KeyBelow x y → key_below x first ≡ false → key_below y first ≡ false
still_from first x y h from =
    false_from_ne_true (key_below y first) (λ k. let wrong : true ≡ false = sym (key_below_from x first (KeyBelow_trans x y first h (key_below_means y first k))) ∙ from in cc)

turns_most : (first last : Key) (x : Item) (xs : List Item) → ItemsRise (x ∷ xs) → turns_from (answer first last x) (answers first last xs) ≤ most (key_below x.0 first) (key_below last x.0)
turns_most first last x [] rise = omega arith
turns_most first last x (y ∷ ys) rise =
    step (key_below x.0 first) (key_below y.0 first) (key_below last x.0) (key_below last y.0) (answers first last ys)
    (still_from first x.0 y.0 rise.0)
    (λ k. key_below_from last y.0 (KeyBelow_trans last x.0 y.0 (key_below_means last x.0 k) rise.0))
    (turns_most first last y ys rise.1)

most_is : (b a : Bool) → most b a ≤ 2
most_is true a = omega arith
most_is false true = omega arith
most_is false false = omega arith

two_turns : (first last : Key) (items : List Item) → ItemsRise items → turns (answers first last items) ≤ 2
two_turns first last [] rise = omega arith
two_turns first last (x ∷ xs) rise = omega (arith, turns_most first last x xs rise, most_is (key_below x.0 first) (key_below last x.0))

-- ---- by levels

pub answers_append : (first last : Key) (xs ys : List Item) → answers first last (xs ++ ys) ≡ answers first last xs ++ answers first last ys
answers_append first last [] ys = refl
answers_append first last (x ∷ xs) ys = ap (λ (l : List Bool). answer first last x ∷ l) (answers_append first last xs ys)

answers_parts : (first last : Key) (part : Pointer → List Item) (pointers : List Pointer) → answers first last (flat_map part pointers) ≡ flat_map (λ pointer. answers first last (part pointer)) pointers
answers_parts first last part [] = refl
answers_parts first last part (x ∷ xs) =
    answers_append first last (part x) (flat_map part xs) ∙ ap (λ (l : List Bool). answers first last (part x) ++ l) (answers_parts first last part xs)

has_answers : (first last : Key) (items : List Item) (key : Key) → first_key items ≡ Some key → 0 < length (answers first last items)
has_answers first last [] key h = absurd cc
has_answers first last (x ∷ xs) key h = omega arith

pointers_least : (is_root : Bool) (pointers : List Pointer) → least_pointers is_root ≤ length pointers → 2 ≤ length pointers
pointers_least true pointers h = h
pointers_least false pointers h = omega (arith, h)

at_most_one : (clean : Bool) (n : ℕ) → cond (clean && nat_lt 0 n) 1 0 ≤ min n 1
at_most_one true zero = omega arith
at_most_one true (suc n) = grind (arith, nat_tests)
at_most_one false n = omega arith

few_below : (first last : Key) (level : ℕ) (table : Table) (is_root : Bool) (at : ℕ) → IsSubtree level table is_root at → IsFew level (nodes_ahead first last level table at) (answers first last (items_below level table at))
few_below first last zero table is_root at h = record { few = omega arith }
few_below first last (suc level) table is_root at h =
    let part : Pointer → List Item = λ pointer. items_below level table pointer.at in
    let mine : Pointer → List Bool = λ pointer. answers first last (part pointer) in
    let number : Pointer → ℕ = λ pointer. nodes_ahead first last level table pointer.at in
    let pointers = node_pointers table at in
    let items = flat_map part pointers in
    let each : All (IsFewPart level number mine) pointers = All-weaker (Child level table) (IsFewPart level number mine) (λ pointer k. (few_below first last level table false pointer.at k.0, has_answers first last (part pointer) pointer.key k.1)) pointers h.3 in
    let same : answers first last items ≡ flat_map mine pointers = answers_parts first last part pointers in
    let one = cond (is_clean (block_at table at).state && has_between first last items) 1 0 in
    let least : one ≤ min (yes (flat_map mine pointers)) 1 = omega (arith, at_most_one (is_clean (block_at table at).state) (length (items_between first last items)), yes_answers first last items, ap yes same) in
    subst (λ (l : List Bool). IsFew (suc level) (one + sum_by number pointers) l) (sym same) (few_above level one number mine pointers (are_few level number mine pointers each) (pointers_least is_root pointers h.2) least)

pub few_nodes_are_ahead : (table : Table) (tree : Tree) (first last : Key) → IsTree table tree → tree_ahead first last table tree ≤ length (items_between first last (tree_items table tree)) + 2 * tree.level
few_nodes_are_ahead table tree first last is_tree =
    let items = tree_items table tree in
    let few : IsFew tree.level (tree_ahead first last table tree) (answers first last items) = few_below first last tree.level table true tree.root.0 is_tree.shape in
    let twice : tree.level * turns (answers first last items) ≤ tree.level * 2 = mul-le-mul_left tree.level (two_turns first last items is_tree.order) in
    omega (arith, few.few, twice, yes_answers first last items)

pub fourteen_more : (table : Table) (tree : Tree) (first last : Key) → IsTree table tree → tree_ahead first last table tree ≤ length (items_between first last (tree_items table tree)) + 14
fourteen_more table tree first last is_tree = omega (arith, few_nodes_are_ahead table tree first last is_tree, is_tree.low)
