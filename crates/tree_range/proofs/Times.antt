-- How often a tree reaches a block.
use Rattle.std.proofs.Common.{◌≡◌, ◌≤◌, ◌<◌, ◌+◌, ◌*◌, ◌-◌, ◌/◌, min, ℕ, zero, suc, Bool, true, false, List, [], ◌∷◌, ◌++◌, length, take, slice_get, refl, ap, ◌∙◌, sym, subst, Some, Ok, arith, inl, inr}
use Rattle.std.specs.Prelude.{All, Contains, ◌==◌, if◌then◌else◌, slice_index_or}
use Rattle.std.specs.List.{flat_map}
use Rattle.std.proofs.lemmas.Bool.{cases_Bool, cases_lt, eqb-true, eq-eqb}
use Rattle.std.proofs.lemmas.List.{append-nil}
use Rattle.std.proofs.lemmas.List.Concat.{flat_map-append}
use Rattle.std.proofs.lemmas.List.Elements.{All-append, All-cons, All-head, All-nil, All-contains, All-tail, All-weaker}
use Rattle.std.proofs.lemmas.Option.{get_or_from_slice_get, slice_get-get_or, slice_get_within}
use Rattle.blk_base.specs.Leaf.{Pointer, node_body_of}
use Rattle.block_table.specs.Table.{Table}
use Rattle.blk_base.specs.Trees.{NoneTwice}
use Rattle.block_table.specs.TreeIn.{IsTaken, block_at}
use Rattle.leaf_view.specs.Search.{children_of}
use Rattle.tree_range.specs.Shape.{IsSubtree, node_pointers, reach_below}
use Rattle.tree_range.specs.Part.{times_in}
use Rattle.tree_range.proofs.Bodies.{node_pointers_are}
use Rattle.tree_range.proofs.Children.{child_of}
use Rattle.tree_range.proofs.Cuts.{mapped_at}
use Rattle.tree_range.proofs.Law.{Child}

pub times_append : (at : ℕ) (xs ys : List ℕ) → times_in at (xs ++ ys) ≡ times_in at xs + times_in at ys
times_append at [] ys = omega arith
times_append at (x ∷ xs) ys = omega (arith, times_append at xs ys)

pub times_cons : (at x : ℕ) (xs : List ℕ) (b : Bool) → (x == at) ≡ b → times_in at (x ∷ xs) ≡ (if b then 1 else 0) + times_in at xs
times_cons at x xs b h = ap (λ (b' : Bool). (if b' then 1 else 0) + times_in at xs) h

contains_more : (x y : ℕ) (xs : List ℕ) → Contains xs y → Contains (x ∷ xs) y
contains_more x y xs h = (suc h.0, omega (arith, h.1), h.2)

-- an address that stands in a list
pub times_contained : (at : ℕ) (xs : List ℕ) (place : ℕ) → place < length xs → slice_get xs place ≡ Some at → 1 ≤ times_in at xs
times_contained at [] place inside is = absurd (omega arith)
times_contained at (x ∷ xs) zero inside is = let same : x ≡ at = cc in omega (arith, times_cons at x xs true (eq-eqb x at same))
times_contained at (x ∷ xs) (suc place) inside is = omega (arith, times_contained at xs place (omega arith) is)

pub contained_by_times : (at : ℕ) (xs : List ℕ) → 1 ≤ times_in at xs → Contains xs at
contained_by_times at [] h = absurd (omega arith)
contained_by_times at (x ∷ xs) h = elim (cases_Bool (x == at)) [
  | inl same ↦ (0, omega arith, eqb-true x at same)
  | inr other ↦ contains_more x at xs (contained_by_times at xs (omega (arith, times_cons at x xs false other)))
]

get_of : (xs : List ℕ) (place at : ℕ) → place < length xs → slice_index_or xs place at ≡ at → slice_get xs place ≡ Some at
get_of xs place at inside is = slice_get-get_or xs place at inside ∙ ap (λ (n : ℕ). Some n) is

-- no address stands twice exactly where each stands once at most
pub none_twice_from : (xs : List ℕ) → ((at : ℕ) → times_in at xs ≤ 1) → NoneTwice xs
none_twice_from [] h = tt
none_twice_from (x ∷ xs) h =
    ((λ there. omega (arith, h x, times_cons x x xs true (eq-eqb x x refl), times_contained x xs there.0 there.1 (get_of xs there.0 x there.1 there.2))), none_twice_from xs (λ at. omega (arith, h at)))

pub none_twice_to : (xs : List ℕ) (at : ℕ) → NoneTwice xs → times_in at xs ≤ 1
none_twice_to [] at h = omega arith
none_twice_to (x ∷ xs) at h = elim (cases_Bool (x == at)) [
  | inl same ↦
      let none : times_in at xs < 1 = elim (cases_lt (times_in at xs) 1) [
        | inl none ↦ none
        | inr some ↦ absurd (h.0 (subst (λ (a : ℕ). Contains xs a) (sym (eqb-true x at same)) (contained_by_times at xs some)))
      ] in
      omega (arith, times_cons at x xs true same)
  | inr other ↦ omega (arith, times_cons at x xs false other, none_twice_to xs at h.1)
]

-- ---- each block that is reached is taken

all_joined : {X A : Type 0} (P : A → Type 0) (g : X → List A) (xs : List X) → All (λ x. All P (g x)) xs → All P (flat_map g xs)
all_joined P g [] h = All-nil P
all_joined P g (x ∷ xs) h = All-append P (g x) (flat_map g xs) (All-head (λ y. All P (g y)) x xs h) (all_joined P g xs (All-tail (λ y. All P (g y)) x xs h))

pub reach_taken : (level : ℕ) (table : Table) (is_root : Bool) (at : ℕ) → IsSubtree level table is_root at → All (IsTaken table) (reach_below level table at)
reach_taken zero table is_root at h = All-cons (IsTaken table) at [] h.0 (All-nil (IsTaken table))
reach_taken (suc level) table is_root at h =
    let g : Pointer → List ℕ = λ (pointer : Pointer). reach_below level table pointer.at in
    All-cons (IsTaken table) at (flat_map g (node_pointers table at)) h.0 (all_joined (IsTaken table) g (node_pointers table at) (All-weaker (Child level table) (λ (pointer : Pointer). All (IsTaken table) (g pointer)) (λ pointer k. reach_taken level table false pointer.at k.0) (node_pointers table at) h.3))

-- where the table's own addresses are reached once at most, each is
pub once_by_numbers : (table : Table) (reach : List ℕ) → All (IsTaken table) reach → ((number : ℕ) → number < length table.slots → times_in (number * 4096) reach ≤ 1) → NoneTwice reach
once_by_numbers table reach taken h = none_twice_from reach (λ at. elim (cases_lt (times_in at reach) 1) [
  | inl none ↦ omega arith
  | inr some ↦
      let there = All-contains (IsTaken table) reach at taken (contained_by_times at reach some) in
      let same : at / 4096 * 4096 ≡ at = omega (arith, there.allowed.aligned) in
      subst (λ (a : ℕ). times_in a reach ≤ 1) same (h (at / 4096) there.allowed.inside)
])

-- ---- a node's children, one by one

pub child_shape : (level : ℕ) (table : Table) (is_root : Bool) (at : ℕ) (bytes : List ℕ) (pointers : List Pointer) (place child generation : ℕ) → 0 < level → bytes ≡ (block_at table at).bytes → node_body_of bytes ≡ Ok pointers → IsSubtree level table is_root at → slice_get (children_of pointers) place ≡ Some (child, generation)
    → IsSubtree (level - 1) table false child
child_shape level table is_root at bytes pointers place child generation high bytes_are body shape child_is =
    let one : level ≡ suc (level - 1) = omega arith in
    let above : IsSubtree (suc (level - 1)) table is_root at = subst (λ (n : ℕ). IsSubtree n table is_root at) one shape in
    let same : node_pointers table at ≡ pointers = node_pointers_are table at pointers (subst (λ (b : List ℕ). node_body_of b ≡ Ok pointers) bytes_are body) in
    let children : All (Child (level - 1) table) pointers = subst (All (Child (level - 1) table)) same above.3 in
    let there = mapped_at child_of pointers place (child, generation) child_is in
    let p = there.element in
    let here : Child (level - 1) table p = subst (Child (level - 1) table) (get_or_from_slice_get pointers place p p there.at_place) (children place p (slice_get_within pointers place p there.at_place)) in
    subst (λ (a : ℕ). IsSubtree (level - 1) table false a) (ap (λ (pair : ℕ × ℕ). pair.0) there.value_is) here.0

take_more : {A : Type 0} (xs : List A) (place : ℕ) (x : A) → slice_get xs place ≡ Some x → take (suc place) xs ≡ take place xs ++ x ∷ []
take_more [] place x h = absurd cc
take_more (y ∷ ys) zero x h = let same : y ≡ x = cc in ap (λ z. z ∷ []) same
take_more (y ∷ ys) (suc place) x h = ap (λ l. y ∷ l) (take_more ys place x h)

capped : (times more here before part : ℕ) → times ≡ min 2 (here + before) → more ≡ min 2 part → min (times + more) 2 ≡ min 2 (here + (before + part))
capped times more here before part e f = omega arith

-- one child more
pub times_more : (level : ℕ) (table : Table) (pointers : List Pointer) (place child generation wanted times more here : ℕ) → slice_get (children_of pointers) place ≡ Some (child, generation) → more ≡ min 2 (times_in wanted (reach_below level table child))
    → times ≡ min 2 (here + times_in wanted (flat_map (λ pointer. reach_below level table pointer.at) (take place pointers)))
    → min (times + more) 2 ≡ min 2 (here + times_in wanted (flat_map (λ pointer. reach_below level table pointer.at) (take (place + 1) pointers)))
times_more level table pointers place child generation wanted times more here child_is more_is times_is =
    let g : Pointer → List ℕ = λ (pointer : Pointer). reach_below level table pointer.at in
    let there = mapped_at child_of pointers place (child, generation) child_is in
    let p = there.element in
    let at_is : p.at ≡ child = ap (λ (pair : ℕ × ℕ). pair.0) there.value_is in
    let front = flat_map g (take place pointers) in
    let part = reach_below level table child in
    let one : place + 1 ≡ suc place = omega arith in
    let single : flat_map g (p ∷ []) ≡ part = append-nil (g p) ∙ ap (reach_below level table) at_is in
    let shown : flat_map g (take (place + 1) pointers) ≡ front ++ part = ap (λ (n : ℕ). flat_map g (take n pointers)) one ∙ ap (flat_map g) (take_more pointers place p there.at_place) ∙ flat_map-append g (take place pointers) (p ∷ []) ∙ ap (λ (l : List ℕ). front ++ l) single in
    let split : times_in wanted (flat_map g (take (place + 1) pointers)) ≡ times_in wanted front + times_in wanted part = ap (times_in wanted) shown ∙ times_append wanted front part in
    capped times more here (times_in wanted front) (times_in wanted part) times_is more_is ∙ ap (λ (n : ℕ). min 2 (here + n)) (sym split)

take_whole : {A : Type 0} (xs : List A) (place : ℕ) → length xs ≤ place → take place xs ≡ xs
take_whole [] zero h = refl
take_whole [] (suc place) h = refl
take_whole (x ∷ xs) zero h = absurd (omega arith)
take_whole (x ∷ xs) (suc place) h = ap (λ l. x ∷ l) (take_whole xs place (omega arith))

-- all children
pub times_all : (level : ℕ) (table : Table) (at : ℕ) (bytes : List ℕ) (pointers : List Pointer) (place wanted : ℕ) → 0 < level → bytes ≡ (block_at table at).bytes → node_body_of bytes ≡ Ok pointers → length pointers ≤ place
    → times_in wanted (at ∷ []) + times_in wanted (flat_map (λ pointer. reach_below (level - 1) table pointer.at) (take place pointers)) ≡ times_in wanted (reach_below level table at)
times_all level table at bytes pointers place wanted high bytes_are body past =
    let one : level ≡ suc (level - 1) = omega arith in
    let g : Pointer → List ℕ = λ (pointer : Pointer). reach_below (level - 1) table pointer.at in
    let same : node_pointers table at ≡ pointers = node_pointers_are table at pointers (subst (λ (b : List ℕ). node_body_of b ≡ Ok pointers) bytes_are body) in
    let whole : flat_map g (take place pointers) ≡ flat_map g (node_pointers table at) = ap (flat_map g) (take_whole pointers place past ∙ sym same) in
    let shown : times_in wanted (at ∷ []) + times_in wanted (flat_map g (node_pointers table at)) ≡ times_in wanted (reach_below (suc (level - 1)) table at) = sym (times_append wanted (at ∷ []) (flat_map g (node_pointers table at))) in
    ap (λ (l : List ℕ). times_in wanted (at ∷ []) + times_in wanted l) whole ∙ shown ∙ ap (λ (n : ℕ). times_in wanted (reach_below n table at)) (sym one)
