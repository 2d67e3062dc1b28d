-- Lists of items whose keys rise, and first keys.
use Rattle.std.proofs.Common.{◌≡◌, ◌<◌, ◌++◌, ℕ, suc, true, List, [], ◌∷◌, length, slice_get, Option, Some, None, Ordering, Less, Equal, Greater, nat_cmp, is_eq, is_lt, refl, ap, subst, arith, append-nil, add-one}
use Rattle.std.proofs.lemmas.Bool.{and_parts, and_from, le-ltb, eq-eqb}
use Rattle.std.specs.Ordering.{ordering_then}
use Rattle.std.specs.FinMap.{nat_cmp-IsAntisymmetric}
use Rattle.blk_base.specs.declared.key.Key.{Key}
use Rattle.blk_base.specs.declared.key.Want.{Want}
use Rattle.blk_base.specs.Keys.{KeyBelow, key_cmp}
use Rattle.blk_base.specs.Leaf.{Item, IsLeaf, item_of, item_key}
use Rattle.volume_image.specs.Tree.{ItemsRise, first_key, key_eq, is_above_last, is_first_key}

-- ---- keys

both_equal : (r s : Ordering) → ordering_then r s ≡ Equal → (r ≡ Equal) × (s ≡ Equal)
both_equal Less s e = absurd cc
both_equal Equal s e = (refl, e)
both_equal Greater s e = absurd cc

pub equal_from_test : (r : Ordering) → is_eq r ≡ true → r ≡ Equal
equal_from_test Less e = absurd cc
equal_from_test Equal e = refl
equal_from_test Greater e = absurd cc

pub less_from_test : (r : Ordering) → is_lt r ≡ true → r ≡ Less
less_from_test Less e = refl
less_from_test Equal e = absurd cc
less_from_test Greater e = absurd cc

pub key_same : (a b : Key) → key_eq a b ≡ true → a ≡ b
key_same a b h =
    let first = both_equal (nat_cmp a.objectid b.objectid) (ordering_then (nat_cmp a.kind b.kind) (nat_cmp a.offset b.offset)) (equal_from_test (key_cmp a b) h) in
    let others = both_equal (nat_cmp a.kind b.kind) (nat_cmp a.offset b.offset) first.1 in
    let objectid = nat_cmp-IsAntisymmetric a.objectid b.objectid first.0 in
    let kind = nat_cmp-IsAntisymmetric a.kind b.kind others.0 in
    let offset = nat_cmp-IsAntisymmetric a.offset b.offset others.1 in
    λ i. record { objectid = objectid i; kind = kind i; offset = offset i }

nat_cmp-same : (n : ℕ) → nat_cmp n n ≡ Equal
nat_cmp-same n = rw (le-ltb n n (omega arith), eq-eqb n n refl) refl

pub key_eq-same : (a b : Key) → a ≡ b → key_eq a b ≡ true
key_eq-same a b e = rw e (rw (nat_cmp-same b.objectid, nat_cmp-same b.kind, nat_cmp-same b.offset) refl)

-- ---- items that rise

pub rise_joined : (xs : List Item) (y : Item) (ys : List Item) → ItemsRise xs → is_above_last xs y.0 ≡ true → ItemsRise (y ∷ ys) → ItemsRise (xs ++ (y ∷ ys))
rise_joined [] y ys a b c = c
rise_joined (x ∷ []) y ys a b c = (less_from_test (key_cmp x.0 y.0) b, c)
rise_joined (x ∷ z ∷ xs) y ys a b c = (a.0, rise_joined (z ∷ xs) y ys a.1 b c)

pub rise_parts : (xs : List Item) (y : Item) (ys : List Item) → ItemsRise (xs ++ (y ∷ ys)) → ItemsRise xs × (is_above_last xs y.0 ≡ true) × ItemsRise (y ∷ ys)
rise_parts [] y ys a = (tt, refl, a)
rise_parts (x ∷ []) y ys a = (tt, ap is_lt a.0, a.1)
rise_parts (x ∷ z ∷ xs) y ys a = let rest = rise_parts (z ∷ xs) y ys a.1 in ((a.0, rest.0), rest.1, rest.2)

pub rise_front : (xs ys : List Item) → ItemsRise (xs ++ ys) → ItemsRise xs
rise_front xs [] a = rw append-nil at a
rise_front xs (y ∷ ys) a = (rise_parts xs y ys a).0

rise_from_places : (items : List Item) → ((i : ℕ) (a b : Item) → suc i < length items → slice_get items i ≡ Some a → slice_get items (suc i) ≡ Some b → KeyBelow a.0 b.0) → ItemsRise items
rise_from_places [] h = tt
rise_from_places (x ∷ []) h = tt
rise_from_places (x ∷ y ∷ items) h = (h 0 x y (omega arith) refl refl, rise_from_places (y ∷ items) (λ i a b l p q. h (suc i) a b (omega arith) p q))

-- a leaf's items rise
pub leaf_rises : (want : Want) (bytes : List ℕ) (items : List Item) → IsLeaf want bytes items → ItemsRise items
leaf_rises want bytes items leaf = rise_from_places items step
  where
    step : (i : ℕ) (a b : Item) → suc i < length items → slice_get items i ≡ Some a → slice_get items (suc i) ≡ Some b → KeyBelow a.0 b.0
    step i a b l p q =
        let below : KeyBelow (item_key bytes i) (item_key bytes (suc i)) = subst (λ (j : ℕ). KeyBelow (item_key bytes i) (item_key bytes j)) (add-one i) (leaf.body.order i (omega arith)) in
        let first = leaf.body.each i (omega arith) in
        let second = leaf.body.each (suc i) l in
        let one : a ≡ item_of bytes i = cc in
        let two : b ≡ item_of bytes (suc i) = cc in
        rw (one, two) below

-- ---- first keys

-- the first key is the one of the pointer to the items, if there is one
abbrev pub IsFirst : Option Key → List Item → Type 0
IsFirst None items = Unit {0}
IsFirst (Some key) items = first_key items ≡ Some key

pub first_from_test : (under : Option Key) (before items : List Item) → is_first_key under before (first_key items) ≡ true → IsFirst under items
first_from_test None before items h = tt
first_from_test (Some key) before [] h = absurd cc
first_from_test (Some key) before (y ∷ ys) h = ap Some (key_same y.0 key (and_parts _ _ h).0)

pub rise_from_test : (under : Option Key) (before items : List Item) → is_first_key under before (first_key items) ≡ true → (under ≡ None → before ≡ []) → ItemsRise before → ItemsRise items → ItemsRise (before ++ items)
rise_from_test under before [] h top a b = rw append-nil a
rise_from_test None before (y ∷ ys) h top a b = rw (top refl) b
rise_from_test (Some key) before (y ∷ ys) h top a b = rise_joined before y ys a (and_parts _ _ h).1 b

pub first_tests : (under : Option Key) (before items : List Item) → IsFirst under items → ItemsRise (before ++ items) → is_first_key under before (first_key items) ≡ true
first_tests None before items first rise = refl
first_tests (Some key) before [] first rise = absurd cc
first_tests (Some key) before (y ∷ ys) first rise = let same : y.0 ≡ key = cc in and_from _ _ (key_eq-same y.0 key same) (rise_parts before y ys rise).1
