-- Distinct lists, the lengths of joined ones, and lists with one of each.
use Rattle.std.proofs.Common.{◌≡◌, ◌≢◌, ◌+◌, ◌++◌, ◌&&◌, ℕ, Bool, true, false, cond, List, [], ◌∷◌, length, map, filter, flat_map, sum_by, Contains, nat_eq, refl, sym, ap, subst, inl, inr, arith, length-append}
use Rattle.std.specs.List.{list_any}
use Rattle.std.proofs.lemmas.Bool.{or_cases, and_parts, eqb-true}
use Rattle.std.proofs.lemmas.List.Elements.{Contains-append_cases}
use Rattle.std.proofs.lemmas.List.Sums.{sum_by-cons}
use Rattle.blk_base.specs.declared.key.Key.{Key}
use Rattle.blk_base.specs.Keys.{KeyBelow}
use Rattle.blk_base.specs.Leaf.{Item}
use Rattle.blk_base.specs.Trees.{ItemsRise}
use Rattle.leaf_view.specs.KeyOrder.{KeyBelow_irrefl}
use Rattle.std.proofs.lemmas.List.Elements.{All-contains}
use Rattle.tree_range.proofs.Rise.{rise_head, rise_tail}
use Rattle.flat_model.specs.Needs.{count_different}
use Rattle.logged_volume.specs.FlatLog.{AreDistinct}
use Rattle.volume_image.proofs.Lists.{in_nothing, in_cons}
use Rattle.volume_image.proofs.Members.{has_some, in_filter, in_map}
use Rattle.volume_image.proofs.Reaches.{head_in, tail_in}
use Rattle.commit_room.specs.Items.{count_pairs}

-- ---- lengths

pub length_map : {X Y : Type 0} (f : X → Y) (xs : List X) → length (map f xs) ≡ length xs
length_map f [] = refl
length_map f (x ∷ xs) = let rest = length_map f xs in omega arith

pub length_flat_map : {X Y : Type 0} (f : X → List Y) (xs : List X) → length (flat_map f xs) ≡ sum_by (λ x. length (f x)) xs
length_flat_map f [] = refl
length_flat_map f (x ∷ xs) =
    let rest = length_flat_map f xs in
    omega (arith, length-append (f x) (flat_map f xs), sum_by-cons (λ x. length (f x)) x xs, rest)

pub same_sums : {X : Type 0} (f g : X → ℕ) (xs : List X) → ((x : X) → f x ≡ g x) → sum_by f xs ≡ sum_by g xs
same_sums f g xs same = ap (λ (h : _). sum_by h xs) (λ i x. same x i)

pub sum_map : {X Y : Type 0} (f : Y → ℕ) (g : X → Y) (xs : List X) → sum_by f (map g xs) ≡ sum_by (λ x. f (g x)) xs
sum_map f g [] = refl
sum_map f g (x ∷ xs) = omega (arith, sum_map f g xs, sum_by-cons f (g x) (map g xs), sum_by-cons (λ x. f (g x)) x xs)

-- ---- members

pub in_flat_map : {X Y : Type 0} (f : X → List Y) (xs : List X) (y : Y) → Contains (flat_map f xs) y → (x : X) × Contains xs x × Contains (f x) y
in_flat_map f [] y c = absurd (in_nothing y c)
in_flat_map f (x ∷ xs) y c = elim (Contains-append_cases (f x) (flat_map f xs) y c) [
  | inl here ↦ (x, head_in x xs, here)
  | inr there ↦ let rest = in_flat_map f xs y there in (rest.0, tail_in x rest.0 xs rest.1, rest.2)
]

-- a member of what is kept and mapped comes from one that is kept
pub from_kept : {X Y : Type 0} (f : X → Y) (p : X → Bool) (xs : List X) → map f (filter p xs) ≢ [] → (x : X) × Contains (filter p xs) x × Contains xs x × (p x ≡ true)
from_kept f p xs some =
    let there = has_some (map f (filter p xs)) some in
    let from = in_map f (filter p xs) there.0 there.1 in
    let kept = in_filter p xs from.0 from.1 in
    (from.0, from.1, kept.0, kept.1)

-- ---- distinct lists

pub distinct_append : {X : Type 0} (xs ys : List X) → AreDistinct xs → AreDistinct ys → ((x : X) → Contains xs x → Contains ys x → ⊥) → AreDistinct (xs ++ ys)
distinct_append [] ys a b apart = b
distinct_append (x ∷ xs) ys a b apart = (
  (λ c. elim (Contains-append_cases xs ys x c) [ inl here ↦ a.0 here | inr there ↦ apart x (head_in x xs) there ]),
  distinct_append xs ys a.1 b (λ y c d. apart y (tail_in x y xs c) d),
)

-- items that rise have different keys
pub keys_differ : (items : List Item) → ItemsRise items → AreDistinct (map (λ (item : Item). item.0) items)
keys_differ [] rise = tt
keys_differ (item ∷ items) rise = (
  (λ c.
      let other = in_map (λ (item : Item). item.0) items item.0 c in
      let below = All-contains (λ (other : Item). KeyBelow item.0 other.0) items other.0 (rise_head item items rise) other.1 in
      KeyBelow_irrefl item.0 (subst (λ (key : Key). KeyBelow item.0 key) other.2 below)),
  keys_differ items (rise_tail item items rise),
)

-- ---- one of each

abbrev is_pair : ℕ × ℕ → ℕ × ℕ → Bool
is_pair pair other = nat_eq pair.0 other.0 && nat_eq pair.1 other.1

abbrev pub each_pair : List (ℕ × ℕ) → List (ℕ × ℕ)
each_pair [] = []
each_pair (pair ∷ pairs) =
    cond (list_any (λ (other : ℕ × ℕ). nat_eq pair.0 other.0 && nat_eq pair.1 other.1) pairs) (each_pair pairs) (pair ∷ each_pair pairs)

pub pairs_length : (pairs : List (ℕ × ℕ)) → length (each_pair pairs) ≡ count_pairs pairs
pairs_length [] = refl
pairs_length (pair ∷ pairs) =
    let rest = pairs_length pairs in
    elim (list_any (λ (other : ℕ × ℕ). nat_eq pair.0 other.0 && nat_eq pair.1 other.1) pairs) as (λ b. length (cond b (each_pair pairs) (pair ∷ each_pair pairs)) ≡ cond b (count_pairs pairs) (1 + count_pairs pairs)) [
      | true ↦ rest
      | false ↦ omega (arith, rest)
    ]

pair_again : (pair : ℕ × ℕ) (pairs : List (ℕ × ℕ)) → list_any (is_pair pair) pairs ≡ true → Contains pairs pair
pair_again pair [] h = absurd cc
pair_again pair (other ∷ pairs) h = elim (or_cases (is_pair pair other) (list_any (is_pair pair) pairs) h) [
  | inl here ↦
      let parts = and_parts _ _ here in
      let one = eqb-true pair.0 other.0 parts.0 in
      let two = eqb-true pair.1 other.1 parts.1 in
      subst (λ (p : ℕ × ℕ). Contains (other ∷ pairs) p) (λ i. (sym one i, sym two i)) (head_in other pairs)
  | inr there ↦ tail_in other pair pairs (pair_again pair pairs there)
]

pub pair_in : (pairs : List (ℕ × ℕ)) (pair : ℕ × ℕ) → Contains pairs pair → Contains (each_pair pairs) pair
pair_in [] pair c = absurd (in_nothing pair c)
pair_in (first ∷ pairs) pair c = go (λ d. pair_in pairs pair d) (list_any (is_pair first) pairs) refl
  where
    go : (Contains pairs pair → Contains (each_pair pairs) pair) → (b : Bool) → list_any (is_pair first) pairs ≡ b → Contains (cond b (each_pair pairs) (first ∷ each_pair pairs)) pair
    go later true e = elim (in_cons first pair pairs c) [
      | inl here ↦ later (subst (λ (p : ℕ × ℕ). Contains pairs p) here (pair_again first pairs e))
      | inr there ↦ later there
    ]
    go later false e = elim (in_cons first pair pairs c) [
      | inl here ↦ subst (λ (p : ℕ × ℕ). Contains (first ∷ each_pair pairs) p) here (head_in first (each_pair pairs))
      | inr there ↦ tail_in first pair (each_pair pairs) (later there)
    ]

abbrev pub each_number : List ℕ → List ℕ
each_number [] = []
each_number (number ∷ numbers) = cond (list_any (nat_eq number) numbers) (each_number numbers) (number ∷ each_number numbers)

pub numbers_length : (numbers : List ℕ) → length (each_number numbers) ≡ count_different numbers
numbers_length [] = refl
numbers_length (number ∷ numbers) =
    let rest = numbers_length numbers in
    elim (list_any (nat_eq number) numbers) as (λ b. length (cond b (each_number numbers) (number ∷ each_number numbers)) ≡ cond b (count_different numbers) (1 + count_different numbers)) [
      | true ↦ rest
      | false ↦ omega (arith, rest)
    ]

number_again : (number : ℕ) (numbers : List ℕ) → list_any (nat_eq number) numbers ≡ true → Contains numbers number
number_again number [] h = absurd cc
number_again number (other ∷ numbers) h = elim (or_cases (nat_eq number other) (list_any (nat_eq number) numbers) h) [
  | inl here ↦ subst (λ (n : ℕ). Contains (other ∷ numbers) n) (sym (eqb-true number other here)) (head_in other numbers)
  | inr there ↦ tail_in other number numbers (number_again number numbers there)
]

pub number_in : (numbers : List ℕ) (number : ℕ) → Contains numbers number → Contains (each_number numbers) number
number_in [] number c = absurd (in_nothing number c)
number_in (first ∷ numbers) number c = go (λ d. number_in numbers number d) (list_any (nat_eq first) numbers) refl
  where
    go : (Contains numbers number → Contains (each_number numbers) number) → (b : Bool) → list_any (nat_eq first) numbers ≡ b → Contains (cond b (each_number numbers) (first ∷ each_number numbers)) number
    go later true e = elim (in_cons first number numbers c) [
      | inl here ↦ later (subst (λ (n : ℕ). Contains numbers n) here (number_again first numbers e))
      | inr there ↦ later there
    ]
    go later false e = elim (in_cons first number numbers c) [
      | inl here ↦ subst (λ (n : ℕ). Contains (first ∷ each_number numbers) n) here (head_in first (each_number numbers))
      | inr there ↦ tail_in first number (each_number numbers) (later there)
    ]
