-- What stands in filtered, mapped and joined lists and in the entries of a map.
use Rattle.std.proofs.Common.{◌≡◌, ◌≢◌, ◌&&◌, Bool, true, false, T, List, [], ◌∷◌, Contains, Option, Some, None, Ordering, Less, Equal, Greater, is_eq, is_lt, cond, filter, map, flat_map, IsPermutation, refl, sym, ap, subst, ◌∙◌, inl, inr}
use Rattle.std.proofs.lemmas.List.Elements.{Contains-append_left, Contains-append_right}
use Rattle.std.proofs.lemmas.List.Sorted.{IsPermutation-sym, Contains-permutation}
use Rattle.std.specs.Ordering.{ordering_reverse}
use Rattle.std.specs.Cmp.{IsTotalOrder}
use Rattle.std.specs.FinMap.{FinMap, IsAntisymmetric, entries, entries_sorted, get, get-entries, find, is_sorted, same_map}
use Rattle.std.specs.FinMap.Entries.{below_all}
use Rattle.volume_image.proofs.Lists.{in_nothing, in_cons}
use Rattle.volume_image.proofs.Reaches.{head_in, tail_in}
use Rattle.volume_image.proofs.Rising.{less_from_test}

-- a list in which something stands isn't empty
pub not_empty : {X : Type 0} (x : X) (xs : List X) → Contains xs x → xs ≢ []
not_empty x xs c e = in_nothing x (subst (λ ys. Contains ys x) e c)

pub has_some : {X : Type 0} (xs : List X) → xs ≢ [] → (x : X) × Contains xs x
has_some [] some = absurd (some refl)
has_some (x ∷ xs) some = (x, head_in x xs)

-- ---- filters and maps

pub in_filter : {X : Type 0} (p : X → Bool) (xs : List X) (x : X) → Contains (filter p xs) x → Contains xs x × (p x ≡ true)
in_filter p [] x c = absurd (in_nothing x c)
in_filter {X} p (y ∷ xs) x c = go (in_filter p xs x) (p y) refl c
  where
    go : (Contains (filter p xs) x → Contains xs x × (p x ≡ true)) → (b : Bool) → p y ≡ b → Contains (cond b (y ∷ filter p xs) (filter p xs)) x → Contains (y ∷ xs) x × (p x ≡ true)
    go later true e c = elim (in_cons y x (filter p xs) c) [
      | inl here ↦ (subst (λ (z : X). Contains (y ∷ xs) z) here (head_in y xs), subst (λ (z : X). p z ≡ true) here e)
      | inr there ↦ let rest = later there in (tail_in y x xs rest.0, rest.1)
    ]
    go later false e c = let rest = later c in (tail_in y x xs rest.0, rest.1)

pub filter_in : {X : Type 0} (p : X → Bool) (xs : List X) (x : X) → Contains xs x → p x ≡ true → Contains (filter p xs) x
filter_in p [] x c h = absurd (in_nothing x c)
filter_in {X} p (y ∷ xs) x c h = go (λ d. filter_in p xs x d h) (p y) refl
  where
    go : (Contains xs x → Contains (filter p xs) x) → (b : Bool) → p y ≡ b → Contains (cond b (y ∷ filter p xs) (filter p xs)) x
    go later true e = elim (in_cons y x xs c) [
      | inl here ↦ subst (λ (z : X). Contains (y ∷ filter p xs) z) here (head_in y (filter p xs))
      | inr there ↦ tail_in y x (filter p xs) (later there)
    ]
    go later false e = elim (in_cons y x xs c) [
      | inl here ↦ let same : p y ≡ true = ap p here ∙ h in absurd cc
      | inr there ↦ later there
    ]

pub in_map : {X Y : Type 0} (f : X → Y) (xs : List X) (y : Y) → Contains (map f xs) y → (x : X) × Contains xs x × (f x ≡ y)
in_map f [] y c = absurd (in_nothing y c)
in_map f (x ∷ xs) y c = elim (in_cons (f x) y (map f xs) c) [
  | inl here ↦ (x, head_in x xs, here)
  | inr there ↦ let rest = in_map f xs y there in (rest.0, tail_in x rest.0 xs rest.1, rest.2)
]

pub map_in : {X Y : Type 0} (f : X → Y) (xs : List X) (x : X) → Contains xs x → Contains (map f xs) (f x)
map_in f [] x c = absurd (in_nothing x c)
map_in {X} f (y ∷ xs) x c = elim (in_cons y x xs c) [
  | inl here ↦ subst (λ (z : X). Contains (map f (y ∷ xs)) (f z)) here (head_in (f y) (map f xs))
  | inr there ↦ tail_in (f y) (f x) (map f xs) (map_in f xs x there)
]

pub flat_map_in : {X Y : Type 0} (f : X → List Y) (xs : List X) (x : X) (y : Y) → Contains xs x → Contains (f x) y → Contains (flat_map f xs) y
flat_map_in f [] x y c d = absurd (in_nothing x c)
flat_map_in {X} f (z ∷ xs) x y c d = elim (in_cons z x xs c) [
  | inl here ↦ Contains-append_left (f z) (flat_map f xs) y (subst (λ (w : X). Contains (f w) y) (sym here) d)
  | inr there ↦ Contains-append_right (f z) (flat_map f xs) y (flat_map_in f xs x y there d)
]

-- two lists that are one list in other orders
pub same_members : {X : Type 0} (all xs ys : List X) (x : X) → IsPermutation all xs → IsPermutation all ys → Contains xs x → Contains ys x
same_members all xs ys x a b c = Contains-permutation all ys x b (Contains-permutation xs all x (IsPermutation-sym all xs a) c)

-- ---- maps

both_true : (a b : Bool) → T (a && b) → T a × T b
both_true true b t = (tt, t)
both_true false b t = absurd t

true_test : (b : Bool) → T b → b ≡ true
true_test true t = refl
true_test false t = absurd t

equal_itself : {K : Type 0} {R : K → K → Ordering} → IsTotalOrder R → (k : K) → R k k ≡ Equal
equal_itself {R = R} o k = go (R k k) refl (o.antisymm k k)
  where
    go : (r : Ordering) → R k k ≡ r → R k k ≡ ordering_reverse (R k k) → R k k ≡ Equal
    go Less p e = let back : Less ≡ Greater = sym p ∙ e ∙ ap ordering_reverse p in absurd cc
    go Equal p e = p
    go Greater p e = let back : Greater ≡ Less = sym p ∙ e ∙ ap ordering_reverse p in absurd cc

module _ {K X : Type 0} {R : K → K → Ordering} (o : IsTotalOrder R) (same : IsAntisymmetric R) where
  find_in : (es : List (K × X)) (k : K) (v : X) → find R k es ≡ Some v → Contains es (k, v)
  find_in [] k v h = absurd cc
  find_in (e ∷ es) k v h = go (find_in es k v) (R k e.0) refl h
    where
      go : (find R k es ≡ Some v → Contains es (k, v)) → (r : Ordering) → R k e.0 ≡ r → cond (is_eq r) (Some e.1) (find R k es) ≡ Some v → Contains (e ∷ es) (k, v)
      go later Less p h = tail_in e (k, v) es (later h)
      go later Equal p h = let value : e.1 ≡ v = cc in let key = same k e.0 p in subst (λ (z : K × X). Contains (e ∷ es) z) (λ i. (sym key i, value i)) (head_in e es)
      go later Greater p h = tail_in e (k, v) es (later h)

  below_in : (x : K) (es : List (K × X)) (k : K) (v : X) → T (below_all R x es) → Contains es (k, v) → R x k ≡ Less
  below_in x [] k v b c = absurd (in_nothing (k, v) c)
  below_in x (e ∷ es) k v b c =
      let parts = both_true (is_lt (R x e.0)) (below_all R x es) b in
      elim (in_cons e (k, v) es c) [
        | inl here ↦ subst (λ (z : K × X). R x z.0 ≡ Less) here (less_from_test (R x e.0) (true_test _ parts.0))
        | inr there ↦ below_in x es k v parts.1 there
      ]

  in_find : (es : List (K × X)) (k : K) (v : X) → T (is_sorted R es) → Contains es (k, v) → find R k es ≡ Some v
  in_find [] k v s c = absurd (in_nothing (k, v) c)
  in_find (e ∷ es) k v s c =
      let parts = both_true (below_all R e.0 es) (is_sorted R es) s in
      elim (in_cons e (k, v) es c) [
        | inl here ↦ subst (λ (z : K × X). find R z.0 (e ∷ es) ≡ Some z.1) here (ap (λ (r : Ordering). cond (is_eq r) (Some e.1) (find R e.0 es)) (equal_itself o e.0))
        | inr there ↦
            let less = below_in e.0 es k v parts.0 there in
            let more : R k e.0 ≡ Greater = o.antisymm k e.0 ∙ ap ordering_reverse less in
            ap (λ (r : Ordering). cond (is_eq r) (Some e.1) (find R k es)) more ∙ in_find es k v parts.1 there
      ]

  -- what a map has at a key is an entry, and an entry is what it has
  pub get_in : (m : FinMap R X) (k : K) (v : X) → get m k ≡ Some v → Contains (entries m) (k, v)
  get_in m k v h = find_in (entries m) k v (sym (get-entries m k) ∙ h)

  pub in_get : (m : FinMap R X) (k : K) (v : X) → Contains (entries m) (k, v) → get m k ≡ Some v
  in_get m k v c = get-entries m k ∙ in_find (entries m) k v (entries_sorted m) c

  -- maps that have the same values at the same keys are one
  pub one_map : (m n : FinMap R X) → ((k : K) (v : X) → get m k ≡ Some v → get n k ≡ Some v) → ((k : K) (v : X) → get n k ≡ Some v → get m k ≡ Some v) → m ≡ n
  one_map m n there back = same_map o same m n (λ k. same_option (get m k) (get n k) (there k) (back k))
    where
      same_option : (a b : Option X) → ((v : X) → a ≡ Some v → b ≡ Some v) → ((v : X) → b ≡ Some v → a ≡ Some v) → a ≡ b
      same_option None None f g = refl
      same_option None (Some v) f g = g v refl
      same_option (Some v) b f g = sym (f v refl)
