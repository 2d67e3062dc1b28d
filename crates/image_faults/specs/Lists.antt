-- Lists in which everything stands once, and maps of a list of entries.
use Rattle.std.proofs.Common.{◌≡◌, ◌≢◌, ◌<◌, ◌≤◌, ◌&&◌, ◌++◌, ℕ, zero, suc, Bool, true, false, cond, T, List, [], ◌∷◌, length, filter, map, flat_map, Contains, IsPermutation, Some, slice_get, get_or, Ordering, Less, Equal, Greater, is_eq, is_lt, refl, sym, ap, subst, ◌∙◌, arith, inl, inr}
use Rattle.std.proofs.lemmas.List.Sorted.{IsPermutation-refl, IsPermutation-sym, IsPermutation-cons, IsPermutation-trans, IsPermutation-middle, Contains-permutation, length_permutation}
use Rattle.std.proofs.lemmas.List.Elements.{Contains-append_left, Contains-append_right, Contains-append_cases}
use Rattle.std.specs.Ordering.{ordering_reverse}
use Rattle.std.specs.Cmp.{IsTotalOrder}
use Rattle.std.specs.FinMap.{FinMap, IsAntisymmetric, entries, entries_sorted, get, get-from_entries, from_entries, find, is_sorted}
use Rattle.std.specs.FinMap.Entries.{below_all}
use Rattle.blk_base.specs.Entries.{EntryValue}
use Rattle.flat_model.specs.Names.{FlatName, is_name_set}
use Rattle.flat_model.proofs.NameSets.{set_head_once, set_tail}
use Rattle.volume_image.specs.Subvolume.{without_transid}
use Rattle.volume_image.proofs.Lists.{in_nothing, in_cons}
use Rattle.volume_image.proofs.Reaches.{head_in, tail_in}
use Rattle.volume_image.proofs.Members.{in_filter, in_map, one_map}
use Rattle.volume_image.proofs.Rising.{less_from_test}
use Rattle.image_faults.specs.Faulty.{StandOnce}

pub in_flat_map : {X Y : Type 0} (f : X → List Y) (xs : List X) (y : Y) → Contains (flat_map f xs) y → (x : X) × Contains xs x × Contains (f x) y
in_flat_map f [] y c = absurd (in_nothing y c)
in_flat_map f (x ∷ xs) y c = elim (Contains-append_cases (f x) (flat_map f xs) y c) [
  | inl here ↦ (x, head_in x xs, here)
  | inr there ↦ let rest = in_flat_map f xs y there in (rest.0, tail_in x rest.0 xs rest.1, rest.2)
]

-- ---- one list in another order

-- what stands in a list has a part before it and one behind
pub split_at : {X : Type 0} (xs : List X) (x : X) → Contains xs x → (front : List X) × (back : List X) × (xs ≡ front ++ (x ∷ back))
split_at [] x c = absurd (in_nothing x c)
split_at (y ∷ xs) x c = elim (in_cons y x xs c) [
  | inl here ↦ ([], xs, ap (λ z. z ∷ xs) here)
  | inr there ↦ let rest = split_at xs x there in (y ∷ rest.0, rest.1, ap (λ zs. y ∷ zs) rest.2)
]

middle_in : {X : Type 0} (front : List X) (x : X) (back : List X) → Contains (front ++ (x ∷ back)) x
middle_in front x back = Contains-append_right front (x ∷ back) x (head_in x back)

wider : {X : Type 0} (front : List X) (x : X) (back : List X) (y : X) → Contains (front ++ back) y → Contains (front ++ (x ∷ back)) y
wider front x back y c = elim (Contains-append_cases front back y c) [
  | inl before ↦ Contains-append_left front (x ∷ back) y before
  | inr behind ↦ Contains-append_right front (x ∷ back) y (tail_in x y back behind)
]

not_middle : {X : Type 0} (front : List X) (x : X) (back : List X) (y : X) → Contains (front ++ (x ∷ back)) y → (x ≡ y → ⊥) → Contains (front ++ back) y
not_middle front x back y c other = elim (Contains-append_cases front (x ∷ back) y c) [
  | inl before ↦ Contains-append_left front back y before
  | inr behind ↦ elim (in_cons x y back behind) [
    | inl here ↦ absurd (other here)
    | inr there ↦ Contains-append_right front back y there
  ]
]

once_without : {X : Type 0} (front : List X) (x : X) (back : List X) → StandOnce (front ++ (x ∷ back)) → StandOnce (front ++ back) × (Contains (front ++ back) x → ⊥)
once_without [] x back d = (d.1, d.0)
once_without {X} (y ∷ front) x back d =
    let rest = once_without front x back d.1 in (
      (λ c. d.0 (wider front x back y c), rest.0),
      λ c. elim (in_cons y x (front ++ back) c) [
        | inl same ↦ d.0 (subst (λ (z : X). Contains (front ++ (x ∷ back)) z) (sym same) (middle_in front x back))
        | inr there ↦ rest.1 there
      ],
    )

-- two lists of the same elements, each once, are one in two orders
pub permuted : {X : Type 0} (xs ys : List X) → StandOnce xs → StandOnce ys → ((x : X) → Contains xs x → Contains ys x) → ((x : X) → Contains ys x → Contains xs x) → IsPermutation xs ys
permuted [] [] d e f b = IsPermutation-refl []
permuted [] (y ∷ ys) d e f b = absurd (in_nothing y (b y (head_in y ys)))
permuted {X} (x ∷ xs) ys d e f b =
    let parts = split_at ys x (f x (head_in x xs)) in
    let front = parts.0 in
    let back = parts.1 in
    let without = once_without front x back (subst StandOnce parts.2 e) in
    let rest = permuted xs (front ++ back) d.1 without.0
    (λ (y : X) (c : Contains xs y). not_middle front x back y (subst (λ (zs : List X). Contains zs y) parts.2 (f y (tail_in x y xs c))) (λ same. d.0 (subst (λ (z : X). Contains xs z) (sym same) c)))
    (λ (y : X) (c : Contains (front ++ back) y). elim (in_cons x y xs (b y (subst (λ (zs : List X). Contains zs y) (sym parts.2) (wider front x back y c)))) [
      | inl same ↦ absurd (without.1 (subst (λ (z : X). Contains (front ++ back) z) (sym same) c))
      | inr there ↦ there
    ]) in
    subst (IsPermutation (x ∷ xs)) (sym parts.2)
    (IsPermutation-trans (x ∷ xs) (x ∷ (front ++ back)) (front ++ (x ∷ back)) (IsPermutation-cons x xs (front ++ back) rest)
    (IsPermutation-sym (front ++ (x ∷ back)) (x ∷ (front ++ back)) (IsPermutation-middle front x back)))

-- ---- everything once

pub once_filter : {X : Type 0} (p : X → Bool) (xs : List X) → StandOnce xs → StandOnce (filter p xs)
once_filter p [] d = tt
once_filter {X} p (x ∷ xs) d = go (p x) (once_filter p xs d.1)
  where
    go : (b : Bool) → StandOnce (filter p xs) → StandOnce (cond b (x ∷ filter p xs) (filter p xs))
    go true rest = (λ c. d.0 (in_filter p xs x c).0, rest)
    go false rest = rest

pub once_map : {X Y : Type 0} (f : X → Y) (xs : List X) → ((a b : X) → Contains xs a → Contains xs b → f a ≡ f b → a ≡ b) → StandOnce xs → StandOnce (map f xs)
once_map f [] one d = tt
once_map {X} f (x ∷ xs) one d = (
  λ c. let found = in_map f xs (f x) c in d.0 (subst (λ (z : X). Contains xs z) (one found.0 x (tail_in x found.0 xs found.1) (head_in x xs) found.2) found.1),
  once_map f xs (λ a b ca cb e. one a b (tail_in x a xs ca) (tail_in x b xs cb) e) d.1,
)

pub once_names : (names : List FlatName) → is_name_set names ≡ true → StandOnce names
once_names [] set = tt
once_names (name ∷ names) set = (set_head_once name names set, once_names names (set_tail name names set))

-- what stands in a list stands at a place
pub get_at : {X : Type 0} (xs : List X) (x : X) (c : Contains xs x) → slice_get xs c.0 ≡ Some x
get_at {X} xs x c = at xs c.0 c.1 c.2
  where
    at : (xs : List X) (k : ℕ) → k < length xs → get_or xs k x ≡ x → slice_get xs k ≡ Some x
    at [] k below is = absurd (omega arith)
    at (y ∷ xs) zero below is = ap Some is
    at (y ∷ xs) (suc k) below is = at xs k (omega arith) is

-- entries with different names, apart from their transids
pub once_entries : (es : List EntryValue) → ((i j : ℕ) (a b : EntryValue) → i < j → slice_get es i ≡ Some a → slice_get es j ≡ Some b → a.name ≢ b.name) → StandOnce (map without_transid es)
once_entries [] once = tt
once_entries (e ∷ es) once = (
  λ c. let found = in_map without_transid es (without_transid e) c in once 0 (suc found.1.0) e found.0 (omega arith) refl (get_at es found.0 found.1) (ap (λ (x : EntryValue). x.name) (sym found.2)),
  once_entries es (λ i j a b below ga gb. once (suc i) (suc j) a b (omega arith) ga gb),
)

pub one_once : {X : Type 0} (x : X) → StandOnce (x ∷ [])
one_once x = (λ c. in_nothing x c, tt)

-- ---- maps

both_true : (a b : Bool) → T (a && b) → T a × T b
both_true true b t = (tt, t)
both_true false b t = absurd t

true_test : (b : Bool) → T b → b ≡ true
true_test true t = refl
true_test false t = absurd t

some_same : {X : Type 0} (x y : X) → Some x ≡ Some y → x ≡ y
some_same x y e = cc

equal_itself : {K : Type 0} {R : K → K → Ordering} → IsTotalOrder R → (k : K) → R k k ≡ Equal
equal_itself {R = R} o k = go (R k k) refl (o.antisymm k k)
  where
    go : (r : Ordering) → R k k ≡ r → R k k ≡ ordering_reverse (R k k) → R k k ≡ Equal
    go Less p e = let back : Less ≡ Greater = sym p ∙ e ∙ ap ordering_reverse p in absurd cc
    go Equal p e = p
    go Greater p e = let back : Greater ≡ Less = sym p ∙ e ∙ ap ordering_reverse p in absurd cc

module _ {K X : Type 0} {R : K → K → Ordering} (o : IsTotalOrder R) (same : IsAntisymmetric R) where
  below_in : (x : K) (es : List (K × X)) (k : K) (v : X) → T (below_all R x es) → Contains es (k, v) → R x k ≡ Less
  below_in x [] k v b c = absurd (in_nothing (k, v) c)
  below_in x (e ∷ es) k v b c =
      let parts = both_true (is_lt (R x e.0)) (below_all R x es) b in
      elim (in_cons e (k, v) es c) [
        | inl here ↦ subst (λ (z : K × X). R x z.0 ≡ Less) here (less_from_test (R x e.0) (true_test _ parts.0))
        | inr there ↦ below_in x es k v parts.1 there
      ]

  once_sorted : (es : List (K × X)) → T (is_sorted R es) → StandOnce es
  once_sorted [] s = tt
  once_sorted (e ∷ es) s =
      let parts = both_true (below_all R e.0 es) (is_sorted R es) s in
      (λ c. let less : Less ≡ Equal = sym (below_in e.0 es e.0 e.1 parts.0 c) ∙ equal_itself o e.0 in cc, once_sorted es parts.1)

  -- the entries of a map stand once
  pub once_map_entries : (m : FinMap R X) → StandOnce (entries m)
  once_map_entries m = once_sorted (entries m) (entries_sorted m)

  find_in : (es : List (K × X)) (k : K) (v : X) → find R k es ≡ Some v → Contains es (k, v)
  find_in [] k v h = absurd cc
  find_in (e ∷ es) k v h = go (find_in es k v) (R k e.0) refl h
    where
      go : (find R k es ≡ Some v → Contains es (k, v)) → (r : Ordering) → R k e.0 ≡ r → cond (is_eq r) (Some e.1) (find R k es) ≡ Some v → Contains (e ∷ es) (k, v)
      go later Less p h = tail_in e (k, v) es (later h)
      go later Equal p h = let value : e.1 ≡ v = cc in let key = same k e.0 p in subst (λ (z : K × X). Contains (e ∷ es) z) (λ i. (sym key i, value i)) (head_in e es)
      go later Greater p h = tail_in e (k, v) es (later h)

  find_one : (es : List (K × X)) (k : K) (v : X) → ((w : X) → Contains es (k, w) → w ≡ v) → Contains es (k, v) → find R k es ≡ Some v
  find_one [] k v one c = absurd (in_nothing (k, v) c)
  find_one (e ∷ es) k v one c = go (R k e.0) refl (find_one es k v (λ w d. one w (tail_in e (k, w) es d)))
    where
      later_in : R k e.0 ≢ Equal → Contains es (k, v)
      later_in other = elim (in_cons e (k, v) es c) [
        | inl here ↦ absurd (other (ap (R k) (ap (λ (z : K × X). z.0) here) ∙ equal_itself o k))
        | inr there ↦ there
      ]

      go : (r : Ordering) → R k e.0 ≡ r → (Contains es (k, v) → find R k es ≡ Some v) → cond (is_eq (R k e.0)) (Some e.1) (find R k es) ≡ Some v
      go Less p later = ap (λ (r : Ordering). cond (is_eq r) (Some e.1) (find R k es)) p ∙ later (later_in (λ q. let no : Less ≡ Equal = sym p ∙ q in cc))
      go Equal p later =
          ap (λ (r : Ordering). cond (is_eq r) (Some e.1) (find R k es)) p
          ∙ ap Some (one e.1 (subst (λ (z : K × X). Contains (e ∷ es) z) (λ i. (sym (same k e.0 p) i, e.1)) (head_in e es)))
      go Greater p later = ap (λ (r : Ordering). cond (is_eq r) (Some e.1) (find R k es)) p ∙ later (later_in (λ q. let no : Greater ≡ Equal = sym p ∙ q in cc))

  -- what the map of a list has at a key stands in the list
  pub taken : (es : List (K × X)) (k : K) (v : X) → get (from_entries {R = R} es) k ≡ Some v → Contains es (k, v)
  taken es k v h = find_in es k v (sym (get-from_entries o es k) ∙ h)

  -- an entry whose key has no other value
  pub given : (es : List (K × X)) (k : K) (v : X) → ((w : X) → Contains es (k, w) → w ≡ v) → Contains es (k, v) → get (from_entries {R = R} es) k ≡ Some v
  given es k v one c = get-from_entries o es k ∙ find_one es k v one c

  -- a list whose entries are those of a map gives that map
  pub gives_map : (es : List (K × X)) (m : FinMap R X) → ((k : K) (v : X) → Contains es (k, v) → get m k ≡ Some v) → ((k : K) (v : X) → get m k ≡ Some v → Contains es (k, v)) → from_entries {R = R} es ≡ m
  gives_map es m there back = one_map o same (from_entries es) m
      (λ k v h. there k v (taken es k v h))
      (λ k v h. given es k v (λ w c. some_same w v (sym (there k w c) ∙ h)) (back k v h))

-- ---- more lists in which everything stands once

pub once_append : {X : Type 0} (xs ys : List X) → StandOnce xs → StandOnce ys → ((x : X) → Contains xs x → Contains ys x → ⊥) → StandOnce (xs ++ ys)
once_append [] ys d e apart = e
once_append (x ∷ xs) ys d e apart = (
  λ c. elim (Contains-append_cases xs ys x c) [ inl near ↦ d.0 near | inr far ↦ apart x (head_in x xs) far ],
  once_append xs ys d.1 e (λ y c f. apart y (tail_in x y xs c) f),
)

pub once_short : {X : Type 0} (xs : List X) → length xs ≤ 1 → StandOnce xs
once_short [] short = tt
once_short (x ∷ []) short = one_once x
once_short (x ∷ y ∷ xs) short = absurd (omega arith)

-- two elements of a list of one are the same
pub one_member : {X : Type 0} (xs : List X) (x y : X) → length xs ≡ 1 → Contains xs x → Contains xs y → x ≡ y
one_member [] x y one c d = absurd (in_nothing x c)
one_member (z ∷ []) x y one c d = elim (in_cons z x [] c) [
  | inl here ↦ elim (in_cons z y [] d) [ inl also ↦ sym here ∙ also | inr none ↦ absurd (in_nothing y none) ]
  | inr none ↦ absurd (in_nothing x none)
]
one_member (z ∷ w ∷ xs) x y one c d = absurd (omega arith)

length_middle : {X : Type 0} (front : List X) (x : X) (back : List X) → length (front ++ (x ∷ back)) ≡ suc (length (front ++ back))
length_middle [] x back = refl
length_middle (y ∷ front) x back = ap suc (length_middle front x back)

-- elements that stand once, all of them in another list, are no more than that list has
pub fewer : {X : Type 0} (xs ys : List X) → StandOnce xs → ((x : X) → Contains xs x → Contains ys x) → length xs ≤ length ys
fewer [] ys d f = omega arith
fewer {X} (x ∷ xs) ys d f =
    let parts = split_at ys x (f x (head_in x xs)) in
    let rest = fewer xs (parts.0 ++ parts.1) d.1
    (λ (y : X) (c : Contains xs y). not_middle parts.0 x parts.1 y (subst (λ (zs : List X). Contains zs y) parts.2 (f y (tail_in x y xs c))) (λ same. d.0 (subst (λ (z : X). Contains xs z) (sym same) c))) in
    let size = length_middle parts.0 x parts.1 in
    let whole = ap length parts.2 in
    omega arith

once_with : {X : Type 0} (front : List X) (x : X) (back : List X) → StandOnce (front ++ back) → (Contains (front ++ back) x → ⊥) → StandOnce (front ++ (x ∷ back))
once_with [] x back d other = (other, d)
once_with {X} (y ∷ front) x back d other = (
  λ c. d.0 (not_middle front x back y c (λ same. other (subst (λ (z : X). Contains (y ∷ (front ++ back)) z) (sym same) (head_in y (front ++ back))))),
  once_with front x back d.1 (λ c. other (tail_in y x (front ++ back) c)),
)

-- a list that has all elements of one in which they stand once, and is no longer, has each once
once_all : {X : Type 0} (xs ys : List X) → StandOnce xs → ((x : X) → Contains xs x → Contains ys x) → length xs ≡ length ys → StandOnce ys
once_all [] [] d f e = tt
once_all [] (y ∷ ys) d f e = absurd (omega arith)
once_all {X} (x ∷ xs) ys d f e =
    let parts = split_at ys x (f x (head_in x xs)) in
    let front = parts.0 in
    let back = parts.1 in
    let whole = ap length parts.2 in
    let middle = length_middle front x back in
    let inside : (y : X) → Contains xs y → Contains (front ++ back) y =
    λ y c. not_middle front x back y (subst (λ (zs : List X). Contains zs y) parts.2 (f y (tail_in x y xs c))) (λ same. d.0 (subst (λ (z : X). Contains xs z) (sym same) c)) in
    let rest = once_all xs (front ++ back) d.1 inside (omega arith) in
    subst StandOnce (sym parts.2) (once_with front x back rest (λ c.
    let more = fewer (x ∷ xs) (front ++ back) d (λ y q. elim (in_cons x y xs q) [ inl here ↦ subst (λ (z : X). Contains (front ++ back) z) here c | inr there ↦ inside y there ]) in
    omega arith))

-- the same elements in another order stand once too
pub once_permuted : {X : Type 0} (xs ys : List X) → StandOnce xs → IsPermutation ys xs → StandOnce ys
once_permuted xs ys d p = let long = length_permutation ys xs p in once_all xs ys d (λ x c. Contains-permutation xs ys x (IsPermutation-sym ys xs p) c) long
