-- Facts on how many elements lists have: of distinct elements, of filters, and over keys.
use Rattle.std.proofs.Common.{◌≡◌, ℕ, ◌+◌, ◌≤◌, Bool, true, false, cond, ◌&&◌, T, List, [], ◌∷◌, ◌++◌, map, length, refl, sym, ap, subst, ◌∙◌, arith, inl, inr, ◌⊎◌, length-append}
use Rattle.std.specs.Bool.{nat_eq, nat_lt}
use Rattle.std.specs.Ordering.{nat_cmp, is_lt}
use Rattle.std.specs.Cmp.{nat_cmp_total, tied_itself}
use Rattle.std.specs.List.{Contains, filter, list_all, sum_by}
use Rattle.std.specs.FinMap.{FinMap, keys, entries, len, entries_sorted, len-entries, is_sorted}
use Rattle.std.specs.FinMap.Entries.{below_all}
use Rattle.std.proofs.lemmas.Bool.{true≢false, and_parts, ltb-true, cases_eq, eq-eqb, ne_eqb, false_from_ne_true}
use Rattle.std.proofs.lemmas.List.Sums.{sum_by-cons, sum_by-append}
use Rattle.flat_model.proofs.Lists.{contains_head, contains_tail, contains_none, contains_cases, filter_contains}
use Rattle.flat_model.proofs.Ways.{split_around}
use Rattle.logged_volume.specs.Numbers.{is_number_set, add_number, number_set}
use Rattle.logged_volume.specs.FlatLog.{AreDistinct}
use Rattle.logged_volume.proofs.Members.{all_gives}
use Rattle.logged_volume.proofs.NameSums.{around}

-- ---- sums

module _ {X : Type 0} where
  pub sum_le : (f g : X → ℕ) (xs : List X) → ((x : X) → Contains xs x → f x ≤ g x) → sum_by f xs ≤ sum_by g xs
  sum_le f g [] each = omega arith
  sum_le f g (x ∷ xs) each =
      let here = each x (contains_head x xs) in
      let rest = sum_le f g xs (λ y c. each y (contains_tail x xs y c)) in
      omega (arith, sum_by-cons f x xs, sum_by-cons g x xs, here, rest)

  pub sum_lt : (f g : X → ℕ) (xs : List X) → ((x : X) → Contains xs x → f x ≤ g x) → (y : X) → Contains xs y → f y + 1 ≤ g y → sum_by f xs + 1 ≤ sum_by g xs
  sum_lt f g [] each y c more = absurd (contains_none y c)
  sum_lt f g (x ∷ xs) each y c more =
      elim (contains_cases x xs y c) [
        | inl same ↦
            let here : f x + 1 ≤ g x = subst (λ z. f z + 1 ≤ g z) (sym same) more in
            let rest = sum_le f g xs (λ z d. each z (contains_tail x xs z d)) in
            omega (arith, sum_by-cons f x xs, sum_by-cons g x xs, here, rest)
        | inr h ↦
            let here = each x (contains_head x xs) in
            let rest = sum_lt f g xs (λ z d. each z (contains_tail x xs z d)) y h more in
            omega (arith, sum_by-cons f x xs, sum_by-cons g x xs, here, rest)
      ]

  pub sum_plus : (f g : X → ℕ) (xs : List X) → sum_by (λ x. f x + g x) xs ≡ sum_by f xs + sum_by g xs
  sum_plus f g [] = refl
  sum_plus f g (x ∷ xs) =
      let rest = sum_plus f g xs in
      omega (arith, sum_by-cons (λ x. f x + g x) x xs, sum_by-cons f x xs, sum_by-cons g x xs, rest)

  -- distinct elements among others, but for those that count nothing, sum to no more
  pub sum_within : (f : X → ℕ) (xs all : List X) → AreDistinct xs → ((x : X) → Contains xs x → Contains all x ⊎ (f x ≡ 0)) → sum_by f xs ≤ sum_by f all
  sum_within f [] all distinct within = omega arith
  sum_within f (x ∷ xs) all distinct within =
      elim (within x (contains_head x xs)) [
        | inl here ↦
            let parts = split_around all x here in
            let front = parts.0 in
            let back = parts.1 in
            let rest = sum_within f xs (front ++ back) distinct.1 (λ y c. elim (within y (contains_tail x xs y c)) [
              | inl there ↦ elim (around front x back y (subst (λ l. Contains l y) parts.2 there)) [
                | inl same ↦ absurd (distinct.0 (subst (Contains xs) (sym same) c))
                | inr stays ↦ inl stays
              ]
              | inr none ↦ inr none
            ]) in
            let whole = ap (sum_by f) parts.2 ∙ sum_by-append f front (x ∷ back) in
            let tail = sum_by-cons f x back in
            let less = sum_by-append f front back in
            omega (arith, sum_by-cons f x xs, rest, whole, tail, less)
        | inr none ↦
            let rest = sum_within f xs all distinct.1 (λ y c. within y (contains_tail x xs y c)) in
            omega (arith, sum_by-cons f x xs, rest, none)
      ]

  pub length_within : (xs all : List X) → AreDistinct xs → ((x : X) → Contains xs x → Contains all x) → length xs ≤ length all
  length_within [] all distinct within = omega arith
  length_within (x ∷ xs) all distinct within =
      let parts = split_around all x (within x (contains_head x xs)) in
      let front = parts.0 in
      let back = parts.1 in
      let rest = length_within xs (front ++ back) distinct.1 (λ y c. elim (around front x back y (subst (λ l. Contains l y) parts.2 (within y (contains_tail x xs y c)))) [
        | inl same ↦ absurd (distinct.0 (subst (Contains xs) (sym same) c))
        | inr stays ↦ stays
      ]) in
      omega (arith, ap length parts.2, length-append front (x ∷ back), length-append front back, rest)

  pub distinct_filter : (p : X → Bool) (xs : List X) → AreDistinct xs → AreDistinct (filter p xs)
  distinct_filter p [] d = tt
  distinct_filter p (x ∷ xs) d =
      let rest = distinct_filter p xs d.1 in
      elim (p x) as (λ b. AreDistinct (cond b (x ∷ filter p xs) (filter p xs))) [
        | true ↦ ((λ c. d.0 (filter_contains p xs x c).0), rest)
        | false ↦ rest
      ]

  -- two filters that no element passes both, and a third that lets through what passes one of them
  pub filters_apart : (p q r : X → Bool) (xs : List X) → ((x : X) → Contains xs x → p x ≡ true → r x ≡ true) → ((x : X) → Contains xs x → q x ≡ true → r x ≡ true) → ((x : X) → Contains xs x → p x ≡ true → q x ≡ true → ⊥) → length (filter p xs) + length (filter q xs) ≤ length (filter r xs)
  filters_apart p q r [] one two apart = omega arith
  filters_apart p q r (x ∷ xs) one two apart =
      let rest = filters_apart p q r xs (λ y c. one y (contains_tail x xs y c)) (λ y c. two y (contains_tail x xs y c)) (λ y c. apart y (contains_tail x xs y c)) in
      let head = contains_head x xs in
      elim (p x) as (λ a. p x ≡ a → length (cond a (x ∷ filter p xs) (filter p xs)) + length (filter q (x ∷ xs)) ≤ length (filter r (x ∷ xs))) [
        | true ↦ λ t.
            let no_q : filter q (x ∷ xs) ≡ filter q xs = ap (λ b. cond b (x ∷ filter q xs) (filter q xs)) (false_from_ne_true _ (apart x head t)) in
            let has_r : filter r (x ∷ xs) ≡ x ∷ filter r xs = ap (λ b. cond b (x ∷ filter r xs) (filter r xs)) (one x head t) in
            omega (arith, ap length no_q, ap length has_r, rest)
        | false ↦ λ f. elim (q x) as (λ b. q x ≡ b → length (filter p xs) + length (cond b (x ∷ filter q xs) (filter q xs)) ≤ length (filter r (x ∷ xs))) [
          | true ↦ λ t.
              let has_r : filter r (x ∷ xs) ≡ x ∷ filter r xs = ap (λ b. cond b (x ∷ filter r xs) (filter r xs)) (two x head t) in
              omega (arith, ap length has_r, rest)
          | false ↦ λ g. elim (r x) as (λ b. length (filter p xs) + length (filter q xs) ≤ length (cond b (x ∷ filter r xs) (filter r xs))) [ true ↦ omega (arith, rest) | false ↦ rest ]
        ] refl
      ] refl

  pub filter_le : (p r : X → Bool) (xs : List X) → ((x : X) → Contains xs x → p x ≡ true → r x ≡ true) → length (filter p xs) ≤ length (filter r xs)
  filter_le p r xs one =
      let both = filters_apart p (λ _. false) r xs one (λ x c t. absurd (true≢false (sym t))) (λ x c t u. true≢false (sym u)) in
      omega (arith, both)

-- a key is one of distinct keys at most once
own_key : (v : ℕ) (ks : List ℕ) → AreDistinct ks → sum_by (λ k. cond (nat_eq v k) 1 0) ks ≤ 1
own_key v [] d = omega arith
own_key v (k ∷ ks) d =
    elim (cases_eq v k) [
      | inl same ↦
          let none = absent v ks (λ c. d.0 (subst (Contains ks) same c)) in
          let one : ◌≡◌ {A = ℕ} (cond (nat_eq v k) 1 0) 1 = ap (λ b. cond b 1 0) (eq-eqb v k same) in
          omega (arith, sum_by-cons (λ k. cond (nat_eq v k) 1 0) k ks, none, one)
      | inr other ↦
          let rest = own_key v ks d.1 in
          let zero_here : ◌≡◌ {A = ℕ} (cond (nat_eq v k) 1 0) 0 = ap (λ b. cond b 1 0) (ne_eqb v k other) in
          omega (arith, sum_by-cons (λ k. cond (nat_eq v k) 1 0) k ks, rest, zero_here)
    ]
  where
    absent : (v : ℕ) (ks : List ℕ) → (Contains ks v → ⊥) → sum_by (λ k. cond (nat_eq v k) 1 0) ks ≡ 0
    absent v [] none = refl
    absent v (k ∷ ks) none =
        let zero_here : ◌≡◌ {A = ℕ} (cond (nat_eq v k) 1 0) 0 = ap (λ b. cond b 1 0) (ne_eqb v k (λ same. none (subst (Contains (k ∷ ks)) (sym same) (contains_head k ks)))) in
        let rest = absent v ks (λ c. none (contains_tail k ks v c)) in
        omega (arith, sum_by-cons (λ k. cond (nat_eq v k) 1 0) k ks, rest, zero_here)

zeros : (ks : List ℕ) → sum_by (λ k. 0) ks ≡ 0
zeros [] = refl
zeros (k ∷ ks) = omega (arith, sum_by-cons (λ (k : ℕ). 0) k ks, zeros ks)

module _ {X : Type 0} where
  -- a list has at most as many elements as its parts by a key, where each key is among these
  pub length_by_key : (key : X → ℕ) (ks : List ℕ) (xs : List X) → ((x : X) → Contains xs x → Contains ks (key x)) → length xs ≤ sum_by (λ k. length (filter (λ x. nat_eq (key x) k) xs)) ks
  length_by_key key ks [] within = omega arith
  length_by_key key ks (x ∷ xs) within =
      let rest = length_by_key key ks xs (λ y c. within y (contains_tail x xs y c)) in
      let more = sum_lt (λ k. length (filter (λ x. nat_eq (key x) k) xs)) (λ k. length (filter (λ x. nat_eq (key x) k) (x ∷ xs))) ks
      (λ k c. grows k) (key x) (within x (contains_head x xs)) (at_own) in
      omega (arith, rest, more)
    where
      grows : (k : ℕ) → length (filter (λ x. nat_eq (key x) k) xs) ≤ length (filter (λ x. nat_eq (key x) k) (x ∷ xs))
      grows k = elim (nat_eq (key x) k) as (λ b. length (filter (λ x. nat_eq (key x) k) xs) ≤ length (cond b (x ∷ filter (λ x. nat_eq (key x) k) xs) (filter (λ x. nat_eq (key x) k) xs))) [ true ↦ omega arith | false ↦ omega arith ]

      at_own : length (filter (λ y. nat_eq (key y) (key x)) xs) + 1 ≤ length (filter (λ y. nat_eq (key y) (key x)) (x ∷ xs))
      at_own =
          let is : filter (λ y. nat_eq (key y) (key x)) (x ∷ xs) ≡ x ∷ filter (λ y. nat_eq (key y) (key x)) xs =
          ap (λ b. cond b (x ∷ filter (λ y. nat_eq (key y) (key x)) xs) (filter (λ y. nat_eq (key y) (key x)) xs)) (eq-eqb (key x) (key x) refl) in
          omega (arith, ap length is)

  -- and no fewer, where these keys are distinct
  pub keys_by_length : (key : X → ℕ) (ks : List ℕ) (xs : List X) → AreDistinct ks → sum_by (λ k. length (filter (λ x. nat_eq (key x) k) xs)) ks ≤ length xs
  keys_by_length key ks [] d = omega (arith, zeros ks)
  keys_by_length key ks (x ∷ xs) d =
      let rest = keys_by_length key ks xs d in
      let split = sum_le (λ k. length (filter (λ x. nat_eq (key x) k) (x ∷ xs))) (λ k. cond (nat_eq (key x) k) 1 0 + length (filter (λ x. nat_eq (key x) k) xs)) ks (λ k c. step k) in
      omega (arith, rest, split, sum_plus (λ k. cond (nat_eq (key x) k) 1 0) (λ k. length (filter (λ x. nat_eq (key x) k) xs)) ks, own_key (key x) ks d)
    where
      step : (k : ℕ) → length (filter (λ x. nat_eq (key x) k) (x ∷ xs)) ≤ cond (nat_eq (key x) k) 1 0 + length (filter (λ x. nat_eq (key x) k) xs)
      step k = elim (nat_eq (key x) k) as (λ b. length (cond b (x ∷ filter (λ x. nat_eq (key x) k) xs) (filter (λ x. nat_eq (key x) k) xs)) ≤ cond b 1 0 + length (filter (λ x. nat_eq (key x) k) xs)) [ true ↦ omega arith | false ↦ omega arith ]

-- ---- sets of numbers and keys of maps

pub set_distinct : (xs : List ℕ) → is_number_set xs ≡ true → AreDistinct xs
set_distinct [] s = tt
set_distinct (x ∷ xs) s =
    let parts = and_parts (list_all (nat_lt x) xs) (is_number_set xs) s in
    ((λ c. let below = ltb-true x x (all_gives (nat_lt x) xs parts.0 x c) in omega arith), set_distinct xs parts.1)

length_add_number : (n : ℕ) (xs : List ℕ) → length (add_number n xs) ≤ length xs + 1
length_add_number n [] = omega arith
length_add_number n (m ∷ xs) =
    let rest = length_add_number n xs in
    elim (nat_lt n m) as (λ b. length (cond b (n ∷ m ∷ xs) (cond (nat_eq n m) (m ∷ xs) (m ∷ add_number n xs))) ≤ length (m ∷ xs) + 1) [
      | true ↦ omega arith
      | false ↦ elim (nat_eq n m) as (λ b. length (cond b (m ∷ xs) (m ∷ add_number n xs)) ≤ length (m ∷ xs) + 1) [ true ↦ omega arith | false ↦ omega (arith, rest) ]
    ]

pub length_number_set : (xs : List ℕ) → length (number_set xs) ≤ length xs
length_number_set [] = omega arith
length_number_set (n ∷ xs) = omega (arith, length_add_number n (number_set xs), length_number_set xs)

both_hold : (a b : Bool) → T (a && b) → T a × T b
both_hold true b h = (tt, h)
both_hold false b h = absurd h

below_key : {A : Type 0} (k : ℕ) (es : List (ℕ × A)) → T (below_all nat_cmp k es) → (q : ℕ) → Contains (map (λ (e : ℕ × A). e.0) es) q → T (is_lt (nat_cmp k q))
below_key k [] h q c = absurd (contains_none q c)
below_key {A} k (e ∷ es) h q c =
    let parts = both_hold _ _ h in
    elim (contains_cases e.0 (map (λ (e : ℕ × A). e.0) es) q c) [
      | inl same ↦ subst (λ z. T (is_lt (nat_cmp k z))) same parts.0
      | inr later ↦ below_key k es parts.1 q later
    ]

sorted_distinct : {A : Type 0} (es : List (ℕ × A)) → T (is_sorted nat_cmp es) → AreDistinct (map (λ (e : ℕ × A). e.0) es)
sorted_distinct [] h = tt
sorted_distinct (e ∷ es) h =
    let parts = both_hold _ _ h in
    ((λ c. subst (λ r. T (is_lt r)) (tied_itself nat_cmp_total e.0) (below_key e.0 es parts.0 e.0 c)), sorted_distinct es parts.1)

pub keys_distinct : {A : Type 0} (m : FinMap nat_cmp A) → AreDistinct (keys m)
keys_distinct m = sorted_distinct (entries m) (entries_sorted m)

length_map : {A B : Type 0} (f : A → B) (xs : List A) → length (map f xs) ≡ length xs
length_map f [] = refl
length_map f (x ∷ xs) = let rest = length_map f xs in omega (arith, rest)

pub len_keys : {A : Type 0} (m : FinMap nat_cmp A) → length (keys m) ≡ len m
len_keys {A} m = length_map (λ (e : ℕ × A). e.0) (entries m) ∙ sym (len-entries m)
