-- A stable sort is what putting one element after the other behind those that aren't above it gives.
use Rattle.std.proofs.Common.{◌≡◌, ◌<◌, ◌≤◌, ◌++◌, ℕ, zero, suc, Bool, true, false, not, cond, List, [], ◌∷◌, length, filter, get_or, refl, sym, ap, subst, ◌∙◌, inl, inr, arith, append-nil, append_assoc}
use Rattle.std.specs.Cmp.{IsStrictWeakOrder}
use Rattle.std.specs.List.Sorted.{IsSortedBy, IsStableBy, ties}
use Rattle.std.proofs.lemmas.Bool.{and_parts, and_from, cases_Bool, false_from_ne_true, not-true, not_from_false, true≢false}
use Rattle.std.proofs.lemmas.List.Sorted.{sorted_far}

abbrev head_of : {X : Type 0} → X → List X → X
head_of d [] = d
head_of d (x ∷ xs) = x

abbrev tail_of : {X : Type 0} → List X → List X
tail_of [] = []
tail_of (x ∷ xs) = xs

cond_yes : {X : Type 0} (x : X) (xs : List X) (b : Bool) → b ≡ true → cond b (x ∷ xs) xs ≡ x ∷ xs
cond_yes x xs b is = rw is refl

cond_no : {X : Type 0} (x : X) (xs : List X) (b : Bool) → b ≡ false → cond b (x ∷ xs) xs ≡ xs
cond_no x xs b is = rw is refl

module _ {X : Type 0} (lt : X → X → Bool) where
  -- an element behind those that aren't above it
  abbrev pub put : X → List X → List X
  put x [] = x ∷ []
  put x (y ∷ ys) = cond (lt x y) (x ∷ y ∷ ys) (y ∷ put x ys)

  -- elements put one after the other
  abbrev pub put_all : List X → List X → List X
  put_all before [] = before
  put_all before (x ∷ xs) = put_all (put x before) xs

  -- none of a list is below an element
  abbrev Low : X → List X → Type 0
  Low x [] = Unit {0}
  Low x (y ∷ ys) = (lt y x ≡ false) × Low x ys

  abbrev Rises : List X → Type 0
  Rises [] = Unit {0}
  Rises (x ∷ xs) = Low x xs × Rises xs

module _ {X : Type 0} (lt : X → X → Bool) (o : IsStrictWeakOrder lt) where
  -- ---- what a sort gives rises

  low_from : (x : X) (xs : List X) → ((k : ℕ) (d : X) → k < length xs → lt (get_or xs k d) x ≡ false) → Low lt x xs
  low_from x [] h = tt
  low_from x (y ∷ ys) h = (h 0 y (omega arith), low_from x ys (λ k d below. h (suc k) d (omega arith)))

  rises_from : (xs : List X) → ((i j : ℕ) (d : X) → i ≤ j → j < length xs → lt (get_or xs j d) (get_or xs i d) ≡ false) → Rises lt xs
  rises_from [] far = tt
  rises_from (x ∷ xs) far = (low_from x xs (λ k d below. far 0 (suc k) d (omega arith) (omega arith)), rises_from xs (λ i j d le below. far (suc i) (suc j) d (omega arith) (omega arith)))

  -- ---- what is put one after the other rises

  low_put : (z x : X) (ys : List X) → lt x z ≡ false → Low lt z ys → Low lt z (put lt x ys)
  low_put z x [] one low = (one, tt)
  low_put z x (y ∷ ys) one low = elim (cases_Bool (lt x y)) [
    | inl met ↦ rw met (one, low)
    | inr not_met ↦ rw not_met (low.0, low_put z x ys one low.1)
  ]

  low_over : (x y : X) (ys : List X) → lt y x ≡ false → Low lt y ys → Low lt x ys
  low_over x y [] one low = tt
  low_over x y (z ∷ zs) one low = (o.chain z y x low.0 one, low_over x y zs one low.1)

  put_rises : (x : X) (ys : List X) → Rises lt ys → Rises lt (put lt x ys)
  put_rises x [] r = (tt, tt)
  put_rises x (y ∷ ys) r = elim (cases_Bool (lt x y)) [
    | inl met ↦ (let back = o.one_way x y met in rw met ((back, low_over x y ys back r.0), r))
    | inr not_met ↦ rw not_met (low_put y x ys not_met r.0, put_rises x ys r.1)
  ]

  all_rises : (before xs : List X) → Rises lt before → Rises lt (put_all lt before xs)
  all_rises before [] r = r
  all_rises before (x ∷ xs) r = all_rises (put lt x before) xs (put_rises x before r)

  -- ---- and keeps elements that tie in their order

  not_same : (x y : X) → ties lt x y ≡ true → (lt x y ≡ false) × (lt y x ≡ false)
  not_same x y h = let both = and_parts (not (lt x y)) (not (lt y x)) h in (not-true (lt x y) both.0, not-true (lt y x) both.1)

  none_ties : (z x : X) (ys : List X) → ties lt z x ≡ true → ((k : ℕ) (d : X) → k < length ys → lt x (get_or ys k d) ≡ true) → filter (ties lt z) ys ≡ []
  none_ties z x [] tied above = refl
  none_ties z x (y ∷ ys) tied above =
      let other : ties lt z y ≡ false = false_from_ne_true _ (λ h. true≢false (sym (above 0 y (omega arith)) ∙ o.chain x z y (not_same z x tied).1 (not_same z y h).0)) in
      rw other (none_ties z x ys tied (λ k d below. above (suc k) d (omega arith)))

  above_all : (x y : X) (ys : List X) → lt x y ≡ true → Low lt y ys → (k : ℕ) (d : X) → k < length (y ∷ ys) → lt x (get_or (y ∷ ys) k d) ≡ true
  above_all x y ys met low zero d below = met
  above_all x y [] met low (suc k) d below = absurd (omega arith)
  above_all x y (z ∷ zs) met low (suc zero) d below = elim (cases_Bool (lt x z)) [ inl is ↦ is | inr not_met ↦ absurd (true≢false (sym met ∙ o.chain x z y not_met low.0)) ]
  above_all x y (z ∷ zs) met low (suc (suc k)) d below = above_all x y zs met low.1 (suc k) d (omega arith)

  put_ties : (z x : X) (ys : List X) → Rises lt ys → filter (ties lt z) (put lt x ys) ≡ filter (ties lt z) ys ++ filter (ties lt z) (x ∷ [])
  put_ties z x [] r = refl
  put_ties z x (y ∷ ys) r = elim (cases_Bool (lt x y)) [
    | inl met ↦ elim (cases_Bool (ties lt z x)) [
      | inl tied ↦ (let none = none_ties z x (y ∷ ys) tied (above_all x y ys met r.0) in rw (met, tied, none) refl)
      | inr apart ↦ rw (met, apart) (sym (append-nil (filter (ties lt z) (y ∷ ys))))
    ]
    | inr not_met ↦ elim (cases_Bool (ties lt z y)) [
      | inl tied ↦ rw (not_met, tied) (ap (λ (rest : List X). y ∷ rest) (put_ties z x ys r.1))
      | inr apart ↦ rw (not_met, apart) (put_ties z x ys r.1)
    ]
  ]

  filter_first : (z x : X) (xs : List X) → filter (ties lt z) (x ∷ []) ++ filter (ties lt z) xs ≡ filter (ties lt z) (x ∷ xs)
  filter_first z x xs = elim (ties lt z x) as (λ b. cond b (x ∷ []) [] ++ filter (ties lt z) xs ≡ cond b (x ∷ filter (ties lt z) xs) (filter (ties lt z) xs)) [ true ↦ refl | false ↦ refl ]

  all_ties : (z : X) (before xs : List X) → Rises lt before → filter (ties lt z) (put_all lt before xs) ≡ filter (ties lt z) before ++ filter (ties lt z) xs
  all_ties z before [] r = sym (append-nil (filter (ties lt z) before))
  all_ties z before (x ∷ xs) r =
      all_ties z (put lt x before) xs (put_rises x before r)
      ∙ ap (λ (front : List X). front ++ filter (ties lt z) xs) (put_ties z x before r)
      ∙ append_assoc (filter (ties lt z) before) (filter (ties lt z) (x ∷ [])) (filter (ties lt z) xs)
      ∙ ap (λ (rest : List X). filter (ties lt z) before ++ rest) (filter_first z x xs)

  -- ---- there is one such list

  itself : (x : X) → lt x x ≡ false
  itself x = false_from_ne_true (lt x x) (λ h. true≢false (sym h ∙ o.one_way x x h))

  ties_itself : (x : X) → ties lt x x ≡ true
  ties_itself x = and_from _ _ (not_from_false (lt x x) (itself x)) (not_from_false (lt x x) (itself x))

  head_low : (p : X → Bool) (z y : X) (xs rest : List X) → Low lt z xs → filter p xs ≡ y ∷ rest → lt y z ≡ false
  head_low p z y [] rest low is = absurd cc
  head_low p z y (x ∷ xs) rest low is = elim (cases_Bool (p x)) [
    | inl met ↦ (let whole = sym (cond_yes x (filter p xs) (p x) met) ∙ is in subst (λ (w : X). lt w z ≡ false) (ap (head_of x) whole) low.0)
    | inr not_met ↦ head_low p z y xs rest low.1 (sym (cond_no x (filter p xs) (p x) not_met) ∙ is)
  ]

  not_below : (y z : X) (ys zs : List X) → Low lt z zs → filter (ties lt y) (y ∷ ys) ≡ filter (ties lt y) (z ∷ zs) → lt y z ≡ false
  not_below y z ys zs low same =
      head_low (ties lt y) z y (z ∷ zs) (filter (ties lt y) ys) (itself z, low) (sym same ∙ cond_yes y (filter (ties lt y) ys) (ties lt y y) (ties_itself y))

  tails : (w x : X) (ys zs : List X) → filter (ties lt w) (x ∷ ys) ≡ filter (ties lt w) (x ∷ zs) → filter (ties lt w) ys ≡ filter (ties lt w) zs
  tails w x ys zs same = elim (cases_Bool (ties lt w x)) [
    | inl met ↦ ap tail_of (sym (cond_yes x (filter (ties lt w) ys) (ties lt w x) met) ∙ same ∙ cond_yes x (filter (ties lt w) zs) (ties lt w x) met)
    | inr not_met ↦ sym (cond_no x (filter (ties lt w) ys) (ties lt w x) not_met) ∙ same ∙ cond_no x (filter (ties lt w) zs) (ties lt w x) not_met
  ]

  one_list : (ys zs : List X) → Rises lt ys → Rises lt zs → ((w : X) → filter (ties lt w) ys ≡ filter (ties lt w) zs) → ys ≡ zs
  one_list [] [] r s same = refl
  one_list [] (z ∷ zs) r s same = (let bad = same z ∙ cond_yes z (filter (ties lt z) zs) (ties lt z z) (ties_itself z) in absurd cc)
  one_list (y ∷ ys) [] r s same = (let bad = sym (same y) ∙ cond_yes y (filter (ties lt y) ys) (ties lt y y) (ties_itself y) in absurd cc)
  one_list (y ∷ ys) (z ∷ zs) r s same =
      let below = not_below y z ys zs s.0 (same y) in
      let above = not_below z y zs ys r.0 (sym (same z)) in
      let tied : ties lt y z ≡ true = and_from _ _ (not_from_false (lt y z) below) (not_from_false (lt z y) above) in
      let is : y ≡ z = ap (head_of y) (sym (cond_yes y (filter (ties lt y) ys) (ties lt y y) (ties_itself y)) ∙ same y ∙ cond_yes z (filter (ties lt y) zs) (ties lt y z) tied) in
      let rest = one_list ys zs r.1 s.1 (λ w. tails w y ys zs (same w ∙ ap (λ (x : X). filter (ties lt w) (x ∷ zs)) (sym is))) in
      ap (λ (x : X). x ∷ ys) is ∙ ap (λ (xs : List X). z ∷ xs) rest

  pub sorted_is : (xs ys : List X) → IsSortedBy lt ys → IsStableBy lt xs ys → put_all lt [] xs ≡ ys
  sorted_is xs ys up stable =
      one_list (put_all lt [] xs) ys (all_rises [] xs tt) (rises_from ys (sorted_far lt o ys up)) (λ w. all_ties w [] xs tt ∙ sym (stable w))
