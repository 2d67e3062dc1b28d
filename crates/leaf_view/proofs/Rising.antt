-- Keys that rise, one after another.
use Rattle.std.proofs.Common.{◌≡◌, ◌≤◌, ◌<◌, ◌+◌, ◌-◌, ℕ, suc, zero, Bool, true, ◌&&◌, map, refl, ap, arith, ◌∙◌, sym, inl, inr}
use Rattle.std.proofs.lemmas.Bool.{cases_eq, and_parts}
use Rattle.std.specs.List.{list_all, range_with_len}
use Rattle.std.specs.Ordering.{is_lt}
use Rattle.std.specs.declared.cmp.Ordering.{Ordering}
use Rattle.std.specs.declared.cmp.Ordering.TheVariants.{Less, Equal, Greater}
use Rattle.blk_base.specs.declared.key.Key.{Key}
use Rattle.blk_base.specs.Keys.{KeyBelow, key_cmp, key_below, keys_rise}
use Rattle.blk_base.specs.Leaf.{below}
use Rattle.leaf_view.specs.KeyOrder.{KeyBelow_trans}

-- the keys at the places from a on rise where each is above the one before it
pub keys_rise-map : (f : ℕ → Key) (g : ℕ → Bool) → ((i : ℕ) → g (i + 1) ≡ key_below (f i) (f (i + 1))) → (a n : ℕ)
    → keys_rise (map f (range_with_len a (suc n))) ≡ list_all g (range_with_len (a + 1) n)
keys_rise-map f g same a zero = refl
keys_rise-map f g same a (suc n) = ap (λ b. b && keys_rise (map f (range_with_len (a + 1) (suc n)))) (sym (same a)) ∙ ap (λ b. g (a + 1) && b) (keys_rise-map f g same (a + 1) n)

is_lt_means : (o : Ordering) → is_lt o ≡ true → o ≡ Less
is_lt_means Less h = refl
is_lt_means Equal h = cc
is_lt_means Greater h = cc

pub key_below_means : (a b : Key) → key_below a b ≡ true → KeyBelow a b
key_below_means a b h = is_lt_means (key_cmp a b) h

pub key_below_from : (a b : Key) → KeyBelow a b → key_below a b ≡ true
key_below_from a b h = ap is_lt h

-- each key is below the next
pub rising_next : (f : ℕ → Key) (a n : ℕ) → keys_rise (map f (range_with_len a n)) ≡ true → (i : ℕ) → a ≤ i → i + 1 < a + n → KeyBelow (f i) (f (i + 1))
rising_next f a zero rise i from to = absurd (omega arith)
rising_next f a (suc zero) rise i from to = absurd (omega arith)
rising_next f a (suc (suc n)) rise i from to =
    let both = and_parts (key_below (f a) (f (a + 1))) (keys_rise (map f (range_with_len (a + 1) (suc n)))) rise in
    elim (cases_eq i a) [
      | inl e ↦ rw e (key_below_means (f a) (f (a + 1)) both.0)
      | inr other ↦ rising_next f (a + 1) (suc n) both.1 i (omega arith) (omega arith)
    ]

-- the other way
pub rising_from : (f : ℕ → Key) (a n : ℕ) → ((i : ℕ) → a ≤ i → i + 1 < a + n → KeyBelow (f i) (f (i + 1))) → keys_rise (map f (range_with_len a n)) ≡ true
rising_from f a zero next = refl
rising_from f a (suc zero) next = refl
rising_from f a (suc (suc n)) next =
    rw (key_below_from (f a) (f (a + 1)) (next a (omega arith) (omega arith))) (rising_from f (a + 1) (suc n) (λ i from to. next i (omega arith) (omega arith)))

-- each key is below all later ones
pub rising_later : (f : ℕ → Key) (n i m : ℕ) → keys_rise (map f (below n)) ≡ true → i + m + 1 < n → KeyBelow (f i) (f (i + m + 1))
rising_later f n i zero rise within = let at : i + 0 + 1 ≡ i + 1 = omega arith in rw at (rising_next f 0 n rise i (omega arith) (omega arith))
rising_later f n i (suc m) rise within =
    let at : i + suc m + 1 ≡ i + m + 1 + 1 = omega arith in
    rw at (KeyBelow_trans (f i) (f (i + m + 1)) (f (i + m + 1 + 1)) (rising_later f n i m rise (omega arith)) (rising_next f 0 n rise (i + m + 1) (omega arith) (omega arith)))

pub rising_pair : (f : ℕ → Key) (n i j : ℕ) → keys_rise (map f (below n)) ≡ true → i < j → j < n → KeyBelow (f i) (f j)
rising_pair f n i j rise lower within =
    let at : i + (j - (i + 1)) + 1 ≡ j = omega arith in
    rw at at (rising_later f n i (j - (i + 1)) rise (omega arith))
