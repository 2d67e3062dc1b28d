-- Lists over the places 0 to n - 1, as blocks of trees have them.
use Rattle.std.proofs.Common.{◌≡◌, ◌<◌, ◌+◌, ℕ, zero, suc, Bool, true, List, length, map, slice_get, Some, refl, sym, ap, ◌∙◌, arith}
use Rattle.std.specs.List.{list_all, range_with_len}
use Rattle.std.specs.Ordering.{is_lt}
use Rattle.std.specs.declared.cmp.Ordering.{Ordering}
use Rattle.std.specs.declared.cmp.Ordering.TheVariants.{Less, Equal, Greater}
use Rattle.std.proofs.lemmas.Bool.{and_parts, and_from}
use Rattle.std.proofs.lemmas.List.FromFn.{length-map-range_with_len, get_or-map-range_with_len, fill_by_all}
use Rattle.std.proofs.lemmas.Option.{slice_get-get_or, get_or_from_slice_get}
use Rattle.blk_base.specs.declared.key.Key.{Key}
use Rattle.blk_base.specs.Keys.{KeyBelow, key_below, keys_rise}
use Rattle.blk_base.specs.Leaf.{below}

-- ---- a test at each place

all_from : (p : ℕ → Bool) (a n : ℕ) → list_all p (range_with_len a n) ≡ true → (i : ℕ) → i < n → p (a + i) ≡ true
all_from p a zero h i l = absurd (omega arith)
all_from p a (suc n) h zero l = let e : a + 0 ≡ a = omega arith in rw e (and_parts _ _ h).0
all_from p a (suc n) h (suc i) l =
    let e : a + suc i ≡ a + 1 + i = omega arith in
    rw e (all_from p (a + 1) n (and_parts _ _ h).1 i (omega arith))

all_to : (p : ℕ → Bool) (a n : ℕ) → ((i : ℕ) → i < n → p (a + i) ≡ true) → list_all p (range_with_len a n) ≡ true
all_to p a zero h = refl
all_to p a (suc n) h =
    let e : a + 0 ≡ a = omega arith in
    and_from _ _ (rw e at (h 0 (omega arith))) (all_to p (a + 1) n (λ i l. let g : a + 1 + i ≡ a + suc i = omega arith in rw g (h (suc i) (omega arith))))

-- the test holds at each place below n
pub each_below : (p : ℕ → Bool) (n : ℕ) → list_all p (below n) ≡ true → (i : ℕ) → i < n → p i ≡ true
each_below p n h i l = let e : 0 + i ≡ i = omega arith in rw e at (all_from p 0 n h i l)

-- and from there
pub all_below : (p : ℕ → Bool) (n : ℕ) → ((i : ℕ) → i < n → p i ≡ true) → list_all p (below n) ≡ true
all_below p n h = all_to p 0 n (λ i l. let e : 0 + i ≡ i = omega arith in rw e (h i l))

-- ---- keys that rise

is_lt-Less : (o : Ordering) → is_lt o ≡ true → o ≡ Less
is_lt-Less Less h = refl
is_lt-Less Equal h = cc
is_lt-Less Greater h = cc

pub KeyBelow-from_test : (a b : Key) → key_below a b ≡ true → KeyBelow a b
KeyBelow-from_test a b h = is_lt-Less _ h

pub key_below-true : (a b : Key) → KeyBelow a b → key_below a b ≡ true
key_below-true a b h = ap is_lt h

rise_from : (f : ℕ → Key) (a n : ℕ) → keys_rise (map f (range_with_len a n)) ≡ true → (i : ℕ) → i + 1 < n → KeyBelow (f (a + i)) (f (a + (i + 1)))
rise_from f a zero h i l = absurd (omega arith)
rise_from f a (suc zero) h i l = absurd (omega arith)
rise_from f a (suc (suc n)) h zero l =
    let e : a + 0 ≡ a = omega arith in
    let g : a + (0 + 1) ≡ a + 1 = omega arith in
    rw (e, g) (KeyBelow-from_test (f a) (f (a + 1)) (and_parts (key_below (f a) (f (a + 1))) (keys_rise (map f (range_with_len (a + 1) (suc n)))) h).0)
rise_from f a (suc (suc n)) h (suc i) l =
    let e : a + suc i ≡ a + 1 + i = omega arith in
    let g : a + (suc i + 1) ≡ a + 1 + (i + 1) = omega arith in
    rw (e, g) (rise_from f (a + 1) (suc n) (and_parts (key_below (f a) (f (a + 1))) (keys_rise (map f (range_with_len (a + 1) (suc n)))) h).1 i (omega arith))

rise_to : (f : ℕ → Key) (a n : ℕ) → ((i : ℕ) → i + 1 < n → KeyBelow (f (a + i)) (f (a + (i + 1)))) → keys_rise (map f (range_with_len a n)) ≡ true
rise_to f a zero h = refl
rise_to f a (suc zero) h = refl
rise_to f a (suc (suc n)) h =
    let e : a + 0 ≡ a = omega arith in
    let g : a + (0 + 1) ≡ a + 1 = omega arith in
    and_from _ _ (key_below-true (f a) (f (a + 1)) (rw (e, g) at (h 0 (omega arith))))
    (rise_to f (a + 1) (suc n)
    (λ i l.
    let e2 : a + 1 + i ≡ a + suc i = omega arith in
    let g2 : a + 1 + (i + 1) ≡ a + (suc i + 1) = omega arith in
    rw (e2, g2) (h (suc i) (omega arith))))

-- each key of the places below n is below the next
pub rises_below : (f : ℕ → Key) (n : ℕ) → keys_rise (map f (below n)) ≡ true → (i : ℕ) → i + 1 < n → KeyBelow (f i) (f (i + 1))
rises_below f n h i l =
    let e : 0 + i ≡ i = omega arith in
    let g : 0 + (i + 1) ≡ i + 1 = omega arith in
    rw (e, g) at (rise_from f 0 n h i l)

-- and from there
pub below_rises : (f : ℕ → Key) (n : ℕ) → ((i : ℕ) → i + 1 < n → KeyBelow (f i) (f (i + 1))) → keys_rise (map f (below n)) ≡ true
below_rises f n h = rise_to f 0 n (λ i l. let e : 0 + i ≡ i = omega arith in let g : 0 + (i + 1) ≡ i + 1 = omega arith in rw (e, g) (h i l))

-- ---- what stands at each place

-- there are n
pub length_below : {X : Type 0} (f : ℕ → X) (n : ℕ) → length (map f (below n)) ≡ n
length_below f n = length-map-range_with_len f 0 n

-- each by its place
pub slice_get_below : {X : Type 0} (f : ℕ → X) (n i : ℕ) → i < n → slice_get (map f (below n)) i ≡ Some (f i)
slice_get_below f n i l =
    slice_get-get_or (map f (below n)) i (f 0) (rw (length_below f n) l) ∙ ap Some (get_or-map-range_with_len f 0 n i i (f 0) l (omega arith))

-- and these alone
pub below_is : {X : Type 0} (f : ℕ → X) (n : ℕ) (xs : List X) → length xs ≡ n → ((i : ℕ) → i < n → slice_get xs i ≡ Some (f i)) → map f (below n) ≡ xs
below_is f n xs e h = sym (fill_by_all f xs n (f 0) e (λ k l. get_or_from_slice_get xs k (f k) (f 0) (h k l)))
