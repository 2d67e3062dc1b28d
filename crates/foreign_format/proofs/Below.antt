-- Tests of the places 0 to n - 1.
use Rattle.std.proofs.Common.{◌≡◌, ◌≤◌, ◌<◌, ◌+◌, ℕ, suc, zero, Bool, true, false, refl, arith, inl, inr}
use Rattle.std.proofs.lemmas.Bool.{cases_eq, and_parts, false_from_ne_true}
use Rattle.std.specs.List.{list_all, range_with_len}
use Rattle.blk_base.specs.Leaf.{below}

-- a test that holds at each place holds of all
pub all_from : (p : ℕ → Bool) (a n : ℕ) → ((i : ℕ) → a ≤ i → i < a + n → p i ≡ true) → list_all p (range_with_len a n) ≡ true
all_from p a zero each = refl
all_from p a (suc n) each = rw (each a (omega arith) (omega arith)) (all_from p (a + 1) n (λ i from to. each i (omega arith) (omega arith)))

-- a test that holds of all holds at each place
pub each_from : (p : ℕ → Bool) (a n : ℕ) → list_all p (range_with_len a n) ≡ true → (i : ℕ) → a ≤ i → i < a + n → p i ≡ true
each_from p a zero all i from to = absurd (omega arith)
each_from p a (suc n) all i from to =
    let both = and_parts (p a) (list_all p (range_with_len (a + 1) n)) all in
    elim (cases_eq i a) [ inl e ↦ rw e both.0 | inr other ↦ each_from p (a + 1) n both.1 i (omega arith) (omega arith) ]

-- one place that fails fails all
pub fails_at : (p : ℕ → Bool) (n i : ℕ) → i < n → p i ≡ false → list_all p (below n) ≡ false
fails_at p n i within fails = false_from_ne_true (list_all p (below n)) (λ all. let holds : p i ≡ true = each_from p 0 n all i (omega arith) (omega arith) in cc)

pub all_below : (p : ℕ → Bool) (n : ℕ) → ((i : ℕ) → i < n → p i ≡ true) → list_all p (below n) ≡ true
all_below p n each = all_from p 0 n (λ i _ to. each i (omega arith))

pub each_below : (p : ℕ → Bool) (n : ℕ) → list_all p (below n) ≡ true → (i : ℕ) → i < n → p i ≡ true
each_below p n all i within = each_from p 0 n all i (omega arith) (omega arith)

pub all_more : (p : ℕ → Bool) (n : ℕ) → list_all p (below n) ≡ true → p n ≡ true → list_all p (below (n + 1)) ≡ true
all_more p n all here =
    all_below p (n + 1) (λ i within.
    elim (cases_eq i n) [ inl e ↦ rw e here | inr other ↦ each_below p n all i (omega arith) ])
