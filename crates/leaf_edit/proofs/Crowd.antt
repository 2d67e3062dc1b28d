-- Data that share no byte have, with the headers, no more bytes than there is room.
use Rattle.std.proofs.Common.{◌≡◌, ◌≤◌, ◌<◌, ◌+◌, ◌-◌, ◌*◌, ℕ, suc, zero, Bool, true, false, ◌&&◌, ◌||◌, leb, ltb, List, length, get_or, refl, ap, arith, ◌∙◌, inl, inr, length-drop}
use Rattle.std.proofs.lemmas.Bool.{cases_lt, or_cases, and_parts, leb-true, ltb-true, le-leb, lt-ltb, lt-leb, le-ltb, and_right}
use Rattle.std.proofs.lemmas.List.{length-take-le}
use Rattle.std.proofs.lemmas.Option.{get_or_from_slice_get}
use Rattle.blk_base.specs.Leaf.{Item, IsLeafBody, data_of, item_of, item_offset, item_size, item_end}
use Rattle.leaf_edit.specs.Packed.{data_before}
use Rattle.leaf_edit.specs.Amounts.{data_before_none, data_before_more, data_before_all}

one : Bool → ℕ
one true = 1
one false = 0

-- how many of the places below n pass a test
tally : (ℕ → Bool) → ℕ → ℕ
tally p zero = 0
tally p (suc n) = one (p n) + tally p n

one_le : (b : Bool) → one b ≤ 1
unfolding one
one_le true = omega arith
one_le false = omega arith

tally_le : (p : ℕ → Bool) (n : ℕ) → tally p n ≤ n
unfolding tally
tally_le p zero = omega arith
tally_le p (suc n) = omega (arith, one_le (p n), tally_le p n)

one_or : (a b : Bool) → (a ≡ true → b ≡ true → ⊥) → one (a || b) ≡ one a + one b
unfolding one
one_or true true apart = absurd (apart refl refl)
one_or true false apart = omega arith
one_or false true apart = omega arith
one_or false false apart = omega arith

tally_or : (p q : ℕ → Bool) (n : ℕ) → ((at : ℕ) → p at ≡ true → q at ≡ true → ⊥) → tally (λ at. p at || q at) n ≡ tally p n + tally q n
unfolding tally
tally_or p q zero apart = omega arith
tally_or p q (suc n) apart = omega (arith, one_or (p n) (q n) (apart n), tally_or p q n apart)

-- the places from one on, below another
between : ℕ → ℕ → ℕ → Bool
between from end at = leb from at && ltb at end

tally_outside : (from end n : ℕ) → n ≤ from → tally (between from end) n ≡ 0
unfolding tally between one
tally_outside from end zero low = refl
tally_outside from end (suc n) low = rw (lt-leb from n (omega arith)) (omega (arith, tally_outside from end n (omega arith)))

tally_inside : (from end n : ℕ) → from ≤ n → n ≤ end → tally (between from end) n ≡ n - from
unfolding tally between one
tally_inside from end zero low high = omega arith
tally_inside from end (suc n) low high =
    elim (cases_lt n from) [
      | inl under ↦ rw (lt-leb from n under) (omega (arith, tally_outside from end n (omega arith)))
      | inr over ↦ rw (le-leb from n over, lt-ltb n end (omega arith)) (omega (arith, tally_inside from end n over (omega arith)))
    ]

tally_between : (from end n : ℕ) → from ≤ end → end ≤ n → tally (between from end) n ≡ end - from
unfolding tally between one
tally_between from end zero low high = omega arith
tally_between from end (suc n) low high =
    elim (cases_lt n end) [
      | inl under ↦
          let last : suc n ≡ end = omega arith in
          let inner : (from end m : ℕ) → from ≤ m → m ≤ end → m ≡ end → tally (between from end) m ≡ end - from = λ from end m a b e. tally_inside from end m a b ∙ ap (λ k. k - from) e in
          inner from end (suc n) (omega arith) (omega arith) last
      | inr over ↦ rw (and_right (leb from n) (ltb n end) (le-ltb n end over)) (omega (arith, tally_between from end n low over))
    ]

-- the places that the headers and the data of the first n items take
taken : List ℕ → ℕ → ℕ → ℕ → Bool
taken bytes headers zero at = between 0 headers at
taken bytes headers (suc n) at = taken bytes headers n at || between (item_offset bytes n) (item_end bytes n) at

between_means : (from end at : ℕ) → between from end at ≡ true → (from ≤ at) × (at < end)
unfolding between
between_means from end at h =
    let parts = and_parts (leb from at) (ltb at end) h in
    (leb-true from at parts.0, ltb-true at end parts.1)

-- an item takes no place that the headers or an earlier item take
taken_apart : (bytes : List ℕ) (items : List Item) (n j at : ℕ) → IsLeafBody bytes items → n ≤ j → j < length items → taken bytes (25 * length items) n at ≡ true → between (item_offset bytes j) (item_end bytes j) at ≡ true → ⊥
unfolding taken
taken_apart bytes items zero j at h lower within first second =
    let a = between_means 0 (25 * length items) at first in
    let b = between_means (item_offset bytes j) (item_end bytes j) at second in
    omega (arith, a.1, b.0, h.behind_headers j within)
taken_apart bytes items (suc n) j at h lower within first second =
    elim (or_cases (taken bytes (25 * length items) n at) (between (item_offset bytes n) (item_end bytes n) at) first) [
      | inl earlier ↦ taken_apart bytes items n j at h (omega arith) within earlier second
      | inr here ↦
          let a = between_means (item_offset bytes n) (item_end bytes n) at here in
          let b = between_means (item_offset bytes j) (item_end bytes j) at second in
          h.apart n j at (omega arith) within (record { from = a.0; below = a.1 }) (record { from = b.0; below = b.1 })
    ]

size_of_item : (bytes : List ℕ) (items : List Item) (i : ℕ) → length bytes ≡ 4096 → IsLeafBody bytes items → i < length items → length (item_of bytes i).1 ≡ item_size bytes i
size_of_item bytes items i long h within = length-take-le (item_size bytes i) _ (omega (arith, length-drop (101 + item_offset bytes i) bytes, h.inside i within))

pub item_at : (bytes : List ℕ) (items : List Item) (i : ℕ) (d : Item) → IsLeafBody bytes items → i < length items → get_or items i d ≡ item_of bytes i
item_at bytes items i d h within = get_or_from_slice_get items i (item_of bytes i) d (h.each i within)

tally_taken : (bytes : List ℕ) (items : List Item) (n : ℕ) → length bytes ≡ 4096 → IsLeafBody bytes items → n ≤ length items → tally (taken bytes (25 * length items) n) 3995 ≡ 25 * length items + data_before items n
unfolding taken
tally_taken bytes items zero long h within =
    let most = h.most in
    omega (arith, tally_between 0 (25 * length items) 3995 (omega arith) (omega arith), data_before_none items)
tally_taken bytes items (suc n) long h within =
    let sum = tally_or (taken bytes (25 * length items) n) (between (item_offset bytes n) (item_end bytes n)) 3995 (λ at. taken_apart bytes items n n at h (omega arith) (omega arith)) in
    let earlier = tally_taken bytes items n long h (omega arith) in
    let here = tally_between (item_offset bytes n) (item_end bytes n) 3995 (omega arith) (h.inside n (omega arith)) in
    let size = ap (λ item. length item.1) (item_at bytes items n (item_of bytes n) h (omega arith)) ∙ size_of_item bytes items n long h (omega arith) in
    let more = data_before_more items n (item_of bytes n) (omega arith) in
    let same : n + 1 ≡ suc n = omega arith in
    omega (arith, sum, earlier, here, size, rw same at more)

-- a leaf's items fit when they are packed
pub body_fits : (bytes : List ℕ) (items : List Item) → length bytes ≡ 4096 → IsLeafBody bytes items → 25 * length items + data_of items ≤ 3995
body_fits bytes items long h =
    omega (arith, tally_taken bytes items (length items) long h (omega arith), tally_le (taken bytes (25 * length items) (length items)) 3995, data_before_all items (length items) (omega arith))
