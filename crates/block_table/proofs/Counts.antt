-- Laws of the counts of a table.
use Rattle.std.specs.Prelude.{◌≡◌, ◌+◌, ◌≤◌, ◌<◌, ℕ, zero, suc, List, [], ◌∷◌, ◌++◌, length, replicate, Bool, true, false, slice_index_or, slice_set, if◌then◌else◌, refl}
use Rattle.std.proofs.Common.{arith, sym, ap, ◌∙◌, subst, add-zero}
use Rattle.std.proofs.lemmas.List.Sums.{sum_by-set, sum_by-cons}
use Rattle.block_table.specs.Slot.{BlockSlot, free_slot, is_free}
use Rattle.block_table.specs.Table.{free_one, free_from, is_free_block, used_of, used_one}

-- a block with a buffer isn't counted
pub free_one-taken : (number : ℕ) (slot : BlockSlot) → is_free slot.state ≡ false → free_one number slot ≡ 0
free_one-taken number slot taken = grind (arith, taken)

pub free_one-free : (number : ℕ) (slot : BlockSlot) → is_free_block number slot ≡ true → free_one number slot ≡ 1
free_one-free number slot free = rw free refl

at_most_one : (b : Bool) → (if b then 1 else 0) ≤ 1
at_most_one true = omega arith
at_most_one false = omega arith

first_only : (a : ℕ) → a + 0 ≡ 0 + a
first_only a = omega arith

one_more : (a b f o : ℕ) → b ≡ f + o → a + b ≡ a + f + o
one_more a b f o h = omega arith

used_le_more : (b : Bool) (rest length : ℕ) → rest ≤ length → (if b then 0 else 1) + rest ≤ suc length
used_le_more true rest length h = omega arith
used_le_more false rest length h = omega arith

inside_out : (a b f f' o o' : ℕ) → f' + o ≡ f + o' → a + f' + o ≡ a + f + o'
inside_out a b f f' o o' h = omega arith

swapped : (a b f : ℕ) → b + f + a ≡ a + f + b
swapped a b f = omega arith

pub free_from-push : (n : ℕ) (slots : List BlockSlot) (slot : BlockSlot) → free_from n (slots ++ slot ∷ []) ≡ free_from n slots + free_one (n + length slots) slot
free_from-push n [] slot =
    subst (λ (k : ℕ). free_one n slot + 0 ≡ 0 + free_one k slot) (sym (add-zero n)) (first_only (free_one n slot))
free_from-push n (x ∷ xs) slot =
    let rest : free_from (n + 1) (xs ++ slot ∷ []) ≡ free_from (n + 1) xs + free_one (n + 1 + length xs) slot = free_from-push (n + 1) xs slot in
    let e : n + 1 + length xs ≡ n + suc (length xs) = omega arith in
    subst (λ (k : ℕ). free_one n x + free_from (n + 1) (xs ++ slot ∷ []) ≡ free_one n x + free_from (n + 1) xs + free_one k slot) e (one_more _ _ _ _ rest)

-- one block is replaced
pub free_from-set : (n : ℕ) (slots : List BlockSlot) (i : ℕ) (slot d : BlockSlot) → i < length slots → free_from n (slice_set slots i slot) + free_one (n + i) (slice_index_or slots i d) ≡ free_from n slots + free_one (n + i) slot
free_from-set n [] i slot d h = absurd (omega (arith, h))
free_from-set n (x ∷ xs) zero slot d h =
    subst (λ (k : ℕ). free_one n slot + free_from (n + 1) xs + free_one k x ≡ free_one n x + free_from (n + 1) xs + free_one k slot) (sym (add-zero n)) (swapped (free_one n x) (free_one n slot) (free_from (n + 1) xs))
free_from-set n (x ∷ xs) (suc i) slot d h =
    let inside : i < length xs = omega (arith, h) in
    let rest : free_from (n + 1) (slice_set xs i slot) + free_one (n + 1 + i) (slice_index_or xs i d) ≡ free_from (n + 1) xs + free_one (n + 1 + i) slot = free_from-set (n + 1) xs i slot d inside in
    let e : n + 1 + i ≡ n + suc i = omega arith in
    subst (λ (k : ℕ). free_one n x + free_from (n + 1) (slice_set xs i slot) + free_one k (slice_index_or xs i d) ≡ free_one n x + free_from (n + 1) xs + free_one k slot) e (inside_out (free_one n x) 0 _ _ _ _ rest)

one_le : (b : Bool) (rest length : ℕ) → rest ≤ length → (if b then 1 else 0) + rest ≤ suc length
one_le true rest length h = omega arith
one_le false rest length h = omega arith

pub free_from-le-length : (n : ℕ) (slots : List BlockSlot) → free_from n slots ≤ length slots
free_from-le-length n [] = omega arith
free_from-le-length n (x ∷ xs) =
    one_le (is_free_block n x) (free_from (n + 1) xs) (length xs) (free_from-le-length (n + 1) xs)

none_here : (b : Bool) (rest : ℕ) → b ≡ false → rest ≡ 0 → (if b then 1 else 0) + rest ≡ 0
none_here b rest e h = rw e (omega arith)

-- none is Free
pub free_from-none : (n : ℕ) (slots : List BlockSlot) → ((i : ℕ) → i < length slots → is_free_block (n + i) (slice_index_or slots i free_slot) ≡ false) → free_from n slots ≡ 0
free_from-none n [] h = refl
free_from-none n (x ∷ xs) h =
    let here : is_free_block n x ≡ false = subst (λ (k : ℕ). is_free_block k x ≡ false) (add-zero n) (h 0 (omega arith)) in
    let shifted : (i : ℕ) → i < length xs → is_free_block (n + 1 + i) (slice_index_or xs i free_slot) ≡ false = λ i inside. let e : n + suc i ≡ n + 1 + i = omega arith in subst (λ (k : ℕ). is_free_block k (slice_index_or xs i free_slot) ≡ false) e (h (suc i) (omega arith)) in
    none_here (is_free_block n x) _ here (free_from-none (n + 1) xs shifted)

-- a block with a buffer is counted
pub used_one-taken : (slot : BlockSlot) → is_free slot.state ≡ false → used_one slot ≡ 1
used_one-taken slot taken = rw taken refl

pub used_one-free : (slot : BlockSlot) → is_free slot.state ≡ true → used_one slot ≡ 0
used_one-free slot free = rw free refl

pub used_of-set : (slots : List BlockSlot) (i : ℕ) (slot : BlockSlot) → i < length slots → used_of (slice_set slots i slot) + used_one (slice_index_or slots i free_slot) ≡ used_of slots + used_one slot
used_of-set slots i slot h = sum_by-set used_one slots i slot free_slot h

pub used_of-le-length : (slots : List BlockSlot) → used_of slots ≤ length slots
used_of-le-length [] = omega arith
used_of-le-length (x ∷ xs) =
    subst (λ (n : ℕ). n ≤ suc (length xs)) (sym (sum_by-cons used_one x xs)) (used_le_more (is_free x.state) (used_of xs) (length xs) (used_of-le-length xs))

used_of-replicate_tail : {n : ℕ} → n ≡ 0 → 0 + n ≡ 0
used_of-replicate_tail h = omega (arith, h)

pub used_of-replicate : (count : ℕ) → used_of (replicate count free_slot) ≡ 0
used_of-replicate zero = refl
used_of-replicate (suc count) =
    sum_by-cons used_one free_slot (replicate count free_slot) ∙ used_of-replicate_tail (used_of-replicate count)

pub free_one-le : (number : ℕ) (slot : BlockSlot) → free_one number slot ≤ 1
free_one-le number slot = at_most_one (is_free_block number slot)

pub replicate-push : (count : ℕ) (slot : BlockSlot) → replicate count slot ++ slot ∷ [] ≡ replicate (suc count) slot
replicate-push zero slot = refl
replicate-push (suc count) slot = ap (λ (slots : List BlockSlot). slot ∷ slots) (replicate-push count slot)
