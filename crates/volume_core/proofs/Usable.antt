-- How many blocks are in use, by how many are Free.
use Rattle.std.proofs.Common.{◌≡◌, ◌≤◌, ◌<◌, ◌≢◌, ◌+◌, ◌-◌, ◌*◌, ◌⊎◌, ◌&&◌, ◌==◌, ℕ, Bool, true, false, cond, not, List, [], ◌∷◌, length, refl, sym, ap, ◌∙◌, arith, inl, inr}
use Rattle.std.specs.Bool.{nat_le, nat_lt}
use Rattle.std.proofs.lemmas.Bool.{cases_Bool, eq-eqb, eqb-true, leb-false, leb-true, ltb-false, ltb-true, true≢false}
use Rattle.block_table.specs.Slot.{BlockSlot, is_free}
use Rattle.block_table.specs.Table.{Table, free_blocks, free_from, free_one}
use Rattle.volume_core.specs.InUse.{in_use, usable, used_from}

-- one where a volume may use the block of this number
abbrev may_use : ℕ → ℕ
may_use number = cond (nat_le 17 number && not (number == 16384)) 1 0

-- whether one number is below another, counted
abbrev one_if : Bool → ℕ
one_if b = cond b 1 0

less_counted : (a b : ℕ) → ((a < b) × (one_if (nat_lt a b) ≡ 1)) ⊎ ((b ≤ a) × (one_if (nat_lt a b) ≡ 0))
less_counted a b = elim (cases_Bool (nat_lt a b)) [
  | inl is ↦ inl (ltb-true a b is, ap one_if is)
  | inr past ↦ inr (ltb-false a b past, ap one_if past)
]

-- whether a volume may use a block, counted
may : (number : ℕ) → (((17 ≤ number) × (number ≢ 16384)) × (may_use number ≡ 1)) ⊎ (((number < 17) ⊎ (number ≡ 16384)) × (may_use number ≡ 0))
may number = elim (cases_Bool (nat_le 17 number)) [
  | inr low ↦ inr (inl (leb-false 17 number low), ap (λ (x : Bool). cond (x && not (number == 16384)) 1 0) low)
  | inl high ↦ elim (cases_Bool (number == 16384)) [
    | inl copy ↦ inr (inr (eqb-true number 16384 copy), (λ k. cond (high k && not (copy k)) 1 0))
    | inr other ↦ inl ((leb-true 17 number high, λ is. true≢false (sym (eq-eqb number 16384 is) ∙ other)), (λ k. cond (high k && not (other k)) 1 0))
  ]
]

by_cases : (number a b m : ℕ) → ((16384 < number + 1) × (a ≡ 1)) ⊎ ((number + 1 ≤ 16384) × (a ≡ 0)) → ((16384 < number) × (b ≡ 1)) ⊎ ((number ≤ 16384) × (b ≡ 0))
    → (((17 ≤ number) × (number ≢ 16384)) × (m ≡ 1)) ⊎ (((number < 17) ⊎ (number ≡ 16384)) × (m ≡ 0)) → (number + 1 - 17) - a ≡ (number - 17) - b + m
by_cases number a b m (inl above) (inl over) (inl uses) = omega (arith, above.0, above.1, over.0, over.1, uses.0.0, uses.1)
by_cases number a b m (inl above) (inl over) (inr (inl low, none)) = omega (arith, above.0, above.1, over.0, over.1, low, none)
by_cases number a b m (inl above) (inl over) (inr (inr copy, none)) = omega (arith, above.0, above.1, over.0, over.1, copy, none)
by_cases number a b m (inl above) (inr under) (inl uses) = absurd (uses.0.1 (omega (arith, above.0, under.0)))
by_cases number a b m (inl above) (inr under) (inr (inl low, none)) = omega (arith, above.0, above.1, under.0, under.1, low, none)
by_cases number a b m (inl above) (inr under) (inr (inr copy, none)) = omega (arith, above.0, above.1, under.0, under.1, copy, none)
by_cases number a b m (inr short) (inl over) uses = absurd (omega (arith, short.0, over.0))
by_cases number a b m (inr short) (inr under) (inl uses) = omega (arith, short.0, short.1, under.0, under.1, uses.0.0, uses.1)
by_cases number a b m (inr short) (inr under) (inr (inl low, none)) = omega (arith, short.0, short.1, under.0, under.1, low, none)
by_cases number a b m (inr short) (inr under) (inr (inr copy, none)) = omega (arith, short.0, short.1, under.0, under.1, copy, none)

-- one more block
one_more : (number : ℕ) → usable (number + 1) ≡ usable number + may_use number
one_more number = by_cases number _ _ _ (less_counted 16384 (number + 1)) (less_counted 16384 number) (may number)

either : (number : ℕ) (slot : BlockSlot) (slots : List BlockSlot) → free_one number slot + length (used_from number (slot ∷ slots)) ≡ may_use number + length (used_from (number + 1) slots)
either number slot slots = by (nat_le 17 number && not (number == 16384)) (is_free slot.state) (used_from (number + 1) slots)
  where
    by : (may free : Bool) (rest : List ℕ) → cond (may && free) 1 0 + length (cond (may && not free) (number * 4096 ∷ rest) rest) ≡ cond may 1 0 + length rest
    by true true rest = refl
    by true false rest = omega arith
    by false free rest = refl

sum : (number : ℕ) (slot : BlockSlot) (slots : List BlockSlot) → (number + 1) + length slots ≡ number + length (slot ∷ slots)
sum number slot slots = omega arith

pub all_counted : (number : ℕ) (slots : List BlockSlot) → usable number + (free_from number slots + length (used_from number slots)) ≡ usable (number + length slots)
all_counted number [] = let place : number ≡ number + 0 = omega arith in let same : usable number ≡ usable (number + 0) = ap usable place in omega (arith, same)
all_counted number (slot ∷ slots) =
    let here = either number slot slots in
    let next = one_more number in
    let rest = all_counted (number + 1) slots in
    let place : usable ((number + 1) + length slots) ≡ usable (number + length (slot ∷ slots)) = ap usable (sum number slot slots) in
    omega (arith, here, next, rest, place)

-- with those that are Free all are counted
pub used_and_free : (table : Table) → free_blocks table + length (in_use table) ≡ usable (length table.slots)
used_and_free table =
    let all = all_counted 0 table.slots in
    let none : usable 0 ≡ 0 = refl in
    let place : 0 + length table.slots ≡ length table.slots = omega arith in
    let same : usable (0 + length table.slots) ≡ usable (length table.slots) = ap usable place in
    omega (arith, all, none, same)

-- at most 18 aren't used
pub usable_most : (blocks : ℕ) → blocks ≤ usable blocks + 18
usable_most blocks = elim (less_counted 16384 blocks) [ inl is ↦ (let one = is.1 in omega (arith, one)) | inr past ↦ (let none = past.1 in omega (arith, none)) ]

-- so no more are free for an operation than are Free
pub free_enough : (table : Table) → (length table.slots - (82 + length (in_use table))) ≤ free_blocks table
free_enough table =
    let all = used_and_free table in
    let most = usable_most (length table.slots) in
    omega (arith, all, most)
