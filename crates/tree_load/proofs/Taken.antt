-- The addresses of the blocks of a table that aren't Free.
use Rattle.std.proofs.Common.{◌≡◌, ◌≢◌, ◌<◌, ◌+◌, ◌*◌, ◌/◌, ◌%◌, ℕ, zero, suc, Bool, true, false, List, [], ◌∷◌, length, replicate, Contains, refl, sym, ap, subst, ◌∙◌, arith, inl, inr}
use Rattle.std.specs.Prelude.{slice_index_or, if◌then◌else◌}
use Rattle.std.proofs.lemmas.Bool.{cases_eq, cases_lt, eq-eqb, ne_eqb}
use Rattle.std.proofs.lemmas.List.{get_or_past}
use Rattle.block_table.specs.declared.state.SlotState.{SlotState}
use Rattle.block_table.specs.declared.state.SlotState.TheVariants.{Free, Dirty, Sealed, Live, LetGo}
use Rattle.block_table.specs.Slot.{BlockSlot, free_slot, is_free}
use Rattle.block_table.specs.Table.{Table, empty_table}
use Rattle.block_table.specs.TreeIn.{block_at}
use Rattle.volume_image.proofs.Lists.{in_nothing, in_cons}
use Rattle.volume_image.proofs.Reaches.{head_in, tail_in}
use Rattle.tree_load.specs.Loaded.{AreTaken, taken_from, taken_of}

pub free_state : (state : SlotState) → is_free state ≡ true → state ≡ Free
free_state Free h = refl
free_state Dirty h = absurd cc
free_state Sealed h = absurd cc
free_state Live h = absurd cc
free_state LetGo h = absurd cc

pub used_state : (state : SlotState) → (state ≢ Free) → is_free state ≡ false
used_state Free h = absurd (h refl)
used_state Dirty h = refl
used_state Sealed h = refl
used_state Live h = refl
used_state LetGo h = refl

pub not_free : (state : SlotState) → is_free state ≡ false → state ≡ Free → ⊥
not_free state used free = let test : is_free state ≡ true = ap is_free free in absurd cc

-- the block with this number among these isn't Free, and its address is this
record IsUsed (number : ℕ) (slots : List BlockSlot) (at : ℕ) : Type 0 where
  place : ℕ
  inside : place < length slots
  is : at ≡ 4096 * (number + place)
  used : is_free (slice_index_or slots place free_slot).state ≡ false

used_later : (number : ℕ) (slot : BlockSlot) (slots : List BlockSlot) (at : ℕ) → IsUsed (number + 1) slots at → IsUsed number (slot ∷ slots) at
used_later number slot slots at u = record { place = suc u.place; inside = (let below = u.inside in omega arith); is = u.is ∙ (let e : number + 1 + u.place ≡ number + suc u.place = omega arith in ap (λ (n : ℕ). 4096 * n) e); used = u.used }

used_here : (number : ℕ) (slot : BlockSlot) (slots : List BlockSlot) → is_free slot.state ≡ false → IsUsed number (slot ∷ slots) (4096 * number)
used_here number slot slots used = record { place = 0; inside = omega arith; is = omega arith; used = used }

taken_to : (number : ℕ) (slots : List BlockSlot) (at : ℕ) → Contains (taken_from number slots) at → IsUsed number slots at
taken_to number [] at c = absurd (in_nothing at c)
taken_to number (slot ∷ slots) at c = go (is_free slot.state) (λ there. used_later number slot slots at (taken_to (number + 1) slots at there)) refl c
  where
    go : (free : Bool) → (Contains (taken_from (number + 1) slots) at → IsUsed number (slot ∷ slots) at) → is_free slot.state ≡ free → Contains (if free then taken_from (number + 1) slots else 4096 * number ∷ taken_from (number + 1) slots) at → IsUsed number (slot ∷ slots) at
    go true later is c = later c
    go false later is c = elim (in_cons (4096 * number) at (taken_from (number + 1) slots) c) [
      | inl here ↦ subst (IsUsed number (slot ∷ slots)) here (used_here number slot slots is)
      | inr there ↦ later there
    ]

taken_at : (number : ℕ) (slots : List BlockSlot) (place : ℕ) → place < length slots → is_free (slice_index_or slots place free_slot).state ≡ false → Contains (taken_from number slots) (4096 * (number + place))
taken_at number [] place inside used = absurd (omega arith)
taken_at number (slot ∷ slots) zero inside used =
    let e : 4096 * number ≡ 4096 * (number + 0) = omega arith in
    subst (Contains (taken_from number (slot ∷ slots))) e (subst (λ (b : Bool). Contains (if b then taken_from (number + 1) slots else 4096 * number ∷ taken_from (number + 1) slots) (4096 * number)) (sym used) (head_in (4096 * number) (taken_from (number + 1) slots)))
taken_at number (slot ∷ slots) (suc place) inside used =
    let rest = taken_at (number + 1) slots place (omega arith) used in
    let e : number + 1 + place ≡ number + suc place = omega arith in
    go (is_free slot.state) (subst (λ (n : ℕ). Contains (taken_from (number + 1) slots) (4096 * n)) e rest)
  where
    go : (free : Bool) → Contains (taken_from (number + 1) slots) (4096 * (number + suc place)) → Contains (if free then taken_from (number + 1) slots else 4096 * number ∷ taken_from (number + 1) slots) (4096 * (number + suc place))
    go true c = c
    go false c = tail_in (4096 * number) (4096 * (number + suc place)) (taken_from (number + 1) slots) c

-- ---- a block by its address

pub block_aligned : (table : Table) (at : ℕ) → at % 4096 ≡ 0 → block_at table at ≡ slice_index_or table.slots (at / 4096) free_slot
block_aligned table at whole = rw (eq-eqb (at % 4096) 0 whole) refl

pub block_apart : (table : Table) (at : ℕ) → (at % 4096 ≡ 0 → ⊥) → block_at table at ≡ free_slot
block_apart table at part = rw (ne_eqb (at % 4096) 0 part) refl

-- a block that isn't Free begins at its address, inside the table
pub record IsInside (table : Table) (at : ℕ) : Type 0 where
  pub whole : at % 4096 ≡ 0
  pub inside : at / 4096 < length table.slots

pub used_inside : (table : Table) (at : ℕ) → (block_at table at).state ≢ Free → IsInside table at
used_inside table at used = elim (cases_eq (at % 4096) 0) [
  | inl whole ↦ elim (cases_lt (at / 4096) (length table.slots)) [
    | inl inside ↦ record { whole = whole; inside = inside }
    | inr past ↦ absurd (used (ap (λ (slot : BlockSlot). slot.state) (block_aligned table at whole ∙ get_or_past table.slots (at / 4096) free_slot past)))
  ]
  | inr part ↦ absurd (used (ap (λ (slot : BlockSlot). slot.state) (block_apart table at part)))
]

pub taken_are : (table : Table) → AreTaken table (taken_of table)
taken_are table at = (forward, back)
  where
    forward : Contains (taken_of table) at → (block_at table at).state ≢ Free
    forward c free =
        let u = taken_to 0 table.slots at c in
        let is : at ≡ 4096 * (0 + u.place) = u.is in
        let whole : at % 4096 ≡ 0 = omega arith in
        let number : at / 4096 ≡ u.place = omega arith in
        not_free (slice_index_or table.slots u.place free_slot).state u.used (subst (λ (n : ℕ). (slice_index_or table.slots n free_slot).state ≡ Free) number (ap (λ (slot : BlockSlot). slot.state) (sym (block_aligned table at whole)) ∙ free))

    back : (block_at table at).state ≢ Free → Contains (taken_of table) at
    back used =
        let i = used_inside table at used in
        let whole = i.whole in
        let is : 4096 * (0 + at / 4096) ≡ at = omega arith in
        subst (Contains (taken_of table)) is (taken_at 0 table.slots (at / 4096) i.inside (used_state _ (λ free. used (ap (λ (slot : BlockSlot). slot.state) (block_aligned table at whole) ∙ free))))

one_of_all : (count i : ℕ) → slice_index_or (replicate count free_slot) i free_slot ≡ free_slot
one_of_all zero i = refl
one_of_all (suc count) zero = refl
one_of_all (suc count) (suc i) = one_of_all count i

-- an empty table has none
pub none_taken : (blocks : ℕ) → AreTaken (empty_table blocks) []
none_taken blocks at = ((λ c. absurd (in_nothing at c)), λ used. absurd (used (ap (λ (slot : BlockSlot). slot.state) all_free)))
  where
    all_free : block_at (empty_table blocks) at ≡ free_slot
    all_free = elim (cases_eq (at % 4096) 0) [
      | inl whole ↦ block_aligned (empty_table blocks) at whole ∙ one_of_all blocks (at / 4096)
      | inr part ↦ block_apart (empty_table blocks) at part
    ]
