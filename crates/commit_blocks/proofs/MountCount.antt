-- How many blocks are Free, by how many stand at addresses that a volume may use.
use Rattle.std.proofs.Common.{◌≡◌, ◌≢◌, ◌≤◌, ◌+◌, ◌*◌, ◌-◌, ◌&&◌, ◌==◌, ℕ, suc, Bool, true, false, not, cond, List, [], ◌∷◌, length, Contains, refl, sym, ap, subst, arith, inl, inr}
use Rattle.std.specs.Prelude.{nat_le}
use Rattle.std.proofs.lemmas.Bool.{cases_eq, cases_lt, ne_eqb, le-leb}
use Rattle.blk_base.specs.declared.format.TheConstants.{COPY_BLOCK, FIRST_BLOCK}
use Rattle.blk_base.specs.Trees.{NoneTwice}
use Rattle.block_table.specs.declared.state.SlotState.TheVariants.{Free}
use Rattle.block_table.specs.Slot.{BlockSlot, is_free}
use Rattle.block_table.specs.Table.{Table, free_blocks, free_from, free_one}
use Rattle.block_table.specs.TreeIn.{block_at}
use Rattle.image_faults.specs.Faulty.{StandOnce}
use Rattle.image_faults.specs.Lists.{fewer}
use Rattle.tree_load.specs.Loaded.{taken_from, taken_of}
use Rattle.tree_load.proofs.Taken.{taken_are}
use Rattle.volume_image.proofs.Lists.{in_cons, in_nothing}

long_if : (b : Bool) (at : ℕ) (rest : List ℕ) → length (cond b rest (at ∷ rest)) ≡ cond b (length rest) (suc (length rest))
long_if true at rest = refl
long_if false at rest = refl

-- ---- the list of the blocks in use

above : (number : ℕ) (slots : List BlockSlot) (at : ℕ) → Contains (taken_from number slots) at → 4096 * number ≤ at
above number [] at c = absurd (in_nothing at c)
above number (slot ∷ slots) at c = go (is_free slot.state) (above (number + 1) slots at) c
  where
    go : (b : Bool) → (Contains (taken_from (number + 1) slots) at → 4096 * (number + 1) ≤ at) → Contains (cond b (taken_from (number + 1) slots) (4096 * number ∷ taken_from (number + 1) slots)) at → 4096 * number ≤ at
    go true later c = let low = later c in omega arith
    go false later c = elim (in_cons (4096 * number) at (taken_from (number + 1) slots) c) [ inl here ↦ omega arith | inr there ↦ let low = later there in omega arith ]

listed_once : (number : ℕ) (slots : List BlockSlot) → StandOnce (taken_from number slots)
listed_once number [] = tt
listed_once number (slot ∷ slots) = go (is_free slot.state) (listed_once (number + 1) slots)
  where
    go : (b : Bool) → StandOnce (taken_from (number + 1) slots) → StandOnce (cond b (taken_from (number + 1) slots) (4096 * number ∷ taken_from (number + 1) slots))
    go true later = later
    go false later = ((λ c. let low = above (number + 1) slots (4096 * number) c in omega arith), later)

pub to_once : (xs : List ℕ) → NoneTwice xs → StandOnce xs
to_once [] n = tt
to_once (x ∷ xs) n = (n.0, to_once xs n.1)

-- ---- not more than there are

one_fits : (a b f : Bool) (free taken all : ℕ) → free + taken ≤ all → cond (a && b && f) 1 0 + free + cond f taken (suc taken) ≤ suc all
one_fits true true true free taken all h = omega arith
one_fits true true false free taken all h = omega arith
one_fits true false true free taken all h = omega arith
one_fits true false false free taken all h = omega arith
one_fits false b true free taken all h = omega arith
one_fits false b false free taken all h = omega arith

all_fit : (number : ℕ) (slots : List BlockSlot) → free_from number slots + length (taken_from number slots) ≤ length slots
all_fit number [] = omega arith
all_fit number (slot ∷ slots) =
    let rest = all_fit (number + 1) slots in
    let one = one_fits (nat_le FIRST_BLOCK number) (not (number == COPY_BLOCK)) (is_free slot.state) (free_from (number + 1) slots) (length (taken_from (number + 1) slots)) (length slots) rest in
    let long = long_if (is_free slot.state) (4096 * number) (taken_from (number + 1) slots) in
    subst (λ (n : ℕ). free_one number slot + free_from (number + 1) slots + n ≤ suc (length slots)) (sym long) one

-- blocks that are in use, each once, and the Free ones are no more than all
pub used_and_free_fit : (table : Table) (reach : List ℕ) → NoneTwice reach → ((at : ℕ) → Contains reach at → (block_at table at).state ≢ Free) → free_blocks table + length reach ≤ length table.slots
used_and_free_fit table reach once used =
    let few = fewer reach (taken_of table) (to_once reach once) (λ at c. (taken_are table at).1 (used at c)) in
    let all = all_fit 0 table.slots in
    omega arith

-- ---- no fewer than all but 18

-- how many blocks from this number on a volume may not use
abbrev margin : ℕ → ℕ
margin number = (17 - number) + ((16385 - number) - (16384 - number))

as_many : (f : Bool) (taken : ℕ) → taken ≤ cond f taken (suc taken)
as_many true taken = omega arith
as_many false taken = omega arith

one_more : (a b f : Bool) (taken : ℕ) → a ≡ true → b ≡ true → suc taken ≤ cond (a && b && f) 1 0 + cond f taken (suc taken)
one_more true true true taken h k = omega arith
one_more true true false taken h k = omega arith
one_more true false f taken h k = absurd cc
one_more false b f taken h k = absurd cc

all_but : (number : ℕ) (slots : List BlockSlot) → length slots ≤ free_from number slots + length (taken_from number slots) + margin number
all_but number [] = omega arith
all_but number (slot ∷ slots) =
    let rest = all_but (number + 1) slots in
    let F : ℕ = free_from (number + 1) slots in
    let N : ℕ = length (taken_from (number + 1) slots) in
    let long : length (taken_from number (slot ∷ slots)) ≡ cond (is_free slot.state) N (suc N) = long_if (is_free slot.state) (4096 * number) (taken_from (number + 1) slots) in
    let many = as_many (is_free slot.state) N in
    let all : ℕ = cond (is_free slot.state) N (suc N) in
    let first : ℕ = free_one number slot in
    elim (cases_lt number 17) [
      | inl low ↦ omega (arith, rest, long, many, low)
      | inr high ↦ elim (cases_eq number 16384) [
        | inl is ↦ omega (arith, rest, long, many, is)
        | inr other ↦
            let one : suc N ≤ first + all = one_more (nat_le FIRST_BLOCK number) (not (number == COPY_BLOCK)) (is_free slot.state) N (le-leb FIRST_BLOCK number high) (ap not (ne_eqb number COPY_BLOCK other)) in
            omega (arith, rest, long, one, high)
      ]
    ]

-- blocks among which all are that are in use, and the Free ones, are all but 18 at least
pub used_and_free_are_many : (table : Table) (reach : List ℕ) → ((at : ℕ) → (block_at table at).state ≢ Free → Contains reach at) → length table.slots ≤ free_blocks table + length reach + 18
used_and_free_are_many table reach used =
    let few = fewer (taken_of table) reach (listed_once 0 table.slots) (λ at c. used at ((taken_are table at).0 c)) in
    let all = all_but 0 table.slots in
    omega (arith, few, all)
