-- How many blocks are in use, by how many are Free.
use Rattle.std.proofs.Common.{◌≡◌, ◌≤◌, ◌<◌, ◌+◌, ◌*◌, ◌/◌, ◌%◌, ◌&&◌, ◌==◌, ℕ, zero, suc, Bool, true, false, not, cond, List, [], ◌∷◌, length, Contains, refl, sym, ap, subst, ◌∙◌, arith, inl, inr}
use Rattle.std.specs.Prelude.{nat_le, slice_index_or}
use Rattle.std.proofs.lemmas.Bool.{cases_Bool, le-leb}
use Rattle.blk_base.specs.declared.format.TheConstants.{COPY_BLOCK, FIRST_BLOCK}
use Rattle.blk_base.specs.Address.{IsAllowed}
use Rattle.blk_base.specs.Trees.{NoneTwice}
use Rattle.block_table.specs.Slot.{BlockSlot, free_slot, is_free}
use Rattle.block_table.specs.Table.{Table, empty_table, free_blocks, free_from, is_free_block}
use Rattle.block_table.specs.TreeIn.{block_at}
use Rattle.image_faults.specs.Faulty.{StandOnce}
use Rattle.image_faults.specs.Lists.{fewer}
use Rattle.tree_load.specs.Loaded.{AreTaken, taken_from, taken_of}
use Rattle.tree_load.proofs.Taken.{block_aligned, none_taken, not_free, taken_are}
use Rattle.volume_image.proofs.Lists.{in_cons, in_nothing}

-- a block that a volume may use, by its number
abbrev is_usable : ℕ → Bool
is_usable number = nat_le FIRST_BLOCK number && not (number == COPY_BLOCK)

abbrev one_if : Bool → ℕ
one_if b = cond b 1 0

abbrev usable_from : ℕ → ℕ → ℕ
usable_from number zero = 0
usable_from number (suc count) = one_if (is_usable number) + usable_from (number + 1) count

-- each block is usable or Free
abbrev AreUsable : ℕ → List BlockSlot → Type 0
AreUsable number slots = (place : ℕ) → place < length slots → is_free (slice_index_or slots place free_slot).state ≡ false → is_usable (number + place) ≡ true

counted_one : (a b f : Bool) (free taken usable : ℕ) → (f ≡ false → (a && b) ≡ true) → free + taken ≡ usable → one_if (a && b && f) + free + cond f taken (suc taken) ≡ one_if (a && b) + usable
counted_one true true true free taken usable h e = omega arith
counted_one true true false free taken usable h e = omega arith
counted_one true false true free taken usable h e = omega arith
counted_one false b true free taken usable h e = omega arith
counted_one true false false free taken usable h e = absurd (let no = h refl in cc)
counted_one false b false free taken usable h e = absurd (let no = h refl in cc)

long_if : (b : Bool) (at : ℕ) (rest : List ℕ) → length (cond b rest (at ∷ rest)) ≡ cond b (length rest) (suc (length rest))
long_if true at rest = refl
long_if false at rest = refl

counted : (number : ℕ) (slots : List BlockSlot) → AreUsable number slots → free_from number slots + length (taken_from number slots) ≡ usable_from number (length slots)
counted number [] usable = refl
counted number (slot ∷ slots) usable =
    let later : AreUsable (number + 1) slots = λ place inside used. (let e : number + suc place ≡ number + 1 + place = omega arith in subst (λ (n : ℕ). is_usable n ≡ true) e (usable (suc place) (omega arith) used)) in
    let first : is_free slot.state ≡ false → is_usable number ≡ true = λ used. (let e : number + 0 ≡ number = omega arith in subst (λ (n : ℕ). is_usable n ≡ true) e (usable 0 (omega arith) used)) in
    ap (λ (n : ℕ). one_if (is_free_block number slot) + free_from (number + 1) slots + n) (long_if (is_free slot.state) (4096 * number) (taken_from (number + 1) slots))
    ∙ counted_one (nat_le FIRST_BLOCK number) (not (number == COPY_BLOCK)) (is_free slot.state) (free_from (number + 1) slots) (length (taken_from (number + 1) slots)) (usable_from (number + 1) (length slots)) first (counted (number + 1) slots later)

-- ---- the list of the addresses

above : (number : ℕ) (slots : List BlockSlot) (at : ℕ) → Contains (taken_from number slots) at → 4096 * number ≤ at
above number [] at c = absurd (in_nothing at c)
above number (slot ∷ slots) at c = go (is_free slot.state) (above (number + 1) slots at) c
  where
    go : (b : Bool) → (Contains (taken_from (number + 1) slots) at → 4096 * (number + 1) ≤ at) → Contains (cond b (taken_from (number + 1) slots) (4096 * number ∷ taken_from (number + 1) slots)) at → 4096 * number ≤ at
    go true later c = let low = later c in omega arith
    go false later c = elim (in_cons (4096 * number) at (taken_from (number + 1) slots) c) [ inl here ↦ omega arith | inr there ↦ let low = later there in omega arith ]

listed_once : (number : ℕ) (slots : List BlockSlot) → StandOnce (taken_from number slots)
listed_once number [] = tt
listed_once number (slot ∷ slots) = go (is_free slot.state) (listed_once (number + 1) slots)
  where
    go : (b : Bool) → StandOnce (taken_from (number + 1) slots) → StandOnce (cond b (taken_from (number + 1) slots) (4096 * number ∷ taken_from (number + 1) slots))
    go true later = later
    go false later = ((λ c. let low = above (number + 1) slots (4096 * number) c in omega arith), later)

to_once : (xs : List ℕ) → NoneTwice xs → StandOnce xs
to_once [] n = tt
to_once (x ∷ xs) n = (n.0, to_once xs n.1)

-- a list of all blocks that aren't Free, each once, is as long as any other
as_many : (table : Table) (reached : List ℕ) → NoneTwice reached → AreTaken table reached → length reached ≡ length (taken_of table)
as_many table reached once taken =
    let most = fewer reached (taken_of table) (to_once reached once) (λ at c. (taken_are table at).1 ((taken at).0 c)) in
    let least = fewer (taken_of table) reached (listed_once 0 table.slots) (λ at c. (taken at).1 ((taken_are table at).0 c)) in
    omega arith

-- ---- in a table

usable_slots : (table : Table) (reached : List ℕ) → AreTaken table reached → ((at : ℕ) → Contains reached at → IsAllowed (length table.slots) at) → AreUsable 0 table.slots
usable_slots table reached taken allowed place inside used =
    let at : ℕ = 4096 * place in
    let whole : at % 4096 ≡ 0 = omega arith in
    let number : at / 4096 ≡ place = omega arith in
    let here : block_at table at ≡ slice_index_or table.slots place free_slot = block_aligned table at whole ∙ ap (λ (n : ℕ). slice_index_or table.slots n free_slot) number in
    let there : Contains reached at = (taken at).1 (λ free. not_free (slice_index_or table.slots place free_slot).state used (ap (λ (slot : BlockSlot). slot.state) (sym here) ∙ free)) in
    let ok = allowed at there in
    both (nat_le FIRST_BLOCK (0 + place)) (not ((0 + place) == COPY_BLOCK)) (le-leb FIRST_BLOCK (0 + place) (let low = ok.behind_super in omega arith))
    (ap not (Rattle.std.proofs.lemmas.Bool.ne_eqb (0 + place) COPY_BLOCK (λ e. ok.no_copy (number ∙ (let same : place ≡ 0 + place = omega arith in same) ∙ e))))
  where
    both : (a b : Bool) → a ≡ true → b ≡ true → (a && b) ≡ true
    both true b e h = h
    both false b e h = absurd cc

in_table : (table : Table) (reached : List ℕ) → NoneTwice reached → AreTaken table reached → ((at : ℕ) → Contains reached at → IsAllowed (length table.slots) at) → free_blocks table + length reached ≡ usable_from 0 (length table.slots)
in_table table reached once taken allowed =
    let all = counted 0 table.slots (usable_slots table reached taken allowed) in
    let same = as_many table reached once taken in
    omega arith

-- As many blocks are in use as are Free no longer.
pub used_are : (blocks : ℕ) (table : Table) (reached : List ℕ) → length table.slots ≡ blocks → NoneTwice reached → AreTaken table reached → ((at : ℕ) → Contains reached at → IsAllowed (length table.slots) at)
    → free_blocks (empty_table blocks) ≡ free_blocks table + length reached
used_are blocks table reached size once taken allowed =
    let first = in_table (empty_table blocks) [] tt (none_taken blocks) (λ at c. absurd (in_nothing at c)) in
    let now = in_table table reached once taken allowed in
    let long : length (empty_table blocks).slots ≡ blocks = Rattle.std.proofs.lemmas.List.length-replicate blocks free_slot in
    let same : usable_from 0 (length (empty_table blocks).slots) ≡ usable_from 0 (length table.slots) = ap (usable_from 0) (long ∙ sym size) in
    omega arith
