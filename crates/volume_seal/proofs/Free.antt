-- A seal leaves as many blocks Free as there were.
use Rattle.std.proofs.Common.{◌≡◌, ◌∙◌, ◌+◌, ◌*◌, ◌/◌, ◌%◌, ℕ, suc, false, List, [], ◌∷◌, length, refl, sym, ap, arith, eq-eqb}
use Rattle.std.specs.Prelude.{slice_index_or}
use Rattle.block_table.specs.declared.state.SlotState.{SlotState}
use Rattle.block_table.specs.declared.state.SlotState.TheVariants.{Dirty, Free, LetGo, Live, Sealed}
use Rattle.block_table.specs.Slot.{BlockSlot, free_slot, is_free}
use Rattle.block_table.specs.Table.{Table, free_blocks, free_from, free_one}
use Rattle.block_table.specs.TreeIn.{block_at}
use Rattle.tree_seal.specs.Sealing.{IsSealing}
use Rattle.volume_seal.proofs.Parts.{clean_stays, state_stays}

-- the block with a number
slot_shown : (table : Table) (number : ℕ) → block_at table (4096 * number) ≡ slice_index_or table.slots number free_slot
slot_shown table number =
    let aligned : 4096 * number % 4096 ≡ 0 = omega arith in
    let place : 4096 * number / 4096 ≡ number = omega arith in
    rw (eq-eqb (4096 * number % 4096) 0 aligned) (ap (λ (n : ℕ). slice_index_or table.slots n free_slot) place)

none_free : (one two : SlotState) → is_free one ≡ false → (two ≡ Free → one ≡ Free) → is_free one ≡ is_free two
none_free one Free none from = ap is_free (from refl)
none_free one Dirty none from = none
none_free one Sealed none from = none
none_free one Live none from = none
none_free one LetGo none from = none

test_same : (one two : SlotState) → (one ≡ Free → two ≡ Free) → (two ≡ Free → one ≡ Free) → is_free one ≡ is_free two
test_same Free two to from = sym (ap is_free (to refl))
test_same Dirty two to from = none_free Dirty two refl from
test_same Sealed two to from = none_free Sealed two refl from
test_same Live two to from = none_free Live two refl from
test_same LetGo two to from = none_free LetGo two refl from

-- a block is Free exactly where it was
still_free : (old new : Table) (reach : List ℕ) (at : ℕ) → IsSealing old new reach → (block_at old at).state ≡ Free → (block_at new at).state ≡ Free
still_free old new reach at sealing free =
    ap (λ (slot : BlockSlot). slot.state) (clean_stays old new reach at sealing (λ dirty. let wrong : Free ≡ Dirty = sym free ∙ dirty in cc)) ∙ free

was_free : (old new : Table) (reach : List ℕ) (at : ℕ) → IsSealing old new reach → (block_at new at).state ≡ Free → (block_at old at).state ≡ Free
was_free old new reach at sealing free = state_stays old new reach at Free sealing (λ e. let wrong : Free ≡ Sealed = e in cc) free (λ e. let wrong : Free ≡ Dirty = e in cc)

free_alike : (old new : Table) (reach : List ℕ) (number : ℕ) → IsSealing old new reach → is_free (slice_index_or old.slots number free_slot).state ≡ is_free (slice_index_or new.slots number free_slot).state
free_alike old new reach number sealing =
    ap (λ (slot : BlockSlot). is_free slot.state) (sym (slot_shown old number)) ∙ test_same (block_at old (4096 * number)).state (block_at new (4096 * number)).state (still_free old new reach (4096 * number) sealing) (was_free old new reach (4096 * number) sealing) ∙ ap (λ (slot : BlockSlot). is_free slot.state) (slot_shown new number)

one_same : (number : ℕ) (one two : BlockSlot) → is_free one.state ≡ is_free two.state → free_one number one ≡ free_one number two
one_same number one two same = rw same refl

counted_same : (xs ys : List BlockSlot) (number : ℕ) → length xs ≡ length ys → ((k : ℕ) → is_free (slice_index_or xs k free_slot).state ≡ is_free (slice_index_or ys k free_slot).state) → free_from number xs ≡ free_from number ys
counted_same [] [] number size same = refl
counted_same [] (y ∷ ys) number size same = absurd (omega (arith, size))
counted_same (x ∷ xs) [] number size same = absurd (omega (arith, size))
counted_same (x ∷ xs) (y ∷ ys) number size same =
    ap (λ (n : ℕ). n + free_from (number + 1) xs) (one_same number x y (same 0)) ∙ ap (λ (n : ℕ). free_one number y + n) (counted_same xs ys (number + 1) (omega (arith, size)) (λ k. same (suc k)))

pub free_same : (old new : Table) (reach : List ℕ) → IsSealing old new reach → free_blocks new ≡ free_blocks old
free_same old new reach sealing =
    sym (counted_same old.slots new.slots 0 (sym sealing.size) (λ k. free_alike old new reach k sealing))
