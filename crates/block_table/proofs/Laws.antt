-- Laws of a table of which a block is replaced, and of lists that come back.
use Rattle.std.specs.Prelude.{◌≡◌, ◌≢◌, ◌+◌, zero, suc, ◌<◌, ◌⊎◌, ◌/◌, ◌%◌, ◌==◌, ℕ, List, [], ◌∷◌, length, Bool, true, false, slice_index_or, slice_set, if◌then◌else◌, refl}
use Rattle.std.proofs.Common.{arith, inl, inr, sym, ap, ◌∙◌, subst, zero-add}
use Rattle.std.proofs.lemmas.Bool.{cases_lt, cases_order, eqb-true, eq-eqb}
use Rattle.std.proofs.lemmas.List.{get_or-set_same, get_or-set_other, set_past, get_or_past}
use Rattle.blk_base.specs.declared.key.Addr.{Addr}
use Rattle.block_table.specs.Slot.{BlockSlot, free_slot}
use Rattle.blk_base.specs.Trees.{AtBlock}
use Rattle.block_table.specs.Table.{Table, slot_at, with_slot, free_blocks, free_one, free_from, brought_back, all_back}
use Rattle.block_table.proofs.Counts.{free_from-set}

-- the block that was put there
pub slot_at-with_slot_same : (table : Table) (at : Addr) (slot : BlockSlot) → at.0 % 4096 ≡ 0 → at.0 / 4096 < length table.slots → slot_at (with_slot table at slot) at ≡ slot
slot_at-with_slot_same table at slot aligned inside =
    rw (eq-eqb (at.0 % 4096) 0 aligned) (get_or-set_same table.slots (at.0 / 4096) slot free_slot inside)

-- two whole blocks with one number are one
same_number : (one two : ℕ) → one % 4096 ≡ 0 → two % 4096 ≡ 0 → one / 4096 ≡ two / 4096 → one ≡ two
same_number one two p q h = omega (arith, p, q, h)

other_slot : (b : Bool) (slots : List BlockSlot) (i j : ℕ) (slot : BlockSlot) → (b ≡ true → j ≢ i) → (if b then slice_index_or (slice_set slots i slot) j free_slot else free_slot) ≡ (if b then slice_index_or slots j free_slot else free_slot)
other_slot true slots i j slot apart = get_or-set_other slots i j slot free_slot (apart refl)
other_slot false slots i j slot apart = refl

-- every other block is as it was
pub slot_at-with_slot_other : (table : Table) (at other : Addr) (slot : BlockSlot) → at.0 % 4096 ≡ 0 → other.0 ≢ at.0 → slot_at (with_slot table at slot) other ≡ slot_at table other
slot_at-with_slot_other table at other slot aligned apart =
    other_slot (other.0 % 4096 == 0) table.slots (at.0 / 4096) (other.0 / 4096) slot (λ whole same. apart (same_number other.0 at.0 (eqb-true (other.0 % 4096) 0 whole) aligned same))

-- how the number of Free blocks changes
pub free_blocks-with_slot : (table : Table) (at : Addr) (slot : BlockSlot) → at.0 / 4096 < length table.slots → free_blocks (with_slot table at slot) + free_one (at.0 / 4096) (slice_index_or table.slots (at.0 / 4096) free_slot) ≡ free_blocks table + free_one (at.0 / 4096) slot
free_blocks-with_slot table at slot inside =
    subst (λ (k : ℕ). free_from 0 (slice_set table.slots (at.0 / 4096) slot) + free_one k (slice_index_or table.slots (at.0 / 4096) free_slot) ≡ free_from 0 table.slots + free_one k slot) (zero-add (at.0 / 4096)) (free_from-set 0 table.slots (at.0 / 4096) slot free_slot inside)

-- ---- lists that come back

-- a block as it is when no list has it
abbrev pub put_away : BlockSlot → BlockSlot
put_away slot = record slot { out = false }

-- the block with this number, once a list's boxes are back, is as it was, but that no list may have it any more
pub record IsBack (old new : BlockSlot) : Type 0 where
  pub same : put_away new ≡ put_away old
  pub stays : old.out ≡ false → new.out ≡ false

not_apart : (a b : ℕ) → a ≡ b → (a < b) ⊎ (b < a) → ⊥
not_apart a b e apart =
    elim apart [ inl less ↦ omega (arith, e, less) | inr more ↦ omega (arith, e, more) ]

here : (slots : List BlockSlot) (i : ℕ) → IsBack (slice_index_or slots i free_slot) (slice_index_or (slice_set slots i (put_away (slice_index_or slots i free_slot))) i free_slot)
here slots i =
    elim (cases_lt i (length slots)) [ inl inside ↦ subst (λ (new : BlockSlot). IsBack (slice_index_or slots i free_slot) new) (sym (get_or-set_same slots i (put_away (slice_index_or slots i free_slot)) free_slot inside)) (record { same = refl; stays = λ h. refl }) | inr past ↦ subst (λ (slots' : List BlockSlot). IsBack (slice_index_or slots i free_slot) (slice_index_or slots' i free_slot)) (sym (set_past slots i (put_away (slice_index_or slots i free_slot)) past)) (record { same = refl; stays = λ h. h }) ]

there : (slots : List BlockSlot) (i j : ℕ) (slot : BlockSlot) → j ≢ i → IsBack (slice_index_or slots j free_slot) (slice_index_or (slice_set slots i slot) j free_slot)
there slots i j slot apart =
    subst (λ (new : BlockSlot). IsBack (slice_index_or slots j free_slot) new) (sym (get_or-set_other slots i j slot free_slot apart)) (record { same = refl; stays = λ h. h })

brought : (slots : List BlockSlot) (at : Addr) (number : ℕ) → IsBack (slice_index_or slots number free_slot) (slice_index_or (brought_back slots at) number free_slot)
brought slots at number =
    let i : ℕ = at.0 / 4096 in
    let slot : BlockSlot = put_away (slice_index_or slots i free_slot) in
    elim (cases_order number i) [ inl e ↦ subst (λ (n : ℕ). IsBack (slice_index_or slots n free_slot) (slice_index_or (slice_set slots i slot) n free_slot)) (sym e) (here slots i) | inr apart ↦ there slots i number slot (λ e. not_apart number i e apart) ]

joined : {a b c : BlockSlot} → IsBack a b → IsBack b c → IsBack a c
joined one two = record { same = two.same ∙ one.same; stays = λ h. two.stays (one.stays h) }

-- no state and no byte changes as a list comes back
pub all_back-keeps : (slots : List BlockSlot) (pairs : List AtBlock) (number : ℕ) → IsBack (slice_index_or slots number free_slot) (slice_index_or (all_back slots pairs) number free_slot)
all_back-keeps slots [] number = record { same = refl; stays = λ h. h }
all_back-keeps slots (pair ∷ pairs) number =
    joined (all_back-keeps slots pairs number) (brought (all_back slots pairs) pair.0 number)

brought_out : (slots : List BlockSlot) (at : Addr) → (slice_index_or (brought_back slots at) (at.0 / 4096) free_slot).out ≡ false
brought_out slots at =
    let i : ℕ = at.0 / 4096 in
    let slot : BlockSlot = put_away (slice_index_or slots i free_slot) in
    elim (cases_lt i (length slots)) [ inl inside ↦ ap (λ (new : BlockSlot). new.out) (get_or-set_same slots i slot free_slot inside) | inr past ↦ ap (λ (new : BlockSlot). new.out) (ap (λ (slots' : List BlockSlot). slice_index_or slots' i free_slot) (set_past slots i slot past) ∙ get_or_past slots i free_slot past) ]

-- no list has a block of a list that came back
pub all_back-out : (slots : List BlockSlot) (pairs : List AtBlock) (k : ℕ) (d : AtBlock) → k < length pairs → (slice_index_or (all_back slots pairs) ((slice_index_or pairs k d).0.0 / 4096) free_slot).out ≡ false
all_back-out slots [] k d h = absurd (omega (arith, h))
all_back-out slots (pair ∷ pairs) zero d h = brought_out (all_back slots pairs) pair.0
all_back-out slots (pair ∷ pairs) (suc k) d h =
    (brought (all_back slots pairs) pair.0 ((slice_index_or pairs k d).0.0 / 4096)).stays (all_back-out slots pairs k d (omega (arith, h)))
