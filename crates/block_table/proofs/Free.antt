-- Where a block that is Free may be.
use Rattle.std.specs.Prelude.{◌≡◌, ◌+◌, ◌/◌, ◌≤◌, ◌<◌, ℕ, List, length, min, ◌⊎◌, Bool, true, false, slice_index_or, slice_set, refl}
use Rattle.std.proofs.Common.{arith, inl, inr, sym, ap, ◌∙◌, subst, zero-add}
use Rattle.std.proofs.lemmas.Bool.{cases_order}
use Rattle.std.proofs.lemmas.List.{length-set, get_or-set_same, get_or-set_other}
use Rattle.block_table.specs.Slot.{BlockSlot, free_slot}
use Rattle.block_table.specs.Table.{NoneFree, KnowsFree, is_free_block, free_from}
use Rattle.block_table.proofs.Counts.{free_from-none}

pub true_isnt_false : true ≡ false → ⊥
true_isnt_false h = cc

not_true : (b : Bool) → (b ≡ true → ⊥) → b ≡ false
not_true true h = absurd (h refl)
not_true false h = refl

not_apart : (a b : ℕ) → a ≡ b → (a < b) ⊎ (b < a) → ⊥
not_apart a b e apart =
    elim apart [ inl less ↦ omega (arith, e, less) | inr more ↦ omega (arith, e, more) ]

-- a block that is Free, where another one is replaced, was Free
other_was : (slots : List BlockSlot) (i number : ℕ) (slot : BlockSlot) → (number ≡ i → ⊥) → is_free_block number (slice_index_or (slice_set slots i slot) number free_slot) ≡ true → is_free_block number (slice_index_or slots number free_slot) ≡ true
other_was slots i number slot apart free =
    subst (λ (s : BlockSlot). is_free_block number s ≡ true) (get_or-set_other slots i number slot free_slot apart) free

here_is : (slots : List BlockSlot) (i number : ℕ) (slot : BlockSlot) → i < length slots → number ≡ i → is_free_block number (slice_index_or (slice_set slots i slot) number free_slot) ≡ true → is_free_block i slot ≡ true
here_is slots i number slot inside same free =
    let at_i : is_free_block i (slice_index_or (slice_set slots i slot) i free_slot) ≡ true = subst (λ (n : ℕ). is_free_block n (slice_index_or (slice_set slots i slot) n free_slot) ≡ true) same free in
    subst (λ (s : BlockSlot). is_free_block i s ≡ true) (get_or-set_same slots i slot free_slot inside) at_i

was : (slots : List BlockSlot) (i number : ℕ) (slot : BlockSlot) → i < length slots → (is_free_block i slot ≡ true → is_free_block i (slice_index_or slots i free_slot) ≡ true) → is_free_block number (slice_index_or (slice_set slots i slot) number free_slot) ≡ true → is_free_block number (slice_index_or slots number free_slot) ≡ true
was slots i number slot inside held free =
    elim (cases_order number i) [ inl same ↦ subst (λ (n : ℕ). is_free_block n (slice_index_or slots n free_slot) ≡ true) (sym same) (held (here_is slots i number slot inside same free)) | inr apart ↦ other_was slots i number slot (λ e. not_apart number i e apart) free ]

-- a block is replaced by one that isn't newly Free
pub KnowsFree-set : {slots : List BlockSlot} {low : ℕ} {groups : List Bool} → KnowsFree slots low groups → (i : ℕ) (slot : BlockSlot) → i < length slots → (is_free_block i slot ≡ true → is_free_block i (slice_index_or slots i free_slot) ≡ true) → KnowsFree (slice_set slots i slot) low groups
KnowsFree-set {slots} knows i slot inside held = record {
  below = λ number above less within. not_true _ (λ free. true_isnt_false (sym (was slots i number slot inside held free) ∙ knows.below number above less (omega (arith, length-set slots i slot, within))));
  count = knows.count ∙ sym (ap (λ (n : ℕ). n / 256 + 1) (length-set slots i slot));
  marked = λ number within free. knows.marked number (omega (arith, length-set slots i slot, within)) (was slots i number slot inside held free);
}

group_in : (i slots groups : ℕ) → i < slots → groups ≡ slots / 256 + 1 → i / 256 < groups
group_in i slots groups inside count = omega (arith, inside, count)

-- a block becomes Free
pub KnowsFree-freed : {slots : List BlockSlot} {low : ℕ} {groups : List Bool} → KnowsFree slots low groups → (i : ℕ) (slot : BlockSlot) → i < length slots → KnowsFree (slice_set slots i slot) (min low i) (slice_set groups (i / 256) true)
KnowsFree-freed {slots} {low} {groups} knows i slot inside = record {
  below = λ number above less within. not_true _ (λ free. true_isnt_false (sym (other_was slots i number slot (omega (arith, less)) free) ∙ knows.below number above (omega (arith, less)) (omega (arith, length-set slots i slot, within))));
  count = length-set groups (i / 256) true ∙ (knows.count ∙ sym (ap (λ (n : ℕ). n / 256 + 1) (length-set slots i slot)));
  marked = λ number within free. elim (cases_order (number / 256) (i / 256)) [ inl same ↦ subst (λ (g : ℕ). slice_index_or (slice_set groups (i / 256) true) g false ≡ true) (sym same) (get_or-set_same groups (i / 256) true false (group_in i (length slots) (length groups) inside knows.count)) | inr apart ↦ get_or-set_other groups (i / 256) (number / 256) true false (λ e. not_apart (number / 256) (i / 256) e apart) ∙ knows.marked number (omega (arith, length-set slots i slot, within)) (other_was slots i number slot (λ e. not_apart (number / 256) (i / 256) (ap (λ (n : ℕ). n / 256) e) apart) free) ];
}

-- at the end of the search there would be none at all
pub none_at_all : (slots : List BlockSlot) (to : ℕ) → NoneFree slots 0 to → length slots ≤ to → 1 ≤ free_from 0 slots → ⊥
none_at_all slots to none all some =
    let each : (i : ℕ) → i < length slots → is_free_block (0 + i) (slice_index_or slots i free_slot) ≡ false = λ i inside. subst (λ (k : ℕ). is_free_block k (slice_index_or slots i free_slot) ≡ false) (sym (zero-add i)) (none i (omega arith) (omega (arith, inside, all)) inside) in
    let zero : free_from 0 slots ≡ 0 = free_from-none 0 slots each in
    omega (arith, zero, some)
