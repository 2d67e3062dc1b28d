use Rattle.std.proofs.Common.{◌≡◌, ◌+◌, ◌++◌, ◌∷◌, ◌∙◌, [], ℕ, List, length, replicate, suc, refl, ap, sym, subst, arith, zero-add, add-one}
use Rattle.std.proofs.lemmas.List.{length-replicate}
use Rattle.block_table.specs.Slot.{BlockSlot, free_slot}
use Rattle.block_table.specs.Table.{free_from, free_one}
use Rattle.block_table.proofs.Counts.{free_from-le-length, free_from-push, free_one-le, replicate-push}
use Rattle.block_table.proofs.steps.free_slots.Goals as goal

pub overflow_add-free : goal.overflow_add-free
overflow_add-free c =
    omega (arith, free_from-le-length 0 c.loop-number.slots.items, ap length c.loop-number.invariant.2, length-replicate c.loop-number.number free_slot, free_one-le c.loop-number.number free_slot, c.count_usable-free.ensures, c.loop-number.invariant.3)

counted : (slots : List BlockSlot) (number : ℕ) → length slots ≡ number → free_from 0 slots + free_one number free_slot ≡ free_from 0 (slots ++ free_slot ∷ [])
counted slots number len =
    sym (free_from-push 0 slots free_slot ∙ ap (λ (k : ℕ). free_from 0 slots + free_one k free_slot) (zero-add (length slots) ∙ len))

pub loop-number-preserved : goal.loop-number-preserved
loop-number-preserved c =
    let items : c.loop-number.slots.items ≡ replicate c.loop-number.number free_slot = c.loop-number.invariant.2 in
    let len : length c.loop-number.slots.items ≡ c.loop-number.number = ap length items ∙ length-replicate c.loop-number.number free_slot in
    let pushed : c.push_reserved.new.self.items ≡ c.loop-number.slots.items ++ free_slot ∷ [] = subst (λ (slot : BlockSlot). c.push_reserved.new.self.items ≡ c.loop-number.slots.items ++ slot ∷ []) c.free.ensures c.push_reserved.ensures.items in
    let alike : c.push_reserved.new.self.items ≡ replicate (suc c.loop-number.number) free_slot = pushed ∙ (ap (λ (slots : List BlockSlot). slots ++ free_slot ∷ []) items ∙ replicate-push c.loop-number.number free_slot) in
    let sum : c.loop-number.free + c.count_usable-free.result ≡ free_from 0 c.loop-number.slots.items + free_one c.loop-number.number free_slot = rw (c.loop-number.invariant.3, c.count_usable-free.ensures) refl in
    (omega (arith, c.push_reserved.ensures.len, c.loop-number.invariant.0), omega (arith, c.push_reserved.ensures.capacity, c.loop-number.invariant.1), rw add-one alike, sum ∙ (counted c.loop-number.slots.items c.loop-number.number len ∙ ap (free_from 0) (sym pushed)))
