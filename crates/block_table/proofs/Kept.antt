-- What holds of a table stays as a block of it is replaced.
use Rattle.std.specs.Prelude.{◌≡◌, ◌≢◌, ◌+◌, ◌-◌, ◌≤◌, ◌<◌, ◌/◌, ◌%◌, ◌==◌, ◌^◌, ℕ, List, [], ◌∷◌, ◌++◌, length, min, Bool, true, false, slice_index_or, slice_set, if◌then◌else◌, refl}
use Rattle.std.proofs.Common.{arith, inl, inr, sym, ap, ◌∙◌, subst, zero-add}
use Rattle.std.proofs.lemmas.Bool.{cases_lt, eqb-true, eq-eqb, and_parts}
use Rattle.std.proofs.lemmas.Bool.Decides.{nat_tests}
use Rattle.std.proofs.lemmas.List.{length-set, length-append, get_or_past, get_or_default, set_past}
use Rattle.std.proofs.lemmas.List.Elements.{All-append}
use Rattle.blk_base.specs.declared.key.Addr.{Addr}
use Rattle.block_table.specs.Slot.{BlockSlot, free_slot, dirty_slot, is_free}
use Rattle.blk_base.specs.Trees.{AtBlock}
use Rattle.block_table.specs.Blocks.{BlockList, with_block}
use Rattle.block_table.specs.declared.state.SlotState.{SlotState}
use Rattle.block_table.specs.declared.state.SlotState.TheVariants.{Free, Dirty, Sealed, Live, LetGo}
use Rattle.blk_base.specs.Address.{IsAllowed}
use Rattle.block_table.specs.Table.{Table, IsTable, KnowsFree, IsInStock, slot_at, state_at, free_one, used_one, free_from, is_free_block, used_of, all_back, brought_back}
use Rattle.block_table.proofs.Free.{KnowsFree-set, KnowsFree-freed, true_isnt_false}
use Rattle.block_table.proofs.Counts.{free_one-taken, free_one-free, free_from-set, used_one-taken, used_one-free, used_of-set}

-- an address at which a block of the table begins
pub record IsFound (table : Table) (at : Addr) : Type 0 where
  pub aligned : at.0 % 4096 ≡ 0
  pub inside : at.0 / 4096 < length table.slots
  pub is : slot_at table at ≡ slice_index_or table.slots (at.0 / 4096) free_slot

found_by : (b : Bool) (slots : List BlockSlot) (i : ℕ) → is_free (if b then slice_index_or slots i free_slot else free_slot).state ≡ false → (b ≡ true) × (i < length slots)
found_by false slots i h = absurd (cc)
found_by true slots i h =
    elim (cases_lt i (length slots)) [ inl inside ↦ (refl, inside) | inr past ↦ let e : slice_index_or slots i free_slot ≡ free_slot = get_or_past slots i free_slot past in let h' : is_free free_slot.state ≡ false = subst (λ (slot : BlockSlot). is_free slot.state ≡ false) e h in absurd (cc) ]

-- a block that isn't Free begins there
pub found : (table : Table) (at : Addr) → is_free (state_at table at) ≡ false → IsFound table at
found table at h =
    let parts = found_by (at.0 % 4096 == 0) table.slots (at.0 / 4096) h in
    record { aligned = eqb-true (at.0 % 4096) 0 parts.0; inside = parts.1; is = rw parts.0 refl }

same_count : (a b x y k : ℕ) → a + x ≡ b + y → x ≡ k → y ≡ k → a ≡ b
same_count a b x y k h e f = omega (arith, h, e, f)

one_less : (a b x y : ℕ) → a + x ≡ b + y → x ≡ 1 → y ≡ 0 → a ≡ b - 1
one_less a b x y h e f = omega (arith, h, e, f)

one_more : (a b x y : ℕ) → a + x ≡ b + y → x ≡ 0 → y ≡ 1 → a ≡ b + 1
one_more a b x y h e f = omega (arith, h, e, f)

plus : (a b x y : ℕ) → a + x ≡ b + y → x ≡ 0 → a ≡ b + y
plus a b x y h e = omega (arith, h, e)

at_least_one : (a b x y : ℕ) → a + x ≡ b + y → x ≡ 1 → y ≡ 0 → 1 ≤ b
at_least_one a b x y h e f = omega (arith, h, e, f)

-- a block that is counted
pub some_free : (slots : List BlockSlot) (number : ℕ) → number < length slots → is_free_block number (slice_index_or slots number free_slot) ≡ true → 1 ≤ free_from 0 slots
some_free slots number inside counted =
    let at_zero : free_one (0 + number) (slice_index_or slots number free_slot) ≡ 1 = subst (λ (k : ℕ). free_one k (slice_index_or slots number free_slot) ≡ 1) (sym (zero-add number)) (free_one-free number (slice_index_or slots number free_slot) counted) in
    at_least_one _ _ _ _ (free_from-set 0 slots number (dirty_slot []) free_slot inside) at_zero (free_one-taken (0 + number) (dirty_slot []) refl)

-- a state that isn't Free has a buffer
pub taken_state : (state : SlotState) → state ≢ Free → is_free state ≡ false
taken_state Free h = absurd (h refl)
taken_state Dirty h = refl
taken_state Sealed h = refl
taken_state Live h = refl
taken_state LetGo h = refl

counted_as : (number : ℕ) (slot : BlockSlot) → 17 ≤ number → number ≢ 16384 → is_free slot.state ≡ true → is_free_block number slot ≡ true
counted_as number slot behind no_copy state = grind (arith, nat_tests)

module _ {slots : List BlockSlot} {spare room : ℕ} {stock : List BlockList} {stock_room free low : ℕ} {groups : List Bool} (t : IsTable slots spare room stock stock_room free low groups) (i : ℕ) (slot : BlockSlot) (inside : i < length slots) where
  len : length (slice_set slots i slot) ≡ length slots
  len = length-set slots i slot

  -- what is known of the Free blocks, where this one isn't newly Free
  knows : (is_free_block i slot ≡ true → is_free_block i (slice_index_or slots i free_slot) ≡ true) → KnowsFree (slice_set slots i slot) low groups
  knows held = KnowsFree-set t.knows i slot inside held

  taken_isnt_free : is_free slot.state ≡ false → is_free_block i slot ≡ true → is_free_block i (slice_index_or slots i free_slot) ≡ true
  taken_isnt_free taken free = absurd (true_isnt_false (sym (and_parts _ _ free).1 ∙ taken))

  -- a block with a buffer is changed, and has one still
  pub IsTable-kept : is_free (slice_index_or slots i free_slot).state ≡ false → is_free slot.state ≡ false → IsTable (slice_set slots i slot) spare room stock stock_room free low groups
  IsTable-kept old new =
      let same : free_from 0 (slice_set slots i slot) ≡ free_from 0 slots = same_count _ _ _ _ 0 (free_from-set 0 slots i slot free_slot inside) (free_one-taken (0 + i) (slice_index_or slots i free_slot) old) (free_one-taken (0 + i) slot new) in
      let used : used_of (slice_set slots i slot) ≡ used_of slots = same_count _ _ _ _ 1 (used_of-set slots i slot inside) (used_one-taken (slice_index_or slots i free_slot) old) (used_one-taken slot new) in
      record {
        small = rw len t.small;
        free_is = t.free_is ∙ sym same;
        knows = knows (taken_isnt_free new);
        fits = rw used t.fits;
        spare_small = rw used t.spare_small;
        stock_small = t.stock_small;
        stock_fits = t.stock_fits;
        in_stock = rw len t.in_stock;
      }

  -- a block that was Free takes a spare buffer
  pub IsTable-taken : (spare' room' : ℕ) → spare ≡ spare' + 1 → room' ≡ room → is_free_block i (slice_index_or slots i free_slot) ≡ true → is_free slot.state ≡ false → IsTable (slice_set slots i slot) spare' room' stock stock_room (free - 1) low groups
  IsTable-taken spare' room' less same_room old new =
      let old_state : is_free (slice_index_or slots i free_slot).state ≡ true = (and_parts _ _ old).1 in
      let at_i : free_one (0 + i) (slice_index_or slots i free_slot) ≡ 1 = subst (λ (k : ℕ). free_one k (slice_index_or slots i free_slot) ≡ 1) (sym (zero-add i)) (free_one-free i (slice_index_or slots i free_slot) old) in
      let fewer : free_from 0 (slice_set slots i slot) ≡ free_from 0 slots - 1 = one_less _ _ _ _ (free_from-set 0 slots i slot free_slot inside) at_i (free_one-taken (0 + i) slot new) in
      let used : used_of (slice_set slots i slot) ≡ used_of slots + 1 = one_more _ _ _ _ (used_of-set slots i slot inside) (used_one-free (slice_index_or slots i free_slot) old_state) (used_one-taken slot new) in
      record {
        small = rw len t.small;
        free_is = ap (λ (n : ℕ). n - 1) t.free_is ∙ sym fewer;
        knows = knows (λ free. old);
        fits = rw (used, same_room) (omega (arith, t.fits, less));
        spare_small = rw used (omega (arith, t.spare_small, less));
        stock_small = t.stock_small;
        stock_fits = t.stock_fits;
        in_stock = rw len t.in_stock;
      }

  -- a block gives its buffer back
  pub IsTable-freed : (spare' room' free' : ℕ) → spare' ≡ spare + 1 → room' ≡ room → free' ≡ free + free_one i slot → is_free (slice_index_or slots i free_slot).state ≡ false → is_free slot.state ≡ true → IsTable (slice_set slots i slot) spare' room' stock stock_room free' (min low i) (slice_set groups (i / 256) true)
  IsTable-freed spare' room' free' more same_room counted old new =
      let at_i : free_one (0 + i) slot ≡ free_one i slot = ap (λ (k : ℕ). free_one k slot) (zero-add i) in
      let others : free_from 0 (slice_set slots i slot) ≡ free_from 0 slots + free_one (0 + i) slot = plus _ _ _ _ (free_from-set 0 slots i slot free_slot inside) (free_one-taken (0 + i) (slice_index_or slots i free_slot) old) in
      let used : used_of (slice_set slots i slot) ≡ used_of slots - 1 = one_less _ _ _ _ (used_of-set slots i slot inside) (used_one-taken (slice_index_or slots i free_slot) old) (used_one-free slot new) in
      let some : 1 ≤ used_of slots = omega (arith, used_of-set slots i slot inside, used_one-taken (slice_index_or slots i free_slot) old, used_one-free slot new) in
      record {
        small = rw len t.small;
        free_is = counted ∙ (ap (λ (n : ℕ). n + free_one i slot) t.free_is ∙ sym (others ∙ ap (λ (n : ℕ). free_from 0 slots + n) at_i));
        knows = KnowsFree-freed t.knows i slot inside;
        fits = rw (used, same_room) (omega (arith, t.fits, more, some));
        spare_small = rw used (omega (arith, t.spare_small, more, some));
        stock_small = t.stock_small;
        stock_fits = t.stock_fits;
        in_stock = rw len t.in_stock;
      }

  -- a block's state stays
  pub IsTable-same_state : slot.state ≡ (slice_index_or slots i free_slot).state → IsTable (slice_set slots i slot) spare room stock stock_room free low groups
  IsTable-same_state same_state =
      let free_same : free_one (0 + i) slot ≡ free_one (0 + i) (slice_index_or slots i free_slot) = ap (λ (state : SlotState). free_one (0 + i) (record slot { state = state })) same_state in
      let used_same : used_one slot ≡ used_one (slice_index_or slots i free_slot) = ap (λ (state : SlotState). used_one (record slot { state = state })) same_state in
      let same : free_from 0 (slice_set slots i slot) ≡ free_from 0 slots = same_count _ _ _ _ _ (free_from-set 0 slots i slot free_slot inside) refl free_same in
      let used : used_of (slice_set slots i slot) ≡ used_of slots = same_count _ _ _ _ _ (used_of-set slots i slot inside) refl used_same in
      record {
        small = rw len t.small;
        free_is = t.free_is ∙ sym same;
        knows = knows (λ free. subst (λ (state : SlotState). is_free_block i (record slot { state = state }) ≡ true) same_state free);
        fits = rw used t.fits;
        spare_small = rw used t.spare_small;
        stock_small = t.stock_small;
        stock_fits = t.stock_fits;
        in_stock = rw len t.in_stock;
      }

-- the same, by the address of a block that isn't Free, where the table is seen so
module _ {slots : List BlockSlot} {spare room : ℕ} {stock : List BlockList} {stock_room free low : ℕ} {groups : List Bool} (t : IsTable slots spare room stock stock_room free low groups) (now : Table) (at : Addr) (slots_are : slots ≡ now.slots) (number : ℕ) (number_is : number ≡ at.0 / 4096) (slot : BlockSlot) where
  place : is_free (state_at now at) ≡ false → number < length slots
  place h = rw (number_is, slots_are) (found now at h).inside

  slot_is : IsFound now at → slice_index_or slots number free_slot ≡ slot_at now at
  slot_is f = rw (number_is, slots_are) (sym f.is)

  -- what was read at the number is the block at the address
  pub read_at : is_free (state_at now at) ≡ false → slot ≡ slice_index_or slots number slot → slot ≡ slot_at now at
  read_at h read =
      read ∙ (get_or_default slots number slot free_slot (place h) ∙ slot_is (found now at h))

  pub IsTable-kept_at : is_free (state_at now at) ≡ false → is_free slot.state ≡ false → IsTable (slice_set slots number slot) spare room stock stock_room free low groups
  IsTable-kept_at h new =
      IsTable-kept t number slot (place h) (subst (λ (old : BlockSlot). is_free old.state ≡ false) (sym (slot_is (found now at h))) h) new

  pub IsTable-freed_at : (spare' room' free' : ℕ) → spare' ≡ spare + 1 → room' ≡ room → free' ≡ free + free_one number slot → is_free (state_at now at) ≡ false → is_free slot.state ≡ true → IsTable (slice_set slots number slot) spare' room' stock stock_room free' (min low number) (slice_set groups (number / 256) true)
  IsTable-freed_at spare' room' free' more same_room counted h new =
      IsTable-freed t number slot (place h) spare' room' free' more same_room counted (subst (λ (old : BlockSlot). is_free old.state ≡ false) (sym (slot_is (found now at h))) h) new

  counted_at : IsAllowed (length now.slots) at.0 → is_free (state_at now at) ≡ true → is_free_block number (slice_index_or slots number free_slot) ≡ true
  counted_at allowed old =
      let is : slot_at now at ≡ slice_index_or now.slots (at.0 / 4096) free_slot = rw (eq-eqb (at.0 % 4096) 0 allowed.aligned) refl in
      let f : IsFound now at = record { aligned = allowed.aligned; inside = allowed.inside; is = is } in
      let state : is_free (slice_index_or slots number free_slot).state ≡ true = subst (λ (slot : BlockSlot). is_free slot.state ≡ true) (sym (slot_is f)) old in
      counted_as number (slice_index_or slots number free_slot) (rw number_is allowed.behind_super) (λ e. allowed.no_copy (sym number_is ∙ e)) state

  allowed_in : IsAllowed (length now.slots) at.0 → number < length slots
  allowed_in allowed = rw (number_is, slots_are) allowed.inside

  -- a block that is Free, at an address that is allowed, is counted
  pub some_free_at : IsAllowed (length now.slots) at.0 → is_free (state_at now at) ≡ true → 1 ≤ free
  some_free_at allowed old =
      rw t.free_is (some_free slots number (allowed_in allowed) (counted_at allowed old))

  -- it takes a spare buffer
  pub IsTable-taken_at : (spare' room' : ℕ) → spare ≡ spare' + 1 → room' ≡ room → IsAllowed (length now.slots) at.0 → is_free (state_at now at) ≡ true → is_free slot.state ≡ false → IsTable (slice_set slots number slot) spare' room' stock stock_room (free - 1) low groups
  IsTable-taken_at spare' room' less same_room allowed old new =
      IsTable-taken t number slot (allowed_in allowed) spare' room' less same_room (counted_at allowed old) new

-- the boxes of a list come back
brought : {slots : List BlockSlot} {spare room : ℕ} {stock : List BlockList} {stock_room free low : ℕ} {groups : List Bool} → IsTable slots spare room stock stock_room free low groups → (at : Addr) → IsTable (brought_back slots at) spare room stock stock_room free low groups
brought {slots} {spare} {room} {stock} {stock_room} {free} {low} {groups} t at =
    elim (cases_lt (at.0 / 4096) (length slots)) [ inl inside ↦ IsTable-same_state t (at.0 / 4096) (record (slice_index_or slots (at.0 / 4096) free_slot) { out = false }) inside refl | inr past ↦ subst (λ (slots' : List BlockSlot). IsTable slots' spare room stock stock_room free low groups) (sym (set_past slots (at.0 / 4096) (record (slice_index_or slots (at.0 / 4096) free_slot) { out = false }) past)) t ]

pub IsTable-back : {slots : List BlockSlot} {spare room : ℕ} {stock : List BlockList} {stock_room free low : ℕ} {groups : List Bool} → IsTable slots spare room stock stock_room free low groups → (pairs : List AtBlock) → IsTable (all_back slots pairs) spare room stock stock_room free low groups
IsTable-back t [] = t
IsTable-back t (pair ∷ pairs) = brought (IsTable-back t pairs) pair.0

-- the last block of a list goes back first
pub all_back-push : (slots : List BlockSlot) (pairs : List AtBlock) (pair : AtBlock) → all_back slots (pairs ++ pair ∷ []) ≡ all_back (brought_back slots pair.0) pairs
all_back-push slots [] pair = refl
all_back-push slots (x ∷ xs) pair =
    ap (λ (slots' : List BlockSlot). brought_back slots' x.0) (all_back-push slots xs pair)

-- a list that came back is in stock
pub IsTable-stocked : {slots : List BlockSlot} {spare room : ℕ} {stock : List BlockList} {stock_room free low : ℕ} {groups : List Bool} → IsTable slots spare room stock stock_room free low groups → (list : BlockList) (stock_room' : ℕ) → stock_room' ≡ stock_room → length stock < 34 → list ≡ record { pairs = []; room = length slots } → IsTable slots spare room (stock ++ list ∷ []) stock_room' free low groups
IsTable-stocked {slots} {spare} {room} {stock} t list stock_room' same fewer is = record {
  small = t.small;
  free_is = t.free_is;
  knows = t.knows;
  fits = t.fits;
  spare_small = t.spare_small;
  stock_small = omega (arith, length-append stock (list ∷ []), fewer);
  stock_fits = rw same t.stock_fits;
  in_stock = All-append (IsInStock (length slots)) stock (list ∷ []) t.in_stock (λ k d h. let first : k ≡ 0 = omega (arith, h) in subst (λ (j : ℕ). IsInStock (length slots) (slice_index_or (list ∷ []) j d)) (sym first) is);
}

-- the spare buffers become other ones
pub IsTable-reserved : {slots : List BlockSlot} {spare room : ℕ} {stock : List BlockList} {stock_room free low : ℕ} {groups : List Bool} → IsTable slots spare room stock stock_room free low groups → (spare' room' : ℕ) → spare' + used_of slots ≤ room' → spare' + used_of slots < 2 ^ 32 → IsTable slots spare' room' stock stock_room free low groups
IsTable-reserved t spare' room' fits small = record {
  small = t.small;
  free_is = t.free_is;
  knows = t.knows;
  fits = fits;
  spare_small = small;
  stock_small = t.stock_small;
  stock_fits = t.stock_fits;
  in_stock = t.in_stock;
}

-- one block of a list goes back
pub back_step : (slots : List BlockSlot) (list rest : BlockList) (at : Addr) (bytes : List ℕ) → list ≡ with_block rest at bytes → all_back (brought_back slots at) rest.pairs ≡ all_back slots list.pairs
back_step slots list rest at bytes is =
    sym (ap (λ (l : BlockList). all_back slots l.pairs) is ∙ all_back-push slots rest.pairs (at, bytes))

-- more is known of the Free blocks
pub IsTable-known : {slots : List BlockSlot} {spare room : ℕ} {stock : List BlockList} {stock_room free low : ℕ} {groups : List Bool} → IsTable slots spare room stock stock_room free low groups → (low' : ℕ) (groups' : List Bool) → KnowsFree slots low' groups' → IsTable slots spare room stock stock_room free low' groups'
IsTable-known t low' groups' knows = record {
  small = t.small;
  free_is = t.free_is;
  knows = knows;
  fits = t.fits;
  spare_small = t.spare_small;
  stock_small = t.stock_small;
  stock_fits = t.stock_fits;
  in_stock = t.in_stock;
}
