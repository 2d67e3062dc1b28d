-- Each block of a table changed: what stands at an address then, and how many blocks are Free and have a buffer.
use Rattle.std.proofs.Common.{◌≡◌, ◌≢◌, ◌∙◌, ◌+◌, ◌<◌, ◌*◌, ◌/◌, ◌%◌, ◌==◌, ◌&&◌, ℕ, zero, suc, Bool, true, false, not, nat_le, List, [], ◌∷◌, length, map, slice_index_or, slice_set, take, drop, ◌++◌, ◌≤◌, if◌then◌else◌, refl, sym, ap, subst, inl, inr, arith}
use Rattle.std.specs.Prelude.{All}
use Rattle.std.proofs.lemmas.Bool.{cases_Bool, cases_lt, eq-eqb, true≢false}
use Rattle.std.proofs.lemmas.List.{append-nil, drop_all, drop_more, get_or_at, get_or_default, get_or_past, length-append, length-drop, length-map, length-take, take_all}
use Rattle.std.proofs.lemmas.List.Edits.{map_over_more}
use Rattle.std.proofs.lemmas.List.Elements.{All-get_or, All-from_get_or, All-weaker}
use Rattle.std.proofs.lemmas.List.Sums.{sum_by-cons}
use Rattle.blk_base.specs.declared.format.TheConstants.{COPY_BLOCK, FIRST_BLOCK}
use Rattle.blk_base.specs.declared.key.Addr.{Addr}
use Rattle.blk_base.specs.Address.{IsAllowed}
use Rattle.block_table.specs.declared.state.SlotState.{SlotState}
use Rattle.block_table.specs.declared.state.SlotState.TheVariants.{Free, Dirty, Sealed, Live, LetGo}
use Rattle.block_table.specs.Slot.{BlockSlot, free_slot, is_free}
use Rattle.block_table.specs.Table.{Table, slot_at, free_blocks, free_from, used_of, used_one, with_slot}
use Rattle.block_table.specs.TreeIn.{IsTaken, block_at}
use Rattle.block_table.proofs.Kept.{taken_state}
use Rattle.tree_frame.specs.Frame.{AreReadable}
use Rattle.table_commit.specs.Commit.{IsBack, NoneOut, at_number, is_sealed, settled, unsealed, with_each}

-- ---- any change that leaves a Free block Free

module _ (change : BlockSlot → BlockSlot) (free : change free_slot ≡ free_slot) where
  by_number : (slots : List BlockSlot) (i : ℕ) → slice_index_or (map change slots) i free_slot ≡ change (slice_index_or slots i free_slot)
  by_number [] i = sym free
  by_number (slot ∷ slots) zero = refl
  by_number (slot ∷ slots) (suc i) = by_number slots i

  where_whole : (b : Bool) (slots : List BlockSlot) (i : ℕ) → (if b then slice_index_or (map change slots) i free_slot else free_slot) ≡ change (if b then slice_index_or slots i free_slot else free_slot)
  where_whole true slots i = by_number slots i
  where_whole false slots i = sym free

  pub each_at : (table : Table) (at : ℕ) → block_at (with_each change table) at ≡ change (block_at table at)
  each_at table at = where_whole (at % 4096 == 0) table.slots (at / 4096)

module _ (change : BlockSlot → BlockSlot) (keeps : (slot : BlockSlot) → is_free (change slot).state ≡ is_free slot.state) where
  free_same : (number : ℕ) (slots : List BlockSlot) → free_from number (map change slots) ≡ free_from number slots
  free_same number [] = refl
  free_same number (slot ∷ slots) =
      ap (λ (b : Bool). (if nat_le FIRST_BLOCK number && not (number == COPY_BLOCK) && b then 1 else 0) + free_from (number + 1) (map change slots)) (keeps slot)
      ∙ ap (λ (n : ℕ). (if nat_le FIRST_BLOCK number && not (number == COPY_BLOCK) && is_free slot.state then 1 else 0) + n) (free_same (number + 1) slots)

  pub each_free : (table : Table) → free_blocks (with_each change table) ≡ free_blocks table
  each_free table = free_same 0 table.slots

  pub each_used : (slots : List BlockSlot) → used_of (map change slots) ≡ used_of slots
  each_used [] = refl
  each_used (slot ∷ slots) =
      sum_by-cons used_one (change slot) (map change slots) ∙ ap (λ (b : Bool). (if b then 0 else 1) + used_of (map change slots)) (keeps slot)
      ∙ ap (λ (n : ℕ). used_one slot + n) (each_used slots) ∙ sym (sum_by-cons used_one slot slots)

pub each_size : (change : BlockSlot → BlockSlot) (table : Table) → length (with_each change table).slots ≡ length table.slots
each_size change table = length-map table.slots change

-- ---- Sealed blocks that become Live or Dirty

sealed_is : (state : SlotState) → is_sealed state ≡ true → state ≡ Sealed
sealed_is Free h = absurd cc
sealed_is Dirty h = absurd cc
sealed_is Sealed h = refl
sealed_is Live h = absurd cc
sealed_is LetGo h = absurd cc

sealed_taken : (state : SlotState) → is_sealed state ≡ true → is_free state ≡ false
sealed_taken state h = ap is_free (sealed_is state h)

not_sealed : (state : SlotState) → state ≢ Sealed → is_sealed state ≡ false
not_sealed Free h = refl
not_sealed Dirty h = refl
not_sealed Sealed h = absurd (h refl)
not_sealed Live h = refl
not_sealed LetGo h = refl

-- what was Sealed, and what wasn't
pub settled_sealed : (slot : BlockSlot) → slot.state ≡ Sealed → settled slot ≡ record slot { state = Live }
settled_sealed slot h = ap (λ (b : Bool). if b then record slot { state = Live } else slot) (ap is_sealed h)

pub settled_other : (slot : BlockSlot) → slot.state ≢ Sealed → settled slot ≡ slot
settled_other slot h = ap (λ (b : Bool). if b then record slot { state = Live } else slot) (not_sealed slot.state h)

pub unsealed_sealed : (slot : BlockSlot) → slot.state ≡ Sealed → unsealed slot ≡ record slot { state = Dirty }
unsealed_sealed slot h = ap (λ (b : Bool). if b then record slot { state = Dirty } else slot) (ap is_sealed h)

pub unsealed_other : (slot : BlockSlot) → slot.state ≢ Sealed → unsealed slot ≡ slot
unsealed_other slot h = ap (λ (b : Bool). if b then record slot { state = Dirty } else slot) (not_sealed slot.state h)

-- a change of Sealed blocks alone, which leaves them with buffers
module _ (to : SlotState) (taken : is_free to ≡ false) where
  abbrev pub changed : BlockSlot → BlockSlot
  changed slot = if is_sealed slot.state then record slot { state = to } else slot

  changed_keeps : (slot : BlockSlot) → is_free (changed slot).state ≡ is_free slot.state
  changed_keeps slot = elim (cases_Bool (is_sealed slot.state)) [
    | inl is ↦ ap (λ (b : Bool). is_free (if b then record slot { state = to } else slot).state) is ∙ taken ∙ sym (sealed_taken slot.state is)
    | inr other ↦ ap (λ (b : Bool). is_free (if b then record slot { state = to } else slot).state) other
  ]

pub settled_bytes : (slot : BlockSlot) → (settled slot).bytes ≡ slot.bytes
settled_bytes slot = elim (cases_Bool (is_sealed slot.state)) [
  | inl is ↦ ap (λ (b : Bool). (if b then record slot { state = Live } else slot).bytes) is
  | inr other ↦ ap (λ (b : Bool). (if b then record slot { state = Live } else slot).bytes) other
]

pub unsealed_bytes : (slot : BlockSlot) → (unsealed slot).bytes ≡ slot.bytes
unsealed_bytes slot = elim (cases_Bool (is_sealed slot.state)) [
  | inl is ↦ ap (λ (b : Bool). (if b then record slot { state = Dirty } else slot).bytes) is
  | inr other ↦ ap (λ (b : Bool). (if b then record slot { state = Dirty } else slot).bytes) other
]

-- ---- block by block

pub settled_at : (table : Table) (at : ℕ) → block_at (with_each settled table) at ≡ settled (block_at table at)
settled_at table at = each_at settled refl table at

pub unsealed_at : (table : Table) (at : ℕ) → block_at (with_each unsealed table) at ≡ unsealed (block_at table at)
unsealed_at table at = each_at unsealed refl table at

pub settled_free : (table : Table) → free_blocks (with_each settled table) ≡ free_blocks table
settled_free table = each_free settled (changed_keeps Live refl) table

pub unsealed_free : (table : Table) → free_blocks (with_each unsealed table) ≡ free_blocks table
unsealed_free table = each_free unsealed (changed_keeps Dirty refl) table

pub settled_used : (table : Table) → used_of (with_each settled table).slots ≡ used_of table.slots
settled_used table = each_used settled (changed_keeps Live refl) table.slots

pub unsealed_used : (table : Table) → used_of (with_each unsealed table).slots ≡ used_of table.slots
unsealed_used table = each_used unsealed (changed_keeps Dirty refl) table.slots

-- ---- every block that isn't Free stays there to be read, so that each tree stands as it stood

module _ (change : BlockSlot → BlockSlot) (free : change free_slot ≡ free_slot) (keeps : (slot : BlockSlot) → is_free (change slot).state ≡ is_free slot.state) (bytes : (slot : BlockSlot) → (change slot).bytes ≡ slot.bytes) where
  still_taken : (table : Table) (at : ℕ) → IsTaken table at → IsTaken (with_each change table) at
  still_taken table at is = record {
    allowed = subst (λ (n : ℕ). IsAllowed n at) (sym (each_size change table)) is.allowed;
    taken = λ gone. true≢false (sym (ap is_free gone) ∙ (ap (λ (slot : BlockSlot). is_free slot.state) (each_at change free table at) ∙ keeps (block_at table at) ∙ taken_state (block_at table at).state is.taken));
  }

  each_readable : (table : Table) (reach : List ℕ) → All (IsTaken table) reach → AreReadable table (with_each change table) reach
  each_readable table reach taken =
      All-weaker (IsTaken table) (λ (at : ℕ). IsTaken (with_each change table) at × ((block_at (with_each change table) at).bytes ≡ (block_at table at).bytes))
      (λ at is. (still_taken table at is, ap (λ (slot : BlockSlot). slot.bytes) (each_at change free table at) ∙ bytes (block_at table at))) reach taken

pub settled_readable : (table : Table) (reach : List ℕ) → All (IsTaken table) reach → AreReadable table (with_each settled table) reach
settled_readable table reach taken = each_readable settled refl (changed_keeps Live refl) settled_bytes table reach taken

pub unsealed_readable : (table : Table) (reach : List ℕ) → All (IsTaken table) reach → AreReadable table (with_each unsealed table) reach
unsealed_readable table reach taken = each_readable unsealed refl (changed_keeps Dirty refl) unsealed_bytes table reach taken

-- ---- no list has a block

out_where : (b : Bool) (slots : List BlockSlot) (i : ℕ) → All IsBack slots → IsBack (if b then slice_index_or slots i free_slot else free_slot)
out_where false slots i none = record { sealed = λ _. refl; let_go = λ _. refl }
out_where true slots i none = elim (cases_lt i (length slots)) [
  | inl inside ↦ All-get_or IsBack slots i free_slot inside none
  | inr past ↦ subst IsBack (sym (get_or_past slots i free_slot past)) (record { sealed = λ _. refl; let_go = λ _. refl })
]

pub none_out_at : (table : Table) → NoneOut table → (at : ℕ) → IsBack (block_at table at)
none_out_at table none at = out_where (at % 4096 == 0) table.slots (at / 4096) none

pub block_of : (table : Table) (number : ℕ) → block_at table (number * 4096) ≡ slice_index_or table.slots number free_slot
block_of table number =
    let whole : number * 4096 % 4096 ≡ 0 = omega arith in
    let same : number * 4096 / 4096 ≡ number = omega arith in
    ap (λ (b : Bool). if b then slice_index_or table.slots (number * 4096 / 4096) free_slot else free_slot) (eq-eqb (number * 4096 % 4096) 0 whole)
    ∙ ap (λ (i : ℕ). slice_index_or table.slots i free_slot) same

pub none_out_from : (table : Table) → ((at : ℕ) → IsBack (block_at table at)) → NoneOut table
none_out_from table each =
    All-from_get_or IsBack table.slots free_slot (λ i inside. subst IsBack (block_of table i) (each (i * 4096)))

-- ---- the blocks in front of a number are changed, and the others aren't yet

abbrev pub so_far : (BlockSlot → BlockSlot) → Table → ℕ → Table
so_far change table number =
    record table { slots = map change (take number table.slots) ++ drop number table.slots }

pub so_far_none : (change : BlockSlot → BlockSlot) (table : Table) → so_far change table 0 ≡ table
so_far_none change table = refl

pub so_far_all : (change : BlockSlot → BlockSlot) (table : Table) (number : ℕ) → length table.slots ≤ number → so_far change table number ≡ with_each change table
so_far_all change table number past =
    ap (λ (slots : List BlockSlot). record table { slots = slots }) (
    ap (λ (l : List BlockSlot). map change l ++ drop number table.slots) (take_all number table.slots past)
    ∙ ap (λ (l : List BlockSlot). map change table.slots ++ l) (drop_all number table.slots past) ∙ append-nil (map change table.slots)
    )

module _ (change : BlockSlot → BlockSlot) (table : Table) (number : ℕ) (inside : number < length table.slots) where
  pub so_far_long : length (so_far change table number).slots ≡ length table.slots
  so_far_long =
      omega (arith, length-append (map change (take number table.slots)) (drop number table.slots), length-map (take number table.slots) change, length-take number table.slots, length-drop number table.slots)

  pub so_far_here : block_at (so_far change table number) (number * 4096) ≡ slice_index_or table.slots number free_slot
  so_far_here =
      let long : length (map change (take number table.slots)) ≡ number = omega (arith, length-map (take number table.slots) change, length-take number table.slots, inside) in
      block_of (so_far change table number) number
      ∙ ap (λ (l : List BlockSlot). slice_index_or (map change (take number table.slots) ++ l) number free_slot) (drop_more table.slots number free_slot inside)
      ∙ get_or_at (map change (take number table.slots)) (slice_index_or table.slots number free_slot) (drop (number + 1) table.slots) free_slot number long

  pub so_far_more : with_slot (so_far change table number) (at_number number) (change (block_at (so_far change table number) (number * 4096))) ≡ so_far change table (number + 1)
  so_far_more =
      let slots : List BlockSlot = (so_far change table number).slots in
      let slot : BlockSlot = slice_index_or slots number free_slot in
      let here : block_at (so_far change table number) (number * 4096) ≡ slot = block_of (so_far change table number) number in
      let same : number * 4096 / 4096 ≡ number = omega arith in
      let read : slot ≡ slice_index_or slots number slot = get_or_default slots number free_slot slot (omega (arith, so_far_long, inside)) in
      ap (λ (l : List BlockSlot). record table { slots = l }) (
      ap (λ (s : BlockSlot). slice_set slots (number * 4096 / 4096) (change s)) here ∙ ap (λ (i : ℕ). slice_set slots i (change slot)) same
      ∙ map_over_more change table.slots slots number slot inside refl read
      )

  module _ (now : Table) (at : Addr) (h : now ≡ so_far change table number) (is : at ≡ at_number number) where
    here_is : slot_at now at ≡ slice_index_or table.slots number free_slot
    here_is = ap (λ (t : Table). slot_at t at) h ∙ ap (slot_at (so_far change table number)) is ∙ so_far_here

    -- the block with this number is as it was
    pub step_out : NoneOut table → IsBack (slot_at now at)
    step_out none =
        subst IsBack (sym here_is) (All-get_or IsBack table.slots number free_slot inside none)

    -- and it is changed
    pub step : (new : Table) → new ≡ with_slot now at (change (slot_at now at)) → new ≡ so_far change table (number + 1)
    step new changed =
        changed ∙ ap (λ (t : Table). with_slot t at (change (slot_at t at))) h
        ∙ ap (λ (a : Addr). with_slot (so_far change table number) a (change (slot_at (so_far change table number) a))) is ∙ so_far_more
