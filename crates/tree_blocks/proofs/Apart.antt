-- Steps that change two blocks of the table.
use Rattle.std.proofs.Common.{◌≡◌, ◌≢◌, ◌+◌, ◌∙◌, ℕ, List, [], ◌∷◌, length, ap, sym, subst, refl}
use Rattle.std.specs.Prelude.{None}
use Rattle.blk_base.specs.declared.key.Addr.{Addr}
use Rattle.blk_base.specs.Address.{IsAllowed}
use Rattle.block_table.specs.declared.state.SlotState.TheVariants.{Free, Dirty, LetGo}
use Rattle.block_table.specs.Slot.{BlockSlot, free_slot, dirty_slot, is_free}
use Rattle.block_table.specs.Table.{Table, slot_at, state_at, with_slot, with_spare, free_blocks}
use Rattle.block_table.specs.TreeIn.{block_at}
use Rattle.block_table.proofs.Kept.{IsFound, found, taken_state}
use Rattle.tree_blocks.specs.Steps.{IsSameBut, IsTakenAt, IsCopied}
use Rattle.tree_blocks.proofs.Put.{put_slot, put_others, put_taken, put_last, same_at, same_join, same_join_back, rebytes, written_slot, written_bytes, written_state, written_others, written_free}

-- a block that isn't Free isn't one that is
pub not_free : (table : Table) (at other : ℕ) → (block_at table at).state ≢ Free → (block_at table other).state ≡ Free → other ≢ at
not_free table at other taken free e =
    taken (sym (ap (λ n. (block_at table n).state) e) ∙ free)

dirty_taken : (table : Table) (at : ℕ) → (block_at table at).state ≡ Dirty → (block_at table at).state ≢ Free
dirty_taken table at dirty free = cc

other_number : (left right : Addr) → left ≢ right → right.0 ≢ left.0
other_number left right apart e = apart (ap (λ n. record { 0 = n }) (sym e))

-- ---- a block has other bytes, and then one that was Free is taken

module _ (table new : Table) (at : Addr) (other : ℕ) (bytes : List ℕ) (dirty : state_at table at ≡ Dirty) (taken : IsTakenAt (rebytes table at bytes) new other) (others : IsSameBut (rebytes table at bytes) new (other ∷ [])) where
  here : block_at new at.0 ≡ block_at (rebytes table at bytes) at.0
  here =
      same_at (rebytes table at bytes) new other at.0 others (not_free (rebytes table at bytes) at.0 other (dirty_taken (rebytes table at bytes) at.0 (written_state table at bytes dirty)) taken.was_free)

  pub first_bytes : (block_at new at.0).bytes ≡ bytes
  first_bytes = ap (λ (slot : BlockSlot). slot.bytes) here ∙ written_bytes table at bytes dirty

  pub first_state : (block_at new at.0).state ≡ Dirty
  first_state = ap (λ (slot : BlockSlot). slot.state) here ∙ written_state table at bytes dirty

  pub second_state : (block_at new other).state ≡ Dirty
  second_state = ap (λ (slot : BlockSlot). slot.state) taken.dirty

  pub both_others : IsSameBut table new (at.0 ∷ other ∷ [])
  both_others =
      same_join table (rebytes table at bytes) new at.0 other (written_others table at bytes dirty) others

-- ---- a block has other bytes, and then a Dirty one is let go

module _ (table new : Table) (left right : Addr) (bytes : List ℕ) (dirty : state_at table left ≡ Dirty) (right_dirty : state_at table right ≡ Dirty) (apart : left ≢ right) (is : state_at (rebytes table left bytes) right ≡ Dirty → new ≡ with_spare (with_slot (rebytes table left bytes) right free_slot) (table.spare + 1)) where
  right_state : state_at (rebytes table left bytes) right ≡ Dirty
  right_state =
      ap (λ (slot : BlockSlot). slot.state) (same_at table (rebytes table left bytes) left.0 right.0 (written_others table left bytes dirty) (λ e. other_number left right apart (sym e))) ∙ right_dirty

  place : IsFound (rebytes table left bytes) right
  place = found (rebytes table left bytes) right (ap is_free right_state)

  left_here : block_at new left.0 ≡ block_at (rebytes table left bytes) left.0
  left_here =
      same_at (rebytes table left bytes) new right.0 left.0 (put_others (rebytes table left bytes) new right free_slot (table.spare + 1) (is right_state) place.aligned place.inside) (other_number left right apart)

  pub joined_bytes : (block_at new left.0).bytes ≡ bytes
  joined_bytes = ap (λ (slot : BlockSlot). slot.bytes) left_here ∙ written_bytes table left bytes dirty

  pub joined_state : (block_at new left.0).state ≡ Dirty
  joined_state = ap (λ (slot : BlockSlot). slot.state) left_here ∙ written_state table left bytes dirty

  pub joined_kept : block_at new left.0 ≡ record (block_at table left.0) { bytes = (block_at new left.0).bytes }
  joined_kept =
      left_here ∙ (written_slot table left bytes dirty ∙ ap (λ (bytes : List ℕ). record (slot_at table left) { bytes = bytes }) (sym joined_bytes))

  pub joined_free : IsAllowed (length table.slots) right.0 → free_blocks new ≡ free_blocks table + 1
  joined_free allowed =
      put_last (rebytes table left bytes) new right (table.spare + 1) (is right_state) (subst (λ (n : ℕ). IsAllowed n right.0) (sym (written_others table left bytes dirty).size) allowed) (ap is_free right_state) ∙ ap (λ (n : ℕ). n + 1) (written_free table left bytes dirty)

-- ---- a block is copied to one that was Free, and let go

module _ (table mid new : Table) (at : Addr) (copy : ℕ) (bytes : List ℕ) (taken : state_at table at ≢ Free) (not_dirty : state_at table at ≢ Dirty) (fresh : IsTakenAt table mid copy) (same_bytes : (block_at mid copy).bytes ≡ bytes) (is_bytes : bytes ≡ (slot_at table at).bytes) (others : IsSameBut table mid (copy ∷ [])) (spare : mid.spare + 1 ≡ table.spare) (free : free_blocks mid + 1 ≡ free_blocks table) (is : state_at mid at ≢ Dirty → new ≡ with_slot mid at (record (slot_at mid at) { state = LetGo; stood = None })) where
  kept : block_at mid at.0 ≡ block_at table at.0
  kept = same_at table mid copy at.0 others (not_free table at.0 copy taken fresh.was_free)

  mid_taken : state_at mid at ≢ Free
  mid_taken free' = taken (sym (ap (λ (slot : BlockSlot). slot.state) kept) ∙ free')

  gone : new ≡ with_slot mid at (record (slot_at mid at) { state = LetGo; stood = None })
  gone = is (λ dirty. not_dirty (sym (ap (λ (slot : BlockSlot). slot.state) kept) ∙ dirty))

  found_at : IsFound mid at
  found_at = found mid at (taken_state (state_at mid at) mid_taken)

  gone_others : IsSameBut mid new (at.0 ∷ [])
  gone_others =
      put_others mid new at (record (slot_at mid at) { state = LetGo; stood = None }) mid.spare gone found_at.aligned found_at.inside

  copy_here : block_at new copy ≡ block_at mid copy
  copy_here =
      same_at mid new at.0 copy gone_others (λ e. not_free table at.0 copy taken fresh.was_free (sym e))

  copy_dirty : block_at new copy ≡ dirty_slot (block_at new copy).bytes
  copy_dirty =
      copy_here ∙ (fresh.dirty ∙ ap (λ (slot : BlockSlot). dirty_slot slot.bytes) (sym copy_here))

  pub copied : IsCopied table new at.0 copy
  copied = record {
    taken = record { allowed = fresh.allowed; was_free = fresh.was_free; dirty = copy_dirty };
    bytes = ap (λ (slot : BlockSlot). slot.bytes) copy_here ∙ (same_bytes ∙ is_bytes);
    let_go = put_slot mid new at (record (slot_at mid at) { state = LetGo; stood = None }) mid.spare gone found_at.aligned found_at.inside ∙ ap (λ (slot : BlockSlot). record slot { state = LetGo; stood = None }) kept;
    others = same_join_back table mid new at.0 copy others gone_others;
    spare = ap (λ (t : Table). t.spare + 1) gone ∙ spare;
    free = ap (λ (n : ℕ). n + 1) (put_taken mid new at (record (slot_at mid at) { state = LetGo; stood = None }) mid.spare gone (taken_state (state_at mid at) mid_taken) refl) ∙ free;
  }
