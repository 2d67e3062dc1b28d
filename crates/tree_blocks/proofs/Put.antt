-- One block of the table is replaced: what stands there then, what stays, and how many blocks are Free.
use Rattle.std.proofs.Common.{◌≡◌, ◌≢◌, ◌+◌, ◌-◌, ◌≤◌, ◌<◌, ◌/◌, ◌%◌, ◌∙◌, ℕ, zero, suc, List, [], ◌∷◌, length, slice_index_or, true, false, ap, sym, subst, refl, arith}
use Rattle.std.specs.Prelude.{Contains}
use Rattle.std.proofs.lemmas.Bool.Decides.{nat_tests}
use Rattle.std.proofs.lemmas.Bool.{eq-eqb}
use Rattle.std.proofs.lemmas.List.{length-set}
use Rattle.blk_base.specs.declared.key.Addr.{Addr}
use Rattle.blk_base.specs.Address.{IsAllowed}
use Rattle.block_table.specs.declared.state.SlotState.TheVariants.{Free, Dirty}
use Rattle.block_table.specs.Slot.{BlockSlot, free_slot, dirty_slot, is_free}
use Rattle.block_table.specs.Table.{Table, slot_at, state_at, with_slot, with_spare, free_blocks, free_one, is_free_block}
use Rattle.block_table.specs.TreeIn.{block_at}
use Rattle.block_table.proofs.Counts.{free_one-taken, free_one-free}
use Rattle.block_table.proofs.Laws.{slot_at-with_slot_same, slot_at-with_slot_other, free_blocks-with_slot}
use Rattle.block_table.proofs.Kept.{IsFound, found}
use Rattle.tree_blocks.specs.Steps.{IsSameBut}

same_sum : (a b x y : ℕ) → a + x ≡ b + y → x ≡ 0 → y ≡ 0 → a ≡ b
same_sum a b x y h p q = omega (arith, h, p, q)

one_less : (a b x y : ℕ) → a + x ≡ b + y → x ≡ 1 → y ≡ 0 → a + 1 ≡ b
one_less a b x y h p q = omega (arith, h, p, q)

one_more : (a b x y : ℕ) → a + x ≡ b + y → x ≡ 0 → y ≡ 1 → a ≡ b + 1
one_more a b x y h p q = omega (arith, h, p, q)

-- ---- lists of one and of two addresses

pub contains_first : (x : ℕ) (xs : List ℕ) (at : ℕ) → x ≡ at → Contains (x ∷ xs) at
contains_first x xs at e = (0, omega arith, e)

pub contains_second : (x y at : ℕ) → y ≡ at → Contains (x ∷ y ∷ []) at
contains_second x y at e = (1, omega arith, e)

one_at : (x at k : ℕ) → k < length (x ∷ []) → slice_index_or (x ∷ []) k at ≡ at → x ≡ at
one_at x at zero inside is = is
one_at x at (suc k) inside is = absurd (omega (arith, inside))

pub contains_one : (x at : ℕ) → Contains (x ∷ []) at → x ≡ at
contains_one x at h = one_at x at h.0 h.1 h.2

-- every block but one is as it was
pub same_at : (old new : Table) (x at : ℕ) → IsSameBut old new (x ∷ []) → x ≢ at → block_at new at ≡ block_at old at
same_at old new x at same apart = same.others at (λ h. apart (contains_one x at h))

-- every block but two
pub same_join : (old mid new : Table) (x y : ℕ) → IsSameBut old mid (x ∷ []) → IsSameBut mid new (y ∷ []) → IsSameBut old new (x ∷ y ∷ [])
same_join old mid new x y one two = record {
  size = two.size ∙ one.size;
  lists = two.lists ∙ one.lists;
  others = λ at apart. same_at mid new y at two (λ e. apart (contains_second x y at e)) ∙ same_at old mid x at one (λ e. apart (contains_first x (y ∷ []) at e));
}

pub same_join_back : (old mid new : Table) (x y : ℕ) → IsSameBut old mid (y ∷ []) → IsSameBut mid new (x ∷ []) → IsSameBut old new (x ∷ y ∷ [])
same_join_back old mid new x y one two = record {
  size = two.size ∙ one.size;
  lists = two.lists ∙ one.lists;
  others = λ at apart. same_at mid new x at two (λ e. apart (contains_first x (y ∷ []) at e)) ∙ same_at old mid y at one (λ e. apart (contains_second x y at e));
}

-- ---- a block is replaced

module _ (table new : Table) (at : Addr) (slot : BlockSlot) (spare : ℕ) (is : new ≡ with_spare (with_slot table at slot) spare) (aligned : at.0 % 4096 ≡ 0) (inside : at.0 / 4096 < length table.slots) where
  pub put_slot : block_at new at.0 ≡ slot
  put_slot = rw is (slot_at-with_slot_same table at slot aligned inside)

  pub put_others : IsSameBut table new (at.0 ∷ [])
  put_others = record {
    size = ap (λ (t : Table). length t.slots) is ∙ length-set table.slots (at.0 / 4096) slot;
    lists = ap (λ (t : Table). t.lists) is;
    others = λ other apart. ap (λ (t : Table). block_at t other) is ∙ slot_at-with_slot_other table at (record { 0 = other }) slot aligned (λ e. apart (contains_first at.0 [] other (sym e)));
  }

  counts : free_blocks new + free_one (at.0 / 4096) (slice_index_or table.slots (at.0 / 4096) free_slot) ≡ free_blocks table + free_one (at.0 / 4096) slot
  counts = rw is (free_blocks-with_slot table at slot inside)

there : (table : Table) (at : Addr) → at.0 % 4096 ≡ 0 → slot_at table at ≡ slice_index_or table.slots (at.0 / 4096) free_slot
there table at aligned = rw (eq-eqb (at.0 % 4096) 0 aligned) refl

taken_one : (table : Table) (at : Addr) → is_free (state_at table at) ≡ false → free_one (at.0 / 4096) (slice_index_or table.slots (at.0 / 4096) free_slot) ≡ 0
taken_one table at taken =
    free_one-taken (at.0 / 4096) (slice_index_or table.slots (at.0 / 4096) free_slot) (subst (λ (slot : BlockSlot). is_free slot.state ≡ false) (found table at taken).is taken)

counted : (number : ℕ) (slot : BlockSlot) → 17 ≤ number → number ≢ 16384 → is_free slot.state ≡ true → is_free_block number slot ≡ true
counted number slot behind no_copy state = grind (arith, nat_tests)

free_here : (blocks : ℕ) (at : Addr) (slot : BlockSlot) → IsAllowed blocks at.0 → is_free slot.state ≡ true → free_one (at.0 / 4096) slot ≡ 1
free_here blocks at slot allowed free =
    free_one-free (at.0 / 4096) slot (counted (at.0 / 4096) slot allowed.behind_super allowed.no_copy free)

-- a block that isn't Free is replaced by one that isn't
pub put_taken : (table new : Table) (at : Addr) (slot : BlockSlot) (spare : ℕ) → new ≡ with_spare (with_slot table at slot) spare → is_free (state_at table at) ≡ false → is_free slot.state ≡ false → free_blocks new ≡ free_blocks table
put_taken table new at slot spare is taken still =
    same_sum _ _ _ _ (counts table new at slot spare is (found table at taken).aligned (found table at taken).inside) (taken_one table at taken) (free_one-taken (at.0 / 4096) slot still)

-- a Free block is taken
pub put_first : (table new : Table) (at : Addr) (slot : BlockSlot) (spare : ℕ) → new ≡ with_spare (with_slot table at slot) spare → IsAllowed (length table.slots) at.0 → state_at table at ≡ Free → is_free slot.state ≡ false → free_blocks new + 1 ≡ free_blocks table
put_first table new at slot spare is allowed free taken =
    let was : is_free (slice_index_or table.slots (at.0 / 4096) free_slot).state ≡ true = ap (λ (slot : BlockSlot). is_free slot.state) (sym (there table at allowed.aligned)) ∙ ap is_free free in
    one_less _ _ _ _ (counts table new at slot spare is allowed.aligned allowed.inside) (free_here (length table.slots) at (slice_index_or table.slots (at.0 / 4096) free_slot) allowed was) (free_one-taken (at.0 / 4096) slot taken)

-- a block is Free again
pub put_last : (table new : Table) (at : Addr) (spare : ℕ) → new ≡ with_spare (with_slot table at free_slot) spare → IsAllowed (length table.slots) at.0 → is_free (state_at table at) ≡ false → free_blocks new ≡ free_blocks table + 1
put_last table new at spare is allowed taken =
    one_more _ _ _ _ (counts table new at free_slot spare is allowed.aligned allowed.inside) (taken_one table at taken) (free_here (length table.slots) at free_slot allowed refl)

-- ---- a Dirty block has other bytes

abbrev pub rebytes : Table → Addr → List ℕ → Table
rebytes table at bytes = with_slot table at (record (slot_at table at) { bytes = bytes })

module _ (table : Table) (at : Addr) (bytes : List ℕ) (dirty : state_at table at ≡ Dirty) where
  place : IsFound table at
  place = found table at (ap is_free dirty)

  pub written_slot : block_at (rebytes table at bytes) at.0 ≡ record (slot_at table at) { bytes = bytes }
  written_slot =
      put_slot table (rebytes table at bytes) at (record (slot_at table at) { bytes = bytes }) table.spare refl place.aligned place.inside

  pub written_bytes : (block_at (rebytes table at bytes) at.0).bytes ≡ bytes
  written_bytes = ap (λ (slot : BlockSlot). slot.bytes) written_slot

  pub written_state : (block_at (rebytes table at bytes) at.0).state ≡ Dirty
  written_state = ap (λ (slot : BlockSlot). slot.state) written_slot ∙ dirty

  pub written_others : IsSameBut table (rebytes table at bytes) (at.0 ∷ [])
  written_others =
      put_others table (rebytes table at bytes) at (record (slot_at table at) { bytes = bytes }) table.spare refl place.aligned place.inside

  pub written_free : free_blocks (rebytes table at bytes) ≡ free_blocks table
  written_free =
      put_taken table (rebytes table at bytes) at (record (slot_at table at) { bytes = bytes }) table.spare refl (ap is_free dirty) (ap is_free dirty)

-- a Free block is taken, and then has these bytes
pub taken_free : (table new : Table) (at : Addr) (bytes : List ℕ) → new ≡ with_spare (with_slot table at (dirty_slot (slot_at new at).bytes)) (table.spare - 1) → IsAllowed (length table.slots) at.0 → state_at table at ≡ Free → free_blocks (rebytes new at bytes) + 1 ≡ free_blocks table
taken_free table new at bytes is allowed free =
    let slot : BlockSlot = dirty_slot (slot_at new at).bytes in
    let here : block_at new at.0 ≡ slot = put_slot table new at slot (table.spare - 1) is allowed.aligned allowed.inside in
    ap (λ (n : ℕ). n + 1) (written_free new at bytes (ap (λ (slot : BlockSlot). slot.state) here)) ∙ put_first table new at slot (table.spare - 1) is allowed free refl
