-- Free blocks that are taken one behind the other.
use Rattle.std.proofs.Common.{◌≡◌, ◌≢◌, ◌≤◌, ◌<◌, ◌+◌, ◌*◌, ◌/◌, ◌%◌, ℕ, zero, suc, true, false, List, [], ◌∷◌, length, slice_index_or, refl, sym, ap, subst, ◌∙◌, arith, inl, inr}
use Rattle.std.specs.Prelude.{◌&&◌, ◌==◌, Contains, nat_le, not}
use Rattle.std.proofs.lemmas.Bool.{and_right, cases_eq, cases_lt, eq-eqb, true≢false}
use Rattle.std.proofs.lemmas.Bool.Decides.{nat_tests}
use Rattle.blk_base.specs.Address.{IsAllowed}
use Rattle.blk_base.specs.Trees.{NoneTwice}
use Rattle.blk_base.proofs.Members.{in_cons, in_head, in_nothing, in_one, in_tail}
use Rattle.block_table.specs.declared.state.SlotState.TheVariants.{Dirty, Free}
use Rattle.block_table.specs.Slot.{BlockSlot, dirty_slot, free_slot, is_free}
use Rattle.block_table.specs.Table.{NoneFree, Table, free_blocks, is_free_block}
use Rattle.block_table.specs.TreeIn.{block_at}
use Rattle.tree_blocks.specs.Steps.{IsSameBut, IsTakenAt}
use Rattle.volume_image.specs.Subvolume.{run_addresses}
use Rattle.file_extents.specs.Extents.{AreTakenAt}

-- ---- the blocks of a run

-- the place of a block in a run
pub record IsInRun (at count x : ℕ) : Type 0 where
  pub place : ℕ
  pub low : place < count
  pub is : x ≡ at + 4096 * place

pub run_place : (at count x : ℕ) → Contains (run_addresses at count) x → IsInRun at count x
run_place at zero x c = absurd (in_nothing x c)
run_place at (suc count) x c = elim (in_cons at x (run_addresses (at + 4096) count) c) [
  | inl here ↦ record { place = 0; low = omega arith; is = omega (arith, here) }
  | inr there ↦ let p = run_place (at + 4096) count x there in record { place = p.place + 1; low = omega (arith, p.low); is = omega (arith, p.is) }
]

pub in_run : (at count x i : ℕ) → i < count → x ≡ at + 4096 * i → Contains (run_addresses at count) x
in_run at zero x i low is = absurd (omega (arith, low))
in_run at (suc count) x zero low is = in_head at x (run_addresses (at + 4096) count) (omega (arith, is))
in_run at (suc count) x (suc i) low is = in_tail at x (run_addresses (at + 4096) count) (in_run (at + 4096) count x i (omega (arith, low)) (omega (arith, is)))

pub run_once : (at count : ℕ) → NoneTwice (run_addresses at count)
run_once at zero = tt
run_once at (suc count) = ((λ c. let p = run_place (at + 4096) count at c in omega (arith, p.is)), run_once (at + 4096) count)

-- ---- the first Free block

slot_of : (table : Table) (x : ℕ) → x % 4096 ≡ 0 → block_at table x ≡ slice_index_or table.slots (x / 4096) free_slot
slot_of table x aligned = rw (eq-eqb (x % 4096) 0 aligned) refl

counts : (number : ℕ) (slot : BlockSlot) → 17 ≤ number → number ≢ 16384 → is_free slot.state ≡ true → is_free_block number slot ≡ true
counts number slot behind no_copy state = grind (arith, nat_tests)

uncounted : (number : ℕ) (slot : BlockSlot) → is_free slot.state ≡ false → is_free_block number slot ≡ false
uncounted number slot taken =
    and_right (nat_le 17 number && not (number == 16384)) (is_free slot.state) taken

-- a Free block that a volume may use is none of those below which none is
not_below : (table : Table) (x n : ℕ) → IsAllowed (length table.slots) x → (block_at table x).state ≡ Free → NoneFree table.slots 0 n → n ≤ x / 4096
not_below table x n allowed free none = elim (cases_lt (x / 4096) n) [
  | inl low ↦
      let state = ap (λ (slot : BlockSlot). is_free slot.state) (sym (slot_of table x allowed.aligned)) ∙ ap is_free free in
      let usable = counts (x / 4096) (slice_index_or table.slots (x / 4096) free_slot) allowed.behind_super allowed.no_copy state in
      absurd (true≢false (sym usable ∙ none (x / 4096) (omega arith) low allowed.inside))
  | inr high ↦ high
]

-- the first Free block is one below which none is
pub first_is : (table : Table) (x y : ℕ) → IsAllowed (length table.slots) x → (block_at table x).state ≡ Free → NoneFree table.slots 0 (x / 4096)
    → IsAllowed (length table.slots) y → (block_at table y).state ≡ Free → NoneFree table.slots 0 (y / 4096) → x ≡ y
first_is table x y x_allowed x_free x_first y_allowed y_free y_first =
    omega (arith, not_below table x (y / 4096) x_allowed x_free y_first, not_below table y (x / 4096) y_allowed y_free x_first, x_allowed.aligned, y_allowed.aligned)

-- once the first Free block is taken, none is up to it
pub none_up_to : (old new : Table) (x n m : ℕ) → IsTakenAt old new x → IsSameBut old new (x ∷ []) → x / 4096 ≡ n → m ≡ n + 1 → NoneFree old.slots 0 n → NoneFree new.slots 0 m
none_up_to old new x n m taken others is next none number low high inside = elim (cases_eq number n) [
  | inl same ↦
      let here : x / 4096 ≡ number = omega (arith, is, same) in
      let slot : block_at new x ≡ slice_index_or new.slots number free_slot = slot_of new x taken.allowed.aligned ∙ ap (λ (k : ℕ). slice_index_or new.slots k free_slot) here in
      let dirty : (slice_index_or new.slots number free_slot).state ≡ Dirty = ap (λ (s : BlockSlot). s.state) (sym slot) ∙ ap (λ (s : BlockSlot). s.state) taken.dirty in
      uncounted number (slice_index_or new.slots number free_slot) (ap is_free dirty)
  | inr other ↦
      let at : ℕ = 4096 * number in
      let apart : x ≢ at = λ e. other (omega (arith, e, is)) in
      let number_is : at / 4096 ≡ number = omega arith in
      let was = slot_of old at (omega arith) ∙ ap (λ (k : ℕ). slice_index_or old.slots k free_slot) number_is in
      let now = slot_of new at (omega arith) ∙ ap (λ (k : ℕ). slice_index_or new.slots k free_slot) number_is in
      let same = sym now ∙ others.others at (λ c. apart (in_one x at c)) ∙ was in
      ap (is_free_block number) same ∙ none number low (omega (arith, high, next, other)) (omega (arith, inside, others.size))
]

-- ---- one block, and one more

pub taken_one : (old new : Table) (at : ℕ) (bytes : ℕ → List ℕ) → IsTakenAt old new at → (block_at new at).bytes ≡ bytes 0 → IsSameBut old new (at ∷ []) → new.spare + 1 ≡ old.spare → free_blocks new + 1 ≡ free_blocks old → AreTakenAt old new at 1 bytes
taken_one old new at bytes taken filled others spare free = record {
  taken = λ i low. subst (IsTakenAt old new) (omega (arith, low)) taken;
  filled = λ i low.
      let place : at + 4096 * i ≡ at = omega (arith, low) in
      let first : 0 ≡ i = omega (arith, low) in
      ap (λ (x : ℕ). (block_at new x).bytes) place ∙ filled ∙ ap bytes first;
  others = others;
  spare = spare;
  free = free;
}

module _ (old mid new : Table) (at n x : ℕ) (bytes : ℕ → List ℕ) (were : AreTakenAt old mid at n bytes) (is : x ≡ at + 4096 * n) (taken : IsTakenAt mid new x) (filled : (block_at new x).bytes ≡ bytes n)
    (others : IsSameBut mid new (x ∷ [])) (spare : new.spare + 1 ≡ mid.spare) (free : free_blocks new + 1 ≡ free_blocks mid) where
  stays : (y : ℕ) → x ≢ y → block_at new y ≡ block_at mid y
  stays y apart = others.others y (λ c. apart (in_one x y c))

  old_taken : (i : ℕ) → i < n → IsTakenAt old new (at + 4096 * i)
  old_taken i low =
      let was = were.taken i low in
      record {
        allowed = was.allowed;
        was_free = was.was_free;
        dirty = subst (λ (slot : BlockSlot). slot ≡ dirty_slot slot.bytes) (sym (stays (at + 4096 * i) (λ e. omega (arith, e, is, low)))) was.dirty;
      }

  new_taken : IsTakenAt old new x
  new_taken = record {
    allowed = subst (λ (k : ℕ). IsAllowed k x) were.others.size taken.allowed;
    was_free = ap (λ (slot : BlockSlot). slot.state) (sym (were.others.others x (λ c. let p = run_place at n x c in omega (arith, p.low, p.is, is)))) ∙ taken.was_free;
    dirty = taken.dirty;
  }

  pub taken_more : AreTakenAt old new at (n + 1) bytes
  taken_more = record {
    taken = λ i low. elim (cases_lt i n) [
      | inl less ↦ old_taken i less
      | inr last ↦ subst (IsTakenAt old new) (omega (arith, is, last, low)) new_taken
    ];
    filled = λ i low. elim (cases_lt i n) [
      | inl less ↦ ap (λ (slot : BlockSlot). slot.bytes) (stays (at + 4096 * i) (λ e. omega (arith, e, is, less))) ∙ were.filled i less
      | inr last ↦
          let place : at + 4096 * i ≡ x = omega (arith, is, last, low) in
          let number : n ≡ i = omega (arith, last, low) in
          ap (λ (y : ℕ). (block_at new y).bytes) place ∙ filled ∙ ap bytes number
    ];
    others = record {
      size = others.size ∙ were.others.size;
      lists = others.lists ∙ were.others.lists;
      others = λ y none.
          stays y (λ e. none (in_run at (n + 1) y n (omega arith) (omega (arith, e, is))))
          ∙ were.others.others y (λ c. let p = run_place at n y c in none (in_run at (n + 1) y p.place (omega (arith, p.low)) p.is));
    };
    spare = omega (arith, spare, were.spare);
    free = omega (arith, free, were.free);
  }
