-- Steps on single blocks of the table are edits.
use Rattle.std.proofs.Common.{◌≡◌, ◌≢◌, ◌+◌, ℕ, List, [], ◌∷◌, length, refl, ap, sym, subst, None, arith, inl, inr, Ok, Err, Result}
use Rattle.blk_base.specs.declared.key.Addr.{Addr}
use Rattle.blk_base.specs.declared.fault.BlockFault.{BlockFault}
use Rattle.blk_base.specs.Address.{IsAllowed}
use Rattle.blk_base.specs.Leaf.{leaf_body_of, node_body_of}
use Rattle.block_table.specs.declared.state.SlotState.TheVariants.{Free, Dirty, LetGo}
use Rattle.block_table.specs.Slot.{free_slot, is_free}
use Rattle.block_table.specs.Table.{Table, slot_at, state_at, with_slot, with_spare}
use Rattle.block_table.specs.TreeIn.{block_at}
use Rattle.block_table.proofs.Kept.{taken_state}
use Rattle.tree_range.specs.Shape as shape
use Rattle.tree_range.specs.Shape.{leaf_items, node_pointers}
use Rattle.tree_blocks.specs.Lists as lists
use Rattle.tree_blocks.specs.Lists.{leaf_list, node_list, IsLeafBlock, IsNodeBlock}
use Rattle.tree_blocks.specs.Steps.{IsCopied, leaf_at, node_at}
use Rattle.tree_blocks.proofs.Put.{put_last, put_taken}
use Rattle.tree_frame.specs.Frame.{IsEdit, TakesAtMost}
use Rattle.tree_frame.proofs.EditLaws.{is_dirty, nothing_is_an_edit}
use Rattle.tree_frame.proofs.StepLaws.{copied_is_an_edit, let_go_is_an_edit}
use Rattle.tree_delete.specs.Ahead.{copies_of}
use Rattle.tree_delete.specs.Balance.{AreBalanced}
use Rattle.tree_delete.proofs.Ahead.{copies_one}

-- ---- the lists of a block

same_list : {A : Type 0} (r : Result (List A) BlockFault) → shape.listed r ≡ lists.listed r
same_list (Ok list) = refl
same_list (Err fault) = refl

pub node_same : (table : Table) (at : ℕ) → node_pointers table at ≡ node_at table at
unfolding node_pointers node_list
node_same table at = same_list (node_body_of (block_at table at).bytes)

pub leaf_same : (table : Table) (at : ℕ) → leaf_items table at ≡ leaf_at table at
unfolding leaf_items leaf_list
leaf_same table at = same_list (leaf_body_of (block_at table at).bytes)

-- ---- a block may be edited

-- what it takes that a block may be edited
pub record IsOwned (old new : Table) (at result : ℕ) : Type 0 where
  pub edit : IsEdit old new (at ∷ []) (result ∷ [])
  pub blocks : TakesAtMost old new (copies_of (block_at old at).state)
  pub balance : AreBalanced old new
  pub allowed : IsAllowed (length new.slots) at → IsAllowed (length new.slots) result

owned_dirty : (old new : Table) (at result : Addr) → result ≡ at → new ≡ old → IsOwned old new at.0 result.0
owned_dirty old new at result same table =
    let here : IsOwned old old at.0 at.0 = record { edit = nothing_is_an_edit old (at.0 ∷ []); blocks = record { spare = omega arith; free = omega arith }; balance = refl; allowed = λ h. h } in
    subst (λ (a : Addr). IsOwned old new at.0 a.0) (sym same) (subst (λ (t : Table). IsOwned old t at.0 at.0) (sym table) here)

owned_copy : (old new : Table) (at copy : ℕ) → (block_at old at).state ≢ Dirty → IsCopied old new at copy → IsOwned old new at copy
owned_copy old new at copy written h = record {
  edit = copied_is_an_edit old new at copy h written;
  blocks = let one = copies_one (block_at old at).state written in record { spare = omega (arith, one, h.spare); free = omega (arith, one, h.free) };
  balance = omega (arith, h.spare, h.free);
  allowed = λ _. subst (λ (n : ℕ). IsAllowed n copy) (sym h.others.size) h.taken.allowed;
}

pub owned : (old new : Table) (at result : Addr) → (state_at old at ≡ Dirty → result ≡ at) → (state_at old at ≡ Dirty → new ≡ old) → (state_at old at ≢ Dirty → IsCopied old new at.0 result.0) → IsOwned old new at.0 result.0
owned old new at result same table copied = elim (is_dirty (state_at old at)) [
  | inl dirty ↦ owned_dirty old new at result (same dirty) (table dirty)
  | inr other ↦ owned_copy old new at.0 result.0 other (copied other)
]

-- ---- a block is let go

pub record IsGone (old new : Table) (at : ℕ) : Type 0 where
  pub edit : IsEdit old new (at ∷ []) []
  pub blocks : TakesAtMost old new 0
  pub balance : AreBalanced old new

gone_dirty : (old new : Table) (at : Addr) → IsAllowed (length old.slots) at.0 → state_at old at ≡ Dirty → new ≡ with_spare (with_slot old at free_slot) (old.spare + 1) → TakesAtMost old new 0 × AreBalanced old new
gone_dirty old new at allowed dirty is =
    let free = put_last old new at (old.spare + 1) is allowed (ap is_free dirty) in
    let spare : new.spare ≡ old.spare + 1 = ap (λ (t : Table). t.spare) is in
    (record { spare = omega (arith, spare); free = omega (arith, free) }, omega (arith, spare, free))

gone_written : (old new : Table) (at : Addr) → state_at old at ≢ Free → new ≡ with_slot old at (record (slot_at old at) { state = LetGo; stood = None }) → TakesAtMost old new 0 × AreBalanced old new
gone_written old new at taken is =
    let free = put_taken old new at (record (slot_at old at) { state = LetGo; stood = None }) old.spare is (taken_state (state_at old at) taken) refl in
    let spare : new.spare ≡ old.spare = ap (λ (t : Table). t.spare) is in
    (record { spare = omega (arith, spare); free = omega (arith, free) }, omega (arith, spare, free))

pub gone : (old new : Table) (at : Addr) → IsAllowed (length old.slots) at.0 → state_at old at ≢ Free → (state_at old at ≡ Dirty → new ≡ with_spare (with_slot old at free_slot) (old.spare + 1)) → (state_at old at ≢ Dirty → new ≡ with_slot old at (record (slot_at old at) { state = LetGo; stood = None })) → IsGone old new at.0
gone old new at allowed taken dirty written =
    let both : TakesAtMost old new 0 × AreBalanced old new = elim (is_dirty (state_at old at)) [ inl is ↦ gone_dirty old new at allowed is (dirty is) | inr other ↦ gone_written old new at taken (written other) ] in
    record { edit = let_go_is_an_edit old new at taken dirty written; blocks = both.0; balance = both.1 }
