-- The table once the list of a commit is back.
use Rattle.std.proofs.Common.{◌≡◌, ◌∙◌, ◌+◌, ◌/◌, ◌%◌, ◌==◌, true, false, ℕ, Bool, List, [], ◌∷◌, length, map, refl, sym, ap, subst, inl, inr, eq-eqb, if◌then◌else◌}
use Rattle.std.specs.Prelude.{◌⊎◌, Contains, slice_index_or}
use Rattle.blk_base.specs.Trees.{AtBlock}
use Rattle.block_table.specs.Blocks.{BlockList}
use Rattle.block_table.specs.Slot.{BlockSlot, free_slot}
use Rattle.block_table.specs.Table.{Table, all_back}
use Rattle.block_table.specs.TreeIn.{block_at}
use Rattle.block_table.proofs.Laws.{IsBack, all_back-keeps, all_back-out}
use Rattle.table_commit.specs.Commit.{NoneOut}
use Rattle.table_commit.proofs.Settled.{none_out_from}
use Rattle.volume_image.proofs.Members.{in_map}
use Rattle.commit_blocks.specs.Steps.{IsHanded}

-- the table that has its list back
abbrev pub backed : Table → List AtBlock → Table
backed table pairs = record { slots = all_back table.slots pairs; spare = table.spare; lists = table.lists + 1 }

where_whole : (b : Bool) (slots : List BlockSlot) (pairs : List AtBlock) (number : ℕ) → IsBack (if b then slice_index_or slots number free_slot else free_slot) (if b then slice_index_or (all_back slots pairs) number free_slot else free_slot)
where_whole true slots pairs number = all_back-keeps slots pairs number
where_whole false slots pairs number = record { same = refl; stays = λ h. h }

pub back_block : (table : Table) (pairs : List AtBlock) (at : ℕ) → IsBack (block_at table at) (block_at (backed table pairs) at)
back_block table pairs at = where_whole (at % 4096 == 0) table.slots pairs (at / 4096)

pub back_state : (table : Table) (pairs : List AtBlock) (at : ℕ) → (block_at (backed table pairs) at).state ≡ (block_at table at).state
back_state table pairs at = ap (λ (slot : BlockSlot). slot.state) (back_block table pairs at).same

pub back_bytes : (table : Table) (pairs : List AtBlock) (at : ℕ) → (block_at (backed table pairs) at).bytes ≡ (block_at table at).bytes
back_bytes table pairs at = ap (λ (slot : BlockSlot). slot.bytes) (back_block table pairs at).same

pub back_size : (slots : List BlockSlot) (pairs : List AtBlock) → length (all_back slots pairs) ≡ length slots
back_size slots [] = refl
back_size slots (pair ∷ pairs) = Rattle.std.proofs.lemmas.List.length-set (all_back slots pairs) (pair.0.0 / 4096) _ ∙ back_size slots pairs

pub back_out : (table : Table) (pairs : List AtBlock) (at : ℕ) → at % 4096 ≡ 0 → Contains (map (λ (pair : AtBlock). pair.0.0) pairs) at → (block_at (backed table pairs) at).out ≡ false
back_out table pairs at whole there =
    let found = in_map (λ (pair : AtBlock). pair.0.0) pairs at there in
    let at_pair : (slice_index_or pairs found.1.0 found.0).0.0 ≡ at = ap (λ (pair : AtBlock). pair.0.0) found.1.2 ∙ found.2 in
    let out : (slice_index_or (all_back table.slots pairs) (at / 4096) free_slot).out ≡ false =
    subst (λ (a : ℕ). (slice_index_or (all_back table.slots pairs) (a / 4096) free_slot).out ≡ false) at_pair (all_back-out table.slots pairs found.1.0 found.0 found.1.1) in
    ap (λ (b : Bool). (if b then slice_index_or (all_back table.slots pairs) (at / 4096) free_slot else free_slot).out) (eq-eqb (at % 4096) 0 whole) ∙ out

module _ (table : Table) (list : BlockList) (whole : (at : ℕ) → IsHanded (block_at table at).state → at % 4096 ≡ 0) (has : (at : ℕ) → IsHanded (block_at table at).state → ((block_at table at).out ≡ false) ⊎ Contains (map (λ (pair : AtBlock). pair.0.0) list.pairs) at) where
  pub is_back : (at : ℕ) → IsHanded (block_at table at).state → (block_at (backed table list.pairs) at).out ≡ false
  is_back at handed = elim (has at handed) [
    | inl out ↦ (back_block table list.pairs at).stays out
    | inr there ↦ back_out table list.pairs at (whole at handed) there
  ]

  pub none_out : NoneOut (backed table list.pairs)
  none_out = none_out_from (backed table list.pairs) (λ at. record {
    sealed = λ is. is_back at (inl (sym (back_state table list.pairs at) ∙ is));
    let_go = λ is. is_back at (inr (sym (back_state table list.pairs at) ∙ is));
  })
