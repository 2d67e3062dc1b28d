-- The table once a commit's list is back and its Sealed blocks are Live.
use Rattle.std.proofs.Common.{◌≡◌, ◌≢◌, ◌∙◌, ◌≤◌, ◌%◌, true, false, ℕ, List, [], length, refl, sym, ap, subst, inl, inr, arith}
use Rattle.std.specs.Prelude.{◌⊎◌, Contains}
use Rattle.std.proofs.lemmas.List.Elements.{All-contains}
use Rattle.blk_base.specs.Address.{IsAllowed}
use Rattle.blk_base.specs.Bytes.{Image}
use Rattle.block_table.specs.declared.state.SlotState.{SlotState}
use Rattle.block_table.specs.declared.state.SlotState.TheVariants.{Dirty, Free, LetGo, Live, Sealed}
use Rattle.block_table.specs.declared.tree.Tree.{Tree}
use Rattle.block_table.specs.Blocks.{BlockList}
use Rattle.block_table.specs.Slot.{BlockSlot}
use Rattle.block_table.specs.Table.{Table, free_blocks}
use Rattle.block_table.specs.TreeIn.{IsTaken, block_at}
use Rattle.commit_images.specs.Scene.{Scene}
use Rattle.flat_model.specs.Volume.{RunVolume}
use Rattle.table_commit.specs.Commit.{AreReleasable, IsReleasable, NoneOut, settled, with_each}
use Rattle.table_commit.proofs.Settled.{each_size, settled_at, settled_bytes, settled_other, settled_sealed}
use Rattle.tree_frame.proofs.Reading.{IsReadTree, reach_taken, read_tree}
use Rattle.tree_range.specs.Shape.{IsTree, tree_reach}
use Rattle.commit_blocks.specs.declared.kept.Kept.{Kept}
use Rattle.commit_blocks.specs.Keeps.{KeepsBlocks}
use Rattle.commit_blocks.specs.Steps.{IsHanded, IsListOut}
use Rattle.commit_blocks.proofs.Back.{back_block, back_bytes, back_size, back_state, backed, is_back, none_out}
use Rattle.commit_blocks.proofs.Counting.{free_falls}
use Rattle.commit_blocks.proofs.Ends.{Ends}
use Rattle.commit_blocks.proofs.Read.{each}

pub sealed_or_not : (state : SlotState) → (state ≡ Sealed) ⊎ (state ≢ Sealed)
sealed_or_not Free = inr (λ e. let w : Free ≡ Sealed = e in cc)
sealed_or_not Dirty = inr (λ e. let w : Dirty ≡ Sealed = e in cc)
sealed_or_not Sealed = inl refl
sealed_or_not Live = inr (λ e. let w : Live ≡ Sealed = e in cc)
sealed_or_not LetGo = inr (λ e. let w : LetGo ≡ Sealed = e in cc)

-- a Sealed block is Live, and every other one is what it was; no list has it, where one may
pub record IsSettled (old new : BlockSlot) : Type 0 where
  pub sealed : old.state ≡ Sealed → new.state ≡ Live
  pub other : old.state ≢ Sealed → new.state ≡ old.state
  pub bytes : new.bytes ≡ old.bytes
  pub back : IsHanded old.state → new.out ≡ false
  pub out : old.out ≡ false → new.out ≡ false

pub settled_taken : (old new : BlockSlot) → IsSettled old new → old.state ≢ Free → new.state ≢ Free
settled_taken old new s taken free = elim (sealed_or_not old.state) [
  | inl is ↦ let w : Live ≡ Free = sym (s.sealed is) ∙ free in cc
  | inr isnt ↦ taken (sym (s.other isnt) ∙ free)
]

pub settled_was : (old new : BlockSlot) → IsSettled old new → new.state ≢ Free → old.state ≢ Free
settled_was old new s taken free = taken (s.other (λ is. let w : Free ≡ Sealed = sym free ∙ is in cc) ∙ free)

pub settled_dirty : (old new : BlockSlot) → IsSettled old new → old.state ≡ Dirty → new.state ≡ Dirty
settled_dirty old new s dirty = s.other (λ is. let w : Dirty ≡ Sealed = sym dirty ∙ is in cc) ∙ dirty

pub settled_was_dirty : (old new : BlockSlot) → IsSettled old new → new.state ≡ Dirty → old.state ≡ Dirty
settled_was_dirty old new s dirty = elim (sealed_or_not old.state) [
  | inl is ↦ absurd (let w : Live ≡ Dirty = sym (s.sealed is) ∙ dirty in cc)
  | inr isnt ↦ sym (s.other isnt) ∙ dirty
]

pub settled_gone : (old new : BlockSlot) → IsSettled old new → new.state ≡ LetGo → old.state ≡ LetGo
settled_gone old new s gone = elim (sealed_or_not old.state) [
  | inl is ↦ absurd (let w : Live ≡ LetGo = sym (s.sealed is) ∙ gone in cc)
  | inr isnt ↦ sym (s.other isnt) ∙ gone
]

pub settled_let_go : (old new : BlockSlot) → IsSettled old new → old.state ≡ LetGo → new.state ≡ LetGo
settled_let_go old new s gone = s.other (λ is. let w : LetGo ≡ Sealed = sym gone ∙ is in cc) ∙ gone

pub settled_ends : (old new : BlockSlot) → IsSettled old new → Ends old new
settled_ends old new s = record {
  came = settled_was old new s;
  bytes = λ _. s.bytes;
  written = λ _ clean dirty. clean (settled_dirty old new s dirty);
  not_sealed = λ is. elim (sealed_or_not old.state) [
    | inl was ↦ let w : Live ≡ Sealed = sym (s.sealed was) ∙ is in cc
    | inr wasnt ↦ wasnt (sym (s.other wasnt) ∙ is)
  ];
  back = λ gone. s.back (inr (settled_gone old new s gone));
  clear = λ was live. elim (sealed_or_not old.state) [
    | inl is ↦ s.back (inl is)
    | inr isnt ↦ s.out (was (sym (s.other isnt) ∙ live))
  ];
}

module _ (old : Kept) (image : Image) (run : RunVolume) (scene : Scene) (keeps : KeepsBlocks old image run scene) (list : BlockList) (out : IsListOut old list) where
  handed_taken : (at : ℕ) → IsHanded (block_at old.table at).state → (block_at old.table at).state ≢ Free
  handed_taken at handed free = elim handed [
    | inl is ↦ let w : Free ≡ Sealed = sym free ∙ is in cc
    | inr gone ↦ let w : Free ≡ LetGo = sym free ∙ gone in cc
  ]

  pub handed_whole : (at : ℕ) → IsHanded (block_at old.table at).state → at % 4096 ≡ 0
  handed_whole at handed = (keeps.current.allowed at (handed_taken at handed)).aligned

  pub back_none : NoneOut (backed old.table list.pairs)
  back_none = none_out old.table list handed_whole out.has

  pub all_back_size : length (backed old.table list.pairs).slots ≡ length old.table.slots
  all_back_size = back_size old.table.slots list.pairs

  abbrev settled_table : Table
  settled_table = with_each settled (backed old.table list.pairs)

  pub settled_size : length (with_each settled (backed old.table list.pairs)).slots ≡ length old.table.slots
  settled_size = each_size settled (backed old.table list.pairs) ∙ all_back_size

  pub settled_slot : (at : ℕ) → IsSettled (block_at old.table at) (block_at (with_each settled (backed old.table list.pairs)) at)
  settled_slot at = subst (IsSettled (block_at old.table at)) (sym (settled_at (backed old.table list.pairs) at)) (record {
    sealed = λ is. ap (λ (slot : BlockSlot). slot.state) (settled_sealed (block_at (backed old.table list.pairs) at) (back_state old.table list.pairs at ∙ is));
    other = λ isnt. ap (λ (slot : BlockSlot). slot.state) (settled_other (block_at (backed old.table list.pairs) at) (λ e. isnt (sym (back_state old.table list.pairs at) ∙ e))) ∙ back_state old.table list.pairs at;
    bytes = settled_bytes (block_at (backed old.table list.pairs) at) ∙ back_bytes old.table list.pairs at;
    back = λ handed. out_same (block_at (backed old.table list.pairs) at) ∙ is_back old.table list handed_whole out.has at handed;
    out = λ clear. out_same (block_at (backed old.table list.pairs) at) ∙ (back_block old.table list.pairs at).stays clear;
  })
    where
      out_same : (slot : BlockSlot) → (settled slot).out ≡ slot.out
      out_same slot = elim (sealed_or_not slot.state) [
        | inl is ↦ ap (λ (s : BlockSlot). s.out) (settled_sealed slot is)
        | inr isnt ↦ ap (λ (s : BlockSlot). s.out) (settled_other slot isnt)
      ]

  pub settled_free : free_blocks old.table ≤ free_blocks (with_each settled (backed old.table list.pairs))
  settled_free =
      let falls = free_falls old.table (with_each settled (backed old.table list.pairs)) [] settled_size (λ at was is. absurd (is ((settled_slot at).other (λ e. let w : Free ≡ Sealed = sym was ∙ e in cc) ∙ was))) in
      omega (arith, falls)

  pub settled_readable : (at : ℕ) → (block_at old.table at).state ≢ Free → IsTaken (with_each settled (backed old.table list.pairs)) at × ((block_at (with_each settled (backed old.table list.pairs)) at).bytes ≡ (block_at old.table at).bytes)
  settled_readable at taken = (
    record {
      allowed = subst (λ (n : ℕ). IsAllowed n at) (sym settled_size) (keeps.current.allowed at taken);
      taken = settled_taken (block_at old.table at) (block_at (with_each settled (backed old.table list.pairs)) at) (settled_slot at) taken;
    },
    (settled_slot at).bytes,
  )

  pub settled_tree : (tree : Tree) → IsTree old.table tree → IsReadTree old.table (with_each settled (backed old.table list.pairs)) tree
  settled_tree tree is = read_tree old.table (with_each settled (backed old.table list.pairs)) tree
      (each (λ (at : ℕ). IsTaken (with_each settled (backed old.table list.pairs)) at × ((block_at (with_each settled (backed old.table list.pairs)) at).bytes ≡ (block_at old.table at).bytes)) (tree_reach old.table tree)
      (λ at there. settled_readable at (All-contains (IsTaken old.table) (tree_reach old.table tree) at (reach_taken tree.level old.table true tree.root.0 is.shape) there).taken))

  -- what was let go may be released
  pub settled_releasable : (reach : List ℕ) → ((at : ℕ) → Contains reach at → (block_at old.table at).state ≡ LetGo) → AreReleasable (with_each settled (backed old.table list.pairs)) reach
  settled_releasable reach gone = each (λ (at : ℕ). IsReleasable (block_at (with_each settled (backed old.table list.pairs)) at)) reach (λ at there. record {
    let_go = (settled_slot at).other (λ e. let w : LetGo ≡ Sealed = sym (gone at there) ∙ e in cc) ∙ gone at there;
    back = (settled_slot at).back (inr (gone at there));
  })
