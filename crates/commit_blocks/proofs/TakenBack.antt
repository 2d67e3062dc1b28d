-- What a volume keeps once its full commit has failed before the write of its superblock.
use Rattle.std.proofs.Common.{◌≡◌, ◌≢◌, ◌∙◌, ◌≤◌, ◌+◌, ◌*◌, ◌/◌, ◌++◌, false, ℕ, List, [], Option, None, Some, length, refl, sym, ap, subst, inl, inr, arith}
use Rattle.std.specs.Prelude.{All, Contains, vec_capacity}
use Rattle.blk_base.specs.Address.{IsAllowed}
use Rattle.blk_base.specs.Bytes.{Image}
use Rattle.blk_base.specs.Trees.{NoneTwice}
use Rattle.blk_base.proofs.Members.{in_nothing, is_in}
use Rattle.block_table.specs.declared.state.SlotState.TheVariants.{Dirty, Free, LetGo, Live, Sealed}
use Rattle.block_table.specs.declared.tree.SubState.{SubState}
use Rattle.block_table.specs.declared.tree.Tree.{Tree}
use Rattle.block_table.specs.Blocks.{BlockList}
use Rattle.block_table.specs.Slot.{BlockSlot}
use Rattle.block_table.specs.Table.{Table, free_blocks}
use Rattle.block_table.specs.TreeIn.{IsTaken, block_at}
use Rattle.commit_core.specs.Sealed.{IsOfNewest}
use Rattle.commit_images.specs.Scene.{Commit, NotTried, Scene}
use Rattle.flat_model.specs.Volume.{RunVolume}
use Rattle.table_commit.specs.Commit.{AreLetGo, dirty_in, unsealed, with_each}
use Rattle.table_commit.proofs.Gone.{all_dirty}
use Rattle.table_commit.proofs.Settled.{each_size, unsealed_at, unsealed_bytes, unsealed_other, unsealed_sealed}
use Rattle.tree_frame.specs.Frame.{AreCurrent}
use Rattle.tree_frame.proofs.Reading.{IsReadTree, read_tree}
use Rattle.tree_range.specs.Shape.{IsTree, tree_reach}
use Rattle.volume_seal.specs.Sealed.{IsReady}
use Rattle.commit_blocks.specs.declared.kept.Kept.{Kept}
use Rattle.commit_blocks.specs.Keeps.{AreApartFromFirst, IsBusy, IsGone, IsHeld, IsOut, IsUntried, KeepsBlocks, old_roots, reach_there}
use Rattle.commit_blocks.specs.Steps.{AreLetGoBehind, IsEnded, IsHanded, IsListOut, KeepsRest}
use Rattle.commit_blocks.proofs.Back.{back_block, back_bytes, back_size, back_state, backed, is_back}
use Rattle.commit_blocks.proofs.Counting.{free_falls}
use Rattle.commit_blocks.proofs.Ends.{Ends, end_all, end_current, end_found, end_quiet, end_readable}
use Rattle.commit_blocks.proofs.Fates.{reach_of, states_current, states_taken}
use Rattle.commit_blocks.proofs.Finishing.{runs_out, was_current}
use Rattle.commit_blocks.proofs.Read.{each, ready_again}
use Rattle.commit_blocks.proofs.Settling.{handed_whole, sealed_or_not}
use Rattle.commit_blocks.proofs.TriedEnd.{gone_read}

-- a Sealed block is Dirty, and every other one is what it was; no list has it, where one may
pub record IsUnsealed (old new : BlockSlot) : Type 0 where
  pub sealed : old.state ≡ Sealed → new.state ≡ Dirty
  pub other : old.state ≢ Sealed → new.state ≡ old.state
  pub bytes : new.bytes ≡ old.bytes
  pub back : IsHanded old.state → new.out ≡ false
  pub out : old.out ≡ false → new.out ≡ false

unsealed_taken : (old new : BlockSlot) → IsUnsealed old new → old.state ≢ Free → new.state ≢ Free
unsealed_taken old new s taken free = elim (sealed_or_not old.state) [
  | inl is ↦ let w : Dirty ≡ Free = sym (s.sealed is) ∙ free in cc
  | inr isnt ↦ taken (sym (s.other isnt) ∙ free)
]

unsealed_dirty : (old new : BlockSlot) → IsUnsealed old new → IsBusy old.state → new.state ≡ Dirty
unsealed_dirty old new s busy = elim busy [
  | inl dirty ↦ s.other (λ is. let w : Dirty ≡ Sealed = sym dirty ∙ is in cc) ∙ dirty
  | inr is ↦ s.sealed is
]

unsealed_was : (old new : BlockSlot) → IsUnsealed old new → new.state ≡ Dirty → IsBusy old.state
unsealed_was old new s dirty = elim (sealed_or_not old.state) [
  | inl is ↦ inr is
  | inr isnt ↦ inl (sym (s.other isnt) ∙ dirty)
]

-- a block that isn't Dirty is what it was
unsealed_same : (old new : BlockSlot) → IsUnsealed old new → new.state ≢ Dirty → new.state ≡ old.state
unsealed_same old new s clean = s.other (λ is. clean (s.sealed is))

unsealed_ends : (old new : BlockSlot) → IsUnsealed old new → Ends old new
unsealed_ends old new s = record {
  came = λ taken free. taken (s.other (λ is. let w : Free ≡ Sealed = sym free ∙ is in cc) ∙ free);
  bytes = λ _. s.bytes;
  written = λ _ clean dirty. clean (unsealed_dirty old new s (inl dirty));
  not_sealed = λ is. elim (sealed_or_not old.state) [
    | inl was ↦ let w : Dirty ≡ Sealed = sym (s.sealed was) ∙ is in cc
    | inr wasnt ↦ wasnt (sym (s.other wasnt) ∙ is)
  ];
  back = λ gone. s.back (inr (sym (unsealed_same old new s (λ dirty. let w : LetGo ≡ Dirty = sym gone ∙ dirty in cc)) ∙ gone));
  clear = λ was live. elim (sealed_or_not old.state) [
    | inl is ↦ absurd (let w : Dirty ≡ Live = sym (s.sealed is) ∙ live in cc)
    | inr isnt ↦ s.out (was (sym (s.other isnt) ∙ live))
  ];
}

module _ (old : Kept) (image : Image) (run : RunVolume) (scene : Scene) (keeps : KeepsBlocks old image run scene) (list : BlockList) (out : IsListOut old list) (root : Tree) (is : old.sealed ≡ Some root) where
  o : IsOut old scene root
  o = runs_out old image run scene keeps list out root is

  pub unsealed_size : length (with_each unsealed (backed old.table list.pairs)).slots ≡ length old.table.slots
  unsealed_size = each_size unsealed (backed old.table list.pairs) ∙ back_size old.table.slots list.pairs

  unsealed_slot : (at : ℕ) → IsUnsealed (block_at old.table at) (block_at (with_each unsealed (backed old.table list.pairs)) at)
  unsealed_slot at = subst (IsUnsealed (block_at old.table at)) (sym (unsealed_at (backed old.table list.pairs) at)) (record {
    sealed = λ e. ap (λ (slot : BlockSlot). slot.state) (unsealed_sealed (block_at (backed old.table list.pairs) at) (back_state old.table list.pairs at ∙ e));
    other = λ isnt. ap (λ (slot : BlockSlot). slot.state) (unsealed_other (block_at (backed old.table list.pairs) at) (λ e. isnt (sym (back_state old.table list.pairs at) ∙ e))) ∙ back_state old.table list.pairs at;
    bytes = unsealed_bytes (block_at (backed old.table list.pairs) at) ∙ back_bytes old.table list.pairs at;
    back = λ handed. out_same (block_at (backed old.table list.pairs) at) ∙ is_back old.table list (handed_whole old image run scene keeps list out) out.has at handed;
    out = λ clear. out_same (block_at (backed old.table list.pairs) at) ∙ (back_block old.table list.pairs at).stays clear;
  })
    where
      out_same : (slot : BlockSlot) → (unsealed slot).out ≡ slot.out
      out_same slot = elim (sealed_or_not slot.state) [
        | inl e ↦ ap (λ (s : BlockSlot). s.out) (unsealed_sealed slot e)
        | inr isnt ↦ ap (λ (s : BlockSlot). s.out) (unsealed_other slot isnt)
      ]

  unsealed_free : free_blocks old.table ≤ free_blocks (with_each unsealed (backed old.table list.pairs))
  unsealed_free =
      let falls = free_falls old.table (with_each unsealed (backed old.table list.pairs)) [] unsealed_size (λ at was isnt. absurd (isnt ((unsealed_slot at).other (λ e. let w : Free ≡ Sealed = sym was ∙ e in cc) ∙ was))) in
      omega (arith, falls)

  root_read : IsReadTree old.table (with_each unsealed (backed old.table list.pairs)) root
  root_read = read_tree old.table (with_each unsealed (backed old.table list.pairs)) root
      (each (λ (at : ℕ). IsTaken (with_each unsealed (backed old.table list.pairs)) at × ((block_at (with_each unsealed (backed old.table list.pairs)) at).bytes ≡ (block_at old.table at).bytes)) (tree_reach old.table root) (λ at here. (
        record {
          allowed = subst (λ (n : ℕ). IsAllowed n at) (sym unsealed_size) (keeps.current.allowed at (λ free. let w : Sealed ≡ Free = sym (o.root_sealed at here) ∙ free in cc));
          taken = λ free. let w : Dirty ≡ Free = sym ((unsealed_slot at).sealed (o.root_sealed at here)) ∙ free in cc;
        },
        (unsealed_slot at).bytes,
      )))

  pub back_root : IsTree (with_each unsealed (backed old.table list.pairs)) root
  back_root = root_read.stands o.tree_in

  root_dirty : (at : ℕ) → Contains (tree_reach (with_each unsealed (backed old.table list.pairs)) root) at → (block_at (with_each unsealed (backed old.table list.pairs)) at).state ≡ Dirty
  root_dirty at here = (unsealed_slot at).sealed (o.root_sealed at (subst (λ (l : List ℕ). Contains l at) root_read.reach here))

  pub back_current : AreCurrent (with_each unsealed (backed old.table list.pairs)) (tree_reach (with_each unsealed (backed old.table list.pairs)) root)
  back_current = each (λ (at : ℕ). (block_at (with_each unsealed (backed old.table list.pairs)) at).state ≢ LetGo) (tree_reach (with_each unsealed (backed old.table list.pairs)) root) (λ at here gone. let w : Dirty ≡ LetGo = sym (root_dirty at here) ∙ gone in cc)

  module _ (new : Kept) (next : Scene) (ended : IsEnded scene next) (rest : KeepsRest old new) (let_go : AreLetGo (with_each unsealed (backed old.table list.pairs)) new.table (tree_reach (with_each unsealed (backed old.table list.pairs)) root)) where
    root_free : (at : ℕ) → Contains (tree_reach old.table root) at → (block_at new.table at).state ≡ Free
    root_free at here = let there = subst (λ (l : List ℕ). Contains l at) (sym root_read.reach) here in (let_go.each at there).dirty (root_dirty at there)

    other_now : (at : ℕ) → (Contains (tree_reach old.table root) at → ⊥) → IsUnsealed (block_at old.table at) (block_at new.table at)
    other_now at not_root = subst (IsUnsealed (block_at old.table at)) (sym (let_go.others at (λ here. not_root (subst (λ (l : List ℕ). Contains l at) root_read.reach here)))) (unsealed_slot at)

    ends : (at : ℕ) → Ends (block_at old.table at) (block_at new.table at)
    ends at = elim (is_in (tree_reach old.table root) at) [
      | inl here ↦ record {
        came = λ taken. absurd (taken (root_free at here));
        bytes = λ taken. absurd (taken (root_free at here));
        written = λ taken _. absurd (taken (root_free at here));
        not_sealed = λ e. let w : Free ≡ Sealed = sym (root_free at here) ∙ e in cc;
        back = λ e. absurd (let w : Free ≡ LetGo = sym (root_free at here) ∙ e in cc);
        clear = λ _ e. absurd (let w : Free ≡ Live = sym (root_free at here) ∙ e in cc);
      }
      | inr not_root ↦ unsealed_ends (block_at old.table at) (block_at new.table at) (other_now at not_root)
    ]

    accounted : (at : ℕ) → (block_at new.table at).state ≢ Free → (block_at new.table at).state ≢ LetGo → Contains (reach_of old) at
    accounted at taken kept = elim (is_in (tree_reach old.table root) at) [
      | inl here ↦ absurd (taken (root_free at here))
      | inr not_root ↦
          let s = other_now at not_root in
          was_current old image run scene keeps list out root is at not_root ((ends at).came taken) (λ g. kept (s.other (λ e. let w : LetGo ≡ Sealed = sym g ∙ e in cc) ∙ g))
    ]

    pub back_let_go : AreLetGoBehind old.table new.table [] []
    back_let_go = record {
      only = λ at gone. elim (is_in (tree_reach old.table root) at) [
        | inl here ↦ absurd (let w : Free ≡ LetGo = sym (root_free at here) ∙ gone in cc)
        | inr not_root ↦ inr (sym (unsealed_same (block_at old.table at) (block_at new.table at) (other_now at not_root) (λ dirty. let w : LetGo ≡ Dirty = sym gone ∙ dirty in cc)) ∙ gone, in_nothing at)
      ];
      made_so = λ at none. absurd (in_nothing at none);
      stays = λ at gone _. (other_now at (λ here. let w : Sealed ≡ LetGo = sym (o.root_sealed at here) ∙ gone in cc)).other (λ e. let w : LetGo ≡ Sealed = sym gone ∙ e in cc) ∙ gone;
    }

    reach_now : (at : ℕ) → Contains (reach_of old) at → IsUnsealed (block_at old.table at) (block_at new.table at)
    reach_now at there = other_now at (λ here. o.root_apart at here there)

    stays : (at : ℕ) → Contains (reach_of old) at → ((block_at new.table at).state ≢ Free) × ((block_at new.table at).state ≢ LetGo)
    stays at there = (
      unsealed_taken (block_at old.table at) (block_at new.table at) (reach_now at there) (states_taken old.table old.states.items run keeps.current.given at there).taken,
      λ g. states_current old.table old.states.items run keeps.current.given at there (sym (unsealed_same (block_at old.table at) (block_at new.table at) (reach_now at there) (λ dirty. let w : LetGo ≡ Dirty = sym g ∙ dirty in cc)) ∙ g),
    )

    ready : All (λ (state : SubState). IsReady new.table state.tree old.fsid) old.states.items
    ready = ready_again old.table new.table old.states.items run keeps.current.given (end_readable old new image run scene next keeps ended rest ends stays) (λ at there. (stays at there).1) old.fsid (λ at there. record {
      bytes = (reach_now at there).bytes;
      down = unsealed_was (block_at old.table at) (block_at new.table at) (reach_now at there);
      up = unsealed_dirty (block_at old.table at) (block_at new.table at) (reach_now at there);
    }) keeps.current.ready keeps.current.above

    old_now : (tree : Tree) → IsGone old.table tree → (at : ℕ) → Contains (tree_reach old.table tree) at → ((block_at old.table at).state ≢ Free) × ((block_at new.table at).state ≡ LetGo) × ((block_at new.table at).bytes ≡ (block_at old.table at).bytes)
    old_now tree was at here =
        let s = other_now at (λ r. let w : Sealed ≡ LetGo = sym (o.root_sealed at r) ∙ was.ready at here in cc) in
        (λ free. (let w : LetGo ≡ Free = sym (was.ready at here) ∙ free in cc), s.other (λ e. let w : LetGo ≡ Sealed = sym (was.ready at here) ∙ e in cc) ∙ was.ready at here, s.bytes)

    old_read : (tree : Tree) → IsGone old.table tree → IsReadTree old.table new.table tree
    old_read tree was = gone_read old new image run scene keeps rest.size tree was.tree_in (old_now tree was)

    old_gone : (tree : Tree) → IsGone old.table tree → IsGone new.table tree
    old_gone tree was = record {
      tree_in = (old_read tree was).stands was.tree_in;
      ready = λ at here. (old_now tree was at (subst (λ (l : List ℕ). Contains l at) (old_read tree was).reach here)).1;
    }

    there_same : (other : Option Tree) → ((t : Tree) → other ≡ Some t → IsGone old.table t) → reach_there new.table other ≡ reach_there old.table other
    there_same None gone = refl
    there_same (Some tree) gone = (old_read tree (gone tree refl)).reach

    module _ (untried_yet : scene.progress ≡ NotTried) (last : new.last ≡ old.last) (failed : new.failed ≡ old.failed) (noted : new.let_go.items ≡ []) (capacity : length old.table.slots ≤ vec_capacity new.let_go) where
      is_untried : IsUntried old scene
      is_untried = o.untried untried_yet

      last_reach : tree_reach new.table new.last ≡ tree_reach old.table old.last
      last_reach = ap (λ (tree : Tree). tree_reach new.table tree) last ∙ (old_read old.last keeps.found.last).reach

      roots_now : old_roots new ≡ old_roots old
      roots_now =
          ap (λ (l : List ℕ). l ++ reach_there new.table new.failed) last_reach
          ∙ ap (λ (tree : Option Tree). tree_reach old.table old.last ++ reach_there new.table tree) failed
          ∙ ap (λ (l : List ℕ). tree_reach old.table old.last ++ l) (there_same old.failed keeps.found.failed)

      free_now : 100 ≤ free_blocks new.table + length (old_roots new)
      free_now =
          let was : 100 ≤ free_blocks old.table + length (old_roots old) + length (tree_reach old.table root) = subst (λ (tree : Option Tree). 100 ≤ free_blocks old.table + length (old_roots old) + length (reach_there old.table tree)) is keeps.current.free in
          let mid : Table = with_each unsealed (backed old.table list.pairs) in
          let dirty : dirty_in mid (tree_reach mid root) ≡ length (tree_reach mid root) = all_dirty mid (tree_reach mid root) (each (λ (at : ℕ). (block_at mid at).state ≡ Dirty) (tree_reach mid root) root_dirty) in
          let same = ap length root_read.reach in
          let roots = ap length roots_now in
          omega (arith, was, dirty, same, roots, unsealed_free, let_go.free)

      failed_reach : reach_there new.table new.failed ≡ reach_there old.table old.failed
      failed_reach = ap (λ (tree : Option Tree). reach_there new.table tree) failed ∙ there_same old.failed keeps.found.failed

      spare_now : 80 ≤ new.table.spare + length (old_roots new)
      spare_now =
          let was : 80 ≤ old.table.spare + length (old_roots old) + length (tree_reach old.table root) = subst (λ (tree : Option Tree). 80 ≤ old.table.spare + length (old_roots old) + length (reach_there old.table tree)) is keeps.current.spare in
          let mid : Table = with_each unsealed (backed old.table list.pairs) in
          let dirty : dirty_in mid (tree_reach mid root) ≡ length (tree_reach mid root) = all_dirty mid (tree_reach mid root) (each (λ (at : ℕ). (block_at mid at).state ≡ Dirty) (tree_reach mid root) root_dirty) in
          let same = ap length root_read.reach in
          let roots = ap length roots_now in
          omega (arith, was, dirty, same, roots, let_go.spare)

      held_at : (commit : Commit) → Contains scene.found commit → (block : ℕ × List ℕ) → Contains commit.blocks block → IsHeld new.table block
      held_at commit there block within =
          let was : IsHeld old.table block = keeps.found.held commit there block within in
          let at : ℕ = block.0 * 4096 in
          let not_sealed : (block_at old.table at).state ≢ Sealed = λ e. is_untried.fresh at e commit there (block, within, (let place : block.0 ≡ block.0 * 4096 / 4096 = omega arith in place)) in
          let s = other_now at (λ r. not_sealed (o.root_sealed at r)) in
          record {
            not_free = unsealed_taken (block_at old.table at) (block_at new.table at) s was.not_free;
            not_dirty = λ dirty. elim (unsealed_was (block_at old.table at) (block_at new.table at) s dirty) [ inl d ↦ was.not_dirty d | inr e ↦ not_sealed e ];
            bytes = s.bytes ∙ was.bytes;
          }

      pub taken_back_keeps : KeepsBlocks new image run next
      taken_back_keeps =
          end_all old new image run scene next keeps ended rest ends stays
          (end_current old new image run scene next keeps ended rest ends stays accounted ready free_now spare_now (subst (λ (l : List ℕ). length l ≤ 33) (sym last_reach) keeps.current.last_few) (subst (λ (l : List ℕ). length l ≤ 33) (sym failed_reach) keeps.current.failed_few))
          (end_found old new image run scene next keeps ended rest ends stays held_at
          (λ at there live.
          let s = reach_now at there in
          let was : (block_at old.table at).state ≡ Live = sym (unsealed_same (block_at old.table at) (block_at new.table at) s (λ dirty. let w : Live ≡ Dirty = sym live ∙ dirty in cc)) ∙ live in
          subst (λ (bytes : List ℕ). IsOfNewest scene.found (at / 4096, bytes)) (sym s.bytes) (keeps.found.newest at there was))
          (subst (IsGone new.table) (sym last) (old_gone old.last keeps.found.last))
          (λ tree some. old_gone tree (keeps.found.failed tree (sym failed ∙ some)))
          (subst NoneTwice (sym roots_now) keeps.found.apart)
          capacity)
          (end_quiet old new image run scene next keeps ended rest ends stays
          (let one = let_go.lists in let was = o.lists in omega (arith, one, was)) noted
          (λ tree some. subst (λ (l : List ℕ). AreApartFromFirst l scene.found) (sym last_reach) (is_untried.spared tree (sym failed ∙ some))))
