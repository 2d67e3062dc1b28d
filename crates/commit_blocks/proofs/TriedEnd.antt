-- What a volume keeps once the write of its full commit's superblock has failed.
use Rattle.std.proofs.Common.{◌≡◌, ◌≢◌, ◌∙◌, ◌≤◌, ◌+◌, ◌*◌, ◌/◌, ◌++◌, false, ℕ, List, [], Option, Some, length, length-append, sym, ap, subst, inl, inr, arith}
use Rattle.std.specs.Prelude.{All, Contains, vec_capacity}
use Rattle.blk_base.specs.Address.{IsAllowed}
use Rattle.blk_base.specs.Bytes.{Image}
use Rattle.blk_base.specs.Trees.{NoneTwice}
use Rattle.blk_base.proofs.Members.{is_in, once_append}
use Rattle.block_table.specs.declared.state.SlotState.TheVariants.{Dirty, Free, LetGo, Live, Sealed}
use Rattle.block_table.specs.declared.tree.SubState.{SubState}
use Rattle.block_table.specs.declared.tree.Tree.{Tree}
use Rattle.block_table.specs.Blocks.{BlockList}
use Rattle.block_table.specs.Slot.{BlockSlot}
use Rattle.block_table.specs.Table.{free_blocks}
use Rattle.block_table.specs.TreeIn.{IsTaken, block_at}
use Rattle.commit_core.specs.Sealed.{IsOfNewest}
use Rattle.commit_images.specs.Scene.{Commit, HasFailed, NotTried, Scene}
use Rattle.flat_model.specs.Volume.{RunVolume}
use Rattle.tree_frame.proofs.Reading.{IsReadTree, read_tree}
use Rattle.tree_range.specs.Shape.{IsTree, tree_reach}
use Rattle.volume_seal.specs.Sealed.{IsReady}
use Rattle.commit_blocks.specs.declared.kept.Kept.{Kept}
use Rattle.commit_blocks.specs.Keeps.{AreApart, AreApartFromFirst, IsGone, IsHeld, IsOut, IsTried, KeepsBlocks, numbered_at, old_roots, reach_there}
use Rattle.commit_blocks.specs.Steps.{AreLetGoBehind, IsEnded, IsListOut, KeepsRest}
use Rattle.commit_blocks.proofs.Ends.{Ends, end_all, end_current, end_found, end_quiet, end_readable}
use Rattle.commit_blocks.proofs.Fates.{reach_of, states_current, states_taken}
use Rattle.commit_blocks.proofs.Finishing.{runs_out, was_current}
use Rattle.commit_blocks.proofs.Read.{each, ready_now}
use Rattle.commit_blocks.proofs.Settling.{IsSettled, settled_dirty, settled_ends, settled_gone, settled_let_go, settled_taken, settled_was_dirty}

-- a Sealed block of the root tree was let go
pub record IsRootEnd (old new : BlockSlot) : Type 0 where
  pub state : new.state ≡ LetGo
  pub bytes : new.bytes ≡ old.bytes
  pub back : new.out ≡ false

-- a tree whose blocks were let go, and still are there
pub gone_read : (old new : Kept) (image : Image) (run : RunVolume) (scene : Scene) (keeps : KeepsBlocks old image run scene) (size : length new.table.slots ≡ length old.table.slots) (tree : Tree) → IsTree old.table tree
    → ((at : ℕ) → Contains (tree_reach old.table tree) at → ((block_at old.table at).state ≢ Free) × ((block_at new.table at).state ≡ LetGo) × ((block_at new.table at).bytes ≡ (block_at old.table at).bytes)) → IsReadTree old.table new.table tree
gone_read old new image run scene keeps size tree is now =
    read_tree old.table new.table tree (each (λ (at : ℕ). IsTaken new.table at × ((block_at new.table at).bytes ≡ (block_at old.table at).bytes)) (tree_reach old.table tree) (λ at here. (
      record {
        allowed = subst (λ (n : ℕ). IsAllowed n at) (sym size) (keeps.current.allowed at (now at here).0);
        taken = λ free. let w : LetGo ≡ Free = sym (now at here).1 ∙ free in cc;
      },
      (now at here).2,
    )))

module _ (old : Kept) (image : Image) (run : RunVolume) (scene : Scene) (keeps : KeepsBlocks old image run scene) (list : BlockList) (out : IsListOut old list) (root : Tree) (is : old.sealed ≡ Some root)
    (new : Kept) (next : Scene) (ended : IsEnded scene next) (rest : KeepsRest old new) (gone : List ℕ) (gone_was : (at : ℕ) → Contains gone at → (block_at old.table at).state ≡ LetGo) (free_gone : (at : ℕ) → Contains gone at → (block_at new.table at).state ≡ Free)
    (root_now : (at : ℕ) → Contains (tree_reach old.table root) at → IsRootEnd (block_at old.table at) (block_at new.table at))
    (other_now : (at : ℕ) → (Contains gone at → ⊥) → (Contains (tree_reach old.table root) at → ⊥) → IsSettled (block_at old.table at) (block_at new.table at)) where
  o : IsOut old scene root
  o = runs_out old image run scene keeps list out root is

  ends : (at : ℕ) → Ends (block_at old.table at) (block_at new.table at)
  ends at = elim (is_in gone at) [
    | inl there ↦ record {
      came = λ taken. absurd (taken (free_gone at there));
      bytes = λ taken. absurd (taken (free_gone at there));
      written = λ taken _. absurd (taken (free_gone at there));
      not_sealed = λ e. let w : Free ≡ Sealed = sym (free_gone at there) ∙ e in cc;
      back = λ e. absurd (let w : Free ≡ LetGo = sym (free_gone at there) ∙ e in cc);
      clear = λ _ e. absurd (let w : Free ≡ Live = sym (free_gone at there) ∙ e in cc);
    }
    | inr not_gone ↦ elim (is_in (tree_reach old.table root) at) [
      | inl here ↦ record {
        came = λ _ free. let w : Sealed ≡ Free = sym (o.root_sealed at here) ∙ free in cc;
        bytes = λ _. (root_now at here).bytes;
        written = λ _ _ dirty. let w : Sealed ≡ Dirty = sym (o.root_sealed at here) ∙ dirty in cc;
        not_sealed = λ e. let w : LetGo ≡ Sealed = sym (root_now at here).state ∙ e in cc;
        back = λ _. (root_now at here).back;
        clear = λ _ _. (root_now at here).back;
      }
      | inr not_root ↦ settled_ends (block_at old.table at) (block_at new.table at) (other_now at not_gone not_root)
    ]
  ]

  accounted : (at : ℕ) → (block_at new.table at).state ≢ Free → (block_at new.table at).state ≢ LetGo → Contains (reach_of old) at
  accounted at taken kept = elim (is_in gone at) [
    | inl there ↦ absurd (taken (free_gone at there))
    | inr not_gone ↦ elim (is_in (tree_reach old.table root) at) [
      | inl here ↦ absurd (kept (root_now at here).state)
      | inr not_root ↦
          let s = other_now at not_gone not_root in
          was_current old image run scene keeps list out root is at not_root ((ends at).came taken) (λ g. kept (settled_let_go (block_at old.table at) (block_at new.table at) s g))
    ]
  ]

  reach_settled : (at : ℕ) → Contains (reach_of old) at → IsSettled (block_at old.table at) (block_at new.table at)
  reach_settled at there = other_now at (λ g. states_current old.table old.states.items run keeps.current.given at there (gone_was at g)) (λ here. o.root_apart at here there)

  stays : (at : ℕ) → Contains (reach_of old) at → ((block_at new.table at).state ≢ Free) × ((block_at new.table at).state ≢ LetGo)
  stays at there = (
    settled_taken (block_at old.table at) (block_at new.table at) (reach_settled at there) (states_taken old.table old.states.items run keeps.current.given at there).taken,
    λ g. states_current old.table old.states.items run keeps.current.given at there (settled_gone (block_at old.table at) (block_at new.table at) (reach_settled at there) g),
  )

  ready : All (λ (state : SubState). IsReady new.table state.tree old.fsid) old.states.items
  ready = ready_now old.table new.table old.states.items run keeps.current.given (end_readable old new image run scene next keeps ended rest ends stays) (λ at there. (stays at there).1) old.fsid (λ at there. record {
    bytes = (reach_settled at there).bytes;
    down = settled_was_dirty (block_at old.table at) (block_at new.table at) (reach_settled at there);
    up = settled_dirty (block_at old.table at) (block_at new.table at) (reach_settled at there);
  }) keeps.current.ready

  pub root_read : IsReadTree old.table new.table root
  root_read = gone_read old new image run scene keeps rest.size root o.tree_in (λ at here. (λ free. (let w : Sealed ≡ Free = sym (o.root_sealed at here) ∙ free in cc), (root_now at here).state, (root_now at here).bytes))

  root_gone : IsGone new.table root
  root_gone = record { tree_in = root_read.stands o.tree_in; ready = λ at here. (root_now at (subst (λ (l : List ℕ). Contains l at) root_read.reach here)).state }

  pub tried_let_go : AreLetGoBehind old.table new.table (tree_reach new.table root) gone
  tried_let_go = record {
    only = λ at is_gone. elim (is_in gone at) [
      | inl there ↦ absurd (let w : Free ≡ LetGo = sym (free_gone at there) ∙ is_gone in cc)
      | inr not_gone ↦ elim (is_in (tree_reach old.table root) at) [
        | inl here ↦ inl (subst (λ (l : List ℕ). Contains l at) (sym root_read.reach) here)
        | inr not_root ↦ inr (settled_gone (block_at old.table at) (block_at new.table at) (other_now at not_gone not_root) is_gone, not_gone)
      ]
    ];
    made_so = λ at here. (root_now at (subst (λ (l : List ℕ). Contains l at) root_read.reach here)).state;
    stays = λ at was not_gone. settled_let_go (block_at old.table at) (block_at new.table at) (other_now at not_gone (λ here. let w : Sealed ≡ LetGo = sym (o.root_sealed at here) ∙ was in cc)) was;
  }

  -- an older root tree that wasn't released
  old_now : (tree : Tree) → IsGone old.table tree → ((at : ℕ) → Contains (tree_reach old.table tree) at → Contains gone at → ⊥) → (at : ℕ) → Contains (tree_reach old.table tree) at → ((block_at old.table at).state ≢ Free) × ((block_at new.table at).state ≡ LetGo) × ((block_at new.table at).bytes ≡ (block_at old.table at).bytes)
  old_now tree was apart at here =
      let s = other_now at (apart at here) (λ r. let w : Sealed ≡ LetGo = sym (o.root_sealed at r) ∙ was.ready at here in cc) in
      (λ free. (let w : LetGo ≡ Free = sym (was.ready at here) ∙ free in cc), s.other (λ e. let w : LetGo ≡ Sealed = sym (was.ready at here) ∙ e in cc) ∙ was.ready at here, s.bytes)

  pub old_read : (tree : Tree) → IsGone old.table tree → ((at : ℕ) → Contains (tree_reach old.table tree) at → Contains gone at → ⊥) → IsReadTree old.table new.table tree
  old_read tree was apart = gone_read old new image run scene keeps rest.size tree was.tree_in (old_now tree was apart)

  old_gone : (tree : Tree) → IsGone old.table tree → ((at : ℕ) → Contains (tree_reach old.table tree) at → Contains gone at → ⊥) → IsGone new.table tree
  old_gone tree was apart = record {
    tree_in = (old_read tree was apart).stands was.tree_in;
    ready = λ at here. (old_now tree was apart at (subst (λ (l : List ℕ). Contains l at) (old_read tree was apart).reach here)).1;
  }

  held_at : (block : ℕ × List ℕ) → IsHeld old.table block → (Contains gone (block.0 * 4096) → ⊥) → IsHeld new.table block
  held_at block was not_gone =
      let at : ℕ = block.0 * 4096 in
      elim (is_in (tree_reach old.table root) at) [
        | inl here ↦ record {
          not_free = λ free. let w : LetGo ≡ Free = sym (root_now at here).state ∙ free in cc;
          not_dirty = λ dirty. let w : LetGo ≡ Dirty = sym (root_now at here).state ∙ dirty in cc;
          bytes = (root_now at here).bytes ∙ was.bytes;
        }
        | inr not_root ↦ let s = other_now at not_gone not_root in record {
          not_free = settled_taken (block_at old.table at) (block_at new.table at) s was.not_free;
          not_dirty = λ dirty. was.not_dirty (settled_was_dirty (block_at old.table at) (block_at new.table at) s dirty);
          bytes = s.bytes ∙ was.bytes;
        }
      ]

  newest_at : (at : ℕ) → Contains (reach_of old) at → (block_at new.table at).state ≡ Live → Contains o.commit.blocks (numbered_at new.table at)
  newest_at at there live =
      let clean : (block_at old.table at).state ≢ Dirty = λ dirty. let w : Dirty ≡ Live = sym (settled_dirty (block_at old.table at) (block_at new.table at) (reach_settled at there) dirty) ∙ live in cc in
      subst (λ (bytes : List ℕ). Contains o.commit.blocks (at / 4096, bytes)) (sym (reach_settled at there).bytes) (o.reaches at there clean)

  module _ (failed_write : scene.progress ≡ HasFailed) (now_failed : new.failed ≡ Some root) (noted : new.let_go.items ≡ []) (capacity : length old.table.slots ≤ vec_capacity new.let_go) (lists : new.table.lists ≡ old.table.lists + 1) (last_was : IsGone old.table new.last)
      (last_old : (at : ℕ) → Contains (tree_reach old.table new.last) at → Contains (old_roots old) at) (last_kept : (at : ℕ) → Contains (tree_reach old.table new.last) at → Contains gone at → ⊥)
      (gone_apart : (commit : Commit) → Contains scene.found commit → AreApart gone commit)
      (room : 100 ≤ free_blocks new.table + length (tree_reach old.table new.last) + length (tree_reach old.table root)) (buffers : 80 ≤ new.table.spare + length (tree_reach old.table new.last) + length (tree_reach old.table root)) (last_few : length (tree_reach old.table new.last) ≤ 33) where
    failed_few : length (reach_there new.table new.failed) ≤ 33
    failed_few =
        let was : length (tree_reach old.table root) ≤ 33 = subst (λ (tree : Option Tree). length (reach_there old.table tree) ≤ 33) is keeps.current.sealed_few in
        let same = ap length (ap (λ (tree : Option Tree). reach_there new.table tree) now_failed ∙ root_read.reach) in
        omega (arith, was, same)

    is_tried : IsTried old scene o.commit
    is_tried = o.tried (λ e. let w : HasFailed ≡ NotTried = sym failed_write ∙ e in cc)

    last_read : IsReadTree old.table new.table new.last
    last_read = old_read new.last last_was last_kept

    roots_now : old_roots new ≡ tree_reach old.table new.last ++ tree_reach old.table root
    roots_now =
        ap (λ (tree : Option Tree). tree_reach new.table new.last ++ reach_there new.table tree) now_failed
        ∙ ap (λ (l : List ℕ). l ++ tree_reach new.table root) last_read.reach ∙ ap (λ (l : List ℕ). tree_reach old.table new.last ++ l) root_read.reach

    free_now : 100 ≤ free_blocks new.table + length (old_roots new)
    free_now = let long = ap length roots_now in let both = length-append (tree_reach old.table new.last) (tree_reach old.table root) in omega (arith, room, long, both)

    spare_now : 80 ≤ new.table.spare + length (old_roots new)
    spare_now = let long = ap length roots_now in let both = length-append (tree_reach old.table new.last) (tree_reach old.table root) in omega (arith, buffers, long, both)

    pub tried_keeps : KeepsBlocks new image run next
    tried_keeps =
        end_all old new image run scene next keeps ended rest ends stays
        (end_current old new image run scene next keeps ended rest ends stays accounted ready free_now spare_now (let same = ap length last_read.reach in omega (arith, same, last_few)) failed_few)
        (end_found old new image run scene next keeps ended rest ends stays
        (λ commit there block within. held_at block (keeps.found.held commit there block within) (λ g. gone_apart commit there (block.0 * 4096) g (block, within, (let place : block.0 ≡ block.0 * 4096 / 4096 = omega arith in place))))
        (λ at there live. subst (λ (l : List Commit). IsOfNewest l (numbered_at new.table at)) (sym is_tried.found) (newest_at at there live))
        (old_gone new.last last_was last_kept)
        (λ tree some. subst (IsGone new.table) (same_tree_of root tree (sym now_failed ∙ some)) root_gone)
        (subst NoneTwice (sym roots_now) (once_append (tree_reach old.table new.last) (tree_reach old.table root) last_was.tree_in.once o.tree_in.once (λ at here there. let w : Sealed ≡ LetGo = sym (o.root_sealed at there) ∙ last_was.ready at here in cc)))
        capacity)
        (end_quiet old new image run scene next keeps ended rest ends stays
        (let was = o.lists in omega (arith, lists, was)) noted
        (λ tree some. subst (λ (l : List Commit). AreApartFromFirst (tree_reach new.table new.last) l) (sym is_tried.found) (λ at here reached. o.noted_apart at (o.old_noted at (last_old at (subst (λ (l : List ℕ). Contains l at) last_read.reach here))) reached)))
      where
        same_tree_of : (one two : Tree) → Some one ≡ Some two → one ≡ two
        same_tree_of one two e = cc
