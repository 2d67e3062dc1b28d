-- What a volume keeps once the superblock of its full commit is written.
use Rattle.std.proofs.Common.{◌≡◌, ◌≢◌, ◌∙◌, ◌≤◌, ◌+◌, ◌*◌, ◌/◌, ◌++◌, false, ℕ, zero, suc, List, [], ◌∷◌, Option, None, Some, length, sym, ap, subst, inl, inr, arith}
use Rattle.std.specs.Prelude.{All, Contains, vec_capacity}
use Rattle.std.proofs.lemmas.List.{append-nil}
use Rattle.std.proofs.lemmas.List.Elements.{All-contains}
use Rattle.blk_base.specs.Address.{IsAllowed}
use Rattle.blk_base.specs.Bytes.{Image}
use Rattle.blk_base.specs.Trees.{NoneTwice}
use Rattle.blk_base.proofs.Members.{is_in}
use Rattle.block_table.specs.declared.state.SlotState.TheVariants.{Dirty, Free, LetGo, Live, Sealed}
use Rattle.block_table.specs.declared.tree.SubState.{SubState}
use Rattle.block_table.specs.declared.tree.Tree.{Tree}
use Rattle.block_table.specs.Blocks.{BlockList}
use Rattle.block_table.specs.Slot.{BlockSlot}
use Rattle.block_table.specs.Table.{Table, free_blocks}
use Rattle.block_table.specs.TreeIn.{IsTaken, block_at}
use Rattle.commit_core.specs.Sealed.{IsOfNewest}
use Rattle.commit_images.specs.Scene.{Commit, IsWritten, NotTried, Scene}
use Rattle.flat_model.specs.Volume.{RunVolume}
use Rattle.table_commit.specs.Commit.{AreLetGo, AreReleasable, AreReleased, IsReleasable, addresses_of, allowed_in, settled, with_each}
use Rattle.table_commit.proofs.Gone.{all_allowed}
use Rattle.tree_frame.specs.Frame.{AreCurrent}
use Rattle.tree_frame.proofs.Reading.{IsReadTree, read_tree}
use Rattle.tree_range.specs.Shape.{IsTree, tree_reach}
use Rattle.volume_seal.specs.Sealed.{IsReady}
use Rattle.volume_seal.proofs.States.{IsSameTree, same_tree}
use Rattle.commit_blocks.specs.declared.kept.Kept.{Kept}
use Rattle.commit_blocks.specs.Keeps.{HoldsCommit, IsGone, IsHeld, IsOut, IsTried, IsTurn, KeepsBlocks, numbered_at, old_roots, reach_there}
use Rattle.commit_blocks.specs.Steps.{AreLetGoBehind, IsEnded, IsListOut, KeepsRest}
use Rattle.commit_blocks.proofs.Back.{backed}
use Rattle.commit_blocks.proofs.Counting.{once_fits}
use Rattle.commit_blocks.proofs.Ends.{Ends, end_all, end_current, end_found, end_quiet}
use Rattle.commit_blocks.proofs.Fates.{reach_of, states_current, states_taken}
use Rattle.commit_blocks.proofs.Read.{each, ready_now}
use Rattle.commit_blocks.proofs.Settling.{IsSettled, settled_dirty, settled_ends, settled_free, settled_gone, settled_let_go, settled_releasable, settled_size, settled_slot, settled_taken, settled_tree, settled_was_dirty}

one_is : (first commit : Commit) → Contains (first ∷ []) commit → first ≡ commit
one_is first commit (zero, inside, same) = same
one_is first commit (suc k, inside, same) = absurd (omega (arith, inside))

module _ (old : Kept) (image : Image) (run : RunVolume) (scene : Scene) (keeps : KeepsBlocks old image run scene) (list : BlockList) (out : IsListOut old list) (root : Tree) (is : old.sealed ≡ Some root) where
  pub runs_out : IsOut old scene root
  runs_out = subst (IsTurn old scene) is keeps.turn

  -- a block in use that wasn't let go was of the current volume, where it isn't of the root tree
  pub was_current : (at : ℕ) → (Contains (tree_reach old.table root) at → ⊥) → (block_at old.table at).state ≢ Free → (block_at old.table at).state ≢ LetGo → Contains (reach_of old) at
  was_current at not_root taken kept = elim (keeps.current.used at taken kept) [
    | inl there ↦ there
    | inr here ↦ absurd (not_root (subst (λ (tree : Option Tree). Contains (reach_there old.table tree) at) is here))
  ]

  pub noted_was : (at : ℕ) → Contains (addresses_of old.let_go.items) at → (block_at old.table at).state ≡ LetGo
  noted_was at there = (All-contains (λ (a : ℕ). IsReleasable (block_at old.table a)) (addresses_of old.let_go.items) at runs_out.noted there).let_go

  pub noted_ready : AreReleasable (with_each settled (backed old.table list.pairs)) (addresses_of old.let_go.items)
  noted_ready = settled_releasable old image run scene keeps list out (addresses_of old.let_go.items) noted_was

  root_not_noted : (at : ℕ) → Contains (tree_reach old.table root) at → Contains (addresses_of old.let_go.items) at → ⊥
  root_not_noted at here there = let w : Sealed ≡ LetGo = sym (runs_out.root_sealed at here) ∙ noted_was at there in cc

  root_settled : IsReadTree old.table (with_each settled (backed old.table list.pairs)) root
  root_settled = settled_tree old image run scene keeps list out root runs_out.tree_in

  module _ (mid : Table) (usable : ℕ) (released : AreReleased (with_each settled (backed old.table list.pairs)) mid (addresses_of old.let_go.items) usable) where
    mid_same : (at : ℕ) → Contains (tree_reach (with_each settled (backed old.table list.pairs)) root) at → block_at mid at ≡ block_at (with_each settled (backed old.table list.pairs)) at
    mid_same at here = released.others at (root_not_noted at (subst (λ (l : List ℕ). Contains l at) root_settled.reach here))

    mid_tree : IsSameTree (with_each settled (backed old.table list.pairs)) mid root
    mid_tree = same_tree (with_each settled (backed old.table list.pairs)) mid root (each (λ (at : ℕ). block_at mid at ≡ block_at (with_each settled (backed old.table list.pairs)) at) (tree_reach (with_each settled (backed old.table list.pairs)) root) mid_same)

    pub mid_root : IsTree mid root
    mid_root = mid_tree.stands (root_settled.stands runs_out.tree_in)

    pub mid_reach : tree_reach mid root ≡ tree_reach old.table root
    mid_reach = mid_tree.tree_reach_is ∙ root_settled.reach

    mid_live : (at : ℕ) → Contains (tree_reach old.table root) at → (block_at mid at).state ≡ Live
    mid_live at here =
        ap (λ (slot : BlockSlot). slot.state) (released.others at (root_not_noted at here)) ∙ (settled_slot old image run scene keeps list out at).sealed (runs_out.root_sealed at here)

    pub mid_current : AreCurrent mid (tree_reach mid root)
    mid_current = each (λ (at : ℕ). (block_at mid at).state ≢ LetGo) (tree_reach mid root) (λ at here gone. let w : Live ≡ LetGo = sym (mid_live at (subst (λ (l : List ℕ). Contains l at) mid_reach here)) ∙ gone in cc)

    module _ (new : Kept) (next : Scene) (ended : IsEnded scene next) (rest : KeepsRest old new) (let_go : AreLetGo mid new.table (tree_reach mid root)) where
      -- each block
      released_free : (at : ℕ) → Contains (addresses_of old.let_go.items) at → (block_at new.table at).state ≡ Free
      released_free at there =
          ap (λ (slot : BlockSlot). slot.state) (let_go.others at (λ here. root_not_noted at (subst (λ (l : List ℕ). Contains l at) mid_reach here) there) ∙ released.each at there)

      root_now : (at : ℕ) → Contains (tree_reach old.table root) at → block_at new.table at ≡ record (block_at mid at) { state = LetGo; stood = None }
      root_now at here = (let_go.each at (subst (λ (l : List ℕ). Contains l at) (sym mid_reach) here)).written (λ dirty. let w : Live ≡ Dirty = sym (mid_live at here) ∙ dirty in cc)

      other_now : (at : ℕ) → (Contains (addresses_of old.let_go.items) at → ⊥) → (Contains (tree_reach old.table root) at → ⊥) → block_at new.table at ≡ block_at (with_each settled (backed old.table list.pairs)) at
      other_now at not_noted not_root = let_go.others at (λ here. not_root (subst (λ (l : List ℕ). Contains l at) mid_reach here)) ∙ released.others at not_noted

      settled_now : (at : ℕ) → (Contains (addresses_of old.let_go.items) at → ⊥) → (Contains (tree_reach old.table root) at → ⊥) → IsSettled (block_at old.table at) (block_at new.table at)
      settled_now at not_noted not_root = subst (IsSettled (block_at old.table at)) (sym (other_now at not_noted not_root)) (settled_slot old image run scene keeps list out at)

      root_state : (at : ℕ) → Contains (tree_reach old.table root) at → (block_at new.table at).state ≡ LetGo
      root_state at here = ap (λ (slot : BlockSlot). slot.state) (root_now at here)

      root_mid : (at : ℕ) → Contains (tree_reach old.table root) at → block_at mid at ≡ block_at (with_each settled (backed old.table list.pairs)) at
      root_mid at here = released.others at (root_not_noted at here)

      root_bytes : (at : ℕ) → Contains (tree_reach old.table root) at → (block_at new.table at).bytes ≡ (block_at old.table at).bytes
      root_bytes at here = ap (λ (slot : BlockSlot). slot.bytes) (root_now at here) ∙ ap (λ (slot : BlockSlot). slot.bytes) (root_mid at here) ∙ (settled_slot old image run scene keeps list out at).bytes

      root_back : (at : ℕ) → Contains (tree_reach old.table root) at → (block_at new.table at).out ≡ false
      root_back at here = ap (λ (slot : BlockSlot). slot.out) (root_now at here) ∙ ap (λ (slot : BlockSlot). slot.out) (root_mid at here) ∙ (settled_slot old image run scene keeps list out at).back (inl (runs_out.root_sealed at here))

      ends : (at : ℕ) → Ends (block_at old.table at) (block_at new.table at)
      ends at = elim (is_in (addresses_of old.let_go.items) at) [
        | inl there ↦ record {
          came = λ taken. absurd (taken (released_free at there));
          bytes = λ taken. absurd (taken (released_free at there));
          written = λ taken _. absurd (taken (released_free at there));
          not_sealed = λ e. let w : Free ≡ Sealed = sym (released_free at there) ∙ e in cc;
          back = λ e. absurd (let w : Free ≡ LetGo = sym (released_free at there) ∙ e in cc);
          clear = λ _ e. absurd (let w : Free ≡ Live = sym (released_free at there) ∙ e in cc);
        }
        | inr not_noted ↦ elim (is_in (tree_reach old.table root) at) [
          | inl here ↦ record {
            came = λ _ free. let w : Sealed ≡ Free = sym (runs_out.root_sealed at here) ∙ free in cc;
            bytes = λ _. root_bytes at here;
            written = λ _ _ dirty. let w : Sealed ≡ Dirty = sym (runs_out.root_sealed at here) ∙ dirty in cc;
            not_sealed = λ e. let w : LetGo ≡ Sealed = sym (root_state at here) ∙ e in cc;
            back = λ _. root_back at here;
            clear = λ _ _. root_back at here;
          }
          | inr not_root ↦ settled_ends (block_at old.table at) (block_at new.table at) (settled_now at not_noted not_root)
        ]
      ]

      accounted : (at : ℕ) → (block_at new.table at).state ≢ Free → (block_at new.table at).state ≢ LetGo → Contains (reach_of old) at
      accounted at taken kept = elim (is_in (addresses_of old.let_go.items) at) [
        | inl there ↦ absurd (taken (released_free at there))
        | inr not_noted ↦ elim (is_in (tree_reach old.table root) at) [
          | inl here ↦ absurd (kept (root_state at here))
          | inr not_root ↦
              let s = settled_now at not_noted not_root in
              was_current at not_root ((ends at).came taken) (λ gone. kept (settled_let_go (block_at old.table at) (block_at new.table at) s gone))
        ]
      ]

      root_read : IsReadTree old.table new.table root
      root_read = read_tree old.table new.table root (each (λ (at : ℕ). IsTaken new.table at × ((block_at new.table at).bytes ≡ (block_at old.table at).bytes)) (tree_reach old.table root) (λ at here. (
        record {
          allowed = subst (λ (n : ℕ). IsAllowed n at) (sym rest.size) (keeps.current.allowed at (λ free. let w : Sealed ≡ Free = sym (runs_out.root_sealed at here) ∙ free in cc));
          taken = λ free. let w : LetGo ≡ Free = sym (root_state at here) ∙ free in cc;
        },
        root_bytes at here,
      )))

      -- the root tree is let go, and what was noted is released
      pub finish_let_go : new.last ≡ root → AreLetGoBehind old.table new.table (tree_reach new.table new.last) (addresses_of old.let_go.items)
      finish_let_go last = record {
        only = λ at gone. elim (is_in (addresses_of old.let_go.items) at) [
          | inl there ↦ absurd (let w : Free ≡ LetGo = sym (released_free at there) ∙ gone in cc)
          | inr not_noted ↦ elim (is_in (tree_reach old.table root) at) [
            | inl here ↦ inl (subst (λ (l : List ℕ). Contains l at) (sym (last_is last)) here)
            | inr not_root ↦ inr (settled_gone (block_at old.table at) (block_at new.table at) (settled_now at not_noted not_root) gone, not_noted)
          ]
        ];
        made_so = λ at here. root_state at (subst (λ (l : List ℕ). Contains l at) (last_is last) here);
        stays = λ at gone not_noted. settled_let_go (block_at old.table at) (block_at new.table at) (settled_now at not_noted (λ here. let w : Sealed ≡ LetGo = sym (runs_out.root_sealed at here) ∙ gone in cc)) gone;
      }
        where
          last_is : new.last ≡ root → tree_reach new.table new.last ≡ tree_reach old.table root
          last_is last = ap (λ (tree : Tree). tree_reach new.table tree) last ∙ root_read.reach

      -- what is let go behind it is of the commit
      gone_reached : (at : ℕ) → (block_at new.table at).state ≡ LetGo → Contains runs_out.commit.blocks (numbered_at new.table at)
      gone_reached at gone = elim (is_in (addresses_of old.let_go.items) at) [
        | inl there ↦ absurd (let w : Free ≡ LetGo = sym (released_free at there) ∙ gone in cc)
        | inr not_noted ↦ elim (is_in (tree_reach old.table root) at) [
          | inl here ↦ subst (λ (bytes : List ℕ). Contains runs_out.commit.blocks (at / 4096, bytes)) (sym (root_bytes at here)) (runs_out.root_reached at here)
          | inr not_root ↦
              let s = settled_now at not_noted not_root in
              subst (λ (bytes : List ℕ). Contains runs_out.commit.blocks (at / 4096, bytes)) (sym s.bytes) (runs_out.since at (settled_gone (block_at old.table at) (block_at new.table at) s gone) not_noted)
        ]
      ]

      not_noted_reach : (at : ℕ) → Contains (reach_of old) at → Contains (addresses_of old.let_go.items) at → ⊥
      not_noted_reach at there noted = states_current old.table old.states.items run keeps.current.given at there (noted_was at noted)

      reach_settled : (at : ℕ) → Contains (reach_of old) at → IsSettled (block_at old.table at) (block_at new.table at)
      reach_settled at there = settled_now at (not_noted_reach at there) (λ here. runs_out.root_apart at here there)

      stays : (at : ℕ) → Contains (reach_of old) at → ((block_at new.table at).state ≢ Free) × ((block_at new.table at).state ≢ LetGo)
      stays at there = (
        settled_taken (block_at old.table at) (block_at new.table at) (reach_settled at there) (states_taken old.table old.states.items run keeps.current.given at there).taken,
        λ gone. states_current old.table old.states.items run keeps.current.given at there (settled_gone (block_at old.table at) (block_at new.table at) (reach_settled at there) gone),
      )

      ready : All (λ (state : SubState). IsReady new.table state.tree old.fsid) old.states.items
      ready = ready_now old.table new.table old.states.items run keeps.current.given (Rattle.commit_blocks.proofs.Ends.end_readable old new image run scene next keeps ended rest ends stays) (λ at there. (stays at there).1) old.fsid (λ at there. record {
        bytes = (reach_settled at there).bytes;
        down = settled_was_dirty (block_at old.table at) (block_at new.table at) (reach_settled at there);
        up = settled_dirty (block_at old.table at) (block_at new.table at) (reach_settled at there);
      }) keeps.current.ready

      root_gone : IsGone new.table root
      root_gone = record {
        tree_in = root_read.stands runs_out.tree_in;
        ready = λ at here. root_state at (subst (λ (l : List ℕ). Contains l at) root_read.reach here);
      }

      -- a block that the commit reaches is there
      held_at : (block : ℕ × List ℕ) → Contains runs_out.commit.blocks block → IsHeld new.table block
      held_at block there =
          let was : IsHeld old.table block = runs_out.held block there in
          let at : ℕ = block.0 * 4096 in
          let not_noted : Contains (addresses_of old.let_go.items) at → ⊥ = λ noted. runs_out.noted_apart at noted (block, there, (let place : block.0 ≡ block.0 * 4096 / 4096 = omega arith in place)) in
          elim (is_in (tree_reach old.table root) at) [
            | inl here ↦ record {
              not_free = λ free. let w : LetGo ≡ Free = sym (root_state at here) ∙ free in cc;
              not_dirty = λ dirty. let w : LetGo ≡ Dirty = sym (root_state at here) ∙ dirty in cc;
              bytes = root_bytes at here ∙ was.bytes;
            }
            | inr not_root ↦ let s = settled_now at not_noted not_root in record {
              not_free = settled_taken (block_at old.table at) (block_at new.table at) s was.not_free;
              not_dirty = λ dirty. was.not_dirty (settled_was_dirty (block_at old.table at) (block_at new.table at) s dirty);
              bytes = s.bytes ∙ was.bytes;
            }
          ]

      -- what is current on the device is of the commit
      pub newest_at : (at : ℕ) → Contains (reach_of old) at → (block_at new.table at).state ≡ Live → Contains runs_out.commit.blocks (numbered_at new.table at)
      newest_at at there live =
          let clean : (block_at old.table at).state ≢ Dirty = λ dirty. let w : Dirty ≡ Live = sym (settled_dirty (block_at old.table at) (block_at new.table at) (reach_settled at there) dirty) ∙ live in cc in
          subst (λ (bytes : List ℕ). Contains runs_out.commit.blocks (at / 4096, bytes)) (sym (reach_settled at there).bytes) (runs_out.reaches at there clean)

      noted_many : usable ≡ allowed_in (length (with_each settled (backed old.table list.pairs)).slots) (addresses_of old.let_go.items) → length (addresses_of old.let_go.items) ≡ usable
      noted_many is_usable = sym (is_usable ∙ all_allowed (length (with_each settled (backed old.table list.pairs)).slots) (addresses_of old.let_go.items) (each (IsAllowed (length (with_each settled (backed old.table list.pairs)).slots)) (addresses_of old.let_go.items) (λ at there.
          subst (λ (n : ℕ). IsAllowed n at) (sym (settled_size old image run scene keeps list out)) (keeps.current.allowed at (λ free. let w : LetGo ≡ Free = sym (noted_was at there) ∙ free in cc)))))

      module _ (written : scene.progress ≡ IsWritten) (is_usable : usable ≡ allowed_in (length (with_each settled (backed old.table list.pairs)).slots) (addresses_of old.let_go.items))
          (last : new.last ≡ root) (failed : new.failed ≡ None) (noted : new.let_go.items ≡ []) (capacity : length old.table.slots ≤ vec_capacity new.let_go) where
        is_tried : IsTried old scene runs_out.commit
        is_tried = runs_out.tried (λ e. let w : IsWritten ≡ NotTried = sym written ∙ e in cc)

        alone : scene.found ≡ runs_out.commit ∷ []
        alone = is_tried.found ∙ ap (λ (l : List Commit). runs_out.commit ∷ l) (is_tried.written written)

        roots_now : old_roots new ≡ tree_reach old.table root
        roots_now =
            ap (λ (tree : Option Tree). tree_reach new.table new.last ++ reach_there new.table tree) failed
            ∙ append-nil (tree_reach new.table new.last) ∙ ap (λ (tree : Tree). tree_reach new.table tree) last ∙ root_read.reach

        free_now : 100 ≤ free_blocks new.table + length (old_roots new)
        free_now =
            let was : 100 ≤ free_blocks old.table + length (old_roots old) + length (tree_reach old.table root) = subst (λ (tree : Option Tree). 100 ≤ free_blocks old.table + length (old_roots old) + length (reach_there old.table tree)) is keeps.current.free in
            let one = settled_free old image run scene keeps list out in
            let fits = once_fits (addresses_of old.let_go.items) (old_roots old) keeps.found.apart runs_out.old_noted in
            let many = noted_many is_usable in
            let roots = ap length roots_now in
            omega (arith, was, one, fits, many, roots, released.free, let_go.free)

        last_few : length (tree_reach new.table new.last) ≤ 33
        last_few =
            let was : length (tree_reach old.table root) ≤ 33 = subst (λ (tree : Option Tree). length (reach_there old.table tree) ≤ 33) is keeps.current.sealed_few in
            let same = ap length (ap (λ (tree : Tree). tree_reach new.table tree) last ∙ root_read.reach) in
            omega (arith, was, same)

        spare_now : 80 ≤ new.table.spare + length (old_roots new)
        spare_now =
            let was : 80 ≤ old.table.spare + length (old_roots old) + length (tree_reach old.table root) = subst (λ (tree : Option Tree). 80 ≤ old.table.spare + length (old_roots old) + length (reach_there old.table tree)) is keeps.current.spare in
            let fits = once_fits (addresses_of old.let_go.items) (old_roots old) keeps.found.apart runs_out.old_noted in
            let roots = ap length roots_now in
            omega (arith, was, fits, roots, released.spare, let_go.spare)

        found_held : (commit : Commit) → Contains scene.found commit → HoldsCommit new.table commit
        found_held commit there =
            let one : Contains (runs_out.commit ∷ []) commit = subst (λ (l : List Commit). Contains l commit) alone there in
            subst (λ (c : Commit). HoldsCommit new.table c) (one_is runs_out.commit commit one) held_at

        pub finish_reached : (commit : Commit) → Contains scene.found commit → (at : ℕ) → (block_at new.table at).state ≡ LetGo → Contains commit.blocks (numbered_at new.table at)
        finish_reached commit there at gone =
            let one : Contains (runs_out.commit ∷ []) commit = subst (λ (l : List Commit). Contains l commit) alone there in
            subst (λ (c : Commit). Contains c.blocks (numbered_at new.table at)) (one_is runs_out.commit commit one) (gone_reached at gone)

        pub finish_keeps : KeepsBlocks new image run next
        finish_keeps =
            end_all old new image run scene next keeps ended rest ends stays
            (end_current old new image run scene next keeps ended rest ends stays accounted ready free_now spare_now last_few (subst (λ (tree : Option Tree). length (reach_there new.table tree) ≤ 33) (sym failed) (omega arith)))
            (end_found old new image run scene next keeps ended rest ends stays found_held
            (λ at there live. subst (λ (l : List Commit). IsOfNewest l (numbered_at new.table at)) (sym alone) (newest_at at there live))
            (subst (IsGone new.table) (sym last) root_gone)
            (λ tree some. absurd (let w : ◌≡◌ {A = Option Tree} None (Some tree) = sym failed ∙ some in cc))
            (subst NoneTwice (sym roots_now) runs_out.tree_in.once) capacity)
            (end_quiet old new image run scene next keeps ended rest ends stays
            (let lists_one = released.lists in let lists_two = let_go.lists in let was = runs_out.lists in omega (arith, lists_one, lists_two, was)) noted
            (λ tree some. absurd (let w : ◌≡◌ {A = Option Tree} None (Some tree) = sym failed ∙ some in cc)))
