-- The table once the write of a superblock failed, step by step.
use Rattle.std.proofs.Common.{◌≡◌, ◌≢◌, ◌∙◌, ◌≤◌, ◌+◌, ◌++◌, ℕ, List, [], Option, None, Some, length, length-append, sym, ap, subst, inl, inr, arith}
use Rattle.std.specs.Prelude.{Contains, vec_capacity}
use Rattle.std.proofs.lemmas.List.{append-nil}
use Rattle.std.proofs.lemmas.List.Elements.{Contains-append_left, Contains-append_right}
use Rattle.blk_base.specs.Address.{IsAllowed}
use Rattle.blk_base.specs.Bytes.{Image}
use Rattle.blk_base.specs.Trees.{NoneTwice}
use Rattle.blk_base.proofs.Members.{is_in, once_apart}
use Rattle.block_table.specs.declared.state.SlotState.TheVariants.{Dirty, Free, LetGo, Live, Sealed}
use Rattle.block_table.specs.declared.tree.Tree.{Tree}
use Rattle.block_table.specs.Blocks.{BlockList}
use Rattle.block_table.specs.Slot.{BlockSlot}
use Rattle.block_table.specs.Table.{Table, free_blocks}
use Rattle.block_table.specs.TreeIn.{IsTaken, block_at}
use Rattle.commit_images.specs.Scene.{HasFailed, NotTried, Scene}
use Rattle.flat_model.specs.Volume.{RunVolume}
use Rattle.table_commit.specs.Commit.{AreLetGo, AreReleasable, AreReleased, IsReleasable, settled, with_each}
use Rattle.tree_frame.specs.Frame.{AreCurrent}
use Rattle.tree_frame.proofs.Reading.{IsReadTree, read_tree}
use Rattle.tree_range.specs.Shape.{IsTree, tree_reach}
use Rattle.commit_blocks.specs.declared.kept.Kept.{Kept}
use Rattle.commit_blocks.specs.Keeps.{IsGone, IsOut, IsTried, KeepsBlocks, old_roots, reach_there}
use Rattle.commit_blocks.specs.Steps.{AreLetGoBehind, IsEnded, IsListOut, KeepsRest, released_by}
use Rattle.commit_blocks.proofs.Back.{backed}
use Rattle.commit_blocks.proofs.Finishing.{runs_out}
use Rattle.commit_blocks.proofs.Read.{each}
use Rattle.commit_blocks.proofs.Settling.{IsSettled, settled_free, settled_size, settled_slot, settled_tree}
use Rattle.commit_blocks.proofs.TriedEnd.{IsRootEnd, tried_keeps, tried_let_go}

module _ (old : Kept) (image : Image) (run : RunVolume) (scene : Scene) (keeps : KeepsBlocks old image run scene) (list : BlockList) (out : IsListOut old list) (root : Tree) (is : old.sealed ≡ Some root) where
  o : IsOut old scene root
  o = runs_out old image run scene keeps list out root is

  root_read : IsReadTree old.table (with_each settled (backed old.table list.pairs)) root
  root_read = settled_tree old image run scene keeps list out root o.tree_in

  pub tried_root : IsTree (with_each settled (backed old.table list.pairs)) root
  tried_root = root_read.stands o.tree_in

  slot : (at : ℕ) → IsSettled (block_at old.table at) (block_at (with_each settled (backed old.table list.pairs)) at)
  slot = settled_slot old image run scene keeps list out

  root_live : (at : ℕ) → Contains (tree_reach old.table root) at → (block_at (with_each settled (backed old.table list.pairs)) at).state ≡ Live
  root_live at here = (slot at).sealed (o.root_sealed at here)

  pub tried_current : AreCurrent (with_each settled (backed old.table list.pairs)) (tree_reach (with_each settled (backed old.table list.pairs)) root)
  tried_current = each (λ (at : ℕ). (block_at (with_each settled (backed old.table list.pairs)) at).state ≢ LetGo) (tree_reach (with_each settled (backed old.table list.pairs)) root)
      (λ at here gone. let w : Live ≡ LetGo = sym (root_live at (subst (λ (l : List ℕ). Contains l at) root_read.reach here)) ∙ gone in cc)

  module _ (mid : Table) (let_go : AreLetGo (with_each settled (backed old.table list.pairs)) mid (tree_reach (with_each settled (backed old.table list.pairs)) root)) where
    root_end : (at : ℕ) → Contains (tree_reach old.table root) at → IsRootEnd (block_at old.table at) (block_at mid at)
    root_end at here =
        let now : block_at mid at ≡ record (block_at (with_each settled (backed old.table list.pairs)) at) { state = LetGo; stood = None } =
        (let_go.each at (subst (λ (l : List ℕ). Contains l at) (sym root_read.reach) here)).written (λ dirty. let w : Live ≡ Dirty = sym (root_live at here) ∙ dirty in cc) in
        record {
          state = ap (λ (s : BlockSlot). s.state) now;
          bytes = ap (λ (s : BlockSlot). s.bytes) now ∙ (slot at).bytes;
          back = ap (λ (s : BlockSlot). s.out) now ∙ (slot at).back (inl (o.root_sealed at here));
        }

    other_end : (at : ℕ) → (Contains (tree_reach old.table root) at → ⊥) → IsSettled (block_at old.table at) (block_at mid at)
    other_end at not_root = subst (IsSettled (block_at old.table at)) (sym (let_go.others at (λ here. not_root (subst (λ (l : List ℕ). Contains l at) root_read.reach here)))) (slot at)

    free_mid : free_blocks old.table ≤ free_blocks mid
    free_mid = let one = settled_free old image run scene keeps list out in omega (arith, one, let_go.free)

    pub size_mid : length mid.slots ≡ length old.table.slots
    size_mid = let_go.size ∙ settled_size old image run scene keeps list out

    was_free : 100 ≤ free_blocks old.table + length (old_roots old) + length (tree_reach old.table root)
    was_free = subst (λ (tree : Option Tree). 100 ≤ free_blocks old.table + length (old_roots old) + length (reach_there old.table tree)) is keeps.current.free

    was_spare : 80 ≤ old.table.spare + length (old_roots old) + length (tree_reach old.table root)
    was_spare = subst (λ (tree : Option Tree). 80 ≤ old.table.spare + length (old_roots old) + length (reach_there old.table tree)) is keeps.current.spare

    -- no write failed before
    module _ (new : Kept) (next : Scene) (ended : IsEnded scene next) (rest : KeepsRest old new) (table : new.table ≡ mid) (first : old.failed ≡ None) (failed_write : scene.progress ≡ HasFailed) (now_failed : new.failed ≡ Some root) (last : new.last ≡ old.last) (noted : new.let_go.items ≡ []) (capacity : length old.table.slots ≤ vec_capacity new.let_go) where
      roots_were : old_roots old ≡ tree_reach old.table old.last
      roots_were = ap (λ (tree : Option Tree). tree_reach old.table old.last ++ reach_there old.table tree) first ∙ append-nil (tree_reach old.table old.last)

      pub first_let_go : AreLetGoBehind old.table new.table (tree_reach new.table root) (released_by old old.failed)
      first_let_go = subst (λ (tree : Option Tree). AreLetGoBehind old.table new.table (tree_reach new.table root) (released_by old tree)) (sym first) (tried_let_go old image run scene keeps list out root is new next ended rest []
          (λ at there. absurd (Rattle.blk_base.proofs.Members.in_nothing at there)) (λ at there. absurd (Rattle.blk_base.proofs.Members.in_nothing at there))
          (λ at here. subst (λ (t : Table). IsRootEnd (block_at old.table at) (block_at t at)) (sym table) (root_end at here))
          (λ at _ not_root. subst (λ (t : Table). IsSettled (block_at old.table at) (block_at t at)) (sym table) (other_end at not_root)))

      pub first_keeps : KeepsBlocks new image run next
      first_keeps = tried_keeps old image run scene keeps list out root is new next ended rest []
          (λ at there. absurd (Rattle.blk_base.proofs.Members.in_nothing at there)) (λ at there. absurd (Rattle.blk_base.proofs.Members.in_nothing at there))
          (λ at here. subst (λ (t : Table). IsRootEnd (block_at old.table at) (block_at t at)) (sym table) (root_end at here))
          (λ at _ not_root. subst (λ (t : Table). IsSettled (block_at old.table at) (block_at t at)) (sym table) (other_end at not_root))
          failed_write now_failed noted capacity (ap (λ (t : Table). t.lists) table ∙ let_go.lists)
          (subst (IsGone old.table) (sym last) keeps.found.last)
          (λ at here. Contains-append_left (tree_reach old.table old.last) (reach_there old.table old.failed) at (subst (λ (tree : Tree). Contains (tree_reach old.table tree) at) last here))
          (λ at here there. Rattle.blk_base.proofs.Members.in_nothing at there)
          (λ commit there at gone reached. Rattle.blk_base.proofs.Members.in_nothing at gone)
          (let now = ap (λ (t : Table). free_blocks t) table in
          let roots = ap length roots_were in
          let same = ap (λ (tree : Tree). length (tree_reach old.table tree)) last in
          omega (arith, now, roots, same, was_free, free_mid))
          (let now = ap (λ (t : Table). t.spare) table in
          let roots = ap length roots_were in
          let same = ap (λ (tree : Tree). length (tree_reach old.table tree)) last in
          omega (arith, now, roots, same, was_spare, let_go.spare))
          (subst (λ (tree : Tree). length (tree_reach old.table tree) ≤ 33) (sym last) keeps.current.last_few)

    -- one failed before: its root tree stays, and the one before it goes
    last_now : (at : ℕ) → Contains (tree_reach old.table old.last) at → IsSettled (block_at old.table at) (block_at mid at)
    last_now at here = other_end at (λ r. let w : Sealed ≡ LetGo = sym (o.root_sealed at r) ∙ keeps.found.last.ready at here in cc)

    last_gone : (at : ℕ) → Contains (tree_reach old.table old.last) at → (block_at mid at).state ≡ LetGo
    last_gone at here = (last_now at here).other (λ e. let w : LetGo ≡ Sealed = sym (keeps.found.last.ready at here) ∙ e in cc) ∙ keeps.found.last.ready at here

    last_read : IsReadTree old.table mid old.last
    last_read = read_tree old.table mid old.last (each (λ (at : ℕ). IsTaken mid at × ((block_at mid at).bytes ≡ (block_at old.table at).bytes)) (tree_reach old.table old.last) (λ at here. (
      record {
        allowed = subst (λ (n : ℕ). IsAllowed n at) (sym size_mid) (keeps.current.allowed at (λ free. let w : LetGo ≡ Free = sym (keeps.found.last.ready at here) ∙ free in cc));
        taken = λ free. let w : LetGo ≡ Free = sym (last_gone at here) ∙ free in cc;
      },
      (last_now at here).bytes,
    )))

    pub last_tree : IsTree mid old.last
    last_tree = last_read.stands keeps.found.last.tree_in

    pub last_releasable : AreReleasable mid (tree_reach mid old.last)
    last_releasable = each (λ (at : ℕ). IsReleasable (block_at mid at)) (tree_reach mid old.last) (λ at there.
        let here = subst (λ (l : List ℕ). Contains l at) last_read.reach there in
        record { let_go = last_gone at here; back = (last_now at here).back (inr (keeps.found.last.ready at here)) })

    module _ (new : Kept) (next : Scene) (ended : IsEnded scene next) (rest : KeepsRest old new) (tree : Tree) (released : AreReleased mid new.table (tree_reach mid old.last) (length (tree_reach mid old.last))) (later : old.failed ≡ Some tree) (failed_write : scene.progress ≡ HasFailed) (now_failed : new.failed ≡ Some root) (last : new.last ≡ tree)
        (noted : new.let_go.items ≡ []) (capacity : length old.table.slots ≤ vec_capacity new.let_go) where
      roots_are : old_roots old ≡ tree_reach old.table old.last ++ tree_reach old.table tree
      roots_are = ap (λ (t : Option Tree). tree_reach old.table old.last ++ reach_there old.table t) later

      both_once : NoneTwice (tree_reach old.table old.last ++ tree_reach old.table tree)
      both_once = subst NoneTwice roots_are keeps.found.apart

      is_tried : IsTried old scene o.commit
      is_tried = o.tried (λ e. let w : HasFailed ≡ NotTried = sym failed_write ∙ e in cc)

      kept_now : (at : ℕ) → (Contains (tree_reach old.table old.last) at → ⊥) → block_at new.table at ≡ block_at mid at
      kept_now at not_last = released.others at (λ k. not_last (subst (λ (l : List ℕ). Contains l at) last_read.reach k))

      not_last_root : (at : ℕ) → Contains (tree_reach old.table root) at → Contains (tree_reach old.table old.last) at → ⊥
      not_last_root at r here = let w : Sealed ≡ LetGo = sym (o.root_sealed at r) ∙ keeps.found.last.ready at here in cc

      pub later_let_go : AreLetGoBehind old.table new.table (tree_reach new.table root) (released_by old old.failed)
      later_let_go = subst (λ (t : Option Tree). AreLetGoBehind old.table new.table (tree_reach new.table root) (released_by old t)) (sym later) (tried_let_go old image run scene keeps list out root is new next ended rest (tree_reach old.table old.last)
          keeps.found.last.ready
          (λ at there. ap (λ (s : BlockSlot). s.state) (released.each at (subst (λ (l : List ℕ). Contains l at) (sym last_read.reach) there)))
          (λ at here. subst (IsRootEnd (block_at old.table at)) (sym (kept_now at (not_last_root at here))) (root_end at here))
          (λ at not_gone not_root. subst (IsSettled (block_at old.table at)) (sym (kept_now at not_gone)) (other_end at not_root)))

      pub later_keeps : KeepsBlocks new image run next
      later_keeps = tried_keeps old image run scene keeps list out root is new next ended rest (tree_reach old.table old.last)
          keeps.found.last.ready
          (λ at there. ap (λ (s : BlockSlot). s.state) (released.each at (subst (λ (l : List ℕ). Contains l at) (sym last_read.reach) there)))
          (λ at here. subst (IsRootEnd (block_at old.table at)) (sym (kept_now at (not_last_root at here))) (root_end at here))
          (λ at not_gone not_root. subst (IsSettled (block_at old.table at)) (sym (kept_now at not_gone)) (other_end at not_root))
          failed_write now_failed noted capacity (released.lists ∙ let_go.lists)
          (subst (IsGone old.table) (sym last) (keeps.found.failed tree later))
          (λ at here. subst (λ (l : List ℕ). Contains l at) (sym roots_are) (Contains-append_right (tree_reach old.table old.last) (tree_reach old.table tree) at (subst (λ (t : Tree). Contains (tree_reach old.table t) at) last here)))
          (λ at here there. once_apart (tree_reach old.table old.last) (tree_reach old.table tree) both_once at there (subst (λ (t : Tree). Contains (tree_reach old.table t) at) last here))
          (is_tried.spared tree later)
          (let roots = ap length roots_are in
          let both = length-append (tree_reach old.table old.last) (tree_reach old.table tree) in
          let same = ap (λ (t : Tree). length (tree_reach old.table t)) last in
          let long = ap length last_read.reach in
          omega (arith, roots, both, same, long, was_free, free_mid, released.free))
          (let roots = ap length roots_are in
          let both = length-append (tree_reach old.table old.last) (tree_reach old.table tree) in
          let same = ap (λ (t : Tree). length (tree_reach old.table t)) last in
          let long = ap length last_read.reach in
          omega (arith, roots, both, same, long, was_spare, let_go.spare, released.spare))
          (subst (λ (t : Tree). length (tree_reach old.table t) ≤ 33) (sym last) (subst (λ (t : Option Tree). length (reach_there old.table t) ≤ 33) later keeps.current.failed_few))
