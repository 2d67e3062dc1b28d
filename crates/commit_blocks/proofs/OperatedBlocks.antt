-- What an edit of the volume's blocks leaves of those that superblocks reach.
use Rattle.std.proofs.Common.{◌≡◌, ◌≢◌, ◌∙◌, ◌*◌, ℕ, List, Option, Some, None, refl, sym, ap, subst, inl, inr}
use Rattle.std.specs.Prelude.{◌⊎◌, Contains}
use Rattle.blk_base.proofs.Members.{is_in}
use Rattle.block_table.specs.declared.state.SlotState.{SlotState}
use Rattle.block_table.specs.declared.state.SlotState.TheVariants.{Dirty, Free, LetGo}
use Rattle.block_table.specs.declared.tree.Tree.{Tree}
use Rattle.block_table.specs.Slot.{BlockSlot}
use Rattle.block_table.specs.Table.{Table}
use Rattle.block_table.specs.TreeIn.{block_at}
use Rattle.commit_images.specs.Scene.{Commit}
use Rattle.tree_frame.specs.Frame.{IsEdit}
use Rattle.tree_frame.proofs.EditLaws.{is_dirty}
use Rattle.tree_range.specs.Shape.{AreAlike, tree_reach}
use Rattle.tree_range.proofs.Local.{tree_alike}
use Rattle.commit_blocks.specs.Keeps.{HoldsCommit, IsGone, IsHeld, reach_there}
use Rattle.commit_blocks.proofs.Read.{each}

-- a block that was let go, as it was before
abbrev gone : BlockSlot → BlockSlot
gone slot = record slot { state = LetGo; stood = None }

abbrev state_of : Table → ℕ → SlotState
state_of table at = (block_at table at).state

-- a block that isn't edited: it stays, or it is one of these and was let go
abbrev Fate : Table → Table → List ℕ → ℕ → Type 0
Fate old new reach at =
    (block_at new at ≡ block_at old at) ⊎ (Contains reach at × (block_at new at ≡ gone (block_at old at)))

-- a block that isn't edited wasn't edited before
pub record CameFrom (old new : Table) (reach : List ℕ) (at : ℕ) : Type 0 where
  pub not_free : (block_at old at).state ≢ Free
  pub not_dirty : (block_at old at).state ≢ Dirty
  pub fate : Fate old new reach at

pub same_state : (old new : Table) (at : ℕ) → block_at new at ≡ block_at old at → (block_at new at).state ≡ (block_at old at).state
same_state old new at same = ap (λ (slot : BlockSlot). slot.state) same

gone_state : (old new : Table) (at : ℕ) → block_at new at ≡ gone (block_at old at) → (block_at new at).state ≡ LetGo
gone_state old new at is = ap (λ (slot : BlockSlot). slot.state) is

gone_not : (old new : Table) (at : ℕ) (state : SlotState) → block_at new at ≡ gone (block_at old at) → (LetGo ≡ state → ⊥) → (block_at new at).state ≢ state
gone_not old new at state is other e = other (sym (gone_state old new at is) ∙ e)

module _ (old new : Table) (before after : List ℕ) (edit : IsEdit old new before after) (current : (at : ℕ) → Contains before at → (block_at old at).state ≢ LetGo) (taken : (at : ℕ) → Contains before at → (block_at old at).state ≢ Free) where
  pub fate_of : (at : ℕ) → (block_at old at).state ≢ Free → (block_at old at).state ≢ Dirty → Fate old new before at
  fate_of at used clean = elim (is_in before at) [
    | inl there ↦ elim (is_in after at) [
      | inl here ↦ inl (edit.kept_whole at there here clean)
      | inr none ↦ inr (there, (edit.left at there none).written clean)
    ]
    | inr not_there ↦ elim (is_in after at) [
      | inl here ↦ absurd (used (edit.fresh at here not_there).0)
      | inr none ↦ elim (edit.others at not_there none) [
        | inl same ↦ inl same
        | inr both ↦ absurd (used both.before)
      ]
    ]
  ]

  pub came_from : (at : ℕ) → (block_at new at).state ≢ Free → (block_at new at).state ≢ Dirty → CameFrom old new before at
  came_from at used clean = elim (is_in before at) [
    | inl there ↦ elim (is_in after at) [
      | inl here ↦
          let same = edit.kept at there here in
          let was : (block_at old at).state ≢ Dirty = λ dirty. clean (same ∙ dirty) in
          record { not_free = λ free. used (same ∙ free); not_dirty = was; fate = inl (edit.kept_whole at there here was) }
      | inr none ↦ elim (is_dirty (block_at old at).state) [
        | inl dirty ↦ absurd (used ((edit.left at there none).dirty dirty))
        | inr was ↦ record { not_free = taken at there; not_dirty = was; fate = inr (there, (edit.left at there none).written was) }
      ]
    ]
    | inr not_there ↦ elim (is_in after at) [
      | inl here ↦ absurd (clean (edit.fresh at here not_there).1)
      | inr none ↦ elim (edit.others at not_there none) [
        | inl same ↦ record { not_free = λ free. used (same_state old new at same ∙ free); not_dirty = λ dirty. clean (same_state old new at same ∙ dirty); fate = inl same }
        | inr both ↦ absurd (used both.after)
      ]
    ]
  ]

  -- ---- blocks by their states

  -- a block that was let go stays
  pub let_go_stays : (at : ℕ) → (block_at old at).state ≡ LetGo → block_at new at ≡ block_at old at
  let_go_stays at is = elim (fate_of at (λ free. let wrong : LetGo ≡ Free = sym is ∙ free in cc) (λ dirty. let wrong : LetGo ≡ Dirty = sym is ∙ dirty in cc)) [
    | inl same ↦ same
    | inr left ↦ absurd (current at left.0 is)
  ]

  -- one that isn't edited keeps its bytes, and whether a list that is out has it
  pub unedited : (at : ℕ) → (block_at old at).state ≢ Free → (block_at old at).state ≢ Dirty
      → ((block_at new at).state ≢ Free) × ((block_at new at).state ≢ Dirty) × ((block_at new at).bytes ≡ (block_at old at).bytes) × ((block_at new at).out ≡ (block_at old at).out)
  unedited at used clean = elim (fate_of at used clean) [
    | inl same ↦ ((λ free. used (sym (same_state old new at same) ∙ free)), (λ dirty. clean (sym (same_state old new at same) ∙ dirty)), ap (λ (slot : BlockSlot). slot.bytes) same, ap (λ (slot : BlockSlot). slot.out) same)
    | inr left ↦ (gone_not old new at Free left.1 (λ e. cc), gone_not old new at Dirty left.1 (λ e. cc), ap (λ (slot : BlockSlot). slot.bytes) left.1, ap (λ (slot : BlockSlot). slot.out) left.1)
  ]

  -- one that is in another state than LetGo then, and isn't edited, stood as it stands
  pub stood_so : (at : ℕ) (state : SlotState) → (block_at new at).state ≡ state → (state ≡ Free → ⊥) → (state ≡ Dirty → ⊥) → (LetGo ≡ state → ⊥) → block_at new at ≡ block_at old at
  stood_so at state is not_free not_dirty not_gone =
      let came = came_from at (λ free. not_free (sym is ∙ free)) (λ dirty. not_dirty (sym is ∙ dirty)) in
      elim came.fate [ inl same ↦ same | inr left ↦ absurd (gone_not old new at state left.1 not_gone is) ]

  -- ---- what superblocks reach

  pub holds_still : (commit : Commit) → HoldsCommit old commit → HoldsCommit new commit
  holds_still commit held block there =
      let was : IsHeld old block = held block there in
      let now = unedited (block.0 * 4096) was.not_free was.not_dirty in
      record { not_free = now.0; not_dirty = now.1; bytes = now.2 ∙ was.bytes }

  gone_alike : (tree : Tree) → IsGone old tree → AreAlike old new (tree_reach old tree)
  gone_alike tree is =
      each (λ (at : ℕ). block_at new at ≡ block_at old at) (tree_reach old tree) (λ at there. let_go_stays at (is.ready at there))

  pub gone_same : (tree : Tree) → IsGone old tree → tree_reach new tree ≡ tree_reach old tree
  gone_same tree is = (tree_alike old new tree (gone_alike tree is)).1

  pub gone_still : (tree : Tree) → IsGone old tree → IsGone new tree
  gone_still tree is = record {
    tree_in = (tree_alike old new tree (gone_alike tree is)).2 is.tree_in;
    ready = λ at there.
        let before : Contains (tree_reach old tree) at = subst (λ (l : List ℕ). Contains l at) (gone_same tree is) there in
        same_state old new at (let_go_stays at (is.ready at before)) ∙ is.ready at before;
  }

  -- the reach of a root tree that may be there
  pub gone_there : (tree : Option Tree) → ((one : Tree) → tree ≡ Some one → IsGone old one) → reach_there new tree ≡ reach_there old tree
  gone_there None is = refl
  gone_there (Some one) is = gone_same one (is one refl)
