-- What an edit of one tree leaves of others, and that the edited one stays current.
use Rattle.std.proofs.Common.{◌≡◌, ◌≢◌, ◌∙◌, ℕ, true, List, length, sym, ap, subst, inl, inr}
use Rattle.std.specs.Prelude.{All, Contains, None}
use Rattle.std.proofs.lemmas.List.Elements.{All-contains, All-contains_itself, All-weaker}
use Rattle.blk_base.specs.Address.{IsAllowed}
use Rattle.block_table.specs.declared.state.SlotState.TheVariants.{Free, Dirty, LetGo}
use Rattle.block_table.specs.declared.tree.Tree.{Tree}
use Rattle.block_table.specs.Slot.{BlockSlot}
use Rattle.block_table.specs.Table.{Table}
use Rattle.block_table.specs.TreeIn.{IsTaken, block_at}
use Rattle.tree_range.specs.Shape.{IsTree, tree_items, tree_reach}
use Rattle.tree_frame.specs.Frame.{AreCurrent, AreReadable, IsEdit}
use Rattle.blk_base.proofs.Members.{is_in}
use Rattle.tree_frame.proofs.EditLaws.{same_unless_free}
use Rattle.tree_frame.proofs.Reading.{IsReadable, IsReadTree, reach_taken, read_tree}

same_readable : (old new : Table) (at : ℕ) → length new.slots ≡ length old.slots → IsTaken old at → block_at new at ≡ block_at old at → IsReadable old new at
same_readable old new at size taken same = (
  record { allowed = subst (λ (n : ℕ). IsAllowed n at) (sym size) taken.allowed; taken = λ free. taken.taken (sym (ap (λ (slot : BlockSlot). slot.state) same) ∙ free) },
  ap (λ (slot : BlockSlot). slot.bytes) same,
)

let_go_readable : (old new : Table) (at : ℕ) → length new.slots ≡ length old.slots → IsTaken old at → block_at new at ≡ record (block_at old at) { state = LetGo; stood = None } → IsReadable old new at
let_go_readable old new at size taken gone = (
  record { allowed = subst (λ (n : ℕ). IsAllowed n at) (sym size) taken.allowed; taken = λ free. let e : LetGo ≡ Free = sym (ap (λ (slot : BlockSlot). slot.state) gone) ∙ free in cc },
  ap (λ (slot : BlockSlot). slot.bytes) gone,
)

-- a block that isn't Free, nor a Dirty one of the edited tree, is there to be read after the edit
pub an_edit_leaves_readable : (old new : Table) (before after : List ℕ) (at : ℕ) → IsEdit old new before after → IsTaken old at → (Contains before at → (block_at old at).state ≢ Dirty) → IsReadable old new at
an_edit_leaves_readable old new before after at edit taken written = elim (is_in before at) [
  | inl there ↦ elim (is_in after at) [
    | inl here ↦ same_readable old new at edit.size taken (edit.kept_whole at there here (written there))
    | inr gone ↦ let_go_readable old new at edit.size taken ((edit.left at there gone).written (written there))
  ]
  | inr none ↦ elim (is_in after at) [
    | inl here ↦ absurd (taken.taken (edit.fresh at here none).0)
    | inr gone ↦ same_readable old new at edit.size taken (same_unless_free (block_at old at) (block_at new at) (edit.others at none gone) taken.taken)
  ]
]

pub an_edit_keeps_other_trees : (old new : Table) (before after : List ℕ) (other : Tree) → IsEdit old new before after → IsTree old other → ((at : ℕ) → Contains (tree_reach old other) at → Contains before at → (block_at old at).state ≢ Dirty)
    → IsTree new other × (tree_items new other ≡ tree_items old other) × (tree_reach new other ≡ tree_reach old other)
an_edit_keeps_other_trees old new before after other edit is_tree written =
    let reach = tree_reach old other in
    let taken : All (IsTaken old) reach = reach_taken other.level old true other.root.0 is_tree.shape in
    let readable : AreReadable old new reach = All-weaker (Contains reach) (IsReadable old new) (λ at there. an_edit_leaves_readable old new before after at edit (All-contains (IsTaken old) reach at taken there) (written at there)) reach (All-contains_itself reach) in
    let read : IsReadTree old new other = read_tree old new other readable in
    (read.stands is_tree, read.items, read.reach)

pub an_edit_stays_current : (old new : Table) (before after : List ℕ) → IsEdit old new before after → AreCurrent old before → AreCurrent new after
an_edit_stays_current old new before after edit current =
    All-weaker (Contains after) (λ (at : ℕ). (block_at new at).state ≢ LetGo) (λ at here. elim (is_in before at) [
      | inl there ↦ λ gone. All-contains (λ (a : ℕ). (block_at old a).state ≢ LetGo) before at current there (sym (edit.kept at there here) ∙ gone)
      | inr none ↦ λ gone. let e : Dirty ≡ LetGo = sym (edit.fresh at here none).1 ∙ gone in cc
    ]) after (All-contains_itself after)
