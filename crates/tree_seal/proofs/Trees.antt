-- A whole tree is sealed, or is as it was.
use Rattle.std.proofs.Common.{◌≡◌, ◌≢◌, ◌⊎◌, ℕ, List, [], true, refl, ap, ◌∙◌, sym, subst, inl, inr}
use Rattle.std.specs.Prelude.{Contains}
use Rattle.std.proofs.lemmas.List.Elements.{All-contains, All-contains_itself, All-weaker}
use Rattle.block_table.specs.declared.state.SlotState.{SlotState}
use Rattle.block_table.specs.declared.state.SlotState.TheVariants.{Free, Dirty, Sealed, Live, LetGo}
use Rattle.block_table.specs.declared.tree.Tree.{Tree}
use Rattle.block_table.specs.Slot.{BlockSlot}
use Rattle.block_table.specs.Table.{Table, state_at}
use Rattle.blk_base.specs.Trees.{AtBlock, ItemsRise, NoneTwice}
use Rattle.block_table.specs.TreeIn.{IsSealedTree, block_at}
use Rattle.tree_range.specs.Shape.{IsTree, tree_reach}
use Rattle.tree_seal.specs.Above.{IsDirtyAbove}
use Rattle.tree_seal.specs.OnImage.{AreClean, root_want}
use Rattle.tree_seal.specs.Sealing.{AreHanded, IsSealable, IsSealedBelow, IsSealedSlot, IsSealing}
use Rattle.tree_seal.proofs.Above.{clean_below}
use Rattle.tree_seal.proofs.Handed.{handed_none, handed_nothing}
use Rattle.tree_seal.proofs.Walk.{any_generation}

pub dirty_or_not : (state : SlotState) → (state ≡ Dirty) ⊎ (state ≢ Dirty)
dirty_or_not Free = inr (λ e. cc)
dirty_or_not Dirty = inl refl
dirty_or_not Sealed = inr (λ e. cc)
dirty_or_not Live = inr (λ e. cc)
dirty_or_not LetGo = inr (λ e. cc)

slot_clean : (old new : BlockSlot) → IsSealedSlot old new → new.state ≢ Dirty
slot_clean old new h dirty = elim (dirty_or_not old.state) [
  | inl was ↦ let e : Sealed ≡ Dirty = sym (ap (λ (slot : BlockSlot). slot.state) (h.dirty was)) ∙ dirty in cc
  | inr was ↦ was (ap (λ (slot : BlockSlot). slot.state) (sym (h.written was)) ∙ dirty)
]

-- after a seal none of the blocks is Dirty
pub sealing_clean : (old new : Table) (reach : List ℕ) → IsSealing old new reach → AreClean new reach
sealing_clean old new reach h =
    All-weaker (Contains reach) (λ (at : ℕ). (block_at new at).state ≢ Dirty) (λ at there. slot_clean (block_at old at) (block_at new at) (h.slots at there)) reach (All-contains_itself reach)

pub tree_able : (table : Table) (tree : Tree) (fsid : List ℕ) (generation : ℕ) → IsTree table tree → IsDirtyAbove table tree → (was : ℕ) × IsSealedTree table tree fsid was → state_at table tree.root ≡ Dirty → IsSealable tree.level table (root_want tree fsid generation)
tree_able table tree fsid generation is_tree above written dirty = record {
  is_root = true;
  shape = is_tree.shape;
  dirty = dirty;
  seals = any_generation tree.level table (root_want tree fsid written.0) generation dirty written.1;
  above = above;
  once = is_tree.once;
}

pub tree_sealed : (old new : Table) (tree : Tree) (fsid : List ℕ) (generation : ℕ) → IsTree old tree → IsSealedBelow tree.level old new (root_want tree fsid generation) → IsTree new tree
tree_sealed old new tree fsid generation is_tree below =
    record { low = is_tree.low; shape = below.shape true is_tree.shape; order = subst ItemsRise (sym below.items) is_tree.order; once = subst NoneTwice (sym below.reach) is_tree.once }

-- ---- a tree whose root isn't Dirty

pub tree_clean : (table : Table) (tree : Tree) → IsDirtyAbove table tree → state_at table tree.root ≢ Dirty → AreClean table (tree_reach table tree)
tree_clean table tree above clean = clean_below tree.level table tree.root.0 above clean

member_clean : (table : Table) (reach : List ℕ) → AreClean table reach → (at : ℕ) → Contains reach at → (block_at table at).state ≢ Dirty
member_clean table reach clean at there = All-contains (λ (a : ℕ). (block_at table a).state ≢ Dirty) reach at clean there

pub nothing_sealed : (table : Table) (reach : List ℕ) → AreClean table reach → IsSealing table table reach
nothing_sealed table reach clean = record {
  size = refl;
  spare = refl;
  lists = refl;
  slots = λ at there. record { dirty = λ dirty. absurd (member_clean table reach clean at there dirty); written = λ written. refl };
  others = λ at none. refl;
}

pub nothing_handed : (table : Table) (reach : List ℕ) (pairs : List AtBlock) → AreClean table reach → AreHanded table table reach pairs pairs
nothing_handed table reach pairs clean = handed_none table table [] reach pairs pairs (handed_nothing table pairs) (member_clean table reach clean)
