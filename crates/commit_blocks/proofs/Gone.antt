-- Old root trees whose blocks stay as they were.
use Rattle.std.proofs.Common.{◌≡◌, ◌∙◌, ◌++◌, ℕ, List, Option, Some, None, refl, ap, subst, inl, inr}
use Rattle.std.specs.Prelude.{Contains}
use Rattle.std.proofs.lemmas.List.Elements.{Contains-append_left, Contains-append_right}
use Rattle.block_table.specs.declared.state.SlotState.TheVariants.{LetGo}
use Rattle.block_table.specs.declared.tree.Tree.{Tree}
use Rattle.block_table.specs.Slot.{BlockSlot}
use Rattle.block_table.specs.Table.{Table}
use Rattle.block_table.specs.TreeIn.{block_at}
use Rattle.tree_range.specs.Shape.{AreAlike, tree_reach}
use Rattle.volume_seal.proofs.States.{same_tree}
use Rattle.commit_blocks.specs.Keeps.{IsGone, reach_there}
use Rattle.commit_blocks.proofs.Read.{each}

module _ (old new : Table) (tree : Tree) (same : (at : ℕ) → Contains (tree_reach old tree) at → block_at new at ≡ block_at old at) where
  alike : AreAlike old new (tree_reach old tree)
  alike = each (λ (at : ℕ). block_at new at ≡ block_at old at) (tree_reach old tree) same

  pub gone_reach : tree_reach new tree ≡ tree_reach old tree
  gone_reach = (same_tree old new tree alike).tree_reach_is

  pub gone_stays : IsGone old tree → IsGone new tree
  gone_stays gone = record {
    tree_in = (same_tree old new tree alike).stands gone.tree_in;
    ready = λ at there.
        let was : Contains (tree_reach old tree) at = subst (λ (l : List ℕ). Contains l at) gone_reach there in
        ap (λ (slot : BlockSlot). slot.state) (same at was) ∙ gone.ready at was;
  }

pub there_reach : (old new : Table) (tree : Option Tree) → ((at : ℕ) → Contains (reach_there old tree) at → block_at new at ≡ block_at old at) → reach_there new tree ≡ reach_there old tree
there_reach old new None same = refl
there_reach old new (Some tree) same = gone_reach old new tree same

pub both_reach : (old new : Table) (tree : Tree) (other : Option Tree) → ((at : ℕ) → Contains (tree_reach old tree ++ reach_there old other) at → block_at new at ≡ block_at old at) → tree_reach new tree ++ reach_there new other ≡ tree_reach old tree ++ reach_there old other
both_reach old new tree other same =
    ap (λ (l : List ℕ). l ++ reach_there new other) (gone_reach old new tree (λ at there. same at (Contains-append_left (tree_reach old tree) (reach_there old other) at there)))
    ∙ ap (λ (l : List ℕ). tree_reach old tree ++ l) (there_reach old new other (λ at there. same at (Contains-append_right (tree_reach old tree) (reach_there old other) at there)))

-- each block of the old root trees was let go
pub all_gone : (table : Table) (tree : Tree) (other : Option Tree) → IsGone table tree → ((t : Tree) → other ≡ Some t → IsGone table t) → (at : ℕ) → Contains (tree_reach table tree ++ reach_there table other) at → (block_at table at).state ≡ LetGo
all_gone table tree None gone others at there = gone.ready at (subst (λ (l : List ℕ). Contains l at) (Rattle.std.proofs.lemmas.List.append-nil (tree_reach table tree)) there)
all_gone table tree (Some t) gone others at there = elim (Rattle.std.proofs.lemmas.List.Elements.Contains-append_cases (tree_reach table tree) (tree_reach table t) at there) [
  | inl here ↦ gone.ready at here
  | inr later ↦ (others t refl).ready at later
]
