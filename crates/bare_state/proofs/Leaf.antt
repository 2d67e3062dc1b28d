-- An empty leaf is a tree.
use Rattle.std.proofs.Common.{◌≡◌, ℕ, [], length, sym, ap, subst, ◌∙◌, arith}
use Rattle.std.specs.Prelude.{IsOk}
use Rattle.blk_base.specs.Address.{IsAllowed}
use Rattle.blk_base.specs.Leaf.{leaf_body_of}
use Rattle.blk_base.specs.Trees.{ItemsRise}
use Rattle.block_table.specs.declared.state.SlotState.TheVariants.{Dirty, Free}
use Rattle.block_table.specs.Slot.{BlockSlot}
use Rattle.block_table.specs.Table.{Table}
use Rattle.block_table.specs.TreeIn.{IsTaken, block_at}
use Rattle.tree_blocks.specs.Steps.{IsTakenAt}
use Rattle.tree_range.specs.Shape.{IsTree, leaf_items}
use Rattle.volume_image.proofs.Lists.{in_nothing}

pub taken_here : (old new : Table) (at : ℕ) → IsTakenAt old new at → length new.slots ≡ length old.slots → IsTaken new at
taken_here old new at is size = record {
  allowed = subst (λ (n : ℕ). IsAllowed n at) (sym size) is.allowed;
  taken = λ free. let wrong : Free ≡ Dirty = sym free ∙ ap (λ (slot : BlockSlot). slot.state) is.dirty in absurd cc;
}

pub new_tree : (table : Table) (at owner : ℕ) → IsTaken table at → IsOk (leaf_body_of (block_at table at).bytes) → leaf_items table at ≡ [] → IsTree table (record { root = record { 0 = at }; level = 0; owner = owner })
new_tree table at owner taken body none = record {
  low = omega arith;
  shape = (taken, body, omega arith);
  order = subst ItemsRise (sym none) tt;
  once = (λ c. in_nothing at c, tt);
}
