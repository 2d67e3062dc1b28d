-- An item put below a block: the blocks that stand in its place, and what is below them.
use Rattle.std.specs.Prelude.{◌≡◌, ◌≤◌, ◌+◌, ◌*◌, ℕ, suc, Bool, true, false, List, length, All, Some}
use Rattle.std.specs.List.{flat_map, sum_by}
use Rattle.blk_base.specs.declared.key.Key.{Key}
use Rattle.blk_base.specs.declared.key.Want.{Want}
use Rattle.blk_base.specs.Leaf.{Pointer}
use Rattle.block_table.specs.Table.{Table}
use Rattle.blk_base.specs.Trees.{ItemsRise, NoneTwice, first_key}
use Rattle.block_table.specs.TreeIn.{IsSealedSubtree}
use Rattle.tree_range.specs.Between.{data_under}
use Rattle.tree_range.specs.Shape.{IsSubtree, items_below, node_pointers, reach_below}
use Rattle.tree_frame.specs.Frame.{AreCurrent, leaves_below, with_item}
use Rattle.cow_tree.specs.Change.{IsChange}

-- what stands below a block that an item may be put below
pub record IsWritable (level : ℕ) (table : Table) (at : ℕ) : Type 0 where
  pub shape : IsSubtree level table true at
  pub order : ItemsRise (items_below level table at)
  pub once : NoneTwice (reach_below level table at)
  pub current : AreCurrent table (reach_below level table at)

-- a block at this address is read as another one is, with this generation (own)
abbrev pub want_at : Want → ℕ → ℕ → Want
want_at want at generation = record want { at = record { 0 = at }; generation = generation }

-- these blocks stand in place of one, with one item put below them (own)
pub record IsWritten (level : ℕ) (old new : Table) (at : ℕ) (key : Key) (bytes : List ℕ) (pieces : List Pointer) : Type 0 where
  pub some : 1 ≤ length pieces
  pub most : length pieces ≤ 3
  pub items_are : flat_map (λ pointer. items_below level new pointer.at) pieces ≡ with_item key bytes (items_below level old at)
  pub firsts : All (λ pointer. first_key (items_below level new pointer.at) ≡ Some pointer.key) pieces
  pub one : (is_root : Bool) → IsSubtree level old is_root at → length pieces ≡ 1 → All (λ pointer. IsSubtree level new is_root pointer.at) pieces
  pub more : 2 ≤ length pieces → All (λ pointer. IsSubtree level new false pointer.at) pieces
  pub changes : IsChange old new (reach_below level old at) (flat_map (λ pointer. reach_below level new pointer.at) pieces) (2 * level + 3)
  pub sealed : (want : Want) (was : ℕ) → IsSealedSubtree level old (want_at want at was) → All (λ pointer. IsSealedSubtree level new (want_at want pointer.at pointer.generation)) pieces
  pub leaves : sum_by (λ pointer. leaves_below level new pointer.at) pieces ≤ leaves_below level old at + 2
  pub same_leaves : (was : List ℕ) → data_under key (items_below level old at) ≡ Some was → length bytes ≤ length was → (length pieces ≡ 1) × (sum_by (λ pointer. leaves_below level new pointer.at) pieces ≡ leaves_below level old at)
  pub whole : (below : ℕ) → level ≡ suc below → length (node_pointers old at) ≤ 119 → length pieces ≡ 1
