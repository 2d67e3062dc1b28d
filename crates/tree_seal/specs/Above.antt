-- Trees whose Dirty blocks stand below Dirty ones alone.
use Rattle.std.specs.Prelude.{◌≡◌, ℕ, zero, suc, All}
use Rattle.block_table.specs.declared.state.SlotState.TheVariants.{Dirty}
use Rattle.block_table.specs.declared.tree.Tree.{Tree}
use Rattle.block_table.specs.Table.{Table}
use Rattle.block_table.specs.TreeIn.{block_at}
use Rattle.tree_range.specs.Shape.{node_pointers}

-- from a block on this level downwards, a node with a Dirty child is itself Dirty (own)
abbrev pub DirtyIsAbove : ℕ → Table → ℕ → Type 0
DirtyIsAbove zero table at = Unit {0}
DirtyIsAbove (suc level) table at =
    All (λ pointer. ((block_at table pointer.at).state ≡ Dirty → (block_at table at).state ≡ Dirty) × DirtyIsAbove level table pointer.at) (node_pointers table at)

abbrev pub IsDirtyAbove : Table → Tree → Type 0
IsDirtyAbove table tree = DirtyIsAbove tree.level table tree.root.0
