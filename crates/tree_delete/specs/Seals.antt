-- The headers of the blocks below a node's pointers.
use Rattle.std.specs.Prelude.{ℕ, List, All}
use Rattle.blk_base.specs.declared.key.Want.{Want}
use Rattle.blk_base.specs.Leaf.{Pointer}
use Rattle.block_table.specs.Table.{Table}
use Rattle.block_table.specs.TreeIn.{IsSealedSubtree}

-- what the block that a pointer leads to is to say of itself, where it stands on this level ("Internal Node")
abbrev pub want_of : List ℕ → ℕ → ℕ → Pointer → Want
want_of fsid owner level pointer = record { fsid = fsid; at = record { 0 = pointer.at }; generation = pointer.generation; owner = owner; level = level }

-- each child on this level, and each block below it, passes its header's checks by the pointer to it, unless it is Dirty
abbrev pub IsSealedRow : List ℕ → ℕ → ℕ → Table → List Pointer → Type 0
IsSealedRow fsid owner level table pointers = All (λ (pointer : Pointer). IsSealedSubtree level table (want_of fsid owner level pointer)) pointers
