-- What an editor of a leaf ends as once a loan of an item's data is over.
use Rattle.std.specs.Prelude.{ℕ, List, []}
use Rattle.std.specs.Borrow.{Lends, MutBor, Fml, Array, u8}
use mir.Syntax.{named}
use Rattle.leaf_edit.specs.declared.leaf_mut.LeafMut.{LeafMut}
use Rattle.leaf_edit.specs.contracts.leaf_mut.LeafMut.{the_row}
use Rattle.leaf_edit.specs.Written.{with_data_bytes}
use Rattle.leaf_edit.specs.Rewriting.{packed_written}

-- the editor of the same block, with what is written over the data of the item at a place
abbrev pub with_written : LeafMut → ℕ → List ℕ → LeafMut
with_written leaf at content = record {
  block = record leaf.block { now = with_data_bytes leaf.block.now at content };
  packed = packed_written leaf.block.now at content leaf.packed;
}

-- the editor ends with what is left behind the loan written over the data of the item at a place
abbrev pub LendsData : MutBor LeafMut → ℕ → MutBor (List ℕ) → Fml
LendsData s at r = Lends (the_row (record { mir = named 1; lft = [] })) (Array u8 0) s r (with_written s.now at)
