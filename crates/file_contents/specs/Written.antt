-- The blocks of a file once a text has been written or the file has been cut ("EXTENT_DATA").
use Rattle.std.specs.Prelude.{◌≡◌, ◌+◌, ◌-◌, ◌*◌, ◌/◌, ◌&&◌, ℕ, Bool, List, Option, cond, length, slice_index, Some, None, nat_le, nat_lt, if◌then◌else◌}
use Rattle.block_table.specs.declared.tree.Tree.{Tree}
use Rattle.block_table.specs.Table.{Table}
use Rattle.flat_model.specs.Contents.{block_written}
use Rattle.flat_model.specs.Records.{Blocks}
use Rattle.file_extents.specs.Extents.{AreHoles, Contents, HoldIn}

-- the first block that bytes from an offset on touch, and the number behind the last one that so many bytes touch ("EXTENT_DATA")
abbrev pub first_block : ℕ → ℕ
first_block offset = offset / 4096

abbrev pub end_block : ℕ → ℕ → ℕ
end_block offset count = (offset + count + 4095) / 4096

-- the byte of a file at `at` once a text stands from an offset on, where this one was there ("EXTENT_DATA")
abbrev pub text_over : ℕ → List ℕ → ℕ → ℕ → ℕ
text_over offset text at was = cond (nat_le offset at && nat_lt at (offset + length text)) (slice_index text (at - offset)) was

-- so many bytes from an offset on cover a block ("EXTENT_DATA")
abbrev pub covers : ℕ → ℕ → ℕ → Bool
covers offset count number = nat_le offset (4096 * number) && nat_le (4096 * number + 4096) (offset + count)

-- a block that a text touches once the text stands over these blocks, where the text doesn't cover it (own)
abbrev pub edge_of : Blocks → ℕ → List ℕ → ℕ → Option (List ℕ)
edge_of blocks offset text number = if covers offset (length text) number then None else Some (block_written blocks offset text number)

-- The file has these contents, in which the blocks from a number on that a text touches are holes; and these are the first and the last one of
-- all that it touches once the text stands over these blocks, where it doesn't cover them (own).
pub record MayPut (table : Table) (tree : Tree) (ino : ℕ) (contents : Contents) (blocks : Blocks) (offset : ℕ) (text : List ℕ)
    (from : ℕ) (head tail : Option (List ℕ)) : Type 0 where
  pub holds : HoldIn table tree ino contents
  pub holes : AreHoles contents from (end_block offset (length text))
  pub head_is : head ≡ edge_of blocks offset text (first_block offset)
  pub tail_is : (last : ℕ) → last + 1 ≡ end_block offset (length text) → tail ≡ edge_of blocks offset text last
