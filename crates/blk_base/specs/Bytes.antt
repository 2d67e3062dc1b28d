-- Bytes and little-endian fields, as all blocks and items of Btrfs have them.
use Rattle.std.specs.Prelude.{◌≡◌, ◌<◌, ◌+◌, ℕ, List, ◌++◌, length, take, drop, slice_index, replicate, All}
use Rattle.byteorder.specs.Endian.{little_number, little_bytes}
use Rattle.blk_base.specs.declared.format.TheConstants.{BLOCK_SIZE}

-- every item of the list is a byte
abbrev pub IsBytes : List ℕ → Type 0
IsBytes bytes = (i : ℕ) → slice_index bytes i < 256

-- a block: 4096 bytes
pub record IsBlock (bytes : List ℕ) : Type 0 where
  pub size : length bytes ≡ BLOCK_SIZE
  pub range : All (λ byte. byte < 256) bytes

-- the blocks of a disk, from block 0 on, each as the list of its bytes
abbrev pub Image : Type 0
Image = List (List ℕ)

-- each block is one
abbrev pub IsImage : Image → Type 0
IsImage image = All IsBlock image

-- the little-endian number in the n bytes at a place; a byte past the end counts as 0
unfoldable pub field : ℕ → List ℕ → ℕ → ℕ
field n bytes at = little_number n (drop at bytes)

-- n bytes from a place on
abbrev pub bytes_at : ℕ → List ℕ → ℕ → List ℕ
bytes_at n bytes at = take n (drop at bytes)

-- the bytes with others written over them from a place on
unfoldable pub with_bytes : List ℕ → ℕ → List ℕ → List ℕ
with_bytes bytes at content = take at bytes ++ content ++ drop (at + length content) bytes

-- the little-endian number of n bytes
abbrev pub number_bytes : ℕ → ℕ → List ℕ
number_bytes n value = little_bytes n value

-- the bytes with a little-endian number of n bytes written at a place
abbrev pub with_field : ℕ → List ℕ → ℕ → ℕ → List ℕ
with_field n bytes at value = with_bytes bytes at (number_bytes n value)

-- zeros
abbrev pub zeros : ℕ → List ℕ
zeros n = replicate n 0
