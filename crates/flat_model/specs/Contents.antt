-- The bytes of a file, and what writes and truncates make of it.
use Rattle.std.specs.Prelude.{ℕ, ◌+◌, ◌-◌, ◌*◌, ◌/◌, ◌%◌, min, max, cond, ◌&&◌, List, ◌++◌, map, length, take, replicate, slice_index, Some, None, unwrap_or, fold, nat_lt, nat_le}
use Rattle.std.specs.List.{range_with_len}
use Rattle.std.specs.FinMap.{get, insert, retain_keys}
use Rattle.flat_model.specs.Records.{FileRecord, Blocks}

-- the bytes of a block, in blocks, files and on the disk ("Superblock": sectorsize)
abbrev pub block_bytes : ℕ
block_bytes = 4096

-- the most bytes of a file (own)
abbrev pub most_file_bytes : ℕ
most_file_bytes = 16_777_216

-- the bytes of a block of a file: zeros where it is a hole ("EXTENT_DATA")
abbrev pub block_of : Blocks → ℕ → List ℕ
block_of blocks number = unwrap_or (get blocks number) (replicate block_bytes 0)

-- the byte of a file's blocks at this offset ("EXTENT_DATA")
abbrev pub byte_at : Blocks → ℕ → ℕ
byte_at blocks offset = slice_index (block_of blocks (offset / block_bytes)) (offset % block_bytes)

-- the bytes of a file from this offset on, so many of them and none past its size ("EXTENT_DATA")
unfoldable pub bytes_read : FileRecord → ℕ → ℕ → List ℕ
bytes_read file offset count = map (byte_at file.blocks) (range_with_len offset (min file.size (offset + count) - offset))

-- the byte at `at` once a text has been written from `offset` on ("EXTENT_DATA")
abbrev pub byte_written : Blocks → ℕ → List ℕ → ℕ → ℕ
byte_written blocks offset text at = cond (nat_le offset at && nat_lt at (offset + length text)) (slice_index text (at - offset)) (byte_at blocks at)

-- a block of a file once a text has been written from `offset` on ("EXTENT_DATA")
abbrev pub block_written : Blocks → ℕ → List ℕ → ℕ → List ℕ
block_written blocks offset text number = map (byte_written blocks offset text) (range_with_len (number * block_bytes) block_bytes)

-- the blocks that so many bytes from `offset` on touch, at least one byte, by their numbers ("EXTENT_DATA")
abbrev pub blocks_touched : ℕ → ℕ → List ℕ
blocks_touched offset count = range_with_len (offset / block_bytes) ((offset + count + (block_bytes - 1)) / block_bytes - offset / block_bytes)

-- a file once a text has been written from `offset` on: each block that it touches is there, and the size reaches its end;
-- between the old size and the text other blocks stay holes ("EXTENT_DATA", "INODE_ITEM": size)
unfoldable pub written : FileRecord → ℕ → List ℕ → FileRecord
written file offset text = record file {
  size = max file.size (offset + length text);
  blocks = fold (λ blocks number. insert blocks number (block_written file.blocks offset text number)) file.blocks (blocks_touched offset (length text));
}

-- a block whose bytes from the n-th on are zeros ("EXTENT_DATA")
abbrev pub cut_block : List ℕ → ℕ → List ℕ
cut_block bytes n = take n bytes ++ replicate (block_bytes - n) 0

-- the blocks, but the one of this number cut to its first n bytes, where it is there ("EXTENT_DATA")
abbrev pub with_cut_block : Blocks → ℕ → ℕ → Blocks
with_cut_block blocks number n = elim (get blocks number) [ None ↦ blocks | Some bytes ↦ insert blocks number (cut_block bytes n) ]

-- a file cut or grown to a size: no block wholly past it stays, the bytes past it in the last block are zeros, and growing
-- makes a hole ("EXTENT_DATA", "INODE_ITEM": size)
unfoldable pub truncated : FileRecord → ℕ → FileRecord
truncated file size = record file {
  size = size;
  blocks = with_cut_block (retain_keys file.blocks (λ number. nat_lt (number * block_bytes) size)) (size / block_bytes) (size % block_bytes);
}
