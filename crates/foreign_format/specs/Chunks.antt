-- Chunks: which bytes of the disk a logical address means ("CHUNK_ITEM").
use Rattle.std.specs.Prelude.{ℕ, suc, zero, ◌≤◌, ◌+◌, ◌-◌, ◌*◌, ◌^◌, Bool, ◌&&◌, ◌||◌, not, nat_lt, nat_le, ◌==◌, List, [], ◌∷◌, ◌++◌, length, drop, bit_and, Option, Some, None, Result, Ok, Err, if◌then◌else◌}
use Rattle.blk_base.specs.Bytes.{field, bytes_at}
use Rattle.foreign_format.specs.declared.chunk.Chunk.{Chunk}
use Rattle.foreign_format.specs.declared.chunk.ChunkRow.{ChunkRow}
use Rattle.foreign_format.specs.declared.fault.ForeignFault.{ForeignFault}
use Rattle.foreign_format.specs.declared.fault.ForeignFault.TheVariants.{Array, Profile}
use Rattle.foreign_format.specs.declared.fault.ForeignFault.TheVariants as fault
use Rattle.foreign_format.specs.Answer.{and_then}

-- a chunk's copies: two of type bit 32, which is DUP, else one
abbrev pub stripes_of : ℕ → ℕ
stripes_of kind = if bit_and kind 32 == 32 then 2 else 1

-- The chunk of an item under its logical address, or the first check that fails. An item without a type is none; a type
-- has no other bit than data 1, system 2, metadata 4 and DUP 32; there are as many stripes as copies, of 32 bytes behind
-- 48; the range has a byte and no address from 2^64 on. Where the chunk stands on the disk is what the first stripe says.
unfoldable pub chunk_of : ℕ → List ℕ → Result Chunk ForeignFault
chunk_of logical item =
    if nat_lt (length item) 32 then Err (fault.Chunk logical) else
    if not (bit_and (field 8 item 24) 39 == field 8 item 24) then Err (Profile logical) else
    if not (length item == 48 + 32 * stripes_of (field 8 item 24)) || not (field 2 item 44 == stripes_of (field 8 item 24)) then Err (fault.Chunk logical) else
    if (field 8 item 0 == 0) || nat_lt (2 ^ 64 - 1 - field 8 item 0) logical then Err (fault.Chunk logical) else
    Ok (record { logical = logical; length = field 8 item 0; physical = field 8 item 56 })

-- a row behind those that aren't above it
unfoldable pub put_row : ChunkRow → List ChunkRow → List ChunkRow
put_row row [] = row ∷ []
put_row row (other ∷ rows) = if nat_lt row.logical other.logical then row ∷ other ∷ rows else other ∷ put_row row rows

-- the row of an item
abbrev pub row_of : ℕ → List ℕ → ChunkRow
row_of logical item = record { logical = logical; chunk = chunk_of logical item }

-- where the chunk item behind a key at the front ends
abbrev pub row_end : List ℕ → ℕ
row_end bytes = 65 + 32 * field 2 bytes 61

-- a key (256, 228, logical) and its chunk item stand at the front
abbrev pub has_row : List ℕ → Bool
has_row bytes = nat_le 65 (length bytes) && (field 8 bytes 0 == 256) && (field 1 bytes 8 == 228) && nat_le (row_end bytes) (length bytes)

-- the row of the chunk item at the front
abbrev pub first_row : List ℕ → ChunkRow
first_row bytes = row_of (field 8 bytes 9) (bytes_at (row_end bytes - 17) bytes 17)

-- The rows of the superblock's system chunks in ascending order, behind those so far: keys (256, 228, logical), each with
-- its chunk item behind it. No 32 rows fit into 2048 bytes.
unfoldable pub array_rows : ℕ → List ChunkRow → List ℕ → Result (List ChunkRow) ForeignFault
array_rows zero rows bytes = Ok rows
array_rows (suc n) rows bytes =
    if length bytes == 0 then Ok rows else
    if not (has_row bytes) then Err Array else
    array_rows n (put_row (first_row bytes) rows) (drop (row_end bytes) bytes)

-- a chunk's first copy stands on a disk of so many bytes
abbrev pub IsOnDisk : ℕ → Chunk → Type 0
IsOnDisk disk_size chunk = chunk.physical + chunk.length ≤ disk_size

-- the chunk begins behind this end, and stands on a disk of so many bytes
abbrev pub follows : ℕ → ℕ → Chunk → Bool
follows disk_size end chunk = nat_le end chunk.logical && nat_le (chunk.physical + chunk.length) disk_size

-- The chunks of rows, behind those so far, the last of which ends at a logical address: each stands on a disk of so many
-- bytes and begins behind the end of the one before it.
unfoldable pub in_row : ℕ → ℕ → List Chunk → List ChunkRow → Result (List Chunk) ForeignFault
in_row disk_size end chunks [] = Ok chunks
in_row disk_size end chunks (row ∷ rows) =
    and_then row.chunk (λ chunk.
    if not (follows disk_size end chunk) then Err (fault.Chunk chunk.logical) else
    in_row disk_size (chunk.logical + chunk.length) (chunks ++ chunk ∷ []) rows)

-- the chunk has all of so many bytes from a logical address on
abbrev pub has_range : Chunk → ℕ → ℕ → Bool
has_range chunk at count = nat_le chunk.logical at && nat_le (at + count) (chunk.logical + chunk.length)

-- where so many bytes from a logical address on stand on the disk, if they are wholly in one chunk
unfoldable pub physical_of : List Chunk → ℕ → ℕ → Option ℕ
physical_of [] at count = None
physical_of (chunk ∷ chunks) at count = if has_range chunk at count then Some (chunk.physical + (at - chunk.logical)) else physical_of chunks at count
