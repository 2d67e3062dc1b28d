-- A volume that is opened: its superblock, and the chunks by which its trees are read.
use Rattle.std.specs.Prelude.{◌≡◌, ℕ, ◌*◌, ◌==◌, List, [], fold, slice_index_or, None, Result, Ok, if◌then◌else◌}
use Rattle.blk_base.specs.declared.format.TheConstants.{BLOCK_SIZE, SUPER_BLOCK}
use Rattle.blk_base.specs.Bytes.{Image, bytes_at, field, zeros}
use Rattle.foreign_format.specs.declared.chunk.Chunk.{Chunk}
use Rattle.foreign_format.specs.declared.chunk.ChunkRow.{ChunkRow}
use Rattle.foreign_format.specs.declared.fault.ForeignFault.{ForeignFault}
use Rattle.foreign_format.specs.declared.superblock.Superblock.{Superblock}
use Rattle.foreign_format.specs.Answer.{and_then}
use Rattle.foreign_format.specs.Chunks.{array_rows, in_row, put_row, row_of}
use Rattle.foreign_format.specs.Super.{super_of}
use Rattle.foreign_tree.specs.declared.volume.Wanted.{Wanted}
use Rattle.foreign_tree.specs.Tree.{Found, IsTree, VolumeValue, disk_bytes, tree_of}

-- the block of the superblock; a disk without it counts as zeros there ("Superblock")
abbrev pub super_bytes : Image → List ℕ
super_bytes image = slice_index_or image SUPER_BLOCK (zeros BLOCK_SIZE)

-- the system chunks in the superblock's block ("Superblock": sys_chunk_array_size, sys_chunk_array)
abbrev pub array_of : List ℕ → List ℕ
array_of block = bytes_at (field 4 block 0xa0) block 0x32b

-- the bytes of a disk of so many blocks
abbrev pub size_of : ℕ → ℕ
size_of blocks = BLOCK_SIZE * blocks

-- the chunks of the superblock's block, which serve to read the chunk tree alone; or their first fault
abbrev pub array_chunks : ℕ → List ℕ → Result (List Chunk) ForeignFault
array_chunks blocks block = and_then (array_rows 32 [] (array_of block)) (in_row (size_of blocks) 0 [])

-- what the trees of a volume with this superblock are read by, where these are its chunks
abbrev pub volume_with : Superblock → List Chunk → VolumeValue
volume_with superblock chunks = record { fsid = superblock.fsid; node_size = superblock.node_size; chunks = chunks }

-- the root of the chunk tree, whose generation isn't looked at
abbrev pub chunk_root : Superblock → Wanted
chunk_root superblock = record { at = superblock.chunk_root; generation = None; level = superblock.chunk_root_level }

-- the rows with that of an item, where it is a chunk item ("CHUNK_ITEM")
abbrev pub with_chunk_item : List ChunkRow → Found → List ChunkRow
with_chunk_item rows found = if found.key.kind == 228 then put_row (row_of found.key.offset found.content) rows else rows

-- the rows of the chunk items, in ascending order
abbrev pub chunk_rows : List Found → List ChunkRow
chunk_rows items = fold with_chunk_item [] items

-- the chunks of the chunk tree, which is read by those of the superblock; or the first fault
abbrev pub tree_chunks : ℕ → Image → Superblock → List Chunk → Result (List Chunk) ForeignFault
tree_chunks blocks image superblock chunks =
    and_then (tree_of (volume_with superblock chunks) (disk_bytes image) (chunk_root superblock)) (λ walked. in_row (size_of blocks) 0 [] (chunk_rows walked.items))

-- a volume's superblock, and what its trees are read by
pub record OpenedValue : Type 0 where
  pub superblock : Superblock
  pub volume : VolumeValue

-- The disk of so many blocks has this volume: its superblock passes its checks; the chunks in it lead to a chunk tree; and the
-- chunk items of that tree are chunks, each behind the one before it, and the map of all else.
pub record IsOpened (blocks : ℕ) (image : Image) (opened : OpenedValue) : Type 0 where
  pub superblock : super_of (super_bytes image) ≡ Ok opened.superblock
  pub first : List Chunk
  pub array : array_chunks blocks (super_bytes image) ≡ Ok first
  pub items : List Found
  pub reach : List ℕ
  pub tree : IsTree (volume_with opened.superblock first) (disk_bytes image) (chunk_root opened.superblock) items reach
  pub chunks : List Chunk
  pub mapped : in_row (size_of blocks) 0 [] (chunk_rows items) ≡ Ok chunks
  pub volume : opened.volume ≡ volume_with opened.superblock chunks

-- the volume on a disk of so many blocks, or the first fault: of the superblock, of its chunks, of the chunk tree, of that tree's chunks
unfoldable pub opened_of : ℕ → Image → Result OpenedValue ForeignFault
opened_of blocks image =
    and_then (super_of (super_bytes image)) (λ superblock.
    and_then (array_chunks blocks (super_bytes image)) (λ first.
    and_then (tree_chunks blocks image superblock first) (λ chunks.
    Ok (record { superblock = superblock; volume = volume_with superblock chunks }))))
