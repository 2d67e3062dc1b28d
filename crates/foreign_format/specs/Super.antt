-- The superblock of a volume on one device, of any node size ("Superblock").
use Rattle.std.specs.Prelude.{ℕ, Bool, ◌&&◌, ◌||◌, not, nat_le, ◌==◌, List, Result, Ok, Err, if◌then◌else◌}
use Rattle.std.specs.Str.{bytes_eq}
use Rattle.blk_base.specs.Bytes.{field, bytes_at}
use Rattle.blk_base.specs.Crc.{block_sum}
use Rattle.blk_base.specs.Superblock.{magic}
use Rattle.foreign_format.specs.declared.fault.ForeignFault.{ForeignFault}
use Rattle.foreign_format.specs.declared.fault.ForeignFault.TheVariants.{Magic, Kind, Checksum, Size, HasLog, Devices}
use Rattle.foreign_format.specs.declared.superblock.Superblock.{Superblock}

-- a tree block has so many bytes: a power of two from 4096 to 65536
abbrev pub is_node_size : ℕ → Bool
is_node_size size = (size == 4096) || (size == 8192) || (size == 16384) || (size == 32768) || (size == 65536)

-- the superblock stands in its place, a sector has 4096 bytes, and the sizes of nodes and of the system chunks can be
abbrev pub has_sizes : List ℕ → Bool
has_sizes bytes = (field 8 bytes 0x30 == 65536) && (field 4 bytes 0x90 == 4096) && is_node_size (field 4 bytes 0x94) && nat_le (field 4 bytes 0xa0) 2048

-- what the fields of any bytes say
abbrev pub super_value : List ℕ → Superblock
super_value bytes = record {
  fsid = bytes_at 16 bytes 32;
  generation = field 8 bytes 0x48;
  root = field 8 bytes 0x50;
  root_level = field 1 bytes 0xc6;
  chunk_root = field 8 bytes 0x58;
  chunk_root_level = field 1 bytes 0xc7;
  node_size = field 4 bytes 0x94;
}

-- what the superblock says, or the first check that fails; incompat flags aren't looked at
unfoldable pub super_of : List ℕ → Result Superblock ForeignFault
super_of bytes =
    if not (bytes_eq (bytes_at 8 bytes 0x40) magic) then Err Magic else
    if not (field 2 bytes 0xc4 == 0) then Err (Kind (field 2 bytes 0xc4)) else
    if not (field 4 bytes 0 == block_sum bytes) then Err Checksum else
    if not (has_sizes bytes) then Err Size else
    if not (field 8 bytes 0x60 == 0) then Err (HasLog (field 8 bytes 0x60)) else
    if not (field 8 bytes 0x88 == 1) then Err (Devices (field 8 bytes 0x88)) else Ok (super_value bytes)
