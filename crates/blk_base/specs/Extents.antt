-- Extents of a file, from any list of bytes ("EXTENT_DATA"; "EXTENT_ITEM" and back references aren't kept in the profile).
use Rattle.std.specs.Prelude.{◌≡◌, ◌≤◌, ◌<◌, ◌+◌, ◌%◌, ℕ, Bool, true, false, ◌&&◌, ◌||◌, not, nat_lt, nat_le, ◌==◌, List, [], ◌∷◌, ◌++◌, length, drop, Result, Ok, Err, if◌then◌else◌}
use Rattle.blk_base.specs.declared.fault.ItemFault.{ItemFault}
use Rattle.blk_base.specs.declared.fault.ItemFault.TheVariants.{Size, Compressed, Encrypted, Preallocated, Kind, Align}
use Rattle.blk_base.specs.declared.key.Key.{Key}
use Rattle.blk_base.specs.declared.format.TheConstants.{BLOCK_SIZE}
use Rattle.blk_base.specs.declared.limits.TheConstants.{MOST_FILE_BYTES}
use Rattle.blk_base.specs.Bytes.{field, number_bytes, zeros}

-- what an extent says: data in the item itself; a run of blocks at a byte address, of so many bytes; in a log also a hole of so many bytes
pub data ExtentValue : Type 0 where
  Inline : (content : List ℕ) → ExtentValue
  Regular : (at offset len : ℕ) → ExtentValue
  Hole : (len : ℕ) → ExtentValue

-- the greatest file, in bytes
abbrev pub file_limit : ℕ
file_limit = MOST_FILE_BYTES

-- fields: generation, ram_bytes, compression, encryption, other_encoding, type; then data, or disk_bytenr, disk_num_bytes, offset, num_bytes
abbrev pub ram_bytes : List ℕ → ℕ
ram_bytes bytes = field 8 bytes 8

abbrev pub extent_type : List ℕ → ℕ
extent_type bytes = field 1 bytes 20

abbrev pub disk_at : List ℕ → ℕ
disk_at bytes = field 8 bytes 21

abbrev pub disk_bytes : List ℕ → ℕ
disk_bytes bytes = field 8 bytes 29

abbrev pub extent_offset : List ℕ → ℕ
extent_offset bytes = field 8 bytes 37

abbrev pub num_bytes : List ℕ → ℕ
num_bytes bytes = field 8 bytes 45

-- an extent that is neither compressed nor encrypted
pub record IsPlain (bytes : List ℕ) : Type 0 where
  pub compression : field 1 bytes 16 ≡ 0
  pub encryption : field 1 bytes 17 ≡ 0
  pub other_encoding : field 2 bytes 18 ≡ 0

-- a run of 1 to 4096 whole blocks
abbrev pub IsRun : ℕ → Type 0
IsRun len = (len % BLOCK_SIZE ≡ 0) × (BLOCK_SIZE ≤ len) × (len ≤ file_limit)

-- the bytes under this key are this extent, in the tree of a subvolume; in a log also a hole
abbrev pub IsExtent : Key → List ℕ → ExtentValue → Type 0
IsExtent key bytes (Inline content) = IsPlain bytes × (extent_type bytes ≡ 0) × (22 ≤ length bytes) × (drop 21 bytes ≡ content) × (ram_bytes bytes ≡ length content) × (key.offset ≡ 0)
IsExtent key bytes (Regular at offset len) =
    IsPlain bytes × (extent_type bytes ≡ 1) × (length bytes ≡ 53) × (disk_at bytes ≡ at) × (extent_offset bytes ≡ offset) × (offset ≡ 0)
    × (disk_bytes bytes ≡ len) × (ram_bytes bytes ≡ len) × (num_bytes bytes ≡ len) × IsRun len × (key.offset % BLOCK_SIZE ≡ 0)
IsExtent key bytes (Hole len) = ⊥

abbrev pub IsLogExtent : Key → List ℕ → ExtentValue → Type 0
IsLogExtent key bytes (Hole len) =
    IsPlain bytes × (extent_type bytes ≡ 1) × (length bytes ≡ 53) × (disk_at bytes ≡ 0) × (disk_bytes bytes ≡ 0) × (extent_offset bytes ≡ 0)
    × (ram_bytes bytes ≡ len) × (num_bytes bytes ≡ len) × (len % BLOCK_SIZE ≡ 0) × (0 < len) × (key.offset % BLOCK_SIZE ≡ 0)
IsLogExtent key bytes v = IsExtent key bytes v

-- a length that an item of this type can't have
abbrev pub is_short : List ℕ → Bool
is_short bytes = nat_lt (length bytes) 21 || ((extent_type bytes == 0) && nat_lt (length bytes) 22) || (((extent_type bytes == 1) || (extent_type bytes == 2)) && not (length bytes == 53))

abbrev pub is_run : ℕ → Bool
is_run len = (len % BLOCK_SIZE == 0) && nat_le BLOCK_SIZE len && nat_le len file_limit

abbrev pub is_inline : Key → List ℕ → Bool
is_inline key bytes = (ram_bytes bytes + 21 == length bytes) && (key.offset == 0)

abbrev pub is_regular : Key → List ℕ → Bool
is_regular key bytes = is_run (num_bytes bytes) && (ram_bytes bytes == num_bytes bytes) && (disk_bytes bytes == num_bytes bytes) && (extent_offset bytes == 0) && (key.offset % BLOCK_SIZE == 0)

abbrev pub is_hole : Key → List ℕ → Bool
is_hole key bytes =
    (disk_at bytes == 0) && (disk_bytes bytes == 0) && (extent_offset bytes == 0) && (ram_bytes bytes == num_bytes bytes) && (num_bytes bytes % BLOCK_SIZE == 0) && nat_lt 0 (num_bytes bytes) && (key.offset % BLOCK_SIZE == 0)

-- the extent, or its first fault; `holes` says whether it stands in a log
abbrev pub extent_in : Bool → Key → List ℕ → Result ExtentValue ItemFault
extent_in holes key bytes =
    if is_short bytes then Err Size else
    if not (field 1 bytes 16 == 0) then Err Compressed else
    if not ((field 1 bytes 17 == 0) && (field 2 bytes 18 == 0)) then Err Encrypted else
    if extent_type bytes == 2 then Err Preallocated else
    if nat_lt 2 (extent_type bytes) then Err Kind else
    if extent_type bytes == 0 then (if is_inline key bytes then Ok (Inline (drop 21 bytes)) else Err Align) else
    if holes && is_hole key bytes then Ok (Hole (num_bytes bytes)) else
    if is_regular key bytes then Ok (Regular (disk_at bytes) (extent_offset bytes) (num_bytes bytes)) else Err Align

unfoldable pub extent_of : Key → List ℕ → Result ExtentValue ItemFault
extent_of key bytes = extent_in false key bytes

unfoldable pub log_extent_of : Key → List ℕ → Result ExtentValue ItemFault
log_extent_of key bytes = extent_in true key bytes

-- ---- as they are written, for a generation

unfoldable pub inline_bytes : ℕ → List ℕ → List ℕ
inline_bytes generation content = number_bytes 8 generation ++ number_bytes 8 (length content) ++ zeros 5 ++ content

unfoldable pub regular_bytes : ℕ → ℕ → ℕ → List ℕ
regular_bytes generation at len = number_bytes 8 generation ++ number_bytes 8 len ++ zeros 4 ++ 1 ∷ [] ++ number_bytes 8 at ++ number_bytes 8 len ++ zeros 8 ++ number_bytes 8 len

unfoldable pub hole_bytes : ℕ → ℕ → List ℕ
hole_bytes generation len = number_bytes 8 generation ++ number_bytes 8 len ++ zeros 4 ++ 1 ∷ [] ++ zeros 24 ++ number_bytes 8 len
