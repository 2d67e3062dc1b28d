-- The superblock, from any list of bytes ("Superblock"; its 4096 bytes stand at byte address 65536).
use Rattle.std.specs.Prelude.{◌≡◌, ◌≤◌, ◌<◌, ◌*◌, ◌/◌, ◌%◌, ◌^◌, ◌-◌, ℕ, min, length, Bool, ◌&&◌, ◌||◌, not, nat_lt, nat_le, ◌==◌, List, [], ◌∷◌, Result, Ok, Err, if◌then◌else◌}
use Rattle.std.specs.Str.{bytes_eq}
use Rattle.blk_base.specs.declared.fault.SuperFault.{SuperFault}
use Rattle.blk_base.specs.declared.fault.SuperFault.TheVariants.{Magic, Checksum, Foreign, Size, Root, Level, LogLevel}
use Rattle.blk_base.specs.declared.format.TheConstants.{BLOCK_SIZE, SUPER_AT, MAGIC, PROFILE_FLAGS, MAX_LEVEL}
use Rattle.blk_base.specs.declared.limits.TheConstants.{FEWEST_BLOCKS, MOST_BLOCKS}
use Rattle.blk_base.specs.Address.{IsAllowed, is_allowed}
use Rattle.blk_base.specs.Bytes.{IsBytes, field, bytes_at, with_bytes, with_field, number_bytes, zeros}
use Rattle.blk_base.specs.Crc.{block_sum}

-- what a superblock says: addresses are byte addresses, blocks and used count blocks of 4096 bytes
pub record SuperValue : Type 0 where
  pub fsid : List ℕ
  pub generation : ℕ
  pub root : ℕ
  pub root_level : ℕ
  pub log_root : ℕ
  pub log_root_level : ℕ
  pub blocks : ℕ
  pub used : ℕ

-- the letters `_BHRfS_M`
abbrev pub magic : List ℕ
magic = MAGIC

-- incompat bit 63, which marks the profile (own)
abbrev pub profile_flags : ℕ
profile_flags = PROFILE_FLAGS

-- the block is a superblock of this profile: one device, 4096 bytes a sector and a node, no chunk tree
pub record IsProfile (bytes : List ℕ) : Type 0 where
  pub magic : bytes_at 8 bytes 0x40 ≡ magic
  pub sum_kind : field 2 bytes 0xc4 ≡ 0
  pub sum : field 4 bytes 0 ≡ block_sum bytes
  pub own_address : field 8 bytes 0x30 ≡ SUPER_AT
  pub devices : field 8 bytes 0x88 ≡ 1
  pub sector_size : field 4 bytes 0x90 ≡ BLOCK_SIZE
  pub node_size : field 4 bytes 0x94 ≡ BLOCK_SIZE
  pub flags : field 8 bytes 0xbc ≡ profile_flags
  pub chunk_root : field 8 bytes 0x58 ≡ 0
  pub chunk_array : field 4 bytes 0xa0 ≡ 0

-- these bytes are a superblock that says this, on a disk of so many blocks
pub record IsSuper (bytes : List ℕ) (disk_blocks : ℕ) (v : SuperValue) : Type 0 where
  pub profile : IsProfile bytes
  pub fsid : bytes_at 16 bytes 0x20 ≡ v.fsid
  pub generation : field 8 bytes 0x48 ≡ v.generation
  pub root : field 8 bytes 0x50 ≡ v.root
  pub log_root : field 8 bytes 0x60 ≡ v.log_root
  pub size : field 8 bytes 0x70 ≡ v.blocks * BLOCK_SIZE
  -- bytes_used in blocks, and the greatest number of 32 bits where there are more
  pub used : min (field 8 bytes 0x78 / BLOCK_SIZE) (2 ^ 32 - 1) ≡ v.used
  pub root_level : field 1 bytes 0xc6 ≡ v.root_level
  pub log_root_level : field 1 bytes 0xc8 ≡ v.log_root_level
  pub smallest : FEWEST_BLOCKS ≤ v.blocks
  pub greatest : v.blocks ≤ MOST_BLOCKS
  pub on_disk : v.blocks ≤ disk_blocks
  pub allowed : IsAllowed v.blocks v.root
  pub low : v.root_level ≤ MAX_LEVEL
  pub log_low : v.log_root_level ≤ MAX_LEVEL
  pub no_log : v.log_root ≡ 0 → v.log_root_level ≡ 0

-- what the fields of any bytes say
abbrev pub super_value : List ℕ → SuperValue
super_value bytes = record {
  fsid = bytes_at 16 bytes 0x20;
  generation = field 8 bytes 0x48;
  root = field 8 bytes 0x50;
  root_level = field 1 bytes 0xc6;
  log_root = field 8 bytes 0x60;
  log_root_level = field 1 bytes 0xc8;
  blocks = field 8 bytes 0x70 / BLOCK_SIZE;
  used = min (field 8 bytes 0x78 / BLOCK_SIZE) (2 ^ 32 - 1);
}

-- the fields that say which kind of volume it is are those of the profile
abbrev pub is_profile : List ℕ → Bool
is_profile bytes =
    (field 2 bytes 0xc4 == 0) && (field 8 bytes 0x30 == SUPER_AT) && (field 8 bytes 0x88 == 1) && (field 4 bytes 0x90 == BLOCK_SIZE) && (field 4 bytes 0x94 == BLOCK_SIZE)
    && (field 8 bytes 0xbc == profile_flags) && (field 8 bytes 0x58 == 0) && (field 4 bytes 0xa0 == 0)

-- the bytes are a number of blocks that a volume may have, and no more than the disk has
abbrev pub is_size : ℕ → ℕ → Bool
is_size total disk_blocks = (total % BLOCK_SIZE == 0) && nat_le FEWEST_BLOCKS (total / BLOCK_SIZE) && nat_le (total / BLOCK_SIZE) MOST_BLOCKS && nat_le (total / BLOCK_SIZE) disk_blocks

-- what the superblock says, or the first check that fails
unfoldable pub super_of : List ℕ → ℕ → Result SuperValue SuperFault
super_of bytes disk_blocks =
    let v = super_value bytes in
    if not (bytes_eq (bytes_at 8 bytes 0x40) magic) then Err Magic else
    if (field 2 bytes 0xc4 == 0) && not (field 4 bytes 0 == block_sum bytes) then Err Checksum else
    if not (is_profile bytes) then Err Foreign else
    if not (is_size (field 8 bytes 0x70) disk_blocks) then Err Size else
    if not (is_allowed v.blocks v.root) then Err Root else
    if nat_lt MAX_LEVEL v.root_level then Err Level else
    if nat_lt MAX_LEVEL v.log_root_level || ((v.log_root == 0) && not (v.log_root_level == 0)) then Err LogLevel else Ok v

-- ---- writing

-- a field of a table: its place and its bytes
abbrev pub Field : Type 0
Field = ℕ × List ℕ

-- the bytes with each field of a table written over them
abbrev pub with_fields : List ℕ → List Field → List ℕ
with_fields bytes [] = bytes
with_fields bytes (f ∷ fields) = with_fields (with_bytes bytes f.0 f.1) fields

-- the bytes with the sum of all from byte 32 on at their front
abbrev pub with_sum : List ℕ → List ℕ
with_sum bytes = with_field 4 bytes 0 (block_sum bytes)

-- every field that isn't zero ("Superblock")
abbrev pub super_fields : SuperValue → List Field
super_fields v =
    (0x20, v.fsid)
    ∷ (0x30, number_bytes 8 SUPER_AT)
    ∷ (0x38, number_bytes 8 1)
    ∷ (0x40, magic)
    ∷ (0x48, number_bytes 8 v.generation)
    ∷ (0x50, number_bytes 8 v.root)
    ∷ (0x60, number_bytes 8 v.log_root)
    ∷ (0x70, number_bytes 8 (v.blocks * BLOCK_SIZE))
    ∷ (0x78, number_bytes 8 (v.used * BLOCK_SIZE))
    ∷ (0x88, number_bytes 8 1)
    ∷ (0x90, number_bytes 4 BLOCK_SIZE)
    ∷ (0x94, number_bytes 4 BLOCK_SIZE)
    ∷ (0xbc, number_bytes 8 profile_flags)
    ∷ (0xc6, number_bytes 1 v.root_level)
    ∷ (0xc8, number_bytes 1 v.log_root_level)
    ∷ []

-- the superblock as it is written; all other bytes are zero
unfoldable pub super_bytes : SuperValue → List ℕ
super_bytes v = with_sum (with_fields (zeros BLOCK_SIZE) (super_fields v))

-- what can be written as a superblock
pub record SuperFits (v : SuperValue) : Type 0 where
  pub fsid : length v.fsid ≡ 16
  pub fsid_bytes : IsBytes v.fsid
  pub generation : v.generation < 2 ^ 64
  pub root : IsAllowed v.blocks v.root
  pub log_root : v.log_root < 2 ^ 64
  pub smallest : FEWEST_BLOCKS ≤ v.blocks
  pub greatest : v.blocks ≤ MOST_BLOCKS
  pub used : v.used < 2 ^ 32
  pub low : v.root_level ≤ MAX_LEVEL
  pub log_low : v.log_root_level ≤ MAX_LEVEL
  pub no_log : v.log_root ≡ 0 → v.log_root_level ≡ 0
