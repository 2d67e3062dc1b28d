-- Items of fixed length: inode items, root items, and the ranges of a log, from any list of bytes.
use Rattle.std.specs.Prelude.{◌≡◌, ◌<◌, ◌^◌, ◌⊎◌, ℕ, Bool, ◌||◌, not, ◌==◌, List, ◌++◌, length, Result, Ok, Err, if◌then◌else◌}
use Rattle.blk_base.specs.declared.fault.ItemFault.{ItemFault}
use Rattle.blk_base.specs.declared.fault.ItemFault.TheVariants.{Size, Kind}
use Rattle.blk_base.specs.declared.fault.RootFault.{RootFault}
use Rattle.blk_base.specs.declared.fault.RootFault.TheVariants as root_faults
use Rattle.blk_base.specs.declared.format.TheConstants.{FILE_MODE, DIR_MODE, LINK_MODE, INODE_ITEM_SIZE, ROOT_ITEM_SIZE, RANGE_SIZE, FIRST_FREE}
use Rattle.blk_base.specs.Bytes.{field, number_bytes, zeros}

-- ---- inode items ("INODE_ITEM", 160 bytes)

pub record InodeValue : Type 0 where
  pub generation : ℕ
  pub transid : ℕ
  pub size : ℕ
  pub nbytes : ℕ
  pub nlink : ℕ
  pub mode : ℕ

-- of a file, a directory, a symlink
abbrev pub file_mode : ℕ
file_mode = FILE_MODE

abbrev pub dir_mode : ℕ
dir_mode = DIR_MODE

abbrev pub link_mode : ℕ
link_mode = LINK_MODE

abbrev pub is_mode : ℕ → Bool
is_mode mode = (mode == file_mode) || (mode == dir_mode) || (mode == link_mode)

abbrev pub inode_value : List ℕ → InodeValue
inode_value bytes = record {
  generation = field 8 bytes 0;
  transid = field 8 bytes 8;
  size = field 8 bytes 16;
  nbytes = field 8 bytes 24;
  nlink = field 4 bytes 40;
  mode = field 4 bytes 52;
}

-- these bytes are an inode item that says this
pub record IsInode (bytes : List ℕ) (v : InodeValue) : Type 0 where
  pub size : length bytes ≡ INODE_ITEM_SIZE
  pub value : inode_value bytes ≡ v
  pub mode : (v.mode ≡ file_mode) ⊎ (v.mode ≡ dir_mode) ⊎ (v.mode ≡ link_mode)

unfoldable pub inode_of : List ℕ → Result InodeValue ItemFault
inode_of bytes = if not (length bytes == INODE_ITEM_SIZE) then Err Size else if not (is_mode (field 4 bytes 52)) then Err Kind else Ok (inode_value bytes)

-- as it is written: block group, owner, device, flags, sequence, reserved bytes and times are zero (own)
unfoldable pub inode_bytes : InodeValue → List ℕ
inode_bytes v =
    number_bytes 8 v.generation ++ number_bytes 8 v.transid ++ number_bytes 8 v.size ++ number_bytes 8 v.nbytes ++ zeros 8
    ++ number_bytes 4 v.nlink ++ zeros 8 ++ number_bytes 4 v.mode ++ zeros 104

-- ---- root items ("ROOT_ITEM", 439 bytes)

-- the tree's generation, and the byte address and level of its root
pub record RootValue : Type 0 where
  pub generation : ℕ
  pub at : ℕ
  pub level : ℕ

abbrev pub root_value : List ℕ → RootValue
root_value bytes = record { generation = field 8 bytes 160; at = field 8 bytes 176; level = field 1 bytes 238 }

-- these bytes are a root item that says this
pub record IsRoot (bytes : List ℕ) (v : RootValue) : Type 0 where
  pub size : length bytes ≡ ROOT_ITEM_SIZE
  pub value : root_value bytes ≡ v

unfoldable pub root_of : List ℕ → Result RootValue RootFault
root_of bytes = if not (length bytes == ROOT_ITEM_SIZE) then Err root_faults.Size else Ok (root_value bytes)

-- as it is written: root directory 256, one reference, the generation twice; the rest is zero (own)
unfoldable pub root_bytes : RootValue → List ℕ
root_bytes v =
    zeros 160 ++ number_bytes 8 v.generation ++ number_bytes 8 FIRST_FREE ++ number_bytes 8 v.at ++ zeros 32 ++ number_bytes 4 1 ++ zeros 18
    ++ number_bytes 1 v.level ++ number_bytes 8 v.generation ++ zeros 192

pub record RootFits (v : RootValue) : Type 0 where
  pub generation : v.generation < 2 ^ 64
  pub at : v.at < 2 ^ 64
  pub level : v.level < 2 ^ 8

-- ---- ranges of a log ("DIR_LOG_INDEX", 8 bytes: the last index that the range covers)

pub record IsRange (bytes : List ℕ) (last : ℕ) : Type 0 where
  pub size : length bytes ≡ RANGE_SIZE
  pub value : field 8 bytes 0 ≡ last

unfoldable pub range_of : List ℕ → Result ℕ ItemFault
range_of bytes = if not (length bytes == RANGE_SIZE) then Err Size else Ok (field 8 bytes 0)
