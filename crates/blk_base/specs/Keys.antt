-- Keys of trees, their order, and their types.
use Rattle.std.specs.Prelude.{◌≡◌, ◌+◌, ◌<◌, ◌^◌, ℕ, Bool, true, ◌&&◌, ◌++◌, List, [], ◌∷◌}
use Rattle.std.specs.Ordering.{nat_cmp, ordering_then, is_lt}
use Rattle.std.specs.declared.cmp.Ordering.{Ordering}
use Rattle.std.specs.declared.cmp.Ordering.TheVariants.{Less}
use Rattle.blk_base.specs.declared.key.Key.{Key}
use Rattle.blk_base.specs.declared.format.TheConstants.{INODE_ITEM, INODE_REF, INODE_EXTREF, XATTR_ITEM, ORPHAN_ITEM, DIR_LOG_INDEX, DIR_ITEM, DIR_INDEX, EXTENT_DATA, ROOT_ITEM, ROOT_TREE, FS_TREE, FIRST_FREE, TREE_LOG, TREE_LOG_FIXUP}
use Rattle.blk_base.specs.Bytes.{field, number_bytes}

-- by object id, then type, then offset ("Key")
abbrev pub key_cmp : Key → Key → Ordering
key_cmp a b = ordering_then (nat_cmp a.objectid b.objectid) (ordering_then (nat_cmp a.kind b.kind) (nat_cmp a.offset b.offset))

abbrev pub KeyBelow : Key → Key → Type 0
KeyBelow a b = key_cmp a b ≡ Less

abbrev pub key_below : Key → Key → Bool
key_below a b = is_lt (key_cmp a b)

-- each key is below the next
abbrev pub keys_rise : List Key → Bool
keys_rise [] = true
keys_rise (a ∷ []) = true
keys_rise (a ∷ b ∷ keys) = key_below a b && keys_rise (b ∷ keys)

-- a key that fits its fields
pub record KeyFits (key : Key) : Type 0 where
  pub objectid : key.objectid < 2 ^ 64
  pub kind : key.kind < 2 ^ 8
  pub offset : key.offset < 2 ^ 64

-- the 17 bytes of a key: object id, type, offset ("Key")
abbrev pub key_bytes : Key → List ℕ
key_bytes key = number_bytes 8 key.objectid ++ number_bytes 1 key.kind ++ number_bytes 8 key.offset

-- the key in the 17 bytes at a place
abbrev pub key_at : List ℕ → ℕ → Key
key_at bytes at = record { objectid = field 8 bytes at; kind = field 1 bytes (at + 8); offset = field 8 bytes (at + 9) }

-- types of keys ("Item Types")
abbrev pub inode_item : ℕ
inode_item = INODE_ITEM

abbrev pub inode_ref : ℕ
inode_ref = INODE_REF

abbrev pub inode_extref : ℕ
inode_extref = INODE_EXTREF

abbrev pub xattr_item : ℕ
xattr_item = XATTR_ITEM

abbrev pub orphan_item : ℕ
orphan_item = ORPHAN_ITEM

abbrev pub dir_log_index : ℕ
dir_log_index = DIR_LOG_INDEX

abbrev pub dir_item : ℕ
dir_item = DIR_ITEM

abbrev pub dir_index : ℕ
dir_index = DIR_INDEX

abbrev pub extent_data : ℕ
extent_data = EXTENT_DATA

abbrev pub root_item : ℕ
root_item = ROOT_ITEM

-- object ids and owners of trees ("Object IDs")
abbrev pub root_tree : ℕ
root_tree = ROOT_TREE

abbrev pub fs_tree : ℕ
fs_tree = FS_TREE

abbrev pub first_free : ℕ
first_free = FIRST_FREE

abbrev pub tree_log : ℕ
tree_log = TREE_LOG

abbrev pub tree_log_fixup : ℕ
tree_log_fixup = TREE_LOG_FIXUP
