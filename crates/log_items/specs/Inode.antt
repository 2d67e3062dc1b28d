-- An inode in a log, whole or only as existing: its item, its attributes, and of a symlink its target, as a subvolume has them.
use Rattle.std.specs.Prelude.{◌≡◌, ◌+◌, ℕ, Bool, cond, max, List, [], length, nat_eq, Option, Some}
use Rattle.std.specs.FinMap.{empty, get, insert, remove}
use Rattle.blk_base.specs.declared.key.Key.{Key}
use Rattle.blk_base.specs.Items.{InodeValue, inode_bytes, link_mode}
use Rattle.blk_base.specs.Keys.{extent_data, inode_item, xattr_item}
use Rattle.blk_base.specs.Leaf.{Item}
use Rattle.flat_model.specs.Records.{FileRecord, InodeRecord, FileInode, DirInode, LinkInode, at_creation, kind_of}
use Rattle.logged_volume.specs.Accepted.{kind_of_whole}
use Rattle.logged_volume.specs.FlatLog.{FileChanges, WholeInode, WholeFile, WholeDir, WholeLink, FlatLog, is_whole}
use Rattle.tree_range.specs.Between.{items_between}
use Rattle.tree_frame.specs.Frame.{with_item}
use Rattle.volume_image.specs.Subvolume.{make_key}
use Rattle.log_items.specs.Copied.{with_range}
use Rattle.log_items.specs.Names.{names_to_log}

-- ---- the flat log

-- the inode in the log, where it has it, is of the record's kind ("INODE_ITEM": mode)
pub record HasItsKind (log : FlatLog) (ino : ℕ) (inode : InodeRecord) : Type 0 where
  pub whole : (had : WholeInode) → get log.whole ino ≡ Some had → kind_of_whole had ≡ kind_of inode
  pub existing : (had : InodeRecord) → get log.existing ino ≡ Some had → kind_of had ≡ kind_of inode

-- the attributes and the size of a file, with the blocks and the holes that the log has of it, where it has it whole
abbrev pub file_with_had : Option WholeInode → FileRecord → FileChanges
file_with_had (Some (WholeFile had)) file = record had { attributes = file.attributes; size = file.size }
file_with_had other file = record { attributes = file.attributes; size = file.size; blocks = empty; holes = [] }

-- the inode whole, but that a file has the blocks and the holes that the log has of it (LOG_INODE_ALL)
abbrev pub whole_with_had : Option WholeInode → InodeRecord → WholeInode
whole_with_had had (FileInode file) = WholeFile (file_with_had had file)
whole_with_had had (DirInode dir) = WholeDir dir
whole_with_had had (LinkInode link) = WholeLink link

-- the log with the inode whole (LOG_INODE_ALL)
abbrev pub with_whole : ℕ → InodeRecord → FlatLog → FlatLog
with_whole ino inode log = record log { whole = insert log.whole ino (whole_with_had (get log.whole ino) inode); existing = remove log.existing ino }

-- the log that says that the inode exists; one that is whole in it stays so (LOG_INODE_EXISTS, own)
abbrev pub with_existing : ℕ → InodeRecord → FlatLog → FlatLog
with_existing ino inode log = cond (is_whole log ino) log (record log { existing = insert log.existing ino (at_creation inode) })

-- the log with the inode, whole or as existing
abbrev pub with_inode : ℕ → Bool → InodeRecord → FlatLog → FlatLog
with_inode ino whole inode log = cond whole (with_whole ino inode log) (with_existing ino inode log)

-- ---- the items

-- what an inode's item says in a log: of one that is whole the generation isn't 0, of another it is ("INODE_ITEM", own)
abbrev pub value_to_log : Bool → InodeValue → InodeValue
value_to_log whole value = record value { generation = cond whole (max value.generation 1) 0 }

-- the lowest and the highest key that the items of one type of an inode may have
abbrev pub first_at : ℕ → ℕ → Key
first_at ino kind = record { objectid = ino; kind = kind; offset = 0 }

abbrev pub last_at : ℕ → ℕ → Key
last_at ino kind = record { objectid = ino; kind = kind; offset = 18446744073709551615 }

-- the items of one type that a subvolume has of an inode
abbrev pub items_at : ℕ → ℕ → List Item → List Item
items_at ino kind items = items_between (first_at ino kind) (last_at ino kind) items

-- the items of a log with those of a subvolume in place of its own
abbrev pub with_items_at : ℕ → ℕ → List Item → List Item → List Item
with_items_at ino kind current items = with_range (first_at ino kind) (last_at ino kind) (items_at ino kind current) items

-- with the attributes, where the inode is whole ("XATTR_ITEM")
abbrev pub with_attributes : ℕ → Bool → List Item → List Item → List Item
with_attributes ino whole current items = cond whole (with_items_at ino xattr_item current items) items

-- with the target, where the inode is a symlink (inline "EXTENT_DATA")
abbrev pub with_target : ℕ → ℕ → List Item → List Item → List Item
with_target ino mode current items = cond (nat_eq mode link_mode) (with_items_at ino extent_data current items) items

-- the items of a log with an inode's item, attributes and target
abbrev pub with_own_items : ℕ → Bool → InodeValue → List Item → List Item → List Item
with_own_items ino whole value current items =
    with_target ino value.mode current (with_attributes ino whole current (with_item (make_key ino inode_item 0) (inode_bytes value) items))

-- how many items these are
abbrev pub own_count : ℕ → Bool → ℕ → List Item → ℕ
own_count ino whole mode current =
    1 + (cond whole (length (items_at ino xattr_item current)) 0 + cond (nat_eq mode link_mode) (length (items_at ino extent_data current)) 0)

-- and with the names
abbrev pub inode_count : ℕ → Bool → ℕ → List Item → ℕ
inode_count ino whole mode current = own_count ino whole mode current + length (names_to_log ino current)
