-- What the items of a tree say of a subvolume, whether or not they are that subvolume's: names by refs, and by each inode item a record.
use Rattle.std.specs.Prelude.{ℕ, zero, suc, ◌+◌, ◌/◌, Bool, true, false, ◌&&◌, not, ◌==◌, List, [], ◌∷◌, ◌++◌, map, filter, Option, Some, None, Result, Ok, Err, if◌then◌else◌}
use Rattle.std.specs.List.{flat_map}
use Rattle.std.specs.Str.{bytes_eq}
use Rattle.std.specs.Ordering.{nat_cmp}
use Rattle.std.specs.FinMap.{FinMap, from_entries}
use Rattle.blk_base.specs.declared.format.TheConstants.{BLOCK_SIZE}
use Rattle.blk_base.specs.declared.key.Key.{Key}
use Rattle.blk_base.specs.declared.fault.ItemFault.{ItemFault}
use Rattle.blk_base.specs.Keys.{inode_item, inode_ref, inode_extref, xattr_item, extent_data}
use Rattle.blk_base.specs.Leaf.{Item}
use Rattle.blk_base.specs.Items.{InodeValue, inode_of, file_mode, dir_mode}
use Rattle.blk_base.specs.Entries.{RefValue, ExtRefValue, EntryValue, refs_of, extrefs_of, entries_of, is_dots_place, dots}
use Rattle.blk_base.specs.Extents.{ExtentValue, Inline, Regular, extent_of}
use Rattle.flat_model.specs.Names.{FlatName, name_set}
use Rattle.flat_model.specs.Records.{Attributes, Blocks, InodeRecord, FileInode, DirInode, LinkInode}
use Rattle.flat_model.specs.Volume.{Subvolume}
use Rattle.volume_image.specs.Subvolume.{Data}

-- the values that were read, none of an item with a fault
abbrev pub read_list : {V : Type 0} → Result (List V) ItemFault → List V
read_list (Ok values) = values
read_list (Err fault) = []

-- ---- names ("INODE_REF", "INODE_EXTREF")

-- the root directory's name for itself, which is none of the subvolume's names
abbrev pub is_own_ref : Key → RefValue → Bool
is_own_ref key ref = is_dots_place key && ((ref.index == 0) && bytes_eq ref.name dots)

abbrev pub near_name : Key → RefValue → FlatName
near_name key ref = record { dir = key.offset; index = ref.index; bytes = ref.name; ino = key.objectid; near = true }

abbrev pub far_name : Key → ExtRefValue → FlatName
far_name key ref = record { dir = ref.parent; index = ref.index; bytes = ref.name; ino = key.objectid; near = false }

-- the names that an item's refs say
abbrev pub names_in : Item → List FlatName
names_in item =
    if item.0.kind == inode_ref then map (near_name item.0) (filter (λ ref. not (is_own_ref item.0 ref)) (read_list (refs_of item.0 item.1))) else
    if item.0.kind == inode_extref then map (far_name item.0) (read_list (extrefs_of item.1)) else []

-- the set of names that all refs say
unfoldable pub said_names : List Item → List FlatName
said_names items = name_set (flat_map names_in items)

-- ---- entries of directories and attributes ("DIR_ITEM", "DIR_INDEX", "XATTR_ITEM")

-- an entry behind the offset of its item's key: a hash, or an index
abbrev pub PlacedEntry : Type 0
PlacedEntry = ℕ × EntryValue

abbrev pub is_item_of : ℕ → ℕ → Key → Bool
is_item_of kind ino key = (key.kind == kind) && (key.objectid == ino)

abbrev pub entries_in : ℕ → ℕ → Item → List PlacedEntry
entries_in kind ino item = if is_item_of kind ino item.0 then map (λ entry. (item.0.offset, entry)) (read_list (entries_of kind item.1)) else []

-- the entries of an inode's items of this type, in the order of the items
unfoldable pub entries_at : List Item → ℕ → ℕ → List PlacedEntry
entries_at items kind ino = flat_map (entries_in kind ino) items

-- ---- records ("INODE_ITEM", "XATTR_ITEM", "EXTENT_DATA")

abbrev pub attribute_of : PlacedEntry → List ℕ × List ℕ
attribute_of entry = (entry.1.name, entry.1.value)

-- the attributes that an inode's items say
unfoldable pub said_attributes : List Item → ℕ → Attributes
said_attributes items ino = from_entries (map attribute_of (entries_at items xattr_item ino))

-- a block of a file with its number, where one stands at the address
abbrev pub block_there : ℕ → Option (List ℕ) → List (ℕ × List ℕ)
block_there number None = []
block_there number (Some block) = (number, block) ∷ []

-- so many blocks from this address on, numbered from this number on
abbrev pub run_blocks : Data → ℕ → ℕ → ℕ → List (ℕ × List ℕ)
run_blocks blocks number at zero = []
run_blocks blocks number at (suc count) = block_there number (blocks at) ++ run_blocks blocks (number + 1) (at + BLOCK_SIZE) count

abbrev pub extent_blocks : Data → ℕ → Result ExtentValue ItemFault → List (ℕ × List ℕ)
extent_blocks blocks first (Ok (Regular at offset len)) = run_blocks blocks first at (len / BLOCK_SIZE)
extent_blocks blocks first other = []

abbrev pub blocks_in : Data → ℕ → Item → List (ℕ × List ℕ)
blocks_in blocks ino item = if is_item_of extent_data ino item.0 then extent_blocks blocks (item.0.offset / BLOCK_SIZE) (extent_of item.0 item.1) else []

-- the blocks to which an inode's extents lead
unfoldable pub said_blocks : List Item → Data → ℕ → Blocks
said_blocks items blocks ino = from_entries (flat_map (blocks_in blocks ino) items)

abbrev pub inline_content : Result ExtentValue ItemFault → List ℕ
inline_content (Ok (Inline content)) = content
inline_content other = []

abbrev pub target_in : ℕ → Item → List ℕ
target_in ino item = if is_item_of extent_data ino item.0 then inline_content (extent_of item.0 item.1) else []

-- the target that an inode's extent has in itself; nothing where there is none
unfoldable pub said_target : List Item → ℕ → List ℕ
said_target items ino = flat_map (target_in ino) items

-- the record of an inode whose item says this
abbrev pub said_record : List Item → Data → ℕ → InodeValue → InodeRecord
said_record items blocks ino value =
    if value.mode == file_mode then FileInode (record { attributes = said_attributes items ino; size = value.size; blocks = said_blocks items blocks ino }) else
    if value.mode == dir_mode then DirInode (record { attributes = said_attributes items ino }) else
    LinkInode (record { attributes = said_attributes items ino; target = said_target items ino })

abbrev pub record_by : List Item → Data → ℕ → Result InodeValue ItemFault → List (ℕ × InodeRecord)
record_by items blocks ino (Ok value) = (ino, said_record items blocks ino value) ∷ []
record_by items blocks ino (Err fault) = []

-- the inode that an item says, where it is one's inode item
abbrev pub inode_in : List Item → Data → Item → List (ℕ × InodeRecord)
inode_in items blocks item = if (item.0.kind == inode_item) && (item.0.offset == 0) then record_by items blocks item.0.objectid (inode_of item.1) else []

unfoldable pub said_inodes : List Item → Data → FinMap nat_cmp InodeRecord
said_inodes items blocks = from_entries (flat_map (inode_in items blocks) items)

-- The subvolume that the items say: the one whose items they are, if they are any coherent one's.
abbrev pub said_sub : List Item → Data → Subvolume
said_sub items blocks = record { inodes = said_inodes items blocks; names = said_names items }
