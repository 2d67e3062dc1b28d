-- Which flat log the items of a log tree are, with the data blocks that its extents lead to.
use Rattle.std.specs.Prelude.{◌≡◌, ◌≢◌, ◌≤◌, ◌<◌, ◌+◌, ◌/◌, ℕ, zero, suc, Bool, true, false, cond, ◌&&◌, ◌||◌, List, [], ◌∷◌, ◌++◌, map, filter, find, nat_eq, Option, Some, None, Result, Ok, Err, Contains, IsTrue, IsFalse}
use Rattle.std.specs.List.{flat_map}
use Rattle.std.specs.FinMap.{get, from_entries}
use Rattle.blk_base.specs.declared.format.TheConstants.{BLOCK_SIZE}
use Rattle.blk_base.specs.declared.key.Key.{Key}
use Rattle.blk_base.specs.declared.fault.ItemFault.{ItemFault}
use Rattle.blk_base.specs.Keys.{inode_item, inode_ref, inode_extref, xattr_item, dir_index, dir_log_index, extent_data}
use Rattle.blk_base.specs.Leaf.{Item}
use Rattle.blk_base.specs.Trees.{ItemsRise}
use Rattle.blk_base.specs.Items.{InodeValue, inode_value, range_of, file_mode, dir_mode, link_mode}
use Rattle.blk_base.specs.Entries.{RefValue, ExtRefValue, EntryValue, refs_of, extrefs_of, entries_of}
use Rattle.blk_base.specs.Extents.{ExtentValue, Inline, Regular, Hole, log_extent_of}
use Rattle.blk_base.specs.ItemFaults.{IsLogSpelled, HasItsKey, is_log_kind}
use Rattle.flat_model.specs.Records.{Attributes, InodeRecord, new_file, new_dir, new_link}
use Rattle.flat_model.specs.Names.{FlatName, name_set, stands_in}
use Rattle.logged_volume.specs.FlatLog.{FileChanges, WholeInode, WholeFile, WholeDir, WholeLink, LogRange, LogEntry, FlatLog, AreDistinct}
use Rattle.volume_image.specs.Subvolume.{Data, data_addresses}

-- what was read, or this where it couldn't be
abbrev pub read_or : {V : Type 0} → V → Result V ItemFault → V
read_or {V = V} other (Ok value) = value
read_or {V = V} other (Err fault) = other

-- ---- the items of an inode

-- whether the item is one of this type of the inode or directory
abbrev pub is_at : ℕ → ℕ → Item → Bool
is_at ino kind item = nat_eq item.0.objectid ino && nat_eq item.0.kind kind

-- what the inode's item says, where it has one ("INODE_ITEM")
abbrev pub value_of_item : Option Item → Option InodeValue
value_of_item None = None
value_of_item (Some item) = Some (inode_value item.1)

abbrev pub inode_in : List Item → ℕ → Option InodeValue
inode_in items ino = value_of_item (find (is_at ino inode_item) items)

-- the attributes of an inode, each as its name and its value ("XATTR_ITEM")
abbrev pub pairs_in_item : Item → List (List ℕ × List ℕ)
pairs_in_item item = map (λ (e : EntryValue). (e.name, e.value)) (read_or [] (entries_of xattr_item item.1))

abbrev pub attributes_in : List Item → ℕ → List (List ℕ × List ℕ)
attributes_in items ino = flat_map pairs_in_item (filter (is_at ino xattr_item) items)

-- the extents of an inode, each with the byte of its file where it begins ("EXTENT_DATA")
abbrev pub extent_in_item : Item → ℕ × ExtentValue
extent_in_item item = (item.0.offset, read_or (Inline []) (log_extent_of item.0 item.1))

abbrev pub extents_in : List Item → ℕ → List (ℕ × ExtentValue)
extents_in items ino = map extent_in_item (filter (is_at ino extent_data) items)

-- ---- what the extents of an inode say ("EXTENT_DATA")

-- the blocks of a run, each with its number in the file
abbrev pub block_there : ℕ → Option (List ℕ) → List (ℕ × List ℕ)
block_there number None = []
block_there number (Some bytes) = (number, bytes) ∷ []

abbrev pub run_blocks : Data → ℕ → ℕ → ℕ → List (ℕ × List ℕ)
run_blocks blocks number at zero = []
run_blocks blocks number at (suc count) = block_there number (blocks at) ++ run_blocks blocks (number + 1) (at + BLOCK_SIZE) count

abbrev pub blocks_of_extent : Data → ℕ × ExtentValue → List (ℕ × List ℕ)
blocks_of_extent blocks extent = elim extent.1 [
  | Inline content ↦ []
  | Regular at offset len ↦ run_blocks blocks (extent.0 / BLOCK_SIZE) at (len / BLOCK_SIZE)
  | Hole len ↦ []
]

-- the holes, each as its first block and how many blocks it has
abbrev pub holes_of_extent : ℕ × ExtentValue → List (ℕ × ℕ)
holes_of_extent extent = elim extent.1 [
  | Inline content ↦ []
  | Regular at offset len ↦ []
  | Hole len ↦ (extent.0 / BLOCK_SIZE, len / BLOCK_SIZE) ∷ []
]

-- the bytes that stand in the items themselves
abbrev pub content_of_extent : ℕ × ExtentValue → List ℕ
content_of_extent extent = elim extent.1 [
  | Inline content ↦ content
  | Regular at offset len ↦ []
  | Hole len ↦ []
]

-- how many bytes of its file an extent item covers
abbrev pub covered_bytes : ℕ × ExtentValue → ℕ
covered_bytes extent = elim extent.1 [
  | Inline content ↦ 0
  | Regular at offset len ↦ len
  | Hole len ↦ len
]

-- ---- what the items say of an inode

abbrev pub attribute_map : List Item → ℕ → Attributes
attribute_map items ino = from_entries (attributes_in items ino)

abbrev pub target_in : List Item → ℕ → List ℕ
target_in items ino = flat_map content_of_extent (extents_in items ino)

-- of a file its attributes, its size, the blocks that it brings and its holes
abbrev pub changes_in : List Item → Data → ℕ → InodeValue → FileChanges
changes_in items blocks ino value = record {
  attributes = attribute_map items ino;
  size = value.size;
  blocks = from_entries (flat_map (blocks_of_extent blocks) (extents_in items ino));
  holes = flat_map holes_of_extent (extents_in items ino);
}

-- an inode that is whole, by its mode
abbrev pub whole_by_mode : List Item → Data → ℕ → InodeValue → WholeInode
whole_by_mode items blocks ino value =
    cond (nat_eq value.mode file_mode) (WholeFile (changes_in items blocks ino value))
    (cond (nat_eq value.mode dir_mode) (WholeDir (record { attributes = attribute_map items ino }))
    (WholeLink (record { attributes = attribute_map items ino; target = target_in items ino })))

-- an inode that the log only says exists, by its mode: as it was made
abbrev pub made_by_mode : List Item → ℕ → InodeValue → InodeRecord
made_by_mode items ino value = cond (nat_eq value.mode file_mode) new_file (cond (nat_eq value.mode dir_mode) new_dir (new_link (target_in items ino)))

-- an inode is whole where its item has a generation (LOG_INODE_ALL), and only exists where it has generation 0 (LOG_INODE_EXISTS)
abbrev pub whole_said : List Item → Data → ℕ → Option InodeValue → Option WholeInode
whole_said items blocks ino None = None
whole_said items blocks ino (Some value) = cond (nat_eq value.generation 0) None (Some (whole_by_mode items blocks ino value))

abbrev pub whole_in : List Item → Data → ℕ → Option WholeInode
whole_in items blocks ino = whole_said items blocks ino (inode_in items ino)

abbrev pub existing_said : List Item → ℕ → Option InodeValue → Option InodeRecord
existing_said items ino None = None
existing_said items ino (Some value) = cond (nat_eq value.generation 0) (Some (made_by_mode items ino value)) None

abbrev pub existing_in : List Item → ℕ → Option InodeRecord
existing_in items ino = existing_said items ino (inode_in items ino)

-- ---- names, ranges and entries

abbrev pub near_name : Key → RefValue → FlatName
near_name key ref = record { dir = key.offset; index = ref.index; bytes = ref.name; ino = key.objectid; near = true }

abbrev pub far_name : Key → ExtRefValue → FlatName
far_name key ref = record { dir = ref.parent; index = ref.index; bytes = ref.name; ino = key.objectid; near = false }

-- the names that an item of names has, near or far ("INODE_REF", "INODE_EXTREF")
abbrev pub names_in_item : Item → List FlatName
names_in_item item =
    cond (nat_eq item.0.kind inode_ref) (map (near_name item.0) (read_or [] (refs_of item.0 item.1)))
    (cond (nat_eq item.0.kind inode_extref) (map (far_name item.0) (read_or [] (extrefs_of item.1))) [])

abbrev pub names_in : List Item → List FlatName
names_in items = flat_map names_in_item items

-- the range of an item ("DIR_LOG_INDEX")
abbrev pub ranges_in_item : Item → List LogRange
ranges_in_item item =
    cond (nat_eq item.0.kind dir_log_index) (record { dir = item.0.objectid; first = item.0.offset; last = read_or 0 (range_of item.1) } ∷ []) []

abbrev pub ranges_in : List Item → List LogRange
ranges_in items = flat_map ranges_in_item items

-- the entry of an item; its transid and type are free ("DIR_INDEX")
abbrev pub logged_entry : Key → EntryValue → LogEntry
logged_entry key entry = record { dir = key.objectid; index = key.offset; bytes = entry.name; ino = entry.target.objectid }

abbrev pub entries_in_item : Item → List LogEntry
entries_in_item item = cond (nat_eq item.0.kind dir_index) (map (logged_entry item.0) (read_or [] (entries_of dir_index item.1))) []

abbrev pub entries_in : List Item → List LogEntry
entries_in items = flat_map entries_in_item items

-- ---- the log of the items

-- an item may stand in a log: it has a type that a log has, the grammar of that type spells it, and it has the key that the format gives for its content
pub record IsLogItem (key : Key) (bytes : List ℕ) : Type 0 where
  pub kind : IsTrue (is_log_kind key.kind)
  pub spelled : IsLogSpelled key bytes
  pub its_key : HasItsKey key bytes

-- whether items of a type ask for the item of their inode: names, attributes and extents do
abbrev pub asks_inode : ℕ → Bool
asks_inode kind = nat_eq kind inode_ref || (nat_eq kind inode_extref || (nat_eq kind xattr_item || nat_eq kind extent_data))

-- whether an extent stands in its item
abbrev pub is_inline_extent : ℕ × ExtentValue → Bool
is_inline_extent extent = elim extent.1 [ Inline content ↦ true | Regular at offset len ↦ false | Hole len ↦ false ]

-- a symlink has exactly one extent, an inline one; a file has no inline one; a directory has none; and an inode that the log only says exists has none but
-- a symlink's
pub record HasItsExtents (value : InodeValue) (extents : List (ℕ × ExtentValue)) : Type 0 where
  pub link : value.mode ≡ link_mode → (extent : ℕ × ExtentValue) × (extents ≡ extent ∷ []) × IsTrue (is_inline_extent extent)
  pub file : value.mode ≡ file_mode → (extent : ℕ × ExtentValue) → Contains extents extent → IsFalse (is_inline_extent extent)
  pub dir : value.mode ≡ dir_mode → extents ≡ []
  pub bare : value.generation ≡ 0 → value.mode ≢ link_mode → extents ≡ []

-- Rising items, with the data blocks that the extents lead to, are those of this flat log: each inode, name, range and entry of the log is what items
-- say, and every item says something of it. Generations but for 0, transids, types of entries, and of inode items all but mode and a file's size are free.
pub record AreItemsOfLog (items : List Item) (blocks : Data) (log : FlatLog) : Type 0 where
  pub rise : ItemsRise items
  pub only : (key : Key) (bytes : List ℕ) → Contains items (key, bytes) → IsLogItem key bytes
  -- each inode with names, attributes or extents has its item, and the extents that its kind has; one that only exists has no attributes
  pub has_inode : (key : Key) (bytes : List ℕ) → Contains items (key, bytes) → IsTrue (asks_inode key.kind)
      → (value : InodeValue) × (inode_in items key.objectid ≡ Some value)
  pub extents : (ino : ℕ) (value : InodeValue) → inode_in items ino ≡ Some value → HasItsExtents value (extents_in items ino)
  pub bare : (ino : ℕ) (value : InodeValue) → inode_in items ino ≡ Some value → value.generation ≡ 0 → attributes_in items ino ≡ []
  -- no two extents of an inode cover one byte, and each block that they lead to is there
  pub apart : (ino : ℕ) (one two : Item) → Contains items one → Contains items two → IsTrue (is_at ino extent_data one) → IsTrue (is_at ino extent_data two)
      → one.0.offset < two.0.offset → one.0.offset + covered_bytes (extent_in_item one) ≤ two.0.offset
  pub blocks_there : (at : ℕ) → Contains (data_addresses items) at → (block : List ℕ) × (blocks at ≡ Some block)
  -- no directory has a name twice among the items
  pub once : (dir : ℕ) → AreDistinct (filter (stands_in dir) (names_in items))
  -- and this is the log
  pub whole : (ino : ℕ) → get log.whole ino ≡ whole_in items blocks ino
  pub existing : (ino : ℕ) → get log.existing ino ≡ existing_in items ino
  pub names : log.names ≡ name_set (names_in items)
  pub ranges : log.ranges ≡ ranges_in items
  pub entries : log.entries ≡ entries_in items
