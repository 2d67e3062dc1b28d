-- The first fault of a log, from the items of its tree: an item that its grammar refuses, or the lowest objectid that breaks a rule of accepted logs.
use Rattle.std.specs.Prelude.{ℕ, ◌+◌, ◌-◌, ◌*◌, Bool, true, false, cond, not, ◌&&◌, ◌||◌, List, [], ◌∷◌, ◌++◌, map, filter, length, drop, nat_eq, nat_lt, nat_le, bytes_eq, Option, Some, None, Result, Ok, Err}
use Rattle.std.specs.List.{flat_map, list_all, list_any}
use Rattle.std.specs.FinMap.{get, entries}
use Rattle.blk_base.specs.declared.key.Key.{Key}
use Rattle.blk_base.specs.declared.fault.ItemFault.{ItemFault}
use Rattle.blk_base.specs.declared.fault.ItemFault.TheVariants.{Overlap}
use Rattle.blk_base.specs.Crc.{name_hash_of, extref_hash_of}
use Rattle.blk_base.specs.Keys.{inode_item, inode_ref, inode_extref, xattr_item, dir_index, extent_data}
use Rattle.blk_base.specs.Leaf.{Item}
use Rattle.blk_base.specs.Name.{is_name}
use Rattle.blk_base.specs.Items.{InodeValue, file_mode, link_mode}
use Rattle.blk_base.specs.Entries.{EntryValue, extrefs_of, entries_of}
use Rattle.blk_base.specs.Extents.{ExtentValue}
use Rattle.blk_base.specs.ItemFaults.{log_item_fault, is_log_kind}
use Rattle.flat_model.specs.Records.{Attributes, InodeRecord}
use Rattle.flat_model.specs.Names.{FlatName, name_set, is_same_name, stands_in}
use Rattle.flat_model.specs.Lengths.{most_item_bytes, dir_item_length}
use Rattle.flat_model.specs.Contents.{block_bytes, most_file_bytes}
use Rattle.flat_model.specs.Volume.{Subvolume}
use Rattle.logged_volume.specs.Numbers.{number_set, map_of}
use Rattle.logged_volume.specs.FlatLog.{WholeInode, WholeFile, WholeDir, WholeLink, FlatLog}
use Rattle.logged_volume.specs.Replay.{names_left}
use Rattle.volume_image.specs.Subvolume.{Data, mode_of}
use Rattle.log_image.specs.LogItems.{read_or, is_at, inode_in, attributes_in, extents_in, extent_in_item, covered_bytes, is_inline_extent, asks_inode, whole_in, existing_in, names_in, ranges_in, entries_in}

-- ---- the first faulty item in key order

-- whether an extent begins below the end of an extent before it in the same file
abbrev pub begins_inside : List Item → Item → Bool
begins_inside items item =
    nat_eq item.0.kind extent_data
    && list_any (λ other. is_at item.0.objectid extent_data other
    && (nat_lt other.0.offset item.0.offset && nat_lt item.0.offset (other.0.offset + covered_bytes (extent_in_item other)))) items

-- an item's first fault among these: that of its grammar, then Overlap
abbrev pub fault_then : Option ItemFault → Bool → Option ItemFault
fault_then None inside = cond inside (Some Overlap) None
fault_then (Some fault) inside = Some fault

abbrev pub fault_among : List Item → Item → Option ItemFault
fault_among items item = fault_then (log_item_fault item.0 item.1) (begins_inside items item)

abbrev pub fault_or : Key → Option ItemFault → Option (Key × ItemFault) → Option (Key × ItemFault)
fault_or key None later = later
fault_or key (Some fault) later = Some (key, fault)

abbrev pub first_fault : List Item → List Item → Option (Key × ItemFault)
first_fault all [] = None
first_fault all (item ∷ items) = fault_or item.0 (fault_among all item) (first_fault all items)

-- ---- the log of items that have no fault

-- every objectid of the items
abbrev pub objectids_in : List Item → List ℕ
objectids_in items = map (λ (item : Item). item.0.objectid) items

-- the log that items say, with the data that their extents lead to
unfoldable pub log_of : List Item → Data → FlatLog
log_of items blocks = record {
  whole = map_of (objectids_in items) (whole_in items blocks);
  existing = map_of (objectids_in items) (existing_in items);
  names = name_set (names_in items);
  ranges = ranges_in items;
  entries = entries_in items;
}

-- ---- the rules of accepted logs

pub data LogRule : Type 0 where
  -- its items have the types that a log has, under the keys that the format gives for their content
  StrayItem : LogRule
  -- each inode with names, attributes or extents has its inode item
  LacksInode : LogRule
  -- an inode that C has is of C's kind
  OtherKind : LogRule
  -- whole records keep their limits
  PastLimits : LogRule
  -- an inode that only exists has no attributes, and no extent but a symlink's inline one
  MoreThanExists : LogRule
  -- a symlink has exactly one extent, an inline one; a file has no inline one; a directory has none
  WrongExtents : LogRule
  -- inode 256 has no name
  RootNamed : LogRule
  -- among the names that replay leaves no directory has one index twice or one name twice, and none needs an item that no leaf holds
  NamesClash : LogRule

abbrev pub all_rules : List LogRule
all_rules = StrayItem ∷ LacksInode ∷ OtherKind ∷ PastLimits ∷ MoreThanExists ∷ WrongExtents ∷ RootNamed ∷ NamesClash ∷ []

-- whether an entry leads to the item of an inode, and that of an attribute nowhere
abbrev pub leads_to_inode : EntryValue → Bool
leads_to_inode entry = nat_eq entry.target.kind inode_item && nat_eq entry.target.offset 0

abbrev pub leads_nowhere : EntryValue → Bool
leads_nowhere entry = nat_eq entry.target.objectid 0 && (nat_eq entry.target.kind 0 && nat_eq entry.target.offset 0)

-- whether an item of a log has the key that the format gives for its content
unfoldable pub has_its_key : Key → List ℕ → Bool
has_its_key key bytes =
    cond (nat_eq key.kind inode_item) (nat_eq key.offset 0)
    (cond (nat_eq key.kind inode_extref) (list_all (λ ref. nat_eq (extref_hash_of ref.parent ref.name) key.offset) (read_or [] (extrefs_of bytes)))
    (cond (nat_eq key.kind dir_index) (list_all leads_to_inode (read_or [] (entries_of dir_index bytes)))
    (cond (nat_eq key.kind xattr_item) (list_all (λ e. nat_eq (name_hash_of e.name) key.offset && leads_nowhere e) (read_or [] (entries_of xattr_item bytes)))
    true)))

abbrev pub is_stray : Item → Bool
is_stray item = not (is_log_kind item.0.kind && has_its_key item.0 item.1)

-- a test of what an inode's item says, where it has one
abbrev pub of_value : (InodeValue → Bool) → Option InodeValue → Bool
of_value test None = false
of_value test (Some value) = test value

abbrev pub is_there : Option InodeValue → Bool
is_there None = false
is_there (Some value) = true

-- whether C has the inode with another mode
abbrev pub differs : Option InodeRecord → InodeValue → Bool
differs None value = false
differs (Some was) value = not (nat_eq (mode_of was) value.mode)

-- whether each number is a byte
abbrev pub are_bytes : List ℕ → Bool
are_bytes bytes = list_all (λ byte. nat_lt byte 256) bytes

-- whether an attribute keeps its limits: its name is one, and its value has 1 to 1024 bytes ("XATTR_ITEM", own limits)
abbrev pub keeps_attribute : List ℕ × List ℕ → Bool
keeps_attribute attribute =
    is_name attribute.0 && (are_bytes attribute.0 && (nat_le 1 (length attribute.1) && (nat_le (length attribute.1) 1024 && are_bytes attribute.1)))

abbrev pub keep_attributes : Attributes → Bool
keep_attributes attributes = list_all keeps_attribute (entries attributes)

-- whether a block of a file of this size keeps its limits: it begins below the size, is whole, and is zero past the size ("EXTENT_DATA")
abbrev pub keeps_block : ℕ → ℕ × List ℕ → Bool
keeps_block size block =
    nat_lt (block.0 * block_bytes) size
    && (nat_eq (length block.1) block_bytes && (are_bytes block.1 && list_all (nat_eq 0) (drop (size - block.0 * block_bytes) block.1)))

abbrev pub keeps_limits : WholeInode → Bool
keeps_limits (WholeFile changes) =
    keep_attributes changes.attributes && (nat_le changes.size most_file_bytes && list_all (keeps_block changes.size) (entries changes.blocks))
keeps_limits (WholeDir dir) = keep_attributes dir.attributes
keeps_limits (WholeLink link) =
    keep_attributes link.attributes && (nat_le 1 (length link.target) && (nat_le (length link.target) 1023 && are_bytes link.target))

abbrev pub passes_limits : Option WholeInode → Bool
passes_limits None = false
passes_limits (Some whole) = not (keeps_limits whole)

abbrev pub is_empty : {X : Type 0} → List X → Bool
is_empty [] = true
is_empty (x ∷ xs) = false

-- whether an inode that only exists has attributes, or an extent other than a symlink's inline one
abbrev pub has_more : List (List ℕ × List ℕ) → List (ℕ × ExtentValue) → InodeValue → Bool
has_more attributes extents value =
    nat_eq value.generation 0
    && (not (is_empty attributes) || list_any (λ extent. not (nat_eq value.mode link_mode && is_inline_extent extent)) extents)

-- whether the list has one element, for which the test holds
abbrev pub is_one : {X : Type 0} → (X → Bool) → List X → Bool
is_one test [] = false
is_one test (x ∷ []) = test x
is_one test (x ∷ y ∷ xs) = false

-- whether these are not the extents that an inode of this mode has
abbrev pub has_wrong_extents : List (ℕ × ExtentValue) → InodeValue → Bool
has_wrong_extents extents value =
    cond (nat_eq value.mode link_mode) (not (is_one is_inline_extent extents))
    (cond (nat_eq value.mode file_mode) (list_any is_inline_extent extents) (not (is_empty extents)))

-- whether a name stands twice in the list
abbrev pub is_twice : List FlatName → Bool
is_twice [] = false
is_twice (name ∷ names) = list_any (is_same_name name) names || is_twice names

-- whether two names of a directory have one index, or one bytes
abbrev pub do_meet : FlatName → FlatName → Bool
do_meet one two = not (is_same_name one two) && (nat_eq one.index two.index || bytes_eq one.bytes two.bytes)

-- whether the names of a directory clash: one that the items have twice, two at one index or of the same bytes, or more of one hash than a leaf holds
abbrev pub do_clash : List FlatName → List FlatName → ℕ → Bool
do_clash said left dir =
    is_twice (filter (stands_in dir) said)
    || (list_any (λ one. list_any (do_meet one) (filter (stands_in dir) left)) (filter (stands_in dir) left)
    || list_any (λ (name : FlatName). nat_lt most_item_bytes (dir_item_length left dir (name_hash_of name.bytes))) (filter (stands_in dir) left))

-- whether the objectid breaks a rule, in a log over this committed subvolume
abbrev pub does_break : Subvolume → List Item → Data → ℕ → LogRule → Bool
does_break committed items blocks ino StrayItem = list_any (λ item. nat_eq item.0.objectid ino && is_stray item) items
does_break committed items blocks ino LacksInode =
    list_any (λ item. nat_eq item.0.objectid ino && asks_inode item.0.kind) items && not (is_there (inode_in items ino))
does_break committed items blocks ino OtherKind = of_value (differs (get committed.inodes ino)) (inode_in items ino)
does_break committed items blocks ino PastLimits = passes_limits (whole_in items blocks ino)
does_break committed items blocks ino MoreThanExists = of_value (has_more (attributes_in items ino) (extents_in items ino)) (inode_in items ino)
does_break committed items blocks ino WrongExtents = of_value (has_wrong_extents (extents_in items ino)) (inode_in items ino)
does_break committed items blocks ino RootNamed =
    nat_eq ino 256 && list_any (λ item. nat_eq item.0.objectid ino && (nat_eq item.0.kind inode_ref || nat_eq item.0.kind inode_extref)) items
does_break committed items blocks ino NamesClash = do_clash (names_in items) (names_left committed (log_of items blocks)) ino

-- every objectid of the items, and every directory of the names that replay leaves
abbrev pub objectids_left : Subvolume → List Item → Data → List ℕ
objectids_left committed items blocks = number_set (objectids_in items ++ map (λ (name : FlatName). name.dir) (names_left committed (log_of items blocks)))

-- the rules that are broken, by rising objectids, each with the objectid that breaks it
unfoldable pub broken_rules : Subvolume → List Item → Data → List (ℕ × LogRule)
broken_rules committed items blocks =
    flat_map (λ ino. map (λ rule. (ino, rule)) (filter (does_break committed items blocks ino) all_rules)) (objectids_left committed items blocks)

-- ---- the first fault

pub data LogFault : Type 0 where
  -- the first faulty item in key order
  FaultyItem : Key → ItemFault → LogFault
  -- the lowest objectid that breaks a rule
  Unaccepted : ℕ → LogFault

abbrev pub first_broken : List (ℕ × LogRule) → FlatLog → Result FlatLog LogFault
first_broken [] log = Ok log
first_broken (broken ∷ others) log = Err (Unaccepted broken.0)

abbrev pub after_items : Option (Key × ItemFault) → Result FlatLog LogFault → Result FlatLog LogFault
after_items None accepted = accepted
after_items (Some fault) accepted = Err (FaultyItem fault.0 fault.1)

-- the log of rising items over a committed subvolume, or its first fault
unfoldable pub accepted_log : Subvolume → List Item → Data → Result FlatLog LogFault
accepted_log committed items blocks = after_items (first_fault items items) (first_broken (broken_rules committed items blocks) (log_of items blocks))
