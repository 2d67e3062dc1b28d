-- What the names of a tree say of its inodes, and what must hold of each item beside them.
use Rattle.std.specs.Prelude.{◌≡◌, ◌↔◌, ◌≤◌, ◌&&◌, ℕ, true, List, length, count_by, Option, Some, None, Result, Ok, Err, IsTrue}
use Rattle.std.specs.List.{list_all}
use Rattle.blk_base.specs.declared.fault.ItemFault.{ItemFault}
use Rattle.blk_base.specs.declared.format.TheConstants.{FIRST_FREE}
use Rattle.blk_base.specs.declared.key.Key.{Key}
use Rattle.blk_base.specs.Entries.{entries_of, refs_of}
use Rattle.blk_base.specs.Extents.{extent_of}
use Rattle.blk_base.specs.Items.{InodeValue, inode_of}
use Rattle.blk_base.specs.Keys.{dir_index, dir_item, extent_data, inode_item, inode_ref, xattr_item}
use Rattle.blk_base.specs.Leaf.{Item}
use Rattle.block_table.specs.Table.{Table}
use Rattle.tree_range.specs.Between.{data_under}
use Rattle.flat_model.specs.Coherent.{IsInoNumber, LeadsUp}
use Rattle.flat_model.specs.Contents.{most_file_bytes}
use Rattle.flat_model.specs.Names.{FlatName, leads_to}
use Rattle.flat_model.specs.Volume.{Subvolume}
use Rattle.flat_model.specs.declared.view.Kind.{Kind}
use Rattle.flat_model.specs.declared.view.Kind.TheVariants.{Dir, File, Link}
use Rattle.volume_image.specs.Subvolume.{Data, HasKey, make_key}
use Rattle.image_faults.specs.Faulty.{HasOwnRef, HasRightKey}
use Rattle.image_faults.specs.Said.{read_list, said_sub}
use Rattle.inode_lines.specs.Kinds.{said_kind}
use Rattle.coherent_items.specs.Entries.{is_index_number, is_right_hashed, is_right_indexed, is_right_value}
use Rattle.coherent_limits.specs.Limits.{KeepsExtentLimits, size_under}
use Rattle.coherent_names.specs.Names.{all_names, own_refs}
use Rattle.coherent_numbers.specs.Numbers.{HasDirNumbers, HasFileNumbers, HasLinkNumbers}
use Rattle.coherent_slots.specs.Slots.{AreSlots}
use Rattle.coherent_sums.specs.Sums.{links_in}
use Rattle.coherent_ways.specs.Ways.{has_reached}
use Rattle.coherent.specs.declared.survey.Survey.{Survey}

-- the survey is that of all names that the items say
pub record IsSurvey (items : List Item) (sub : Subvolume) (survey : Survey) : Type 0 where
  pub slots : AreSlots items sub (all_names items) survey.slots
  pub links : (ino : ℕ) → links_in survey.links ino ≡ count_by (leads_to ino) (all_names items)
  pub reached : (ino : ℕ) → IsTrue (has_reached survey.reached ino) ↔ ((way : List FlatName) × LeadsUp (all_names items) ino way)

-- ---- one item

-- the numbers of an inode item are those of an inode of this kind ("INODE_ITEM")
abbrev pub HasNumbersOf : List Item → Survey → Option Kind → ℕ → InodeValue → Type 0
HasNumbersOf items survey None ino value = Unit {0}
HasNumbersOf items survey (Some File) ino value = HasFileNumbers items (links_in survey.links ino) ino value
HasNumbersOf items survey (Some Dir) ino value = HasDirNumbers items (links_in survey.links ino) (has_reached survey.reached ino) ino value
HasNumbersOf items survey (Some Link) ino value = HasLinkNumbers items (links_in survey.links ino) ino value

abbrev pub HasReadNumbers : List Item → Survey → Option Kind → ℕ → Result InodeValue ItemFault → Type 0
HasReadNumbers items survey kind ino (Ok value) = HasNumbersOf items survey kind ino value
HasReadNumbers items survey kind ino (Err fault) = Unit {0}

-- what an item says is right for the names and for the kinds of inodes
pub record HasRightContent (items : List Item) (table : Table) (kinds : ℕ → Option Kind) (survey : Survey) (key : Key) (bytes : List ℕ) : Type 0 where
  pub numbers : key.kind ≡ inode_item → HasReadNumbers items survey (kinds key.objectid) key.objectid (inode_of bytes)
  pub own_ref : key.kind ≡ inode_ref → length (own_refs key (read_list (refs_of key bytes))) ≤ 1
  pub hashed : key.kind ≡ dir_item → list_all (is_right_hashed kinds survey.slots key.objectid) (read_list (entries_of dir_item bytes)) ≡ true
  pub indexed : key.kind ≡ dir_index → (is_index_number key.offset && list_all (is_right_indexed kinds survey.slots key.objectid key.offset) (read_list (entries_of dir_index bytes))) ≡ true
  pub values : key.kind ≡ xattr_item → list_all is_right_value (read_list (entries_of xattr_item bytes)) ≡ true
  pub extent : key.kind ≡ extent_data → (size : ℕ) → size_under (data_under (make_key key.objectid inode_item 0) items) ≡ Some size → size ≤ most_file_bytes
      → KeepsExtentLimits table key (extent_of key bytes) size

-- the inode of an extent has a size, which a file may have
abbrev pub HasExtentSize : List Item → Key → Type 0
HasExtentSize items key = key.kind ≡ extent_data → (size : ℕ) × (size_under (data_under (make_key key.objectid inode_item 0) items) ≡ Some size) × (size ≤ most_file_bytes)

-- an item is right: the number of its inode, which has an inode item, its key, and what it says
pub record PassesItem (items : List Item) (table : Table) (blocks : Data) (survey : Survey) (key : Key) (bytes : List ℕ) : Type 0 where
  pub number : IsInoNumber key.objectid
  pub inode : HasKey items (make_key key.objectid inode_item 0)
  pub key_is : HasRightKey (said_sub items blocks) key bytes
  pub content : HasRightContent items table (said_kind items blocks) survey key bytes

-- the root directory is there, with its name for itself
pub record PassesRoot (items : List Item) (kinds : ℕ → Option Kind) : Type 0 where
  pub kind : kinds FIRST_FREE ≡ Some Dir
  pub own_ref : HasOwnRef items
