-- The items of a subvolume as rows, in the order of its tree.
use Rattle.std.specs.Prelude.{◌≡◌, ℕ, ◌==◌, List, filter, map, Some, Result, Ok}
use Rattle.blk_base.specs.declared.fault.ItemFault.{ItemFault}
use Rattle.blk_base.specs.declared.key.Key.{Key}
use Rattle.foreign_format.specs.declared.fault.ForeignFault.{ForeignFault}
use Rattle.foreign_format.specs.Answer.{and_then}
use Rattle.foreign_format.specs.Items.{EntryValue, entry_of, extent_of, inode_of}
use Rattle.foreign_tree.specs.declared.volume.Wanted.{Wanted}
use Rattle.foreign_tree.specs.Tree.{Found, IsTree, VolumeValue, tree_of}
use Rattle.foreign_volume.specs.declared.roots.Subvolume.{Subvolume}
use Rattle.foreign_items.specs.declared.rows.InodeRow.{InodeRow}
use Rattle.foreign_items.specs.declared.rows.ExtentRow.{ExtentRow}

-- the items whose keys have this type
abbrev pub of_kind : ℕ → List Found → List Found
of_kind kind items = filter (λ found. found.key.kind == kind) items

-- an inode item ("INODE_ITEM")
abbrev pub inode_row : Found → InodeRow
inode_row found = record { leaf = found.leaf; key = found.key; inode = inode_of found.content }

-- an entry of a directory ("DIR_INDEX"), by its leaf and its key
pub record NameValue : Type 0 where
  pub leaf : ℕ
  pub key : Key
  pub entry : Result EntryValue ItemFault

abbrev pub name_row : Found → NameValue
name_row found = record { leaf = found.leaf; key = found.key; entry = entry_of found.content }

-- an extent item, whose data begin at a byte of the disk ("EXTENT_DATA")
abbrev pub extent_row : Found → ExtentRow
extent_row found = record { leaf = found.leaf; key = found.key; extent = extent_of found.key.offset found.place found.content }

-- the rows of a subvolume
pub record ItemsValue : Type 0 where
  pub inodes : List InodeRow
  pub names : List NameValue
  pub extents : List ExtentRow

-- the rows of a tree's items; items of other types are passed over
abbrev pub rows_of : List Found → ItemsValue
rows_of items = record { inodes = map inode_row (of_kind 1 items); names = map name_row (of_kind 96 items); extents = map extent_row (of_kind 108 items) }

-- the root of a subvolume's tree ("ROOT_ITEM": bytenr, generation, level)
abbrev pub sub_root : Subvolume → Wanted
sub_root sub = record { at = sub.root.at; generation = Some sub.root.generation; level = sub.root.level }

-- the rows are those of the items of the subvolume's tree
pub record AreItems (disk : List ℕ) (volume : VolumeValue) (sub : Subvolume) (rows : ItemsValue) : Type 0 where
  pub items : List Found
  pub reach : List ℕ
  pub tree : IsTree volume disk (sub_root sub) items reach
  pub are : rows ≡ rows_of items

-- the rows of a subvolume, or the first fault of its tree
unfoldable pub items_of : List ℕ → VolumeValue → Subvolume → Result ItemsValue ForeignFault
items_of disk volume sub = and_then (tree_of volume disk (sub_root sub)) (λ walked. Ok (rows_of walked.items))
