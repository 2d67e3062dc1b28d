-- The kinds of inodes, by the items that say them, what goes with a kind, and the root directory's name for itself.
use Rattle.std.specs.Prelude.{◌==◌, ◌||◌, ◌&&◌, ℕ, Bool, true, false, List, Option, Some, None, Result, Ok, Err, if◌then◌else◌}
use Rattle.std.specs.Option.{option_map}
use Rattle.std.specs.Str.{bytes_eq}
use Rattle.std.specs.FinMap.{get}
use Rattle.blk_base.specs.declared.fault.ItemFault.{ItemFault}
use Rattle.blk_base.specs.declared.key.Key.{Key}
use Rattle.blk_base.specs.Entries.{RefValue, dots}
use Rattle.blk_base.specs.Extents.{ExtentValue, Inline, Regular, extent_of}
use Rattle.blk_base.specs.Items.{InodeValue, dir_mode, file_mode, inode_of}
use Rattle.blk_base.specs.Keys.{dir_index, dir_item, extent_data}
use Rattle.blk_base.specs.Leaf.{Item}
use Rattle.flat_model.specs.declared.view.Kind.{Kind}
use Rattle.flat_model.specs.declared.view.Kind.TheVariants.{Dir, File, Link}
use Rattle.flat_model.specs.Records.{kind_of}
use Rattle.image_faults.specs.Said.{said_inodes}
use Rattle.volume_image.specs.Subvolume.{Data}

-- the kind of an inode in the subvolume that the items say
abbrev pub said_kind : List Item → Data → ℕ → Option Kind
said_kind items blocks ino = option_map kind_of (get (said_inodes items blocks) ino)

-- the kind that a mode says ("INODE_ITEM": mode)
abbrev pub kind_by : ℕ → Kind
kind_by mode = if mode == file_mode then File else if mode == dir_mode then Dir else Link

abbrev pub kind_read : Result InodeValue ItemFault → Option Kind
kind_read (Ok value) = Some (kind_by value.mode)
kind_read (Err fault) = None

-- the kind that the item under an inode's key says, where there is one
abbrev pub kind_under : Option (List ℕ) → Option Kind
kind_under None = None
kind_under (Some bytes) = kind_read (inode_of bytes)

-- ---- what goes with a kind

abbrev pub is_dir : Option Kind → Bool
is_dir None = false
is_dir (Some File) = false
is_dir (Some Dir) = true
is_dir (Some Link) = false

abbrev pub is_file : Option Kind → Bool
is_file None = false
is_file (Some File) = true
is_file (Some Dir) = false
is_file (Some Link) = false

abbrev pub is_link : Option Kind → Bool
is_link None = false
is_link (Some File) = false
is_link (Some Dir) = false
is_link (Some Link) = true

-- a run of blocks is a file's, a target is a symlink's
abbrev pub is_extent_of : Option Kind → Result ExtentValue ItemFault → Bool
is_extent_of kind (Ok (Regular at offset len)) = is_file kind
is_extent_of kind (Ok (Inline content)) = is_link kind
is_extent_of kind other = false

-- entries are a directory's
abbrev pub is_item_for : Option Kind → Key → List ℕ → Bool
is_item_for kind key bytes =
    if (key.kind == dir_item) || (key.kind == dir_index) then is_dir kind else
    if key.kind == extent_data then is_extent_of kind (extent_of key bytes) else true

-- ---- the root directory's name for itself ("INODE_REF")

abbrev pub is_dots_ref : RefValue → Bool
is_dots_ref ref = (ref.index == 0) && bytes_eq ref.name dots
